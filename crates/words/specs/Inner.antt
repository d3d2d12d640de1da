-- The words that a text can say.
use Rattle.std.specs.Prelude.{Bool, true, ◌&&◌, ltb}
use Rattle.words.specs.declared.Holding.TheVariants.{User, Object}
use Rattle.words.specs.declared.Comparison.TheVariants.{Dominates, Equals}
use Rattle.words.specs.declared.Word.{Word}
use Rattle.words.specs.declared.Word.TheVariants.{True, False, Holds, Compares, Not, And, Or}

-- the numbers of a word are digits
unfoldable pub in_digits : Word → Bool
in_digits True = true
in_digits False = true
in_digits (Holds (User v)) = ltb v 10
in_digits (Holds (Object v)) = ltb v 10
in_digits (Compares (Dominates i j)) = ltb i 10 && ltb j 10
in_digits (Compares (Equals i j)) = ltb i 10 && ltb j 10
in_digits Not = true
in_digits And = true
in_digits Or = true

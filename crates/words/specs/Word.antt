-- "A word is a truth value, a holding, a comparison or a connective": its form in a text and its number, both ways.
use Rattle.std.specs.Prelude.{ℕ, ◌+◌, ◌-◌, ◌*◌, ◌/◌, ◌%◌, Bool, true, false, cond, ◌&&◌, List, [], ◌∷◌, eqb, ltb, get_or, Option, Some, None}
use Rattle.basis.specs.Bytes.{byte}
use Rattle.text.specs.Number.{is_digit, digit_of}
use Rattle.words.specs.declared.Holding.TheVariants.{User, Object}
use Rattle.words.specs.declared.Comparison.TheVariants.{Dominates, Equals}
use Rattle.words.specs.declared.Word.{Word}
use Rattle.words.specs.declared.Word.TheVariants.{True, False, Holds, Compares, Not, And, Or}

-- `t` `f` `n` `a` `r`
unfoldable pub letter : ℕ → Option Word
letter c =
    cond (eqb c (byte "t")) (Some True)
    (cond (eqb c (byte "f")) (Some False)
    (cond (eqb c (byte "n")) (Some Not)
    (cond (eqb c (byte "a")) (Some And)
    (cond (eqb c (byte "r")) (Some Or) None))))

-- `uV` `oV`
unfoldable pub holding : ℕ → ℕ → Option Word
holding c v =
    cond (is_digit v)
    (cond (eqb c (byte "u")) (Some (Holds (User (digit_of v))))
    (cond (eqb c (byte "o")) (Some (Holds (Object (digit_of v)))) None))
    None

-- `dIJ` `qIJ`
unfoldable pub comparison : ℕ → ℕ → ℕ → Option Word
comparison c i j =
    cond (is_digit i && is_digit j)
    (cond (eqb c (byte "d")) (Some (Compares (Dominates (digit_of i) (digit_of j))))
    (cond (eqb c (byte "q")) (Some (Compares (Equals (digit_of i) (digit_of j)))) None))
    None

-- the word that a field is
unfoldable pub parsed : List ℕ → Option Word
parsed [] = None
parsed (c ∷ []) = letter c
parsed (c ∷ v ∷ []) = holding c v
parsed (c ∷ i ∷ j ∷ []) = comparison c i j
parsed (c ∷ i ∷ j ∷ x ∷ xs) = None

-- a field in the form of a word
abbrev pub is_word : Option Word → Bool
is_word (Some w) = true
is_word None = false

-- and the word, where it is one
abbrev pub word_in : Option Word → Word
word_in (Some w) = w
word_in None = True

-- a word as it is written
unfoldable pub written : Word → List ℕ
written True = byte "t" ∷ []
written False = byte "f" ∷ []
written (Holds (User v)) = byte "u" ∷ (byte "0" + v) ∷ []
written (Holds (Object v)) = byte "o" ∷ (byte "0" + v) ∷ []
written (Compares (Dominates i j)) = byte "d" ∷ (byte "0" + i) ∷ (byte "0" + j) ∷ []
written (Compares (Equals i j)) = byte "q" ∷ (byte "0" + i) ∷ (byte "0" + j) ∷ []
written Not = byte "n" ∷ []
written And = byte "a" ∷ []
written Or = byte "r" ∷ []

-- the number by which a policy value holds a word: below 256, since the numbers in a word are digits
unfoldable pub word_number : Word → ℕ
word_number True = 0
word_number False = 1
word_number Not = 2
word_number And = 3
word_number Or = 4
word_number (Holds (User v)) = 10 + v
word_number (Holds (Object v)) = 20 + v
word_number (Compares (Dominates i j)) = 50 + 10 * i + j
word_number (Compares (Equals i j)) = 150 + 10 * i + j

-- the words of the numbers from 0 on
abbrev pub letters : List Word
letters = True ∷ False ∷ Not ∷ And ∷ Or ∷ []

-- the word that a number stands for where it is no word's number: it names a value that no side has, so check 11
-- refuses a policy with it
abbrev pub missing : Word
missing = Holds (User 255)

-- the word that has a number, and else the missing word
unfoldable pub numbered : ℕ → Word
numbered n =
    cond (ltb n 10) (get_or letters n missing)
    (cond (ltb n 20) (Holds (User (n - 10)))
    (cond (ltb n 30) (Holds (Object (n - 20)))
    (cond (ltb n 50) missing
    (cond (ltb n 150) (Compares (Dominates ((n - 50) / 10) ((n - 50) % 10)))
    (cond (ltb n 250) (Compares (Equals ((n - 150) / 10) ((n - 150) % 10)))
    missing)))))

-- A line of a text taken apart: refusals 3, 4 and 5.
use Rattle.std.specs.Prelude.{ℕ, ◌+◌, Bool, ◌&&◌, List, [], map, eqb, leb, get_or, drop, Option, None, Some}
use Rattle.basis.specs.Lists.{all}
use Rattle.text.specs.Number.{is_number, value_of}
use Rattle.text.specs.Kind.{layout_of, is_kind, follows}
use Rattle.text.specs.declared.kind.Kind.{Kind}
use Rattle.text.specs.declared.kind.Kind.TheVariants.{Policy, Rule}
use Rattle.text.specs.declared.kind.Layout.{Layout}
use Rattle.text.specs.declared.kind.Layout.TheVariants.{Bare, One, Two, Three, Formula}
use Rattle.text.specs.declared.number.Numbers.{Numbers}
use Rattle.words.specs.Word.{parsed, is_word, word_in}
use Rattle.words.specs.declared.Word.{Word}
use Rattle.policy.specs.Limits.{most_words}

-- a line's kind, its numbers (0 where it has none) and the words of its formula
pub record Line : Type 0 where
  pub kind : Kind
  pub numbers : Numbers
  pub words : List Word

abbrev pub three_numbers : ℕ → ℕ → ℕ → Numbers
three_numbers l m n = record { first = l; second = m; third = n }

abbrev pub two_numbers : ℕ → ℕ → Numbers
two_numbers m n = three_numbers m n 0

abbrev pub one_number : ℕ → Numbers
one_number n = two_numbers n 0

abbrev pub no_numbers : Numbers
no_numbers = one_number 0

-- a line of numbers alone, and a rule
abbrev pub plain : Kind → Numbers → Line
plain k ns = record { kind = k; numbers = ns; words = [] }

abbrev pub rule_line : ℕ → List Word → Line
rule_line a ws = record { kind = Rule; numbers = one_number a; words = ws }

-- the kind may stand after the line before it: "line 0 is policy"
unfoldable pub allowed : Option Kind → Kind → Bool
allowed None k = is_kind Policy k
allowed (Some j) k = follows j k

-- ---- by layout, from the fields of a line, of which the first is its word

abbrev pub field_at : List (List ℕ) → ℕ → List ℕ
field_at fs i = get_or fs i []

abbrev pub number_at : List (List ℕ) → ℕ → ℕ
number_at fs i = value_of (field_at fs i)

-- the count of fields
unfoldable pub count_fits : Layout → ℕ → Bool
count_fits Bare n = eqb n 1
count_fits One n = eqb n 2
count_fits Two n = eqb n 3
count_fits Three n = eqb n 4
count_fits Formula n = leb 3 n && leb n (2 + most_words)

-- the later fields are numbers or, after the action of a formula, words
unfoldable pub form_fits : Layout → List (List ℕ) → Bool
form_fits Bare fs = all is_number (drop 1 fs)
form_fits One fs = all is_number (drop 1 fs)
form_fits Two fs = all is_number (drop 1 fs)
form_fits Three fs = all is_number (drop 1 fs)
form_fits Formula fs = is_number (field_at fs 1) && all (λ f. is_word (parsed f)) (drop 2 fs)

-- what they say
unfoldable pub numbers_of : Layout → List (List ℕ) → Numbers
numbers_of Bare fs = no_numbers
numbers_of One fs = one_number (number_at fs 1)
numbers_of Two fs = two_numbers (number_at fs 1) (number_at fs 2)
numbers_of Three fs = three_numbers (number_at fs 1) (number_at fs 2) (number_at fs 3)
numbers_of Formula fs = one_number (number_at fs 1)

unfoldable pub words_of : Layout → List (List ℕ) → List Word
words_of Bare fs = []
words_of One fs = []
words_of Two fs = []
words_of Three fs = []
words_of Formula fs = map (λ f. word_in (parsed f)) (drop 2 fs)

-- a line of a kind, from its fields
abbrev pub line_of : Kind → List (List ℕ) → Line
line_of k fs = record { kind = k; numbers = numbers_of (layout_of k) fs; words = words_of (layout_of k) fs }

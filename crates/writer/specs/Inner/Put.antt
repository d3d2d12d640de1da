-- What a function that writes into a lent buffer does, and the texts that the parts of a line are.
use Rattle.std.specs.Prelude.{ℕ, ◌+◌, ◌%◌, ◌≤◌, ◌≡◌, Bool, true, ◌&&◌, List, [], ◌∷◌, ◌++◌, leb, length, take, drop}
use Rattle.basis.specs.Bytes.{byte}
use Rattle.basis.specs.Lists.{all, over}
use Rattle.seniority.specs.declared.Direct.{Direct}
use Rattle.text.specs.Number.{decimal}
use Rattle.text.specs.Parts.{comma, line_feed}
use Rattle.words.specs.Word.{written, numbered}
use Rattle.words.specs.Inner.{in_digits}
use Rattle.policy.specs.Value.{word_places}
use Rattle.policy.specs.declared.value.Entry.{Entry}
use Rattle.policy.specs.declared.value.Conflict.{Conflict}
use Rattle.policy.specs.declared.value.Pair.{Pair}
use Rattle.policy.specs.declared.value.RuleValue.{RuleValue}

-- a buffer has room for a text from a place on
pub record Room (t : List ℕ) (at : ℕ) (buffer : List ℕ) : Type 0 where
  pub fits : at + length t ≤ length buffer

-- the text t stands from the place `at` on, what lies before and past it stays, and it ends at r
pub record Put (t : List ℕ) (at : ℕ) (entry exit : List ℕ) (r : ℕ) : Type 0 where
  pub bytes : exit ≡ take at entry ++ over t (drop at entry)
  pub end : r ≡ at + length t
  pub fits : r ≤ length entry

-- ---- lines

-- the texts of some things, one after the other
unfoldable pub each : {A : Type 0} → (A → List ℕ) → List A → List ℕ
each f [] = []
each f (x ∷ xs) = f x ++ each f xs

-- a field after the first, and the end of a line
unfoldable pub field : List ℕ → List ℕ
field f = comma ∷ f

abbrev pub feed : List ℕ
feed = line_feed ∷ []

-- a comma alone, and the last digit of a number
abbrev pub lone : List ℕ
lone = comma ∷ []

abbrev pub last_digit : ℕ → List ℕ
last_digit n = (byte "0" + n % 10) ∷ []

abbrev pub number_field : ℕ → List ℕ
number_field n = field (decimal n)

abbrev pub number_fields : List ℕ → List ℕ
number_fields ns = each number_field ns

-- the field of the word that has a number
abbrev pub word_field : ℕ → List ℕ
word_field n = field (written (numbered n))

abbrev pub word_fields : List ℕ → List ℕ
word_fields ns = each word_field ns

-- a line by its layout: a word alone, with numbers, or with an action and words by their numbers
unfoldable pub bare_line : List ℕ → List ℕ
bare_line word = word ++ feed

unfoldable pub numbers_line : List ℕ → List ℕ → List ℕ
numbers_line word ns = (word ++ number_fields ns) ++ feed

unfoldable pub formula_line : List ℕ → ℕ → List ℕ → List ℕ
formula_line word a ns = (word ++ number_fields (a ∷ [])) ++ (word_fields ns ++ feed)

-- a line with a number more in two parts: up to that number, and from there on
unfoldable pub start_line : List ℕ → List ℕ → List ℕ
start_line word ns = (word ++ number_fields ns) ++ lone

unfoldable pub end_line : ℕ → List ℕ
end_line n = decimal n ++ feed

-- the line of a width
abbrev pub one_line : List ℕ → ℕ → List ℕ
one_line word a = numbers_line word (a ∷ [])

-- the lines of a seniority, of a user or an object, of a conflict, of a pair, and of a rule
abbrev pub direct_line : List ℕ → Direct → List ℕ
direct_line word l = numbers_line word (l.senior ∷ l.junior ∷ [])

abbrev pub entry_line : List ℕ → Entry → List ℕ
entry_line word e = numbers_line word (e.number ∷ e.set ∷ [])

abbrev pub conflict_line : List ℕ → Conflict → List ℕ
conflict_line word x = numbers_line word (x.set ∷ x.most ∷ [])

abbrev pub pair_line : List ℕ → Pair → List ℕ
pair_line word x = numbers_line word (x.action ∷ x.user ∷ x.object ∷ [])

abbrev pub numbers_of : RuleValue → List ℕ
numbers_of r = take r.count r.words

abbrev pub rule_line : List ℕ → RuleValue → List ℕ
rule_line word r = formula_line word r.action (numbers_of r)

-- the words that have these numbers can be spelt
abbrev pub all_in_digits : List ℕ → Bool
all_in_digits ns = all (λ n. in_digits (numbered n)) ns

-- a rule's count is within its array, and its words can be spelt
unfoldable pub rule_writable : RuleValue → Bool
rule_writable r = leb r.count word_places && all_in_digits (numbers_of r)

-- what has no condition can be written
abbrev pub always : {A : Type 0} → A → Bool
always x = true

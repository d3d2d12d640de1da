-- The lines of one kind whose elements rise, as one function reads them.
use Rattle.std.specs.Prelude.{ℕ, suc, ◌≡◌, Bool, true, List, [], ◌∷◌, ◌++◌, ltb, length, drop, None, Result, MatchResult}
use Rattle.text.specs.Kind.{place_of}
use Rattle.text.specs.declared.kind.Kind.{Kind}
use Rattle.text.specs.declared.number.Numbers.{Numbers}
use Rattle.policy.specs.Inner.Sound.{rising}
use Rattle.policy.specs.declared.refusal.Refusal.{Refusal}
use Rattle.policy.specs.declared.value.Rejection.{Rejection}
use Rattle.reader.specs.Inner.Lists.{Test, rising_test, TestedLines, TestedRefused, room_by}
use Rattle.reader.specs.declared.cursor.Cursor.{Cursor}

-- where one more passes and rises, there is room for it as long as there are places
abbrev pub Roomy : {A : Type 0} → (A → Bool) → (A → A → Bool) → ℕ → Refusal → (List A → Result (Unit {0}) Refusal) → Type 0
Roomy fits above places full room =
    (xs : List _) (x : _) → rising fits above None (xs ++ (x ∷ [])) ≡ true → room xs ≡ room_by (ltb (length xs) places) full

-- n elements are read into the first places of a list
pub record RisingFrom (t : List ℕ) (k : Kind) {A : Type 0} (z : Test A) (c : Cursor) (old new : List A) (n : ℕ) (d : Cursor) : Type 0 where
  pub items : List A
  pub count : n ≡ length items
  pub stored : new ≡ items ++ drop n old
  pub lines : TestedLines t k z (suc (place_of k)) c d items

abbrev pub RisingRead : List ℕ → Kind → {A : Type 0} → (Numbers → A) → (A → Bool) → (A → A → Bool) → (List A → Result (Unit {0}) Refusal) → Cursor
    → (old new : List A) → Result (ℕ × Cursor) Rejection → Type 0
RisingRead t k says fits above room c old new r =
    MatchResult r (λ x. RisingFrom t k (rising_test says fits above room) c old new x.0 x.1) (TestedRefused t k (rising_test says fits above room) c)

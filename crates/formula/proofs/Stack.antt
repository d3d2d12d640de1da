-- A stack of vectors is a stack of truth values in each lane, running one word more is a step, and a false below an
-- empty stack changes nothing.
use Prim.Native.Nat.{ℕ, zero, suc, ◌+◌, ◌<◌}
use mathlib.Core.Path.{◌≡◌, refl, sym, ap, ap₂, ◌∙◌}
use mathlib.Core.Bool.{Bool, false, not, ◌&&◌, ◌||◌}
use mathlib.Core.List.{List, [], ◌∷◌}
use native.Mathlib.Omega.{arith}
use native.Mathlib.Numerals.{add-one}
use lib.ListN.{length, get_or}
use Rattle.sets.specs.Set.{has}
use Rattle.words.specs.Word.{numbered}
use Rattle.words.specs.declared.Word.{Word}
use Rattle.words.specs.declared.Word.TheVariants.{True, False, Holds, Compares, Not, And, Or}
use Rattle.policy.specs.Policy.{Policy}
use Rattle.policy.specs.Value.{words_in}
use Rattle.formula.specs.Truth.{Sets, top, below, step, run, truth}
use Rattle.formula.specs.Inner.Lane.{in_block, Placed, combined, column}

-- the lowest d places are the same
pub column-same : (f g : ℕ → ℕ) (d k : ℕ) → ((i : ℕ) → i < d → f i ≡ g i) → column f d k ≡ column g d k
unfolding column
column-same f g zero k e = refl
column-same f g (suc d) k e = ap₂ (λ (y : ℕ) (l : List Bool). has y k ∷ l) (e d (omega arith)) (column-same f g d k (λ i h. e i (omega arith)))

-- the top, and what lies below it
pub column-top : (f : ℕ → ℕ) (d k : ℕ) → column f (d + 1) k ≡ has (f d) k ∷ column f d k
unfolding column
column-top f d k = rw (add-one d)

module _ (n b i : ℕ) {P : ℕ → ℕ → Type 0} {old new : List ℕ} (x : Placed n i P old new) (h : b < n) where
  -- what is put on place i lies on the places below it
  pub column-put : (k : ℕ) → column (in_block new n b) (i + 1) k ≡ has (in_block new n b i) k ∷ column (in_block old n b) i k
  column-put k =
      column-top (in_block new n b) i k
      ∙ ap (λ (l : List Bool). has (in_block new n b i) k ∷ l) (column-same (in_block new n b) (in_block old n b) i k (λ j l. x.kept b j h (λ e. omega arith)))

-- ---- top and below

module _ (f : ℕ → ℕ) (d k : ℕ) where
  pub top-on : top (column f (d + 1) k) ≡ has (f d) k
  top-on = rw (column-top f d k)

  pub below_on : below (column f (d + 1) k) ≡ column f d k
  below_on = rw (column-top f d k)

-- ---- two taken together

-- the two upper truth values of a stack taken together
abbrev pub taken : Bool → List Bool → List Bool
taken both bs = combined both (top (below bs)) (top bs) ∷ below (below bs)

module _ (f g : ℕ → ℕ) (d k : ℕ) (both : Bool) where
  -- nothing lies below the lowest place
  pub taken-lowest : d ≡ 0 → has (g 0) k ≡ combined both false (has (f 0) k) → column g (0 + 1) k ≡ taken both (column f (d + 1) k)
  unfolding column
  taken-lowest q e = rw q (ap (λ (b : Bool). b ∷ []) e)

  pub taken-lower : (e : ℕ) → d ≡ e + 1 → has (g e) k ≡ combined both (has (f e) k) (has (f (e + 1)) k) → ((i : ℕ) → i < e → g i ≡ f i)
      → column g (e + 1) k ≡ taken both (column f (d + 1) k)
  taken-lower e q h same =
      rw q (
      column-top g e k ∙ ap₂ (λ (b : Bool) (l : List Bool). b ∷ l) h (column-same g f e k same)
      ∙ sym (rw (top-on f (e + 1) k, below_on f (e + 1) k, top-on f e k, below_on f e k)))

-- ---- one word more

module _ (p : Policy) (s : Sets) where
  run-next : (ns : List ℕ) (i : ℕ) (bs : List Bool) → i < length ns
      → step p s (numbered (get_or ns i 0)) (run p s (words_in i ns) bs) ≡ run p s (words_in (i + 1) ns) bs
  unfolding run
  run-next [] i bs h = absurd (omega arith)
  run-next (n ∷ ns) zero bs h = refl
  run-next (n ∷ ns) (suc i) bs h =
      let e : suc i + 1 ≡ suc (i + 1) = omega arith in rw e (run-next ns i (step p s (numbered n) bs) (omega arith))

  -- a stack that was what i words leave, after the next word
  pub column-next : (ns : List ℕ) (i : ℕ) {w : Word} {old new : List Bool} → i < length ns → w ≡ numbered (get_or ns i 0)
      → old ≡ run p s (words_in i ns) (false ∷ []) → new ≡ step p s w old → new ≡ run p s (words_in (i + 1) ns) (false ∷ [])
  column-next ns i h q old new = new ∙ ap₂ (step p s) q old ∙ run-next ns i (false ∷ []) h

-- ---- false below an empty stack

-- the same truth values from the top on, where false lies below the last
record Alike (bs cs : List Bool) : Type 0 where
  same : (j : ℕ) → get_or bs j false ≡ get_or cs j false

top-at : (bs : List Bool) → get_or bs 0 false ≡ top bs
top-at [] = refl
top-at (b ∷ bs) = refl

below_at : (bs : List Bool) (j : ℕ) → get_or (below bs) j false ≡ get_or bs (suc j) false
below_at [] j = refl
below_at (b ∷ bs) j = refl

module _ {bs cs : List Bool} (h : Alike bs cs) where
  top-alike : top bs ≡ top cs
  top-alike = sym (top-at bs) ∙ h.same 0 ∙ top-at cs

  below_alike : Alike (below bs) (below cs)
  below_alike = record { same = λ j. below_at bs j ∙ h.same (suc j) ∙ sym (below_at cs j) }

put_same : (a b : Bool) (bs cs : List Bool) → a ≡ b → Alike bs cs → (j : ℕ) → get_or (a ∷ bs) j false ≡ get_or (b ∷ cs) j false
put_same a b bs cs e h zero = e
put_same a b bs cs e h (suc j) = h.same j

put-alike : {a b : Bool} {bs cs : List Bool} → a ≡ b → Alike bs cs → Alike (a ∷ bs) (b ∷ cs)
put-alike e h = record { same = put_same _ _ _ _ e h }

none-same : (j : ℕ) → get_or (false ∷ []) j false ≡ false
none-same zero = refl
none-same (suc j) = refl

module _ (p : Policy) (s : Sets) where
  step-alike : (w : Word) (bs cs : List Bool) → Alike bs cs → Alike (step p s w bs) (step p s w cs)
  unfolding step
  step-alike True bs cs h = put-alike refl h
  step-alike False bs cs h = put-alike refl h
  step-alike (Holds x) bs cs h = put-alike refl h
  step-alike (Compares x) bs cs h = put-alike refl h
  step-alike Not bs cs h = put-alike (ap not (top-alike h)) (below_alike h)
  step-alike And bs cs h =
      put-alike (ap₂ (λ (x y : Bool). x && y) (top-alike (below_alike h)) (top-alike h)) (below_alike (below_alike h))
  step-alike Or bs cs h =
      put-alike (ap₂ (λ (x y : Bool). x || y) (top-alike (below_alike h)) (top-alike h)) (below_alike (below_alike h))

  run-alike : (ws : List Word) (bs cs : List Bool) → Alike bs cs → Alike (run p s ws bs) (run p s ws cs)
  unfolding run
  run-alike [] bs cs h = h
  run-alike (w ∷ ws) bs cs h = run-alike ws (step p s w bs) (step p s w cs) (step-alike w bs cs h)

  -- the truth of a formula, from a stack on which false lies
  pub truth-from : (ws : List Word) → top (run p s ws (false ∷ [])) ≡ truth p s ws
  unfolding truth
  truth-from ws = top-alike (run-alike ws (false ∷ []) [] (record { same = none-same }))

-- What the answers about a rule's words rest on: the checks of a list of words, word by word.
use Rattle.std.specs.Prelude.{Option, None, Some}
use Rattle.std.specs.List.{list_all}
use Prim.Native.Nat.{ℕ, ◌+◌, ◌-◌, ◌≤◌, ◌<◌}
use mathlib.Core.Path.{◌≡◌, refl, sym, ◌∙◌}
use mathlib.Core.Bool.{Bool, true, false, cond, ◌&&◌, and-false}
use mathlib.Core.List.{List, [], ◌∷◌, map}
use native.Mathlib.Omega.{arith}
use lib.Dec.{eqb, leb}
use lib.ListN.{length, get_or, drop, drop_of_length-le}
use Rattle.basis.specs.Choice.{given}
use Rattle.basis.specs.Lists.{all}
use Rattle.basis.proofs.Walk.{rest-next}
use Rattle.words.specs.Word.{numbered}
use Rattle.words.specs.declared.Word.{Word}
use Rattle.policy.specs.Checks.{Sizes, word_fits, widths_equal, takes, balanced}
use Rattle.checks.specs.Inner.{after}

-- a test of some words, as a chain over their numbers makes it
pub all-chain : (f : Word → Bool) (numbers : List ℕ) → list_all (λ n. f (numbered n)) numbers ≡ all f (map numbered numbers)
unfolding all
all-chain f [] = refl
all-chain f (n ∷ ns) = rw (all-chain f ns)

-- ---- the words in turn, with the truth values that those before leave

-- a test of some words, with d truth values on the stack, that goes by a test of each word
pub record Walk (f : ℕ → List Word → Bool) (p : Word → Bool) : Type 0 where
  pub none : (d : ℕ) → f d [] ≡ eqb d 1
  pub more : (d : ℕ) (w : Word) (ws : List Word) → f d (w ∷ ws) ≡ (p w && given (after d w) false (λ e. f e ws))

-- one word more: l says whether it finds enough truth values and n how many it leaves, a and b whether it passes two tests,
-- and x, y and z whether the words behind it do
in-turn : (a b l x y : Bool) (n : ℕ) (z : ℕ → Bool)
    → ((a && x) && ((b && y) && (l && z n))) ≡ ((a && b) && given (cond l (Some n) None) false (λ d. x && (y && z d)))
in-turn false b l x y n z = refl
in-turn true false l x y n z = and-false x
in-turn true true true x y n z = refl
in-turn true true false x y n z = rw (and-false y, and-false x)

pub balanced-walk : Walk balanced (λ w. true)
unfolding balanced
balanced-walk =
    record {
      none = λ d. refl;
      more = λ d w ws. in-turn true true (leb (takes w) d) true true (d - takes w + 1) (λ e. balanced e ws);
    }

-- checks 6, 8 and 9
abbrev pub sound : Sizes → ℕ → List Word → Bool
sound s d ws = all (word_fits s) ws && (all (widths_equal s) ws && balanced d ws)

pub sound-walk : (s : Sizes) → Walk (sound s) (λ w. word_fits s w && widths_equal s w)
unfolding all balanced
sound-walk s =
    record {
      none = λ d. refl;
      more = λ d w ws. in-turn (word_fits s w) (widths_equal s w) (leb (takes w) d) (all (word_fits s) ws) (all (widths_equal s) ws) (d - takes w + 1) (λ e. balanced e ws);
    }

-- a word leaves at most one truth value more
after-few : (d e : ℕ) (w : Word) → after d w ≡ Some e → e ≤ d + 1
after-few d e w q = go (leb (takes w) d) q
  where
    go : (b : Bool) → cond b (Some (d - takes w + 1)) None ≡ Some e → e ≤ d + 1
    go true h = let k : d - takes w + 1 ≡ e = cc in omega arith
    go false h = let k : ◌≡◌ {A = ℕ} 0 1 = cc in absurd (omega arith)

-- the words before place i leave d truth values: the answer is that of the words from place i on
pub record Walked (f : ℕ → List Word → Bool) (numbers : List ℕ) (d i : ℕ) : Type 0 where
  pub few : d ≤ i
  pub rest : f 0 (map numbered numbers) ≡ f d (map numbered (drop i numbers))

pub walked_none : {f : ℕ → List Word → Bool} {numbers : List ℕ} → Walked f numbers 0 0
walked_none = record { few = omega arith; rest = refl }

module _ {f : ℕ → List Word → Bool} {p : Word → Bool} (t : Walk f p) {numbers : List ℕ} {d i : ℕ} (q : Walked f numbers d i) where
  pub walked_all : length numbers ≤ i → eqb d 1 ≡ f 0 (map numbered numbers)
  walked_all h = sym (q.rest ∙ rw (drop_of_length-le numbers h) (t.none d))

  module _ (h : i < length numbers) {w : Word} (is : w ≡ numbered (get_or numbers i 0)) where
    turn : f 0 (map numbered numbers) ≡ (p w && given (after d w) false (λ e. f e (map numbered (drop (i + 1) numbers))))
    turn = q.rest ∙ rw (rest-next 0 numbers i h, ← is) (t.more d w (map numbered (drop (i + 1) numbers)))

    pub walked-not : {b : Bool} → b ≡ p w → b ≡ false → false ≡ f 0 (map numbered numbers)
    walked-not u e = sym (turn ∙ rw (← u, e))

    module _ {o : Option ℕ} (u : o ≡ after d w) where
      pub walked-stuck : o ≡ None → false ≡ f 0 (map numbered numbers)
      walked-stuck e = sym (turn ∙ rw (← u, e, and-false))

      pub walked-more : {b : Bool} → b ≡ p w → b ≡ true → {e : ℕ} → o ≡ Some e → Walked f numbers e (i + 1)
      walked-more v g {e} k =
          record { few = omega (arith, q.few, after-few d e w (sym u ∙ k)); rest = turn ∙ rw (← v, g, ← u, k) }

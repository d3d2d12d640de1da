-- The actions that pass a test, stored one after the other.
use Prim.Native.Nat.{ℕ, ◌+◌, ◌≤◌, ◌<◌}
use mathlib.Core.Path.{◌≡◌, refl, sym, ap, ◌∙◌}
use mathlib.Core.Bool.{Bool, true, false}
use mathlib.Core.List.{List}
use native.Mathlib.Omega.{arith}
use lib.ListN.{length, take, drop, set}
use lib.Seq.{take_at}
use Rattle.basis.specs.Lists.{over}
use Rattle.basis.specs.Numbers.{select}
use Rattle.basis.proofs.Counting.{select-skip}
use Rattle.policy.specs.Limits.{most_actions}
use Rattle.tuples.specs.Inner.Marks.{Stored}
use Rattle.tuples.proofs.Marked.{stored-below, stored_next}
use Rattle.report.specs.Inner.Cursor.{Stores}

module _ {f : ℕ → Bool} {old : List ℕ} where
  pub stored-none : Stored f 0 old 0 old
  unfolding over select
  stored-none = record { number = refl; contents = refl }

  module _ {a c : ℕ} {xs : List ℕ} (s : Stored f a old c xs) where
    pub stored-few : c ≤ a
    stored-few = stored-below f a old c xs s

    -- the next one passes, or does not
    pub stored-hit : f a ≡ true → c < length old → Stored f (a + 1) old (c + 1) (set xs c a)
    stored-hit e h = stored_next f a a (record { from = omega arith; passed = λ n l g. absurd (omega arith); hit = e }) old c xs s h

    pub stored-miss : f a ≡ false → Stored f (a + 1) old c xs
    stored-miss e =
        let q : select f (a + 1) ≡ select f a = select-skip f a (a + 1) (omega arith) (λ k l g. let z : k ≡ a = omega arith in rw z e) in
        record { number = rw q s.number; contents = rw q s.contents }

    -- those stored are the first of the array
    pub stored-all : a ≤ most_actions → Stores (select f a) (record { count = c; actions = xs })
    unfolding over
    stored-all h =
        record {
          number = s.number;
          most = omega (arith, stored-few);
          actions = ap (take c) s.contents ∙ take_at (select f a) (drop (length (select f a)) old) c (sym s.number);
        }

-- A registered number stands in its list, so that a sound policy's bounds hold of it and its set.
use Rattle.std.specs.Prelude.{Option, None, Some}
use Prim.Native.Nat.{ℕ, ◌<◌}
use mathlib.Core.Path.{◌≡◌, refl}
use mathlib.Core.Bool.{Bool, true, false, cond}
use mathlib.Core.List.{List, [], ◌∷◌, Memᴰ}
use mathlib.Core.Logic.{◌⊎◌, inl, inr, ⊎_elim}
use native.Mathlib.Omega.{arith}
use lib.Dec.{eqb}
use borrow.Author.Tests.{eqb-true}
use Rattle.policy.specs.Policy.{Side, sets, set_of_number}
use Rattle.policy.specs.Inner.Sound.{rising, number_above}
use Rattle.policy.specs.declared.value.Entry.{Entry}
use Rattle.policy.proofs.Parts.{number_fits}
use Rattle.policy.proofs.Bounds.{entry-bounds}

-- a choice that gives w takes v, which is w, or what is left gives it
choice : {B : Type 0} (b : Bool) (v : B) (r : Option B) (w : B) → cond b (Some v) r ≡ Some w → ((b ≡ true) × (v ≡ w)) ⊎ (r ≡ Some w)
choice true v r w e = inl (refl, cc)
choice false v r w e = inr e

nowhere : {A : Type 0} {B : Type 0} (w : B) → None ≡ Some w → A
nowhere w e = let z : ◌≡◌ {A = ℕ} 0 1 = cc in absurd (omega arith)

pub registered : (es : List Entry) (n x : ℕ) → set_of_number es n ≡ Some x → (e : Entry) × Memᴰ e es × (e.number ≡ n) × (e.set ≡ x)
unfolding set_of_number
registered [] n x e = nowhere x e
registered (y ∷ es) n x e =
    ⊎_elim
    (λ p. (y, Memᴰ.head refl, eqb-true y.number n p.0, p.1))
    (λ q. let r = registered es n x q in (r.0, Memᴰ.tail r.1, r.2, r.3))
    (choice (eqb y.number n) y.set (set_of_number es n) x e)

-- the set of a registered user or object
pub registered-bounds : (most : ℕ) (s : Side) (es : List Entry) → rising (number_fits most s) number_above None es ≡ true
    → (n x : ℕ) → set_of_number es n ≡ Some x → (n < most) × (x < sets s)
registered-bounds most s es h n x e =
    let r = registered es n x e in
    let b = entry-bounds most s es h r.0 r.1 in
    (rw r.2 at b.0, rw r.3 at b.1)

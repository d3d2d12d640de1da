-- The first broken check, by induction over the checks: of two lists one behind the other, and where none is broken.
use Rattle.std.specs.Prelude.{Option, None, Some}
use mathlib.Core.Path.{◌≡◌, refl, sym, ◌∙◌}
use mathlib.Core.Bool.{Bool, true, false, cond}
use mathlib.Core.List.{List, [], ◌∷◌, ◌++◌}
use Prim.Native.Nat.{ℕ}
use native.Mathlib.Omega.{arith}
use Rattle.basis.specs.Choice.{given, Check, first_broken}

pub first-broken-append : (cs ds : List Check) → first_broken (cs ++ ds) ≡ given (first_broken cs) (first_broken ds) Some
unfolding first_broken
first-broken-append [] ds = refl
first-broken-append (c ∷ cs) ds = go c.broken (first-broken-append cs ds)
  where
    go : (b : Bool) → first_broken (cs ++ ds) ≡ given (first_broken cs) (first_broken ds) Some
        → cond b (Some c.number) (first_broken (cs ++ ds)) ≡ given (cond b (Some c.number) (first_broken cs)) (first_broken ds) Some
    go true h = refl
    go false h = h

-- no check is broken
abbrev pub Unbroken : List Check → Type 0
Unbroken [] = Unit {0}
Unbroken (c ∷ cs) = (c.broken ≡ false) × Unbroken cs

pub unbroken : (cs : List Check) → first_broken cs ≡ None → Unbroken cs
unfolding first_broken
unbroken [] e = tt
unbroken (c ∷ cs) e = go c.broken refl (unbroken cs) e
  where
    go : (b : Bool) → c.broken ≡ b → (first_broken cs ≡ None → Unbroken cs) → cond b (Some c.number) (first_broken cs) ≡ None
        → (c.broken ≡ false) × Unbroken cs
    go true q h f = let z : ◌≡◌ {A = ℕ} 0 1 = cc in absurd (omega arith)
    go false q h f = (q, h f)

-- then none is broken of the first of two lists, nor behind the first check
pub unbroken-first : (cs ds : List Check) → first_broken (cs ++ ds) ≡ None → first_broken cs ≡ None
unbroken-first cs ds e = go (first_broken cs) (sym (first-broken-append cs ds) ∙ e)
  where
    go : (r : Option ℕ) → given r (first_broken ds) Some ≡ None → r ≡ None
    go None f = refl
    go (Some n) f = let z : ◌≡◌ {A = ℕ} 0 1 = cc in absurd (omega arith)

pub unbroken-rest : (c : Check) (cs : List Check) → first_broken (c ∷ cs) ≡ None → first_broken cs ≡ None
unfolding first_broken
unbroken-rest c cs = go c.broken
  where
    go : (b : Bool) → cond b (Some c.number) (first_broken cs) ≡ None → first_broken cs ≡ None
    go true f = let z : ◌≡◌ {A = ℕ} 0 1 = cc in absurd (omega arith)
    go false f = f

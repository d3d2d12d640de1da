-- What taking a line apart says of its refusal: a fault is the first one, and a line taken breaks none of 2 to 4.
use Rattle.std.specs.Prelude.{Option, None, Some, Result, Ok, Err}
use Prim.Native.Nat.{ℕ}
use mathlib.Core.Path.{◌≡◌, refl, sym, ap}
use mathlib.Core.Bool.{Bool, true, false, cond, not}
use mathlib.Core.List.{List, ◌∷◌}
use lib.ListN.{length, drop}
use Rattle.basis.specs.Choice.{Check, check, first_broken}
use Rattle.text.specs.Kind.{layout_of}
use Rattle.text.specs.declared.kind.Kind.{Kind}
use Rattle.text.specs.declared.kind.Layout.{Layout}
use Rattle.text.specs.declared.kind.Layout.TheVariants.{Bare, One, Two, Three, Formula}
use Rattle.text.specs.declared.number.Numbers.{Numbers}
use Rattle.policy.specs.Answers.{number_of}
use Rattle.policy.specs.Line.{allowed, count_fits, form_fits, numbers_of}
use Rattle.policy.specs.Policy.{Policy}
use Rattle.policy.specs.Read.{checks_of, checks_for, refusal_of}
use Rattle.policy.specs.declared.refusal.Refusal.{Refusal}
use Rattle.policy.specs.declared.refusal.Refusal.TheVariants.{KindNotAllowed, WrongFieldCount, MalformedField}
use Rattle.line.specs.Inner.Head.{numbers_fit, formed, parsed_as}
use Rattle.line.specs.Inner.Rule.{number_in}
use Rattle.line.specs.declared.head.Head.{Head}
use Rattle.line.proofs.Fields.{ok-err, ok-same}

-- ---- by the tests of a line

module _ (h : Head) where
  abbrev tested : Bool → Bool → Bool → Result Head Refusal
  tested a c f = cond a (formed c f h) (Err KindNotAllowed)

  fault-first-broken : (a c f g : Bool) (cs : List Check) → (f ≡ false → g ≡ false) → (r : Refusal) → tested a c f ≡ Err r
      → first_broken (check 2 false ∷ check 3 (not a) ∷ check 4 (not c) ∷ check 5 (not g) ∷ cs) ≡ Some (number_of r)
  unfolding first_broken
  fault-first-broken false c f g cs h r e = ap number_in e
  fault-first-broken true false f g cs h r e = ap number_in e
  fault-first-broken true true false g cs h r e = rw (h refl) (ap number_in e)
  fault-first-broken true true true g cs d r e = absurd (ok-err h r e)

  record Passed (a c f : Bool) (j : Head) : Type 0 where
    order : a ≡ true
    count : c ≡ true
    form : f ≡ true
    head : h ≡ j

  passed : (a c f : Bool) (j : Head) → tested a c f ≡ Ok j → Passed a c f j
  passed true true true j e = record { order = refl; count = refl; form = refl; head = ok-same h j e }
  passed true true false j e = absurd (ok-err j MalformedField (sym e))
  passed true false f j e = absurd (ok-err j WrongFieldCount (sym e))
  passed false c f j e = absurd (ok-err j KindNotAllowed (sym e))

-- ---- a line

-- numbers in no form are fields in no form
unformed : (x : Layout) (fs : List (List ℕ)) → numbers_fit x fs ≡ false → form_fits x fs ≡ false
unfolding numbers_fit form_fits
unformed Bare fs e = e
unformed One fs e = e
unformed Two fs e = e
unformed Three fs e = e
unformed Formula fs e = rw e

pub record Known (before : Option Kind) (named : Option Kind) (fs : List (List ℕ)) (k : Kind) (n : Numbers) : Type 0 where
  pub is : named ≡ Some k
  pub order : allowed before k ≡ true
  pub count : count_fits (layout_of k) (length fs) ≡ true
  pub form : numbers_fit (layout_of k) fs ≡ true
  pub numbers : n ≡ numbers_of (layout_of k) fs

module _ (before : Option Kind) (fs : List (List ℕ)) where
  pub head-fault : (named : Option Kind) (p : Policy) (r : Refusal) → parsed_as before named fs ≡ Err r → refusal_of before p true named fs ≡ Some (number_of r)
  unfolding parsed_as refusal_of checks_for checks_of first_broken
  head-fault None p r e = ap number_in e
  head-fault (Some k) p r e =
      fault-first-broken (record { kind = k; numbers = numbers_of (layout_of k) fs }) (allowed before k) (count_fits (layout_of k) (length fs)) (numbers_fit (layout_of k) fs) (form_fits (layout_of k) fs)
      (drop 4 (checks_of before p true k fs)) (unformed (layout_of k) fs) r e

  pub head-known : (named : Option Kind) (h : Head) → parsed_as before named fs ≡ Ok h → Known before named fs h.kind h.numbers
  unfolding parsed_as
  head-known None h e = absurd (ok-err h KindNotAllowed (sym e))
  head-known (Some j) h e =
      let n = numbers_of (layout_of j) fs in
      let q = passed (record { kind = j; numbers = n }) (allowed before j) (count_fits (layout_of j) (length fs)) (numbers_fit (layout_of j) fs) h e in
      rw (← q.head) (record { is = refl; order = q.order; count = q.count; form = q.form; numbers = refl })

-- A line is not refused exactly where each of its checks passes.
use Rattle.std.specs.Prelude.{Option, None, Some}
use Prim.Native.Nat.{ℕ}
use mathlib.Core.Path.{◌≡◌, refl}
use mathlib.Core.Bool.{Bool, true, false, not}
use mathlib.Core.List.{List, [], ◌∷◌}
use native.Mathlib.Omega.{arith}
use lib.ListN.{length}
use Rattle.basis.specs.Choice.{Check, check, first_broken}
use Rattle.text.specs.Parts.{TextLine, fields}
use Rattle.text.specs.Kind.{layout_of}
use Rattle.text.specs.declared.kind.Kind.{Kind}
use Rattle.policy.specs.Policy.{Policy}
use Rattle.policy.specs.Line.{allowed, count_fits, form_fits, line_of}
use Rattle.policy.specs.Checks.{line_in_range, line_rises, line_conflict_room, line_pair_room, line_widths_equal, line_balances}
use Rattle.policy.specs.Read.{checks_of, checks_for, refusal_of, State, kind_of, line_refusal}

-- the first of some checks passes, and no other is broken
pub unbroken-next : (n : ℕ) (b : Bool) (cs : List Check) → first_broken (check n (not b) ∷ cs) ≡ None → (b ≡ true) × (first_broken cs ≡ None)
unfolding first_broken
unbroken-next n true cs e = (refl, e)
unbroken-next n false cs e = let z : ◌≡◌ {A = ℕ} 0 1 = cc in absurd (omega arith)

-- each check of a line of a known kind passes
pub record Passed (before : Option Kind) (p : Policy) (ended : Bool) (k : Kind) (fs : List (List ℕ)) : Type 0 where
  pub ends : ended ≡ true
  pub order : allowed before k ≡ true
  pub count : count_fits (layout_of k) (length fs) ≡ true
  pub form : form_fits (layout_of k) fs ≡ true
  pub range : line_in_range p (line_of k fs) ≡ true
  pub rise : line_rises p (line_of k fs) ≡ true
  pub conflict-room : line_conflict_room p (line_of k fs) ≡ true
  pub pair-room : line_pair_room p (line_of k fs) ≡ true
  pub equal : line_widths_equal p (line_of k fs) ≡ true
  pub balance : line_balances (line_of k fs) ≡ true

module _ (before : Option Kind) (p : Policy) (ended : Bool) where
  pub passed : (k : Kind) (fs : List (List ℕ)) → refusal_of before p ended (Some k) fs ≡ None → Passed before p ended k fs
  unfolding refusal_of checks_for checks_of
  passed k fs e =
      let l = line_of k fs in
      let e₂ = unbroken-next 2 ended _ e in
      let e₃ = unbroken-next 3 (allowed before k) _ e₂.1 in
      let e₄ = unbroken-next 4 (count_fits (layout_of k) (length fs)) _ e₃.1 in
      let e₅ = unbroken-next 5 (form_fits (layout_of k) fs) _ e₄.1 in
      let e₆ = unbroken-next 6 (line_in_range p l) _ e₅.1 in
      let e₇ = unbroken-next 7 (line_rises p l) _ e₆.1 in
      let e₂₂ = unbroken-next 22 (line_conflict_room p l) _ e₇.1 in
      let e₂₁ = unbroken-next 21 (line_pair_room p l) _ e₂₂.1 in
      let e₈ = unbroken-next 8 (line_widths_equal p l) _ e₂₁.1 in
      let e₉ = unbroken-next 9 (line_balances l) _ e₈.1 in
      record { ends = e₂.0; order = e₃.0; count = e₄.0; form = e₅.0; range = e₆.0; rise = e₇.0; conflict-room = e₂₂.0; pair-room = e₂₁.0; equal = e₈.0; balance = e₉.0 }

  pub not-refused : (k : Kind) (fs : List (List ℕ)) → Passed before p ended k fs → refusal_of before p ended (Some k) fs ≡ None
  unfolding refusal_of checks_for checks_of first_broken
  not-refused k fs c = rw (c.ends, c.order, c.count, c.form, c.range, c.rise, c.conflict-room, c.pair-room, c.equal, c.balance)

  -- a line of no known kind is refused
  pub unknown_refused : (fs : List (List ℕ)) → refusal_of before p ended None fs ≡ None → ⊥
  unfolding refusal_of checks_for first_broken
  unknown_refused fs e = let r = (unbroken-next 2 ended (check 3 true ∷ []) e).1 in let z : ◌≡◌ {A = ℕ} 0 1 = cc r in omega arith

-- the kind of a line that is not refused, and its checks
pub record Taken (s : State) (l : TextLine) : Type 0 where
  pub kind : Kind
  pub named : kind_of l.bytes ≡ Some kind
  pub checks : Passed s.before s.policy l.ended kind (fields l.bytes)

pub taken : (s : State) (l : TextLine) → line_refusal s l ≡ None → Taken s l
taken s l e = go (kind_of l.bytes) refl
  where
    go : (n : Option Kind) → kind_of l.bytes ≡ n → Taken s l
    go None q = absurd (unknown_refused s.before s.policy l.ended (fields l.bytes) (rw q at e))
    go (Some k) q = record { kind = k; named = q; checks = passed s.before s.policy l.ended k (fields l.bytes) (rw q at e) }

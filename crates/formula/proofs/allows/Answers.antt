-- `formula::allows` meets its contract: with both sets in every lane, lane 0 of one block has the truth of the action's
-- formula.
use Prim.Native.Nat.{ℕ, ◌%◌}
use mathlib.Core.Bool.{Bool}
use mathlib.Core.List.{List}
use mathlib.Core.Path.{◌≡◌, sym, ap, ◌∙◌}
use native.Mathlib.Omega.{arith}
use native.Mathlib.Nat.{div-one}
use lib.Dec.{eqb, lit<}
use lib.ListN.{get_or}
use Rattle.sets.specs.Set.{has}
use Rattle.policy.specs.Value.{side_of, policy_of}
use Rattle.formula.specs.Truth.{at}
use Rattle.formula.specs.Inner.Lane.{in_block, InBlock}
use Rattle.formula.proofs.Placing.{stands-moved, alone}
use Rattle.formula.proofs.allows.Goals as goal

-- the lowest bit of the one block's number
first_lane : (xs : List ℕ) (d : ℕ) {t : Bool} → has (in_block xs 1 0 d) 0 ≡ t → eqb (get_or xs d 0 % 2) 1 ≡ t
first_lane xs d e = ap (λ (n : ℕ). eqb (n % 2) 1) (sym (alone xs d) ∙ sym (div-one (in_block xs 1 0 d))) ∙ e

pub where_granted-d-requires : goal.where_granted-d-requires
where_granted-d-requires c =
    let p = policy_of c.args.v.now in
    ((p, c.requires.1), (c.of_action-grant.ensures p c.of_policy.ensures).few, omega arith)

pub returns : goal.returns
unfolding policy_of side_of
returns c =
    let a = c.args in let w = c.where_granted-d in
    let p = policy_of a.v.now in
    let x : InBlock p c.closed-users.result c.closed-objects.result 1 0 0 (at a.user a.object) =
    record {
      lane = lit< tt;
      user = stands-moved (λ v h. alone c.closed-users.result v) (c.closed-users.ensures 0 a.user (c.spread.ensures 0 (lit< tt)));
      object = stands-moved (λ v h. alone c.closed-objects.result v) (c.closed-objects.ensures 0 a.object (c.spread-2.ensures 0 (lit< tt)));
    } in
    first_lane w.new.stack w.result (w.ensures.2 0 (lit< tt) p 0 (at a.user a.object) (c.requires.1, x))
    ∙ (c.of_action-grant.ensures p c.of_policy.ensures).same (at a.user a.object)

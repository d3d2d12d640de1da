-- `runner::list::decode` meets its contract, kind by kind.
use native.Mathlib.Omega.{arith}
use borrow.Author.Tests.{ne_eqb}
use Rattle.std.proofs.Common.{◌≡◌, ℕ, Bool, true, false, cond, eqb, Some, None, refl}
use Rattle.std.specs.Bool.{then_some}
use Rattle.board.specs.Machine.{closes}
use Rattle.board.specs.declared.Call.TheVariants.{Close}
use Rattle.runner.specs.Calls.{item_of, call_in}
use Rattle.runner.proofs.list.decode.Goals as goal

-- close has 0 for the third argument, or is no call
closed_by : (t : Bool) (a b : ℕ) → item_of (then_some t (Close a b)) ≡ cond t (Some (closes a b)) None
closed_by true a b = refl
closed_by false a b = refl

pub returns-in-0 : goal.returns-in-0
unfolding call_in
returns-in-0 c = rw c.in-0.is

pub returns-in-1 : goal.returns-in-1
unfolding call_in
returns-in-1 c = rw c.in-1.is

pub returns-in-2 : goal.returns-in-2
unfolding call_in
returns-in-2 c = rw c.in-2.is

pub returns-in-3 : goal.returns-in-3
unfolding call_in
returns-in-3 c = rw (c.in-3.is, c.then_some.ensures) (closed_by (eqb c.args.c 0) c.args.a c.args.b)

pub returns-in-4 : goal.returns-in-4
unfolding call_in
returns-in-4 c = rw c.in-4.is

pub returns-in_default : goal.returns-in_default
unfolding call_in
returns-in_default c =
    let k = c.args.kind in
    rw (ne_eqb k 0 (omega arith), ne_eqb k 1 (omega arith), ne_eqb k 2 (omega arith), ne_eqb k 3 (omega arith), ne_eqb k 4 (omega arith))

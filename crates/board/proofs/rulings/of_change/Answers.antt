-- `board::rulings::of_change` meets its contract: the checks of close refuse, or those of the set decide.
use Rattle.std.proofs.Common.{◌≡◌, ◌∙◌, ap, Some, rules}
use Rattle.sets.specs.Set.{within}
use Rattle.policy.specs.Answers.{number_of}
use Rattle.board.specs.Inner.{refusal_of}
use Rattle.board.proofs.Ways.{change_refused, change_set}
use Rattle.board.proofs.rulings.of_change.Goals as goal

pub returns-in_err-of_close : goal.returns-in_err-of_close
returns-in_err-of_close c p q =
    let a = c.args in
    let why : refusal_of c.from_residual.result ≡ Some (number_of c.in_err-of_close.field-0.0) = search rules in
    why ∙ change_refused p a.user a.session a.set a.over a.entry a.reach q c.is_some.result c.is_some.ensures _ c.of_close.ensures _ (rw c.in_err-of_close.was)

pub returns : goal.returns
returns c p q =
    let a = c.args in
    change_set p a.user a.session a.set a.over a.entry a.reach q c.is_some.result c.is_some.ensures _ c.of_close.ensures (rw c.in_ok-of_close.was)
    c.within.result (c.within.ensures ∙ ap (within a.set) c.unwrap_or.ensures) _ c.of_set.ensures

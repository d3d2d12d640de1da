-- `board::reach::of` meets its contract: the lines are in order and the set is one of the side's.
use Rattle.std.proofs.Common.{◌≡◌, ◌∙◌, sym, ℕ, Option, None, rules}
use Rattle.board.proofs.Users.{juniors_ask, reach-found, reach-none}
use Rattle.board.proofs.reach.of.Goals as goal

pub returns-in_err-set : goal.returns-in_err-set
returns-in_err-set c p eu es =
    let a = c.args in
    let none : ◌≡◌ {A = Option ℕ} c.from_residual.result None = search rules in
    none ∙ reach-none a.users.now a.side.now c.requires a.user p eu es (sym c.in_err-set.ensures)

pub with_juniors-requires : goal.with_juniors-requires
with_juniors-requires c = juniors_ask c.args.side.now c.requires.seniority

pub returns : goal.returns
returns c p eu es =
    let a = c.args in
    reach-found a.users.now a.side.now c.requires a.user p eu es c.in_ok-set.set (sym c.in_ok-set.ensures) c.with_juniors.result c.with_juniors.ensures

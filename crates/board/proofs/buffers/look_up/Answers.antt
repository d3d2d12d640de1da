-- `board::buffers::look_up` meets its contract: one law for each way out.
use Rattle.std.proofs.Common.{◌≡◌, ◌∙◌, rules}
use Rattle.policy.specs.Answers.{number_of, refused}
use Rattle.board.specs.Board.{reply_of}
use Rattle.board.proofs.Look.{past-user, past-object, past-table, granted-at, denied-at}
use Rattle.board.proofs.buffers.look_up.Goals as goal

pub returns-in_err-user : goal.returns-in_err-user
returns-in_err-user g c =
    let why : reply_of c.from_residual.result ≡ refused (number_of c.in_err-user.field-0.0) = search rules in
    why ∙ past-user _ _ _ _ _ c.in_err-user.ensures

pub returns-in_err-object : goal.returns-in_err-object
returns-in_err-object g c =
    let why : reply_of c.from_residual-in_err-object.result ≡ refused (number_of c.in_err-object.field-0.0) = search rules in
    why ∙ past-object _ _ _ _ _ c.in_ok-user.ensures _ c.in_err-object.ensures

pub returns-in_err-entry : goal.returns-in_err-entry
returns-in_err-entry g c =
    let why : reply_of c.from_residual-in_err-entry.result ≡ refused (number_of c.in_err-entry.field-0.0) = search rules in
    why ∙ past-table _ _ _ _ _ c.in_ok-user.ensures _ c.in_ok-object.ensures _ c.place-place.ensures _ c.in_err-entry.ensures

pub returns-then-holds : goal.returns-then-holds
returns-then-holds g c =
    granted-at _ _ _ _ _ c.in_ok-user.ensures _ c.in_ok-object.ensures _ c.place-place.ensures _ c.in_ok-entry.ensures _ c.holds.ensures c.if-holds.true

pub returns-else-holds : goal.returns-else-holds
returns-else-holds g c =
    denied-at _ _ _ _ _ c.in_ok-user.ensures _ c.in_ok-object.ensures _ c.place-place.ensures _ c.in_ok-entry.ensures _ c.holds.ensures c.if-holds.false

-- `board::buffers::at` meets its contract: what stands at the place, or 20.
use Rattle.std.proofs.Common.{◌≡◌, ◌∙◌, ap, ℕ, Option, Result, Ok, Err, rules}
use Rattle.basis.specs.Choice.{given}
use Rattle.policy.specs.Answers.{answer_of}
use Rattle.board.proofs.Look.{read-is}
use Rattle.board.proofs.buffers.at.Goals as goal

pub returns : goal.returns
returns g c =
    let found : answer_of c.ok_or.result ≡ given c.get.result (Err 20) Ok = search rules in
    found ∙ ap (λ (o : Option ℕ). given {B = Result ℕ ℕ} o (Err 20) Ok) c.get.ensures ∙ read-is _ _

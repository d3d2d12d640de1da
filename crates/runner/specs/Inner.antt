-- What the inner functions of the code answer. Public contracts do without this.
use Rattle.std.specs.Prelude.{Option, None, Some}
use Rattle.policy.specs.Answers.{refused}
use Rattle.board.specs.Machine.{Call, Out}

-- one item: what is no call answers 5 and leaves the state
unfoldable pub item_step : {S : Type 0} → (Call → S → Out S) → Option Call → S → Out S
item_step f None s = record { reply = refused 5; state = s }
item_step f (Some c) s = f c s

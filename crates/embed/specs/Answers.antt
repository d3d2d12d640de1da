-- The numbers that answers cross as.
use Rattle.std.specs.Prelude.{ℕ, Option, Some, None, Result, Ok, Err}
use Rattle.basis.specs.Choice.{given}
use Rattle.policy.specs.Read.{Outcome}
use Rattle.policy.specs.Answers.{number_of, reply_number, refusal_in, value_in}
use Rattle.policy.specs.declared.refusal.Refusal.{Refusal}
use Rattle.labels.specs.declared.Counts.{Counts}
use Rattle.labels.specs.declared.Witness.{Witness}
use Rattle.board.specs.Machine.{Out}
use Rattle.board.specs.declared.Board.{Board}
use Rattle.embed.specs.declared.crossed.CrossedReading.{CrossedReading}
use Rattle.embed.specs.declared.crossed.Counted.{Counted}
use Rattle.embed.specs.declared.crossed.CrossedCounts.{CrossedCounts}
use Rattle.embed.specs.declared.crossed.Separation.{Separation}
use Rattle.embed.specs.declared.crossed.CrossedStep.{CrossedStep}

-- the refusal and its line, 0 and 0 where the text is accepted, beside the text's value
abbrev pub crossed_reading : Outcome → CrossedReading
crossed_reading o =
    record {
      refusal = given (refusal_in o) 0 (λ x. x.0);
      line = given (refusal_in o) 0 (λ x. x.1);
      policy = value_in o;
    }

-- the count and no refusal, or the refusal and 0
abbrev pub counted : Result ℕ ℕ → Counted
counted (Ok n) = record { refusal = 0; count = n }
counted (Err n) = record { refusal = n; count = 0 }

-- NU, NO and no refusal, or the refusal, 0 and 0
abbrev pub crossed_counts : Result Counts ℕ → CrossedCounts
crossed_counts (Ok c) = record { refusal = 0; users = c.users; objects = c.objects }
crossed_counts (Err n) = record { refusal = n; users = 0; objects = 0 }

-- 0 alike, 1 apart with the action and the object set, or the refusal
abbrev pub separation : Result (Option Witness) Refusal → Separation
separation (Ok None) = record { answer = 0; action = 0; object = 0 }
separation (Ok (Some w)) = record { answer = 1; action = w.action; object = w.object }
separation (Err r) = record { answer = number_of r; action = 0; object = 0 }

-- the answer's number and the board
abbrev pub crossed_step : Out Board → CrossedStep
crossed_step o = record { answer = reply_number o.reply; board = o.state }

-- A reading as it crosses, by its outcome.
use Rattle.std.specs.Prelude.{Ok, Err}
use mathlib.Core.Path.{◌≡◌}
use Rattle.policy.specs.Policy.{blank}
use Rattle.policy.specs.Read.{Outcome, Accepted, Refused}
use Rattle.policy.specs.Value.{value_of}
use Rattle.policy.specs.Answers.{number_of, ReadAs, value_in}
use Rattle.policy.specs.declared.value.PolicyValue.{PolicyValue}
use Rattle.policy.specs.declared.value.Rejection.{Rejection}
use Rattle.embed.specs.Answers.{crossed_reading}

-- an accepted text's value crosses with no refusal
pub as_accepted : (v : PolicyValue) (o : Outcome) → ReadAs o (Ok v) → record { refusal = 0; line = 0; policy = v } ≡ crossed_reading o
unfolding value_in
as_accepted v (Accepted p) h = cc
as_accepted v (Refused n l) h = absurd h

-- a refusal crosses with its line and the blank value
pub as_refused : (e : Rejection) (o : Outcome) → ReadAs o (Err e)
    → record { refusal = number_of e.refusal; line = e.line; policy = value_of blank } ≡ crossed_reading o
unfolding value_in
as_refused e (Accepted p) h = absurd (cc)
as_refused e (Refused n l) h = rw (h.0, h.1)

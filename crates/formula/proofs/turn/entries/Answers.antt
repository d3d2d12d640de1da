-- `formula::turn::entries` meets its contract: one square of actions, or two.
use Prim.Native.Nat.{ℕ, ◌+◌, ◌*◌}
use mathlib.Core.Bool.{Bool}
use mathlib.Core.Path.{◌∙◌}
use lib.ListN.{get_or}
use Rattle.sets.specs.Set.{has}
use Rattle.formula.specs.Inner.Group.{group_size}
use Rattle.formula.proofs.Squares.{one-square, two-squares}
use Rattle.formula.proofs.turn.entries.Lts as place
use Rattle.formula.proofs.turn.entries.Tie as tie
use Rattle.formula.proofs.turn.entries.Reads as reads
use Rattle.formula.proofs.turn.entries.Goals as goal

-- an action is granted in lane j of the eight
abbrev bit : place.Start tie.the-claims reads.Pre reads.Post → ℕ → ℕ → Bool
bit s j a = has (get_or s.args.granted.now a 0) (group_size * s.args.q + j)

pub returns-then-actions : goal.returns-then-actions
returns-then-actions c j h =
    let low = c.eight-low in let s = c.before.before.before in
    c.joined.ensures j h ∙ one-square (bit s j) low.result j s.args.actions (λ a l. low.ensures j a h l) c.if-actions.true

pub returns : goal.returns
returns c j h =
    let low = c.eight-low in let high = c.eight in let s = c.before.before.before.before in
    c.joined-2.ensures j h
    ∙ two-squares (bit s j) low.result j s.args.actions (λ a l. low.ensures j a h l) high.result (λ a l. high.ensures j a h l)
    c.if-actions.false

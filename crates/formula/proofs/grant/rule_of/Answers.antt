-- `formula::grant::rule_of` meets its contract: what all rules say of the action is what the rules from i on
-- say of it.
use mathlib.Core.Path.{◌∙◌}
use native.Mathlib.Omega.{arith}
use lib.ListN.{take, drop_of_length-le}
use Rattle.formula.proofs.Granting.{outcome-found, outcome-passed, outcome-none, outcome-all, rule-at}
use Rattle.formula.proofs.grant.rule_of.Goals as goal

pub returns-then-rule-action : goal.returns-then-rule-action
returns-then-rule-action c =
    let l = c.loop-rule in let rs = c.args.rules in let h = c.loop-rule-test.true in (
      (rule-at c.requires.0 rs c.requires.1 l.rule-index h).words,
      λ p s. outcome-found p s (take rs.count rs.entries) l.rule-index c.args.action h c.if-rule-action.true ∙ l.invariant p s ∙ outcome-all p s rs c.args.action,
    )

pub loop-rule-preserved : goal.loop-rule-preserved
loop-rule-preserved c p s =
    let l = c.loop-rule in let rs = c.args.rules in
    outcome-passed p s (take rs.count rs.entries) l.rule-index c.args.action c.loop-rule-test.true c.if-rule-action.false ∙ l.invariant p s

pub returns : goal.returns
returns c =
    let l = c.loop-rule in let g = c.default in let none = g.ensures.1.0 in
    let rs = c.args.rules in let a = c.args.action in (
      omega (arith, none),
      λ p s.
          outcome-none p s g.result a none
          ∙ (rw (drop_of_length-le (take rs.count rs.entries) c.loop-rule-test.false) at (l.invariant p s)) ∙ outcome-all p s rs a,
    )

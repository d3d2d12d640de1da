-- `validity::list::rule_valid` meets its contract: too many words, a rule that does not pass, and else what is behind its
-- words.
use mathlib.Core.Path.{sym, ap, ◌∙◌}
use mathlib.Core.Bool.{and-false, and-true}
use lib.Dec.{eqb}
use Rattle.basis.specs.Lists.{all}
use Rattle.std.proofs.Common.{rules}
use Rattle.policy.specs.Value.{rule_of}
use Rattle.policy.proofs.Digits.{sound-digits}
use Rattle.validity.specs.Inner.{rule_valid}
use Rattle.validity.proofs.Blank.{whole}
use Rattle.validity.proofs.Stored.{eqb_swap, rule-out, rule-stored}
use Rattle.validity.proofs.list.rule_valid.Goals as goal

pub returns-then-x-gt-WORD_PLACES : goal.returns-then-x-gt-WORD_PLACES
unfolding rule_valid
returns-then-x-gt-WORD_PLACES c = rw (rule-out c.args.x.now (search rules) c.if-x-gt-WORD_PLACES.true)

pub returns-then-rule_sound : goal.returns-then-rule_sound
unfolding rule_valid rule_of
returns-then-rule_sound c =
    let x = c.args.x.now in
    let r = c.rule_sound in
    let s = c.args.shapes.now in
    let passed = c.if-rule_sound.true in
    let d = sound-digits _ c.requires.0 c.requires.1 s.user.placed s.object.placed _ (rule_of x) (sym r.ensures ∙ passed) in
    rw (← r.ensures, passed, and-true, rule-stored x (search rules) (search rules) d)
    (c.all_blank.ensures (eqb 0) (λ x r k. search (rules, eqb_swap)) ∙ ap (all (eqb 0)) (whole x.words x.count _ (search rules)))

pub returns-else-rule_sound : goal.returns-else-rule_sound
unfolding rule_valid
returns-else-rule_sound c = rw (← c.rule_sound.ensures, c.if-rule_sound.false, and-false)

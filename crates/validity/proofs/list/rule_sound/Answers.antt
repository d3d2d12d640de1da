-- `validity::list::rule_sound` meets its contract: its action, and then its words.
use borrow.Author.Tests.{lt-ltb, le-ltb}
use Rattle.validity.proofs.Whole.{rule-is}
use Rattle.validity.proofs.list.rule_sound.Goals as goal

pub returns-then-x-actions : goal.returns-then-x-actions
returns-then-x-actions c = rw (rule-is _ _ c.args.x.now c.requires, lt-ltb _ _ c.if-x-actions.true) c.words_sound.ensures

pub returns-else-x-actions : goal.returns-else-x-actions
returns-else-x-actions c = rw (rule-is _ _ c.args.x.now c.requires, le-ltb _ _ c.if-x-actions.false)

-- `line::rule::parse` meets its contract: the words stand behind the second comma.
use mathlib.Core.Path.{refl, ap, ◌∙◌}
use lib.ListN.{length}
use Rattle.text.specs.Parts.{fields}
use Rattle.line.specs.Inner.Rule.{rule_in}
use Rattle.line.proofs.Fields.{comma-there}
use Rattle.line.proofs.Rules.{rule-count, words-there, words_are, words-few}
use Rattle.line.proofs.rule.parse.Goals as goal

pub find-b-requires : goal.find-b-requires
find-b-requires c = let l = c.args.line.now in comma-there l _ (length (fields l)) c.find-c.ensures refl (rule-count _ c.requires).0

pub words-requires : goal.words-requires
words-requires c =
    let l = c.args.line.now in
    let p = c.requires in
    let f = c.find-c.ensures in
    let h = (rule-count (length (fields l)) p).0 in
    (words-there l _ _ f c.find-b.ensures h, rw (words_are l _ _ f c.find-b.ensures h) (words-few l p))

pub returns : goal.returns
returns c =
    let l = c.args.line.now in
    let h = (rule-count (length (fields l)) c.requires).0 in
    c.words.ensures ∙ ap (rule_in c.args.action) (words_are l _ _ c.find-c.ensures c.find-b.ensures h)

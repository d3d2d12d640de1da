-- `put` of a rule's line meets its contract: its words are within their array, and can be spelt.
use mathlib.Core.Path.{◌≡◌}
use mathlib.Core.Bool.{true}
use Prim.Native.Nat.{◌≤◌}
use borrow.Author.Tests.{leb-true}
use lib.Dec.{leb}
use Rattle.basis.proofs.Bools.{and_left, and_right}
use Rattle.policy.specs.Value.{word_places}
use Rattle.policy.specs.declared.value.RuleValue.{RuleValue}
use Rattle.writer.specs.Inner.Put.{all_in_digits, numbers_of, rule_writable}
use Rattle.writer.proofs.lines.RuleValueLine.put.Goals as goal

module _ (r : RuleValue) (h : rule_writable r ≡ true) where
  within : r.count ≤ word_places
  unfolding rule_writable
  within = leb-true r.count word_places (and_left (leb r.count word_places) (all_in_digits (numbers_of r)) h)

  spelt : all_in_digits (numbers_of r) ≡ true
  unfolding rule_writable
  spelt = and_right (leb r.count word_places) (all_in_digits (numbers_of r)) h

pub shared_ref_as_front-put_formula : goal.shared_ref_as_front-put_formula
shared_ref_as_front-put_formula c = within _ c.requires.can

pub put_formula-requires-clause-spelt : goal.put_formula-requires-clause-spelt
put_formula-requires-clause-spelt c = spelt _ c.requires.can

-- `line::head::may_stand` meets its contract.
use mathlib.Core.Path.{◌∙◌}
use Rattle.text.specs.declared.kind.Kind.TheVariants.{Policy}
use Rattle.text.proofs.Naming.{same_kind}
use Rattle.line.proofs.Fields.{stands-first, stands_after}
use Rattle.line.proofs.head.may_stand.Goals as goal

pub returns-in-None : goal.returns-in-None
returns-in-None c = stands-first _ _ _ c.in-None.is (c.eq.ensures ∙ same_kind Policy c.args.k)

pub returns-in-Some : goal.returns-in-Some
returns-in-Some c = search stands_after

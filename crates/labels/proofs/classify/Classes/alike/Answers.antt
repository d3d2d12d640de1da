-- `labels::classify::alike` meets its contract: all labels are 0, and the lowest row leads.
use mathlib.Core.Path.{refl}
use Rattle.basis.proofs.Lists.{get_or-blank}
use Rattle.policy.specs.Limits.{most_sets}
use Rattle.labels.proofs.classify.Classes.alike.Goals as goal

pub returns : goal.returns
returns c = record { one = refl; labels = λ u. get_or-blank most_sets u 0; leader = refl }

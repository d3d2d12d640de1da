use Rattle.std.proofs.Common.{refl}
use Rattle.std.proofs.lemmas.List.{map-set}
use Rattle.policy.proofs.stored.put.Goals as goal

pub returns : goal.returns
returns g c = rw (map-set, c.of.ensures) refl

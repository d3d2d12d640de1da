-- `policy::value::blank_side_lem` meets its contract.
use mathlib.Core.Path.{◌≡◌, refl, ap₂}
use Rattle.basis.specs.Lists.{padded}
use Rattle.seniority.specs.Seniority.{direct}
use Rattle.policy.specs.Value.{side_value}
use Rattle.policy.proofs.value.blank_side.Goals as goal

pub returns : goal.returns
unfolding padded side_value
returns c =
    let e : c.default.result ≡ direct 0 0 = ap₂ direct c.default.ensures.0 c.default.ensures.1 in
    rw e refl

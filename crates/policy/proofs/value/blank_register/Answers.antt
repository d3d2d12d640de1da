-- `policy::value::blank_register` meets its contract.
use mathlib.Core.Path.{◌≡◌, refl, ap₂}
use Rattle.basis.specs.Lists.{padded}
use Rattle.policy.specs.Value.{no_entry, register}
use Rattle.policy.proofs.value.blank_register.Goals as goal

pub returns : goal.returns
unfolding padded register
returns c =
    let e : c.default.result ≡ no_entry = ap₂ (λ n s. record { number = n; set = s }) c.default.ensures.0 c.default.ensures.1 in
    rw e refl

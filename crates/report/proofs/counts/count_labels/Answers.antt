-- `report::counts::count_labels` meets its contract: of a value that passes check 11, NU and NO are given.
use Rattle.std.specs.Prelude.{Ok}
use mathlib.Core.Path.{◌≡◌, ap, ◌∙◌}
use mathlib.Core.Bool.{true}
use Rattle.basis.specs.Choice.{first_broken}
use Rattle.policy.specs.Value.{policy_of}
use Rattle.policy.specs.Valid.{valid}
use Rattle.policy.specs.declared.value.PolicyValue.{PolicyValue}
use Rattle.labels.specs.Compile.{counts, used}
use Rattle.labels.specs.declared.Counts.{Counts}
use Rattle.report.proofs.Answers.{given, is-given}
use Rattle.report.proofs.counts.count_labels.Goals as goal

gives-counts : (v : PolicyValue) → valid v ≡ true → used v ≡ Ok (counts (policy_of v))
unfolding used first_broken
gives-counts v e = rw e

pub unwrap-requires : goal.unwrap-requires
unwrap-requires c = is-given c.used.result (c.used.ensures ∙ gives-counts _ c.requires)

pub returns : goal.returns
returns c =
    let z : c.unwrap.result ≡ counts (policy_of c.args.policy) = given (gives-counts _ c.requires) (rw c.unwrap.ensures at c.used.ensures) in
    (ap (λ (x : Counts). x.users) z, ap (λ (x : Counts). x.objects) z)

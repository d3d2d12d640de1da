-- `report::chunks::started` meets its contract: what is left is the first line and the blocks of all listed actions.
use Rattle.std.specs.Prelude.{Result, Ok, Err}
use Rattle.std.specs.Result.{MatchResult}
use Prim.Native.Nat.{ℕ}
use mathlib.Core.List.{List}
use mathlib.Core.Path.{◌≡◌, refl, ap, ◌∙◌}
use native.Mathlib.Omega.{arith}
use borrow.Author.Rules.{rules}
use Rattle.policy.specs.Read.{read_text}
use Rattle.policy.specs.Answers.{ReadAs}
use Rattle.policy.specs.Policy.{blank}
use Rattle.policy.specs.Value.{value_of, policy_of}
use Rattle.policy.specs.declared.value.PolicyValue.{PolicyValue}
use Rattle.policy.specs.declared.value.Rejection.{Rejection}
use Rattle.policy.proofs.Forms.{actions-most}
use Rattle.formula.specs.Inner.Fits.{ValueFits}
use Rattle.tuples.proofs.Answers.{source-of}
use Rattle.report.proofs.Left.{no_strip, start_left}
use Rattle.report.proofs.Reading.{unwrapped, read_fits, read-policy, report-is}
use Rattle.report.proofs.chunks.started.Goals as goal

pub first_line-held-requires : goal.first_line-held-requires
first_line-held-requires c = c.requires

-- the value that is unwrapped, blank beside a refusal, is what the evaluator asks
is-unwrapped : {Q : Rejection → Type 0} (r : Result PolicyValue Rejection) (v : PolicyValue)
    → ((e : Rejection) → Q e → v ≡ value_of blank) → MatchResult r (λ x. v ≡ x) Q → v ≡ unwrapped r
is-unwrapped (Ok x) v b h = h
is-unwrapped (Err e) v b h = b e h

value-fits : (t : List ℕ) (r : Result PolicyValue Rejection) → ReadAs (read_text t) r → (v : PolicyValue) → v ≡ unwrapped r → ValueFits v
value-fits t r x v u = rw u (read_fits t r x)

pub of-pairs-requires : goal.of-pairs-requires
of-pairs-requires c =
    let h = c.requires in let f = value-fits h.0 c.args.read h.1 _ (is-unwrapped c.args.read _ (λ e q. search rules) c.unwrap_or_else-policy.ensures) in (f.user, f.object)

pub blocks-end-requires : goal.blocks-end-requires
blocks-end-requires c = (_, source-of c.unwrap_or_else-policy.result c.of-pairs.ensures)

pub of_policy-grants-requires : goal.of_policy-grants-requires
of_policy-grants-requires c = let h = c.requires in value-fits h.0 c.args.read h.1 _ (is-unwrapped c.args.read _ (λ e q. search rules) c.unwrap_or_else-policy.ensures)

pub of_grants-listed-requires : goal.of_grants-listed-requires
of_grants-listed-requires c = ((_, c.of_policy-grants.ensures), rw c.actions.ensures (actions-most _))

pub returns : goal.returns
unfolding policy_of
returns c t x =
    let v = c.unwrap_or_else-policy.result in
    let p = policy_of v in
    let is : v ≡ unwrapped c.args.read = is-unwrapped c.args.read _ (λ e q. search rules) c.unwrap_or_else-policy.ensures in
    let grants = c.of_policy-grants.ensures in
    let s = source-of v c.of-pairs.ensures in
    let end = c.blocks-end.ensures p s in
    let held = c.first_line-held.ensures in (
      p,
      record {
        source = s;
        grants = grants;
        stored = rw c.actions.ensures at (c.of_grants-listed.ensures p grants);
        within = omega arith;
        tuples = record {
          values = c.total.ensures _ s.sides.object;
          end = end;
          strip = no_strip p 0 _ c.none.result end c.none.ensures;
          within = omega arith;
        };
        held = held.0;
      },
      report-is (read_text t) ∙ start_left p _ refl refl refl (held.1 t x) (ap policy_of is ∙ read-policy t c.args.read x),
    )

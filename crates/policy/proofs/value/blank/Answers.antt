-- `policy::value::blank` meets its contract.
use Rattle.basis.specs.Lists.{padded}
use Rattle.basis.proofs.Lists.{get_or-blank}
use lib.ListN.{replicate}
use mathlib.Core.Path.{◌≡◌, refl, sym, ap₂, ◌∙◌}
use native.Mathlib.Omega.{arith}
use Rattle.std.proofs.lemmas.List.{ext_get_or}
use Rattle.policy.specs.Policy.{blank, conflict, pair}
use Rattle.policy.specs.Value.{word_places, conflicts_value, no_rule, rules_value, pairs_value, value_of}
use Rattle.policy.proofs.value.blank.Goals as goal

pub returns : goal.returns
unfolding padded blank conflicts_value no_rule rules_value pairs_value value_of
returns c =
    let e : c.default.result ≡ conflict 0 0 = ap₂ conflict c.default.ensures.0 c.default.ensures.1 in
    let d = c.default-2.ensures in
    let w : c.default-2.result.words ≡ replicate word_places 0 =
    ext_get_or 0 _ _ d.1.1.long (λ i h. d.1.1.at i 0 (omega (arith, d.1.1.long)) ∙ sym (get_or-blank word_places i 0)) in
    let r : c.default-2.result ≡ no_rule = rw (d.0, d.1.0, w) refl in
    let p = c.default-3 in
    let f : pair p.result.action p.result.user p.result.object ≡ pair 0 0 0 = rw (p.ensures.0, p.ensures.1.0, p.ensures.1.1) refl in
    rw (e, r, f, c.blank_side.ensures, c.blank_side-2.ensures, c.blank_register.ensures, c.blank_register-2.ensures) refl

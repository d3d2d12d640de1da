-- Check 11: a value is valid exactly where some text yields it, and exactly where it is the stored form of a sound
-- policy.
use Prim.Native.Nat.{ℕ}
use mathlib.Core.Path.{◌≡◌, refl, sym, ap, ◌∙◌}
use mathlib.Core.Bool.{true, false, ◌&&◌, false≢true}
use mathlib.Core.List.{List}
use mathlib.Core.Logic.{◌↔◌}
use Rattle.basis.specs.Lists.{all}
use Rattle.basis.proofs.Bools.{fails, and_left, and_right, and_both, both_ways}
use Rattle.policy.specs.Policy.{Policy, blank}
use Rattle.policy.specs.Read.{Outcome, Accepted, Refused, read_text}
use Rattle.policy.specs.Text.{text_of}
use Rattle.policy.specs.Value.{value_of, policy_of}
use Rattle.policy.specs.Valid.{Yielded, same_value, yields, valid}
use Rattle.policy.specs.Inner.Sound.{sound}
use Rattle.policy.specs.declared.value.PolicyValue.{PolicyValue}
use Rattle.policy.proofs.Parts.{Whole, whole}
use Rattle.policy.proofs.Same.{same-value}
use Rattle.policy.proofs.Values.{policy-value, sound-value}
use Rattle.policy.proofs.RoundTrip.{read-sound, read-text, sound-read}

-- the policy that an outcome yields as a value
yields-some : (o : Outcome) (v : PolicyValue) → yields o v ≡ true → (p : Policy) × (o ≡ Accepted p) × (v ≡ value_of p)
yields-some (Accepted p) v e = (p, refl, sym ((same-value (value_of p) v).0 e))
yields-some (Refused n l) v e = absurd (false≢true e)

-- ---- valid values are those that texts yield

pub valid-yielded : (v : PolicyValue) → valid v ≡ true → Yielded v
unfolding valid
valid-yielded v e = let y = yields-some (read_text (text_of (policy_of v))) v e in (text_of (policy_of v), y.0, y.1, y.2)

-- the value of an accepted text's policy gives the policy back
pub yielded_policy : (t : List ℕ) (p : Policy) → read_text t ≡ Accepted p → policy_of (value_of p) ≡ p
yielded_policy t p e = sound-value p (read-sound t p e)

pub yielded_valid : (t : List ℕ) (p : Policy) → read_text t ≡ Accepted p → valid (value_of p) ≡ true
unfolding valid
yielded_valid t p e = rw (yielded_policy t p e, read-text t p e, e) ((same-value (value_of p) (value_of p)).1 refl)

pub valid-iff : (v : PolicyValue) → (valid v ≡ true) ↔ Yielded v
valid-iff v = (valid-yielded v, λ y. rw y.3 (yielded_valid y.0 y.1 y.2))

-- ---- and the stored forms of sound policies

pub valid-stored : (v : PolicyValue) → valid v ≡ true → (value_of (policy_of v) ≡ v) × (sound (policy_of v) ≡ true)
valid-stored v e =
    let y = valid-yielded v e in
    let q : policy_of v ≡ y.1 = ap policy_of y.3 ∙ yielded_policy y.0 y.1 y.2 in
    (ap value_of q ∙ sym y.3, ap sound q ∙ read-sound y.0 y.1 y.2)

-- so the bounds of a sound policy hold of a valid value's
pub valid-whole : (v : PolicyValue) → valid v ≡ true → Whole (policy_of v)
valid-whole v e = whole (policy_of v) (valid-stored v e).1

-- the blank value, which stands beside a refused text, is none: it has no form
pub blank-refused : valid (value_of blank) ≡ false
unfolding blank all
blank-refused = fails (valid (value_of blank)) (λ e. false≢true (rw (policy-value blank refl) at (valid-whole (value_of blank) e).form))

pub sound-valid : (p : Policy) → sound p ≡ true → valid (value_of p) ≡ true
sound-valid p e = yielded_valid (text_of p) p (sound-read p e)

pub valid-sound : (v : PolicyValue) → valid v ≡ (same_value (value_of (policy_of v)) v && sound (policy_of v))
valid-sound v =
    let p = policy_of v in
    both_ways (valid v) (same_value (value_of p) v && sound p)
    (λ e. let s = valid-stored v e in and_both (same_value (value_of p) v) (sound p) ((same-value (value_of p) v).1 s.0) s.1)
    (λ e. rw ((same-value (value_of p) v).0 (and_left _ _ e)) at (sound-valid p (and_right (same_value (value_of p) v) _ e)))

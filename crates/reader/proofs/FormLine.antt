-- The policy line: one law for each answer about the form.
use Prim.Native.Nat.{ℕ, ◌+◌}
use mathlib.Core.Path.{◌≡◌, refl, sym, ap, ◌∙◌}
use mathlib.Core.Bool.{true, false}
use mathlib.Core.List.{List}
use native.Mathlib.Omega.{arith}
use Rattle.basis.specs.Choice.{first_broken}
use Rattle.text.specs.Kind.{place_of}
use Rattle.text.specs.declared.kind.Kind.TheVariants.{Policy as PolicyKind}
use Rattle.text.specs.declared.number.Numbers.{Numbers}
use Rattle.policy.specs.Checks.{in_range, rises, with_form, extended}
use Rattle.policy.specs.Limits.{is_form}
use Rattle.policy.specs.Policy.{Policy, blank}
use Rattle.policy.specs.declared.refusal.Refusal.TheVariants.{OutOfRange}
use Rattle.policy.proofs.Order.{allowed-order}
use Rattle.std.specs.Prelude.{None, Some}
use lib.ListN.{drop}
use Rattle.text.specs.Parts.{lines}
use Rattle.policy.specs.Answers.{number_of}
use Rattle.policy.specs.Read.{Refused, read_lines}
use Rattle.policy.specs.declared.value.Rejection.{Rejection}
use Rattle.reader.specs.Inner.Cursor.{fields_at, refusal_at, left, refused_as, Stands, NextOf}
use Rattle.reader.specs.Inner.Lists.{FormFrom}
use Rattle.reader.specs.declared.cursor.Cursor.{Cursor}
use Rattle.reader.proofs.Cursors.{left-behind, left-taken, left-refused}
use Rattle.reader.proofs.Runs.{one-wordless, plain-refusal}

module _ (t : List ℕ) (c : Cursor) (s : Stands t c) (e : c.ahead ≡ Some PolicyKind) where
  module _ (f : is_form c.numbers.first ≡ true) where
    form-fits : refusal_at blank PolicyKind (fields_at t c) ≡ None
    unfolding in_range rises first_broken
    form-fits = plain-refusal t c PolicyKind (s PolicyKind e) blank true true one-wordless f refl

    pub form-taken : (d : Cursor) → NextOf t c PolicyKind d → FormFrom t c c.numbers.first d
    unfolding extended
    form-taken d n =
        let l = s PolicyKind e in
        record {
          stands = n.stands;
          past = λ k q. let z : place_of k ≡ 0 → ⊥ = λ z. omega (arith, (allowed-order _ k (n.order k q)).first z) in omega (arith, z);
          left = left-taken t c PolicyKind d e n blank form-fits ∙ ap (λ (m : Numbers). left t d (with_form m.first blank)) (sym l.numbers);
        }

    pub form-next : (r : Rejection)
        → ((p : Policy) → read_lines (record { before = Some PolicyKind; policy = p }) (c.line + 1) (lines (drop (c.end + 1) t)) ≡ refused_as r) → left t c blank ≡ refused_as r
    form-next r n = left-behind t c PolicyKind e blank form-fits ∙ n _

  pub form-refused : is_form c.numbers.first ≡ false → left t c blank ≡ Refused (number_of OutOfRange) c.line
  unfolding in_range rises first_broken
  form-refused f = left-refused t c PolicyKind OutOfRange e blank (plain-refusal t c PolicyKind (s PolicyKind e) blank false true one-wordless f refl)

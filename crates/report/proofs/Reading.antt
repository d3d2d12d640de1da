-- What is read: the policy value of an accepted text passes check 11, that beside a refusal is blank, and the line that
-- a refusal names is at most one more than the bytes that a text may have. So a report starts as it should.
use Rattle.std.specs.Prelude.{Option, None, Some, Result, Ok, Err}
use Rattle.std.specs.Result.{result_unwrap_or}
use Prim.Native.Nat.{ℕ, suc, ◌+◌, ◌≤◌}
use mathlib.Core.Path.{◌≡◌, refl, sym, ap, ◌∙◌}
use mathlib.Core.Bool.{Bool, true, false, cond}
use mathlib.Core.List.Memᴰ
use mathlib.Core.List.{List, [], ◌∷◌, ◌++◌, append_assoc, append-nil}
use native.Mathlib.Omega.{arith}
use borrow.Author.Tests.{ltb-false}
use lib.Dec.{eqb, ltb}
use lib.ListN.{length}
use Rattle.basis.specs.Choice.{given}
use Rattle.basis.specs.Lists.{all, any, sum}
use Rattle.basis.specs.Numbers.{select}
use Rattle.text.specs.Kind.{is_kind}
use Rattle.text.specs.Parts.{TextLine, line_feed, onto, split, lines_of, lines, text_of}
use Rattle.text.specs.declared.kind.Kind.TheVariants.{End}
use Rattle.policy.specs.Answers.{number_of, ReadAs}
use Rattle.policy.specs.Limits.{text_bytes, actions}
use Rattle.policy.specs.Policy.{Policy, blank_side, blank, total, formula_in, named}
use Rattle.policy.specs.Read.{Outcome, Accepted, Refused, State, start, line_refusal, line_after, ending, read_lines, read_text}
use Rattle.policy.specs.Valid.{valid}
use Rattle.policy.specs.Value.{side_value, rules_value, pairs_value, value_of, side_of, policy_of}
use Rattle.policy.specs.declared.value.PolicyValue.{PolicyValue}
use Rattle.policy.specs.declared.value.Rejection.{Rejection}
use Rattle.policy.proofs.Valid.{yielded_policy, yielded_valid}
use Rattle.policy.proofs.Values.{policy-value}
use Rattle.formula.specs.Inner.Fits.{SideFits, ValueFits}
use Rattle.formula.proofs.Checked.{valid-fits}
use Rattle.labels.specs.Compile.{NU, NO}
use Rattle.writer.specs.Inner.Put.{feed}
use Rattle.report.specs.Report.{labels_line, refusal_line, blocks, listed, report}
use Rattle.report.specs.Inner.Lines.{ended, first_line}

-- a separator starts one part more
onto-few : (t : Bool) (x : ℕ) (ps : List (List ℕ)) → length (onto t x ps) ≤ suc (length ps)
onto-few true x ps = omega arith
onto-few false x [] = omega arith
onto-few false x (p ∷ ps) = omega arith

split-few : (b : ℕ) (t : List ℕ) → length (split b t) ≤ suc (length t)
unfolding split
split-few b [] = omega arith
split-few b (x ∷ xs) = omega (arith, onto-few (eqb x b) x (split b xs), split-few b xs)

lines-few : (ps : List (List ℕ)) → length (lines_of ps) ≤ length ps
unfolding lines_of
lines-few [] = omega arith
lines-few ([] ∷ []) = omega arith
lines-few ((x ∷ p) ∷ []) = omega arith
lines-few (p ∷ q ∷ ps) = omega (arith, lines-few (q ∷ ps))

-- the line that an outcome names
abbrev line_in : Outcome → ℕ
line_in (Accepted p) = 0
line_in (Refused n l) = l

module _ {k : ℕ} where
  given-line : (r : Option ℕ) (o : Outcome) (n : ℕ) → line_in o ≤ k → n ≤ k → line_in (given r o (λ m. Refused m n)) ≤ k
  given-line None o n h g = h
  given-line (Some m) o n h g = g

  cond-line : (b : Bool) (o q : Outcome) → line_in o ≤ k → line_in q ≤ k → line_in (cond b o q) ≤ k
  cond-line true o q h g = h
  cond-line false o q h g = g

lines-line : (s : State) (n : ℕ) (ls : List TextLine) → line_in (read_lines s n ls) ≤ n + length ls
unfolding read_lines ending
lines-line s n [] = cond-line (given s.before false (is_kind End)) (Accepted s.policy) (Refused 10 n) (omega arith) (omega arith)
lines-line s n (l ∷ ls) = given-line (line_refusal s l) (read_lines (line_after s l) (suc n) ls) n (omega (arith, lines-line (line_after s l) (suc n) ls)) (omega arith)

text-line : (t : List ℕ) → line_in (read_text t) ≤ suc text_bytes
unfolding read_text
text-line t = bounded (ltb text_bytes (length t)) refl
  where
    bounded : (b : Bool) → ltb text_bytes (length t) ≡ b → line_in (cond b (Refused 1 0) (read_lines start 0 (lines t))) ≤ suc text_bytes
    bounded true e = omega arith
    bounded false e =
        omega (arith, ltb-false text_bytes (length t) e, lines-line start 0 (lines t), lines-few (split line_feed t), split-few line_feed t)

-- ---- what the code answers

-- the policy whose value stands in the answer, and what its report is made of
abbrev policy_in : Outcome → Policy
policy_in (Accepted p) = p
policy_in (Refused n l) = blank

-- no action of the blank policy is listed
blank_none : listed blank ≡ []
unfolding blank select actions named formula_in any
blank_none = refl

pub report-is : (o : Outcome) → report o ≡ ended (first_line o) ++ text_of (blocks (policy_in o) (listed (policy_in o)))
unfolding report first_line text_of blocks
report-is (Accepted p) = sym (append_assoc (labels_line (NU p) (NO p)) feed (text_of (blocks p (listed p))))
report-is (Refused n l) = rw blank_none (sym (append-nil (ended (refusal_line n l))))

-- the policy value that the report is made of: the blank one beside a refusal
abbrev pub unwrapped : Result PolicyValue Rejection → PolicyValue
unwrapped r = result_unwrap_or r (value_of blank)

read-value : (o : Outcome) (r : Result PolicyValue Rejection) → ReadAs o r → unwrapped r ≡ value_of (policy_in o)
read-value (Accepted p) r x = rw x refl
read-value (Refused n l) (Err e) x = refl
read-value (Refused n l) (Ok v) x = absurd x

not-err : (p : Policy) (e : Rejection) → ReadAs (Accepted p) (Err e) → ⊥
not-err p e x = cc

-- an accepted value is its policy's
value-is : (p : Policy) (v : PolicyValue) → ReadAs (Accepted p) (Ok v) → v ≡ value_of p
value-is p v x = cc

-- the first line beside a refusal
pub refused-first : (o : Outcome) (e : Rejection) → ReadAs o (Err e) → refusal_line (number_of e.refusal) e.line ≡ first_line o
unfolding first_line
refused-first (Accepted p) e x = absurd (not-err p e x)
refused-first (Refused n l) e x = rw (x.0, x.1) refl

-- before the first line nothing is out of place
blank_side_lem : SideFits (side_value blank_side)
unfolding side_value side_of total sum
blank_side_lem = record { most = omega arith; lines = omega arith; ordered = tt }

blank-fits : ValueFits (value_of blank)
unfolding value_of blank rules_value pairs_value
blank-fits =
    record {
      user = blank_side_lem;
      object = blank_side_lem;
      rules = record { count = omega arith; each = λ x m. absurd (Memᴰ.not-nil m) };
      pairs = record { count = omega arith; each = λ x m. absurd (Memᴰ.not-nil m) };
    }

module _ (t : List ℕ) (r : Result PolicyValue Rejection) where
  policy-cases : (o : Outcome) → read_text t ≡ o → ReadAs o r → policy_of (unwrapped r) ≡ policy_in o
  unfolding blank all
  policy-cases (Accepted p) e x = ap policy_of (read-value (Accepted p) r x) ∙ yielded_policy t p e
  policy-cases (Refused n l) e x = ap policy_of (read-value (Refused n l) r x) ∙ policy-value blank refl

  -- the policy value stands for the policy that is read
  pub read-policy : ReadAs (read_text t) r → policy_of (unwrapped r) ≡ policy_in (read_text t)
  read-policy x = policy-cases (read_text t) refl x

  fits-cases : (o : Outcome) → read_text t ≡ o → ReadAs o r → ValueFits (unwrapped r)
  fits-cases (Accepted p) e x = rw (read-value (Accepted p) r x) (valid-fits (value_of p) (yielded_valid t p e))
  fits-cases (Refused n l) e x = rw (read-value (Refused n l) r x) blank-fits

  -- and is what the evaluator asks
  pub read_fits : ReadAs (read_text t) r → ValueFits (unwrapped r)
  read_fits x = fits-cases (read_text t) refl x

module _ (t : List ℕ) (v : PolicyValue) where
  first-cases : (o : Outcome) → read_text t ≡ o → ReadAs o (Ok v) → {users objects : ℕ}
      → users ≡ NU (policy_of v) → objects ≡ NO (policy_of v) → labels_line users objects ≡ first_line o
  unfolding first_line
  first-cases (Accepted p) e x u o = rw (u, o, policy-cases t (Ok v) (Accepted p) e x)
  first-cases (Refused n l) e x u o = absurd x

  -- the first line of an accepted text
  pub accepted-first : ReadAs (read_text t) (Ok v) → {users objects : ℕ} → users ≡ NU (policy_of v) → objects ≡ NO (policy_of v)
      → labels_line users objects ≡ first_line (read_text t)
  accepted-first x u o = first-cases (read_text t) refl x u o

  valid-cases : (o : Outcome) → read_text t ≡ o → ReadAs o (Ok v) → valid v ≡ true
  valid-cases (Accepted p) e x = rw (value-is p v x) (yielded_valid t p e)
  valid-cases (Refused n l) e x = absurd x

  -- the policy value of an accepted text passes check 11
  pub read-valid : ReadAs (read_text t) (Ok v) → valid v ≡ true
  read-valid x = valid-cases (read_text t) refl x

module _ (t : List ℕ) (e : Rejection) where
  line-cases : (o : Outcome) → line_in o ≤ suc text_bytes → ReadAs o (Err e) → e.line ≤ suc text_bytes
  line-cases (Accepted p) g x = absurd (not-err p e x)
  line-cases (Refused n m) g x = omega (arith, g, x.1)

  pub read-line : ReadAs (read_text t) (Err e) → e.line ≤ suc text_bytes
  read-line x = line-cases (read_text t) (text-line t) x

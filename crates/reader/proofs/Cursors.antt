-- What stands at a place of a text: one law for each answer of looking there.
use Rattle.std.specs.Prelude.{Option, None, Some, Result, Ok, Err}
use Prim.Native.Nat.{ℕ, suc, ◌+◌, ◌-◌, ◌≤◌, ◌<◌}
use mathlib.Core.Path.{◌≡◌, refl, sym, ap, ◌∙◌}
use mathlib.Core.Bool.{Bool, true, false}
use mathlib.Core.List.{List}
use native.Mathlib.Numerals.{add-one}
use native.Mathlib.Omega.{arith}
use borrow.Author.Tests.{eqb-true, eqb-false, le-ltb}
use lib.ListN.{length, drop}
use Rattle.basis.specs.Choice.{given, first_broken}
use Rattle.basis.specs.Lists.{all}
use Rattle.text.specs.Kind.{layout_of, place_of, is_kind}
use Rattle.text.specs.Inner.{Found}
use Rattle.text.specs.Parts.{line_feed, fields, lines}
use Rattle.text.specs.declared.kind.Kind.{Kind}
use Rattle.text.specs.declared.kind.Kind.TheVariants.{Policy as PolicyKind, End}
use Rattle.text.specs.declared.number.Numbers.{Numbers}
use Rattle.text.proofs.Naming.{place-lt, kind_at, kind-at, same_kind as same_kind_test}
use Rattle.text.specs.contracts.kind.KindPartialEq.TheImpl.{eq-value}
use Rattle.std.specs.Option.{option_eq}
use Rattle.policy.specs.Answers.{number_of}
use Rattle.policy.specs.Checks.{in_range, rises, balances, with_line_of, extended}
use Rattle.policy.specs.Line.{allowed, count_fits, form_fits, words_of, line_of}
use Rattle.policy.specs.Limits.{text_bytes}
use Rattle.policy.specs.Policy.{Policy, blank}
use Rattle.policy.specs.Read.{Outcome, Accepted, Refused, kind_of, checks_of, checks_for, refusal_of, after, ending, read_lines, read_text}
use Rattle.policy.specs.declared.refusal.Refusal.{Refusal}
use Rattle.policy.specs.declared.refusal.Refusal.TheVariants.{LineFeedMissing, EndMissing}
use Rattle.policy.specs.declared.value.Rejection.{Rejection}
use Rattle.policy.proofs.Order.{allowed-order}
use Rattle.line.specs.Inner.Head.{between, numbers_fit, parsed_as}
use Rattle.line.specs.declared.head.Head.{Head}
use Rattle.line.proofs.Heads.{head-fault, head-known}
use Rattle.reader.specs.Inner.Cursor.{fields_at, refusal_at, left, refused_as, LineAt, Stands, Past, LookedAt, FirstOf, NextOf, ahead_is}
use Rattle.reader.specs.declared.cursor.Cursor.{Cursor}
use Rattle.reader.proofs.Places.{next-line, open_line, no_line}

-- ---- what is ahead

pub none-some : {A : Type 0} (a : A) → None ≡ Some a → ⊥
none-some a e = cc

pub line-kind : (j k : Kind) → Some j ≡ Some k → j ≡ k
line-kind j k e = cc

pub same_kind : (j k : Kind) → is_kind j k ≡ true → j ≡ k
same_kind j k e = sym (kind-at j) ∙ ap kind_at (eqb-true (place_of j) (place_of k) e) ∙ kind-at k

-- a line of kind k is ahead, or none
pub ahead_is_lem : (a : Option Kind) (k : Kind) → ahead_is a k ≡ true → a ≡ Some k
ahead_is_lem (Some j) k e = ap Some (same_kind j k e)
ahead_is_lem None k e = let z : ◌≡◌ {A = ℕ} 0 1 = cc in absurd (omega arith)

pub ahead_there : (a : Option Kind) (k : Kind) (r : Bool) → r ≡ ahead_is a k → r ≡ true → a ≡ Some k
ahead_there a k r e f = ahead_is_lem a k (sym e ∙ f)

pub ahead_not : (a : Option Kind) (k j : Kind) → ahead_is a k ≡ false → a ≡ Some j → place_of k ≤ place_of j → suc (place_of k) ≤ place_of j
ahead_not a k j e q h =
    let d : place_of j ≡ place_of k → ⊥ = eqb-false (place_of j) (place_of k) (rw q at e) in
    omega (arith, d, h)

-- ---- a place with no line to read

-- the test for the end line
pub end-test : (b : Option Kind) → option_eq eq-value.it (Some End) b ≡ given b false (is_kind End)
end-test None = refl
end-test (Some k) = same_kind_test End k

pub end-there : (b : Option Kind) → given b false (is_kind End) ≡ true → b ≡ Some End
end-there None e = absurd (not-true e)
  where
    not-true : false ≡ true → ⊥
    not-true e = cc
end-there (Some k) e = ap Some (sym (same_kind End k e))

module _ (t : List ℕ) (at n : ℕ) (b : Option Kind) where
  abbrev rest : Policy → Outcome
  rest p = read_lines (record { before = b; policy = p }) n (lines (drop at t))

  module _ (h : length t ≤ at) where
    pub ends : b ≡ Some End → (m : Numbers) → LookedAt t at n b (record { at = at; end = at; line = n; ahead = None; numbers = m })
    unfolding read_lines ending left
    ends e m =
        record {
          place = refl;
          left = λ p. rw (no_line t at h, e);
          stands = λ j q. absurd (none-some j q);
          order = λ j q. absurd (none-some j q);
          over = λ q. e;
        }

    pub ends-early : given b false (is_kind End) ≡ false → (p : Policy) → rest p ≡ Refused (number_of EndMissing) n
    unfolding read_lines ending
    ends-early e p = rw (no_line t at h, e)

open_refusal : (b : Option Kind) (p : Policy) (k : Option Kind) (fs : List (List ℕ)) → refusal_of b p false k fs ≡ Some 2
unfolding refusal_of checks_for checks_of first_broken
open_refusal b p None fs = refl
open_refusal b p (Some k) fs = refl

-- ---- a line

-- one that breaks none of 2 to 4
taken-refusal : (b : Option Kind) (p : Policy) (k : Kind) (fs : List (List ℕ)) → allowed b k ≡ true → count_fits (layout_of k) (length fs) ≡ true
    → refusal_of b p true (Some k) fs ≡ refusal_at p k fs
unfolding refusal_of checks_for checks_of refusal_at first_broken
taken-refusal b p k fs a c = rw (a, c)

module _ (t : List ℕ) (at n : ℕ) (b : Option Kind) (e : ℕ) (f : Found t at line_feed e) where
  pub looked_open : e ≡ length t → (at ≡ length t → ⊥) → at ≤ length t → (p : Policy) → rest t at n b p ≡ Refused (number_of LineFeedMissing) n
  unfolding read_lines
  looked_open h d g p = rw (open_line t at e f h (omega (arith, d, g)), open_refusal b p (kind_of (drop at t)) (fields (drop at t)))

  module _ (h : e ≡ length t → ⊥) (x : Result Head Refusal) (i : x ≡ parsed_as b (kind_of (between t at e)) (fields (between t at e))) where
    pub looked_fault : (r : Refusal) → x ≡ Err r → (p : Policy) → rest t at n b p ≡ Refused (number_of r) n
    unfolding read_lines
    looked_fault r j p = rw (next-line t at e f h, head-fault b (fields (between t at e)) (kind_of (between t at e)) p r (sym i ∙ j))

    pub looked_line : (m : Head) → x ≡ Ok m → n ≤ at → LookedAt t at n b (record { at = at; end = e; line = n; ahead = Some m.kind; numbers = m.numbers })
    unfolding read_lines left after
    looked_line m j g =
        let k = m.kind in
        let fs = fields (between t at e) in
        let z = head-known b fs (kind_of (between t at e)) m (sym i ∙ j) in
        record {
          place = refl;
          left = λ p. rw (next-line t at e f h, z.is, taken-refusal b p k fs z.order z.count, add-one n);
          stands = λ o q.
              rw (← line-kind k o q)
              (record {
                from = f.low;
                inside = omega (arith, f.high, h);
                few = g;
                count = z.count;
                form = z.form;
                numbers = z.numbers;
              });
          order = λ o q. rw (← line-kind k o q) z.order;
          over = λ q. absurd (none-some k (sym q));
        }

-- ---- the start of a text

-- no line stands before line 0, which is the policy line
first-kind : (a : Option Kind) → ((k : Kind) → a ≡ Some k → allowed None k ≡ true) → (a ≡ None → None ≡ Some End) → a ≡ Some PolicyKind
unfolding allowed
first-kind None f g = absurd (none-some End (g refl))
first-kind (Some k) f g = ap Some (sym (same_kind PolicyKind k (f k refl)))

module _ (t : List ℕ) (h : length t ≤ text_bytes) where
  pub first-looked : (c : Cursor) → LookedAt t 0 0 None c → FirstOf t c
  unfolding read_text
  first-looked c l = record { left = rw (le-ltb text_bytes (length t) h) (l.left blank); stands = l.stands; kind = first-kind c.ahead l.order l.over }

  pub first-refused : (e : Rejection) → ((p : Policy) → rest t 0 0 None p ≡ refused_as e) → read_text t ≡ refused_as e
  unfolding read_text
  first-refused e l = rw (le-ltb text_bytes (length t) h) (l blank)

-- ---- the next line

pub next-looked : (t : List ℕ) (c : Cursor) (k : Kind) (d : Cursor) → LookedAt t (c.end + 1) (c.line + 1) (Some k) d → NextOf t c k d
next-looked t c k d l =
    record { place = l.place; left = l.left; stands = l.stands; order = l.order }

-- no kind before it may follow
pub next_past : (t : List ℕ) (c : Cursor) (k : Kind) (d : Cursor) → NextOf t c k d → Past (place_of k) d
next_past t c k d n j q = omega (arith, (allowed-order (Some k) j (n.order j q)).high)

pub next-less : (t : List ℕ) (c : Cursor) (k : Kind) (d : Cursor) → c.ahead ≡ Some k → Stands t c → NextOf t c k d → length t - d.at < length t - c.at
next-less t c k d e s n = let l = s k e in omega (arith, n.place, l.from, l.inside)

-- ---- the line at the cursor

over-left : (t : List ℕ) (d : Cursor) (p : Policy) → d.ahead ≡ None → left t d p ≡ Accepted p
unfolding left
over-left t d p e = rw e

module _ (t : List ℕ) (c : Cursor) where
  -- what is left behind the line at the cursor, where that is taken
  pub left-behind : (k : Kind) → c.ahead ≡ Some k → (p : Policy) → refusal_at p k (fields_at t c) ≡ None
      → left t c p ≡ read_lines (record { before = Some k; policy = with_line_of (line_of k (fields_at t c)) p }) (c.line + 1) (lines (drop (c.end + 1) t))
  unfolding left
  left-behind k e p f = rw (e, f)

  pub left-taken : (k : Kind) (d : Cursor) → c.ahead ≡ Some k → NextOf t c k d → (p : Policy) → refusal_at p k (fields_at t c) ≡ None
      → left t c p ≡ left t d (with_line_of (line_of k (fields_at t c)) p)
  left-taken k d e n p f = left-behind k e p f ∙ n.left (with_line_of (line_of k (fields_at t c)) p)

  -- or it is refused
  pub left-refused : (k : Kind) (r : Refusal) → c.ahead ≡ Some k → (p : Policy) → refusal_at p k (fields_at t c) ≡ Some (number_of r)
      → left t c p ≡ Refused (number_of r) c.line
  unfolding left
  left-refused k r e p f = rw (e, f)

  end-taken : LineAt t c End → (p : Policy) → refusal_at p End (fields_at t c) ≡ None
  unfolding refusal_at form_fits numbers_fit in_range rises words_of balances first_broken all
  end-taken l p = rw l.form

  -- nothing may stand behind the end line
  no-more : (d : Cursor) → NextOf t c End d → (a : Option Kind) → d.ahead ≡ a → a ≡ None
  no-more d n None q = refl
  no-more d n (Some k) q = absurd (omega (arith, (allowed-order (Some End) k (n.order k q)).high))

  module _ (s : Stands t c) (e : c.ahead ≡ Some End) (p : Policy) where
    end-behind : left t c p ≡ read_lines (record { before = Some End; policy = p }) (c.line + 1) (lines (drop (c.end + 1) t))
    unfolding extended
    end-behind = left-behind End e p (end-taken (s End e) p)

    pub end-passed : (d : Cursor) → NextOf t c End d → left t c p ≡ Accepted p
    end-passed d n = end-behind ∙ n.left p ∙ over-left t d p (no-more d n d.ahead refl)

    pub end-refused : (r : Rejection)
        → ((q : Policy) → read_lines (record { before = Some End; policy = q }) (c.line + 1) (lines (drop (c.end + 1) t)) ≡ refused_as r) → left t c p ≡ refused_as r
    end-refused r n = end-behind ∙ n p

  no-line : (a : Option Kind) → ahead_is a End ≡ false → ((k : Kind) → a ≡ Some k → place_of End ≤ place_of k) → a ≡ None
  no-line None e h = refl
  no-line (Some k) e h = absurd (omega (arith, place-lt k, ahead_not (Some k) End k e refl (h k refl)))

  pub end-away : ahead_is c.ahead End ≡ false → Past (place_of End) c → (p : Policy) → left t c p ≡ Accepted p
  end-away e h p = over-left t c p (no-line c.ahead e h)

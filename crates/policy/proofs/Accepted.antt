-- An accepted text is the text of the policy that it yields, and that policy is sound: its lines are those of the
-- policy so far, and the next.
use Rattle.std.specs.Prelude.{Option, None, Some}
use Prim.Native.Nat.{ℕ, suc, ◌≤◌}
use mathlib.Core.Path.{◌≡◌, refl, sym, ap, ap₂, ◌∙◌, subst}
use mathlib.Core.Bool.{Bool, true, false}
use mathlib.Core.List.{List, [], ◌∷◌, ◌++◌, map, append-nil, map-append}
use native.Mathlib.Omega.{arith}
use lib.Dec.{ltb}
use lib.Seq.{append_snoc}
use lib.ListN.{length, drop}
use borrow.Author.Tests.{eqb-true}
use Rattle.basis.specs.Lists.{all}
use Rattle.text.specs.Parts.{TextLine, comma, fields, join, lines}
use Rattle.text.specs.Kind.{layout_of, place_of, is_kind, named}
use Rattle.text.specs.declared.kind.Kind.{Kind}
use Rattle.text.specs.declared.kind.Kind.TheVariants.{End}
use Rattle.text.proofs.Split.{split-pos}
use Rattle.text.proofs.RoundTrip.{join-split, word_named}
use Rattle.policy.specs.Limits.{text_bytes}
use Rattle.policy.specs.Policy.{Policy}
use Rattle.policy.specs.Line.{Line, count_fits, form_fits, field_at, line_of}
use Rattle.policy.specs.Read.{Accepted, Refused, kind_of, State, start, after, line_refusal, line_after, ending, read_lines, read_text}
use Rattle.policy.specs.Text.{lines_of, fields_of, line_text}
use Rattle.policy.specs.Inner.Sound.{sound}
use Rattle.policy.proofs.Passed.{Passed, taken}
use Rattle.policy.proofs.Reading.{Reading, reading-start, reading-next, reading-sound, none-later}
use Rattle.policy.proofs.Fields.{later-fields}
use Rattle.policy.proofs.SoFar.{so_far, so_far-all, so_far_more}

-- ---- a line of the text

head-fields : (fs : List (List ℕ)) → 1 ≤ length fs → fs ≡ field_at fs 0 ∷ drop 1 fs
head-fields [] h = absurd (omega arith)
head-fields (f ∷ fs) h = refl

-- an accepted line is written as its fields, and so as its bytes
fields-line : (k : Kind) (fs : List (List ℕ)) → 1 ≤ length fs → named (field_at fs 0) ≡ Some k
    → count_fits (layout_of k) (length fs) ≡ true → form_fits (layout_of k) fs ≡ true → fields_of (line_of k fs) ≡ fs
fields-line k fs h n c f =
    sym (head-fields fs h ∙ ap₂ (λ (w : List ℕ) (ws : List (List ℕ)). w ∷ ws) (word_named (field_at fs 0) k n) (later-fields (layout_of k) fs c f))

line-text : (k : Kind) (e : Bool) (l : List ℕ) (b : Option Kind) (p : Policy) → kind_of l ≡ Some k → Passed b p e k (fields l)
    → line_text (line_of k (fields l)) ≡ l
unfolding line_text
line-text k e l b p n c = ap (join comma) (fields-line k (fields l) (split-pos comma l) n c.count c.form) ∙ join-split comma l

unfoldable pub texts : List Line → List (List ℕ)
texts ls = map line_text ls

next-texts : (s : State) (l : TextLine) → Reading s → line_refusal s l ≡ None
    → texts (so_far (line_after s l).before (line_after s l).policy) ≡ texts (so_far s.before s.policy) ++ (l.bytes ∷ [])
unfolding texts after
next-texts s l r e =
    let t = taken s l e in
    let k = t.kind in
    let fs = fields l.bytes in
    let c = t.checks in
    rw t.named
    (ap texts (so_far_more k fs s.before s.policy (none-later k s r c.order) c.order)
    ∙ map-append line_text (so_far s.before s.policy) (line_of k fs ∷ [])
    ∙ rw (line-text k l.ended l.bytes s.before s.policy t.named c))

-- ---- the lines of the text

-- lines read from a state on: with those before they are the lines of the policy, each is ended, and the policy is
-- sound
pub record Reads (s : State) (ls : List TextLine) (q : Policy) : Type 0 where
  pub lines_are : texts (so_far s.before s.policy) ++ map (λ l. l.bytes) ls ≡ texts (lines_of q)
  pub ended-all : all (λ l. l.ended) ls ≡ true
  pub sound-is : sound q ≡ true

never : {A : Type 0} (n m : ℕ) (q : Policy) → Refused n m ≡ Accepted q → A
never n m q e = let z : ◌≡◌ {A = ℕ} 0 1 = cc in absurd (omega arith)

ended : (b : Option Kind) (p : Policy) (n : ℕ) (q : Policy) → Reading (record { before = b; policy = p })
    → ending (record { before = b; policy = p }) n ≡ Accepted q → Reads (record { before = b; policy = p }) [] q
unfolding ending all
ended None p n q r e = never 10 n q e
ended (Some k) p n q r e = go (is_kind End k) refl
  where
    go : (t : Bool) → is_kind End k ≡ t → Reads (record { before = Some k; policy = p }) [] q
    go false h = never 10 n q (rw h at e)
    go true h =
        let f : p ≡ q = cc (rw h at e) in
        subst (λ (x : Policy). Reads (record { before = Some k; policy = p }) [] x) f
        (record {
          lines_are = append-nil (texts (so_far (Some k) p)) ∙ ap texts (so_far-all k p h);
          ended-all = refl;
          sound-is = reading-sound (record { before = Some k; policy = p }) r (omega (arith, eqb-true (place_of End) (place_of k) h));
        })

reads : (ls : List TextLine) (n : ℕ) (s : State) (q : Policy) → Reading s → read_lines s n ls ≡ Accepted q → Reads s ls q
unfolding read_lines all
reads [] n s q r e = ended s.before s.policy n q r e
reads (l ∷ ls) n s q r e = go (line_refusal s l) refl (reads ls (suc n) (line_after s l) q)
  where
    go : (x : Option ℕ) → line_refusal s l ≡ x → (Reading (line_after s l) → read_lines (line_after s l) (suc n) ls ≡ Accepted q → Reads (line_after s l) ls q)
        → Reads s (l ∷ ls) q
    go (Some m) h ih = never m n q (rw h at e)
    go None h ih =
        let t = ih (reading-next s l r h) (rw h at e) in
        record {
          lines_are =
              sym (append_snoc (texts (so_far s.before s.policy)) l.bytes (map (λ l. l.bytes) ls))
              ∙ ap (λ (a : List (List ℕ)). a ++ map (λ l. l.bytes) ls) (sym (next-texts s l r h)) ∙ t.lines_are;
          ended-all = rw (taken s l h).checks.ends t.ended-all;
          sound-is = t.sound-is;
        }

pub text-reads : (t : List ℕ) (p : Policy) → read_text t ≡ Accepted p → Reads start (lines t) p
unfolding read_text
text-reads t p e = go (ltb text_bytes (length t)) refl
  where
    go : (b : Bool) → ltb text_bytes (length t) ≡ b → Reads start (lines t) p
    go true h = never 1 0 p (rw h at e)
    go false h = reads (lines t) 0 start p reading-start (rw h at e)

-- The lines of one kind, read one after the other: none yet, one more, one that is refused, and the end of them.
use Rattle.std.specs.Prelude.{None, Some, Result, Ok, Err}
use Prim.Native.Nat.{ℕ, suc, ◌+◌}
use mathlib.Core.Path.{◌≡◌, refl, sym, ap, ◌∙◌}
use mathlib.Core.Bool.{Bool, true, false, not}
use mathlib.Core.List.{List, [], ◌∷◌, ◌++◌}
use Rattle.basis.specs.Choice.{Check, check, first_broken}
use Rattle.basis.specs.Lists.{all}
use Rattle.text.specs.Kind.{layout_of, place_of}
use Rattle.text.specs.declared.kind.Kind.{Kind}
use Rattle.text.specs.declared.kind.Layout.TheVariants.{One, Two, Three}
use Rattle.policy.specs.Answers.{number_of}
use Rattle.policy.specs.Checks.{sizes, in_range, rises, balances, with_line_of}
use Rattle.policy.specs.Line.{numbers_of, words_of, line_of}
use Rattle.policy.specs.Policy.{Policy, blank}
use Rattle.policy.specs.Read.{read_lines}
use Rattle.policy.specs.declared.value.Rejection.{Rejection}
use Rattle.text.specs.Parts.{lines}
use lib.ListN.{drop}
use Rattle.policy.specs.declared.refusal.Refusal.{Refusal}
use Rattle.line.specs.Inner.Head.{numbers_fit}
use Rattle.line.specs.Inner.Rule.{number_in}
use Rattle.reader.specs.Inner.Cursor.{fields_at, refusal_at, left, refused_as, LineAt, Stands, Reads, NextOf, ahead_is}
use Rattle.reader.specs.Inner.Lists.{Listed, ReadBy, RefusedBy, Wordless, Test, room_checks, TestedBy, TestedLines, TestedRefused, tested_by}
use Rattle.reader.specs.declared.cursor.Cursor.{Cursor}
use Rattle.reader.proofs.Cursors.{ahead_not, next_past, left-behind, left-taken, left-refused}

-- ---- a line without words

pub one-wordless : Wordless One
unfolding numbers_fit words_of balances
one-wordless = record { form = λ fs. refl; words = λ fs. refl; balance = refl }

pub two-wordless : Wordless Two
unfolding numbers_fit words_of balances
two-wordless = record { form = λ fs. refl; words = λ fs. refl; balance = refl }

pub three-wordless : Wordless Three
unfolding numbers_fit words_of balances
three-wordless = record { form = λ fs. refl; words = λ fs. refl; balance = refl }

-- only 6, 7 and those of room can be broken
pub plain-refusal : (t : List ℕ) (c : Cursor) (k : Kind) → LineAt t c k → (p : Policy) (i r : Bool) → Wordless (layout_of k)
    → in_range k p.form (sizes p) c.numbers [] ≡ i → rises k p c.numbers ≡ r
    → refusal_at p k (fields_at t c) ≡ first_broken (check 6 (not i) ∷ check 7 (not r) ∷ room_checks k p)
unfolding refusal_at first_broken all
plain-refusal t c k l p i r w e f = rw (w.form (fields_at t c), l.form, w.words (fields_at t c), w.balance, ← l.numbers, e, f) refl

-- the first of them, where f is that of room
faults_first : (i r : Bool) (cs : List Check) (f : Result (Unit {0}) Refusal) → first_broken cs ≡ number_in f
    → first_broken (check 6 (not i) ∷ check 7 (not r) ∷ cs) ≡ number_in (tested_by i r f)
unfolding first_broken
faults_first false r cs f e = refl
faults_first true false cs f e = refl
faults_first true true cs f e = e

-- ---- the lines

module _ (t : List ℕ) (k : Kind) {A : Type 0} (Fits : Listed k A → Policy → Type 0) where
  pub none_read : (c : Cursor) → Stands t c → ReadBy t k Fits (place_of k) c c []
  none_read c s =
      record {
        stands = s;
        past = λ h. h;
        left = λ x p f e. ap (left t c) (sym (x.same p) ∙ ap (λ (xs : List A). x.with xs p) e);
      }

  module _ {c d : Cursor} {xs : List A} (i : ReadBy t k Fits (place_of k) c d xs) where
    pub all_read : ahead_is d.ahead k ≡ false → ReadBy t k Fits (suc (place_of k)) c d xs
    all_read e = record { stands = i.stands; past = λ h j q. ahead_not d.ahead k j e q (i.past h j q); left = i.left }

    module _ (e : d.ahead ≡ Some k) where
      -- the line at d is taken, and says a
      module _ (a : A)
          (f : (x : Listed k A) (p : Policy) → Fits x p → x.items p ≡ []
          → (refusal_at (x.with xs p) k (fields_at t d) ≡ None) × (x.said (numbers_of (layout_of k) (fields_at t d)) (words_of (layout_of k) (fields_at t d)) ≡ a)) where
        with-it : (x : Listed k A) (p : Policy) → Fits x p → x.items p ≡ [] → with_line_of (line_of k (fields_at t d)) (x.with xs p) ≡ x.with (xs ++ (a ∷ [])) p
        with-it x p g z =
            let l = line_of k (fields_at t d) in
            x.extends (x.with xs p) l.numbers l.words ∙ rw (x.got xs p, (f x p g z).1) (x.again xs (xs ++ (a ∷ [])) p)

        pub one-read : (b : Cursor) → NextOf t d k b → ReadBy t k Fits (place_of k) c b (xs ++ (a ∷ []))
        one-read b n =
            record {
              stands = n.stands;
              past = λ h. next_past t d k b n;
              left = λ x p g z.
                  i.left x p g z ∙ left-taken t d k b e n (x.with xs p) (f x p g z).0 ∙ ap (left t b) (with-it x p g z);
            }

        -- and what stands behind it is refused
        pub next-refused : (r : Rejection)
            → ((p : Policy) → read_lines (record { before = Some k; policy = p }) (d.line + 1) (lines (drop (d.end + 1) t)) ≡ refused_as r) → RefusedBy t k Fits c r
        next-refused r n x p g z = i.left x p g z ∙ left-behind t d k e (x.with xs p) (f x p g z).0 ∙ n (with_line_of (line_of k (fields_at t d)) (x.with xs p))

      -- or it is refused
      pub refused-read : (r : Refusal)
          → ((x : Listed k A) (p : Policy) → Fits x p → x.items p ≡ [] → refusal_at (x.with xs p) k (fields_at t d) ≡ Some (number_of r))
          → RefusedBy t k Fits c (record { refusal = r; line = d.line })
      refused-read r f x p g z = i.left x p g z ∙ left-refused t d k r e (x.with xs p) (f x p g z)

-- ---- lines that are tested

module _ {t : List ℕ} {k : Kind} {A : Type 0} {z : Test A} {c d : Cursor} {xs : List A} (l : TestedLines t k z (place_of k) c d xs) where
  -- what the line ahead says
  abbrev next : A
  next = z.says d.numbers

  abbrev tested : Result (Unit {0}) Refusal
  tested = tested_by (z.fits xs next) (z.rises xs next) (z.room xs)

  module _ (q : d.ahead ≡ Some k) where
    tested-refusal : (x : Listed k A) (p : Policy) → TestedBy k z x p → refusal_at (x.with xs p) k (fields_at t d) ≡ number_in tested
    tested-refusal x p f =
        plain-refusal t d k (l.stands k q) (x.with xs p) (z.fits xs next) (z.rises xs next) f.layout (f.range xs d.numbers) (f.rise xs d.numbers)
        ∙ faults_first (z.fits xs next) (z.rises xs next) (room_checks k (x.with xs p)) (z.room xs) (f.space xs)

    -- a line that breaks nothing is taken
    module _ (u : Unit {0}) (e : tested ≡ Ok u) where
      said-it : (x : Listed k A) (p : Policy) → TestedBy k z x p → x.items p ≡ []
          → (refusal_at (x.with xs p) k (fields_at t d) ≡ None) × (x.said (numbers_of (layout_of k) (fields_at t d)) (words_of (layout_of k) (fields_at t d)) ≡ next)
      said-it x p f v = (tested-refusal x p f ∙ ap number_in e, f.said _ _ ∙ ap z.says (sym (l.stands k q).numbers))

      pub tested-more : (b : Cursor) → NextOf t d k b → TestedLines t k z (place_of k) c b (xs ++ (next ∷ []))
      tested-more b i = one-read t k (TestedBy k z) l q next said-it b i

      pub tested-next : (r : Rejection)
          → ((p : Policy) → read_lines (record { before = Some k; policy = p }) (d.line + 1) (lines (drop (d.end + 1) t)) ≡ refused_as r) → TestedRefused t k z c r
      tested-next r n = next-refused t k (TestedBy k z) l q next said-it r n

    -- and another refused
    pub tested-out : (r : Refusal) → tested ≡ Err r → TestedRefused t k z c (record { refusal = r; line = d.line })
    tested-out r e = refused-read t k (TestedBy k z) l q r (λ x p f v. tested-refusal x p f ∙ ap number_in e)

-- ---- one list behind others

module _ {t : List ℕ} {c d : Cursor} {k : Kind} {A : Type 0} {Fits : Listed k A → Policy → Type 0} {p : Policy} (r : Reads t c (place_of k) d p) where
  pub then : {e : Cursor} {xs : List A} → ReadBy t k Fits (suc (place_of k)) d e xs → (x : Listed k A) → Fits x p → x.items p ≡ []
      → Reads t c (suc (place_of k)) e (x.with xs p)
  then l x f z = record { stands = l.stands; past = l.past r.past; left = r.left ∙ l.left x p f z }

  pub then-refused : (e : Rejection) → RefusedBy t k Fits d e → (x : Listed k A) → Fits x p → x.items p ≡ [] → left t c blank ≡ refused_as e
  then-refused e l x f z = r.left ∙ l x p f z

-- The lines of one kind whose elements rise, one after the other.
use Rattle.std.specs.Prelude.{Option, None, Some, Result, Ok}
use Rattle.std.specs.List.{slice_get}
use Prim.Native.Nat.{ℕ, suc, ◌+◌, ◌-◌, ◌≤◌, ◌<◌}
use mathlib.Core.Path.{◌≡◌, refl, sym, ap, ◌∙◌}
use mathlib.Core.Bool.{Bool, true, false}
use mathlib.Core.List.{List, [], ◌∷◌, ◌++◌, append_assoc}
use native.Mathlib.Omega.{arith}
use borrow.Author.Tests.{lt-ltb, le-ltb, ltb-true}
use lib.Dec.{ltb}
use native.Mathlib.Numerals.{add-one}
use lib.ListN.{length, get_or, set, take, drop, length-replicate}
use native.Mathlib.Nat.{sub-zero}
use Rattle.std.proofs.lemmas.List.{drop-replicate}
use lib.Seq.{drop-cons, set-append_seam, take-append_seam}
use Rattle.basis.specs.Choice.{given}
use Rattle.basis.specs.Lists.{last, padded}
use Rattle.basis.proofs.Snoc.{length-snoc}
use Rattle.text.specs.Kind.{place_of}
use Rattle.text.specs.Parts.{lines}
use Rattle.text.specs.declared.kind.Kind.{Kind}
use Rattle.text.specs.declared.number.Numbers.{Numbers}
use Rattle.policy.specs.Inner.Sound.{rising, number_in, number_above}
use Rattle.policy.specs.Policy.{Policy}
use Rattle.policy.specs.Read.{read_lines}
use Rattle.policy.specs.declared.refusal.Refusal.{Refusal}
use Rattle.policy.specs.declared.refusal.Refusal.TheVariants.{OutOfRange, NotRising}
use Rattle.policy.specs.declared.value.Rejection.{Rejection}
use Rattle.basis.proofs.Bools.{and_left}
use Rattle.policy.specs.Checks.{entry_fits}
use Rattle.policy.specs.declared.value.Entry.{Entry}
use Rattle.policy.proofs.Rising.{rising-more, rising-few}
use Rattle.reader.specs.Inner.Cursor.{refused_as, Stands, NextOf, ahead_is}
use Rattle.reader.specs.Inner.Lists.{TestedBy, TestedLines, TestedRefused, rising_test, room_by, tested_by}
use Rattle.reader.specs.Inner.Rising.{Roomy, RisingFrom}
use Rattle.reader.specs.declared.cursor.Cursor.{Cursor}
use Rattle.reader.proofs.Runs.{none_read, all_read, tested-more, tested-next, tested-out}

stored-more : {A : Type 0} (xs : List A) (x : A) (n : ℕ) (old new : List A) → n ≡ length xs → new ≡ xs ++ drop n old → n < length old
    → set new n x ≡ (xs ++ (x ∷ [])) ++ drop (n + 1) old
stored-more xs x n old new e f g =
    let h : new ≡ xs ++ (get_or old n x ∷ drop (suc n) old) = f ∙ ap (λ ys. xs ++ ys) (drop-cons old n x g) in
    rw (h, e, add-one (length xs))
    (set-append_seam xs (get_or old (length xs) x) (drop (suc (length xs)) old) x ∙ sym (append_assoc xs (x ∷ []) (drop (suc (length xs)) old)))

-- the last element stands before the length
last-got : {A : Type 0} (xs : List A) → slice_get xs (length xs - 1) ≡ last xs
unfolding last
last-got [] = refl
last-got (x ∷ []) = refl
last-got (x ∷ (y ∷ ys)) =
    let n = length ys in
    let e : suc (suc n) - 1 ≡ suc n = omega arith in
    let f : suc n - 1 ≡ n = omega arith in
    let h : slice_get (y ∷ ys) n ≡ last (y ∷ ys) = rw f at (last-got (y ∷ ys)) in
    rw e h

-- a test of the same element
tested-same : {A : Type 0} (f : A → Bool) (x y : A) → x ≡ y → (r b : Bool) → r ≡ f x → r ≡ b → f y ≡ b
tested-same f x y u r b e g = ap f (sym u) ∙ sym e ∙ g

module _ {A : Type 0} (says : Numbers → A) (fits : A → Bool) (above : A → A → Bool) (room : List A → Result (Unit {0}) Refusal) where
  -- n elements are read, and stand in the first places of a list
  pub record Held (t : List ℕ) (k : Kind) (c : Cursor) (old new : List A) (n : ℕ) (d : Cursor) : Type 0 where
    pub items : List A
    pub count : n ≡ length items
    pub within : n ≤ length old
    pub stored : new ≡ items ++ drop n old
    pub sound : rising fits above None items ≡ true
    pub lines : TestedLines t k (rising_test says fits above room) (place_of k) c d items

  pub none-held : (t : List ℕ) (k : Kind) (c : Cursor) (old : List A) → Stands t c → Held t k c old old 0 c
  unfolding rising
  none-held t k c old s =
      record {
        items = [];
        count = refl;
        within = omega arith;
        stored = refl;
        sound = refl;
        lines = none_read t k (TestedBy k (rising_test says fits above room)) c s;
      }

  module _ {t : List ℕ} {k : Kind} {c : Cursor} {old new : List A} {n : ℕ} {d : Cursor} (h : Held t k c old new n d) where
    pub held-read : ahead_is d.ahead k ≡ false → RisingFrom t k (rising_test says fits above room) c old new n d
    held-read e = record { items = h.items; count = h.count; stored = h.stored; lines = all_read t k (TestedBy k (rising_test says fits above room)) h.lines e }

    abbrev here : A
    here = says d.numbers

    read-part : take n new ≡ h.items
    read-part = rw (h.stored, h.count) (take-append_seam h.items (drop (length h.items) old))

    -- whether x rises above those read
    pub held-rises : (x : A) → x ≡ here → (o : Option A) → o ≡ slice_get (take n new) (length (take n new) - 1) → (r b : Bool)
        → r ≡ given o true (λ b. above b x) → r ≡ b → given (last h.items) true (λ b. above b here) ≡ b
    held-rises x u o v r b e g =
        let w : o ≡ last h.items = v ∙ ap (λ (xs : List A). slice_get xs (length xs - 1)) read-part ∙ last-got h.items in
        rw (← w, ← u) (sym e ∙ g)

    pub held-fits : (x : A) → x ≡ here → (r b : Bool) → r ≡ fits x → r ≡ b → fits here ≡ b
    held-fits x u = tested-same fits x here u

    module _ (q : d.ahead ≡ Some k) where
      pub held-out : fits here ≡ false → TestedRefused t k (rising_test says fits above room) c (record { refusal = OutOfRange; line = d.line })
      held-out e = tested-out h.lines q OutOfRange (rw e)

      module _ (e : fits here ≡ true) where
        pub held-level : given (last h.items) true (λ b. above b here) ≡ false → TestedRefused t k (rising_test says fits above room) c (record { refusal = NotRising; line = d.line })
        held-level f = tested-out h.lines q NotRising (rw (e, f))

        module _ (f : given (last h.items) true (λ b. above b here) ≡ true) (full : Refusal) (y : Roomy fits above (length old) full room) where
          more-sound : rising fits above None (h.items ++ (here ∷ [])) ≡ true
          more-sound = rising-more fits above h.items here h.sound e f

          pub held-full : n ≡ length old → TestedRefused t k (rising_test says fits above room) c (record { refusal = full; line = d.line })
          held-full g = tested-out h.lines q full (rw (e, f, y h.items here more-sound, le-ltb (length h.items) (length old) (omega (arith, g, h.count))))

          module _ (g : n < length old) where
            taken : tested_by (fits here) (given (last h.items) true (λ b. above b here)) (room h.items) ≡ Ok tt
            taken = rw (e, f, y h.items here more-sound, lt-ltb (length h.items) (length old) (omega (arith, g, h.count)))

            pub held-more : (b : Cursor) → NextOf t d k b → (x : A) → x ≡ here → Held t k c old (set new n x) (n + 1) b
            held-more b i x u = rw u (
                record {
                  items = h.items ++ (here ∷ []);
                  count = rw (length-snoc h.items here, h.count);
                  within = omega (arith, g);
                  stored = stored-more h.items here n old new h.count h.stored g;
                  sound = more-sound;
                  lines = tested-more h.lines q tt taken b i;
                })

            pub held-next : (r : Rejection) → ((p : Policy) → read_lines (record { before = Some k; policy = p }) (d.line + 1) (lines (drop (d.end + 1) t)) ≡ refused_as r)
                → TestedRefused t k (rising_test says fits above room) c r
            held-next r i = tested-next h.lines q tt taken r i

  -- where the list is roomy
  pub record Reading (full : Refusal) (t : List ℕ) (k : Kind) (c : Cursor) (old new : List A) (n : ℕ) (d : Cursor) : Type 0 where
    pub stands : Stands t d
    pub within : n ≤ length old
    pub held : Roomy fits above (length old) full room → Held t k c old new n d

-- ---- the lists

-- an array that was blank begins with the elements read
pub from-blank : {A : Type 0} (places : ℕ) (blank : A) (old new xs : List A) (n : ℕ) → old ≡ padded places blank [] → n ≡ length xs → new ≡ xs ++ drop n old
    → new ≡ padded places blank xs
unfolding padded
from-blank places blank old new xs n e f g = g ∙ rw (e, f, sub-zero places, drop-replicate (length xs) places blank) refl

pub blank-places : {A : Type 0} (places : ℕ) (blank : A) (old : List A) → old ≡ padded places blank [] → length old ≡ places
unfolding padded
blank-places places blank old e = rw (e, length-replicate (places - 0) blank) (sub-zero places)

-- a list with a limit has room up to it
pub limited-roomy : {A : Type 0} (fits : A → Bool) (above : A → A → Bool) (most places : ℕ) (full : Refusal) → places ≡ most
    → Roomy fits above places full (λ xs. room_by (ltb (length xs) most) full)
limited-roomy fits above most places full e xs x h = rw e refl

-- and one that its order keeps short has room
pub short-roomy : {A : Type 0} (fits : A → Bool) (above : A → A → Bool) (places : ℕ) (full : Refusal)
    → ((xs : List A) → rising fits above None xs ≡ true → length xs ≤ places) → Roomy fits above places full (λ xs. Ok tt)
short-roomy fits above places full few xs x h = rw (lt-ltb (length xs) places (omega (arith, few (xs ++ (x ∷ [])) h, length-snoc xs x)))

pub entries-short : (most total : ℕ) (es : List Entry) → rising (number_in most total) number_above None es ≡ true → length es ≤ most
unfolding entry_fits
entries-short most total es h =
    rising-few (number_in most total) number_above (λ e. e.number) most (λ e f. ltb-true e.number most (and_left _ _ f)) (λ b e f a. ltb-true b.number e.number a) es h

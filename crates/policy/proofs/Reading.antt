-- What holds of a state while a text is read: the lists are sound, no line of a later kind was read, and what is due
-- was; each line keeps it.
use Rattle.std.specs.Prelude.{None, Some}
use Prim.Native.Nat.{ℕ, suc, ◌+◌, ◌≤◌, ◌<◌}
use mathlib.Core.Path.{◌≡◌, refl, ap, ◌∙◌, subst}
use mathlib.Core.Bool.{Bool, true}
use mathlib.Core.List.{List, [], ◌∷◌, ◌++◌}
use native.Mathlib.Omega.{arith}
use lib.Dec.{leb}
use lib.ListN.{length, drop, length-append, length-drop, length-map}
use borrow.Author.Tests.{leb-true}
use Rattle.basis.proofs.Bools.{and_right}
use Rattle.text.specs.Parts.{TextLine, fields}
use Rattle.text.specs.Kind.{layout_of, place_of}
use Rattle.text.specs.declared.kind.Kind.{Kind}
use Rattle.text.specs.declared.kind.Kind.TheVariants.{Policy as PolicyKind, Uattr, Oattr, Usen, Osen, User, Object, Conflict as ConflictKind, Rule as RuleKind, Pair as PairKind, End}
use Rattle.text.specs.declared.kind.Layout.{Layout}
use Rattle.text.specs.declared.kind.Layout.TheVariants.{Bare, One, Two, Three, Formula}
use Rattle.text.specs.declared.number.Numbers.{Numbers}
use Rattle.words.specs.Word.{parsed, word_in}
use Rattle.words.specs.declared.Word.{Word}
use Rattle.policy.specs.Limits.{is_form, most_words}
use Rattle.policy.specs.Policy.{Policy, blank}
use Rattle.policy.specs.Line.{allowed, count_fits, words_of, line_of}
use Rattle.policy.specs.Checks.{sizes, in_range, extended}
use Rattle.policy.specs.Read.{State, start, after, line_refusal, line_after}
use Rattle.policy.specs.Inner.Sound.{widths_sound, rising, side_sound, lists_sound, sound}
use Rattle.policy.proofs.Parts.{Parts, parts, lists-sound, is-sound}
use Rattle.policy.proofs.Order.{reached, required, May, allowed-order, cut, cut-more}
use Rattle.policy.proofs.Growth.{Fits, parts_more}
use Rattle.policy.proofs.Passed.{Passed, taken}

-- what is due where the kinds before place i were reached: a known form, and widths of each side
pub record DueOf (i f : ℕ) (us os : List ℕ) : Type 0 where
  pub form : place_of PolicyKind < i → is_form f ≡ true
  pub user : place_of Uattr < i → 1 ≤ length us
  pub object : place_of Oattr < i → 1 ≤ length os

abbrev pub Due : ℕ → Policy → Type 0
Due i p = DueOf i p.form p.user.widths p.object.widths

pub record Reading (s : State) : Type 0 where
  pub lists : lists_sound s.policy ≡ true
  pub later : cut (reached s.before) s.policy ≡ s.policy
  pub due : Due (reached s.before) s.policy

pub reading-start : Reading start
unfolding blank lists_sound side_sound widths_sound rising cut
reading-start =
    record {
      lists = refl;
      later = refl;
      due = record { form = λ h. absurd (omega (arith, h)); user = λ h. absurd (omega (arith, h)); object = λ h. absurd (omega (arith, h)) };
    }

-- ---- a line more

due-still : (i j : ℕ) (p : Policy) → required ≤ i → Due i p → Due j p
due-still i j p h d = record { form = λ g. d.form (omega arith); user = λ g. d.user (omega arith); object = λ g. d.object (omega arith) }

snoc_some : (ws : List ℕ) (w : ℕ) → 1 ≤ length (ws ++ (w ∷ []))
snoc_some ws w = omega (arith, length-append ws (w ∷ []))

due-more : (k : Kind) (i : ℕ) (n : Numbers) (ws : List Word) (p : Policy) → May i (place_of k) → in_range k p.form (sizes p) n ws ≡ true → Due i p
    → Due (suc (place_of k)) (extended k n ws p)
unfolding extended in_range
due-more PolicyKind i n ws p a f d =
    record { form = λ g. f; user = λ g. absurd (omega (arith, g)); object = λ g. absurd (omega (arith, g)) }
due-more Uattr i n ws p a f d =
    record { form = λ g. d.form (omega (arith, a.low)); user = λ g. snoc_some p.user.widths n.first; object = λ g. absurd (omega (arith, g)) }
due-more Oattr i n ws p a f d =
    record { form = λ g. d.form (omega (arith, a.low)); user = λ g. d.user (omega (arith, a.low)); object = λ g. snoc_some p.object.widths n.first }
due-more Usen i n ws p a f d = due-still i _ p a.low d
due-more Osen i n ws p a f d = due-still i _ p a.low d
due-more User i n ws p a f d = due-still i _ p a.low d
due-more Object i n ws p a f d = due-still i _ p a.low d
due-more ConflictKind i n ws p a f d = due-still i _ p a.low d
due-more RuleKind i n ws p a f d = due-still i _ p a.low d
due-more PairKind i n ws p a f d = due-still i _ p a.low d
due-more End i n ws p a f d = due-still i _ p a.low d

cut-extended : (k : Kind) (n : Numbers) (ws : List Word) (p : Policy) → cut (suc (place_of k)) (extended k n ws p) ≡ extended k n ws (cut (suc (place_of k)) p)
unfolding extended cut
cut-extended PolicyKind n ws p = refl
cut-extended Uattr n ws p = refl
cut-extended Oattr n ws p = refl
cut-extended Usen n ws p = refl
cut-extended Osen n ws p = refl
cut-extended User n ws p = refl
cut-extended Object n ws p = refl
cut-extended ConflictKind n ws p = refl
cut-extended RuleKind n ws p = refl
cut-extended PairKind n ws p = refl
cut-extended End n ws p = refl

module _ (k : Kind) (s : State) (r : Reading s) (a : allowed s.before k ≡ true) where
  -- no line of a kind after this one was read
  pub none-later : cut (suc (place_of k)) s.policy ≡ s.policy
  none-later = cut-more (reached s.before) (suc (place_of k)) s.policy (omega (arith, (allowed-order s.before k a).high)) r.later

  pub reading-more : (n : Numbers) (ws : List Word) → Fits k s.policy n ws → Reading (record { before = Some k; policy = extended k n ws s.policy })
  reading-more n ws f =
      record {
        lists = lists-sound (extended k n ws s.policy)
            (subst (λ (q : Policy). Parts q → Fits k q n ws → Parts (extended k n ws q)) none-later (parts_more k n ws s.policy) (parts s.policy r.lists) f);
        later = cut-extended k n ws s.policy ∙ ap (extended k n ws) none-later;
        due = due-more k (reached s.before) n ws s.policy (allowed-order s.before k a) f.range r.due;
      }

-- ---- the lines of a text

-- no line has more words than a formula may have
few_words : (x : Layout) (fs : List (List ℕ)) → count_fits x (length fs) ≡ true → length (words_of x fs) ≤ most_words
unfolding words_of count_fits
few_words Bare fs e = omega arith
few_words One fs e = omega arith
few_words Two fs e = omega arith
few_words Three fs e = omega arith
few_words Formula fs e =
    omega (arith, leb-true (length fs) (2 + most_words) (and_right (leb 3 (length fs)) _ e), length-map (drop 2 fs) (λ f. word_in (parsed f)), length-drop 2 fs)

-- checks 6 to 9, 21 and 22 of a line of a text
pub line-fits : (s : State) (e : Bool) (k : Kind) (fs : List (List ℕ)) → Passed s.before s.policy e k fs
    → let l = line_of k fs in Fits k s.policy l.numbers l.words
line-fits s e k fs c = record { range = c.range; rise = c.rise; conflict-room = c.conflict-room; pair-room = c.pair-room; equal = c.equal; balance = c.balance; few = few_words (layout_of k) fs c.count }

pub reading-kind : (s : State) (e : Bool) (k : Kind) (fs : List (List ℕ)) → Reading s → Passed s.before s.policy e k fs
    → Reading (after (Some k) fs s)
unfolding after
reading-kind s e k fs r c =
    let l = line_of k fs in
    reading-more k s r c.order l.numbers l.words (line-fits s e k fs c)

pub reading-next : (s : State) (l : TextLine) → Reading s → line_refusal s l ≡ None → Reading (line_after s l)
reading-next s l r e =
    let t = taken s l e in
    rw t.named (reading-kind s l.ended t.kind (fields l.bytes) r t.checks)

-- at the end all is due
pub reading-sound : (s : State) → Reading s → required ≤ reached s.before → sound s.policy ≡ true
reading-sound s r h =
    is-sound s.policy
    (record { form = r.due.form (omega arith); user = r.due.user (omega arith); object = r.due.object h; lists = r.lists })

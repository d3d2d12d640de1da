-- Why a text is accepted or refused, by induction over its lines.
use Rattle.std.specs.Prelude.{Option, None, Some}
use Prim.Native.Nat.{ℕ, suc, ◌+◌, ◌≤◌}
use mathlib.Core.Path.{◌≡◌, refl}
use mathlib.Core.Bool.{Bool, true, false, cond, ◌&&◌, ◌||◌}
use mathlib.Core.List.{List, [], ◌∷◌, ◌++◌}
use mathlib.Core.Logic.{◌⊎◌, inl, inr, ⊎_elim}
use native.Mathlib.Omega.{arith}
use borrow.Author.Tests.{ltb-true, ltb-false, leb-true}
use lib.Dec.{leb, ltb}
use lib.ListN.{length}
use Rattle.basis.specs.Choice.{given, Check}
use Rattle.basis.specs.Lists.{all}
use Rattle.basis.proofs.Bools.{and_left, and_right, or_cases}
use Rattle.text.specs.Parts.{TextLine, lines}
use Rattle.text.specs.declared.kind.Kind.{Kind}
use Rattle.policy.specs.Limits.{text_bytes}
use Rattle.policy.specs.Policy.{Policy}
use Rattle.policy.specs.Read.{Outcome, Accepted, Refused, State, start, kind_of, checks_of, checks_for, refusal_of, line_checks, line_refusal, line_after, ending, read_lines, read_text}
use Rattle.claims.specs.Answers.{Met}
use Rattle.claims.specs.Reading.{after_lines, passes, ends, Because}
use Rattle.claims.proofs.Answers.{met, met_all}

-- ---- a line

-- the numbers of a line's checks
abbrev of_line : Check → Bool
of_line c = (leb 2 c.number && leb c.number 9) || (leb 21 c.number && leb c.number 22)

numbers : (before : Option Kind) (p : Policy) (ended : Bool) (k : Option Kind) (fs : List (List ℕ)) → all of_line (checks_for before p ended k fs) ≡ true
unfolding all checks_for checks_of
numbers before p ended None fs = refl
numbers before p ended (Some k) fs = refl

line-number : (s : State) (l : TextLine) (n : ℕ) → Met (line_checks s l) n → ((2 ≤ n) × (n ≤ 9)) ⊎ ((21 ≤ n) × (n ≤ 22))
line-number s l n w =
    ⊎_elim (λ h. inl (leb-true 2 n (and_left _ _ h), leb-true n 9 (and_right (leb 2 n) _ h)))
    (λ h. inr (leb-true 21 n (and_left _ _ h), leb-true n 22 (and_right (leb 21 n) _ h)))
    (or_cases (leb 2 n && leb n 9) (leb 21 n && leb n 22) (met_all of_line (line_checks s l) n (numbers _ _ _ (kind_of l.bytes) _) w))

-- ---- the lines from a state on, of which the first is line m

record FaultyFrom (s : State) (m : ℕ) (ls : List TextLine) (n line : ℕ) : Type 0 where
  before : List TextLine
  at : TextLine
  behind : List TextLine
  parted : ls ≡ before ++ (at ∷ behind)
  place : m + length before ≡ line
  sound : passes s before ≡ true
  met : Met (line_checks (after_lines s before) at) n

record EndlessFrom (s : State) (m : ℕ) (ls : List TextLine) (n line : ℕ) : Type 0 where
  number : n ≡ 10
  count : line ≡ m + length ls
  sound : passes s ls ≡ true
  unended : ends (after_lines s ls) ≡ false

record WholeFrom (s : State) (ls : List TextLine) (p : Policy) : Type 0 where
  sound : passes s ls ≡ true
  ended : ends (after_lines s ls) ≡ true
  policy : (after_lines s ls).policy ≡ p

abbrev From : State → ℕ → List TextLine → Outcome → Type 0
From s m ls (Accepted p) = WholeFrom s ls p
From s m ls (Refused n line) = FaultyFrom s m ls n line ⊎ EndlessFrom s m ls n line

at-end : (s : State) (m : ℕ) → From s m [] (ending s m)
unfolding ending passes after_lines
at-end s m = go (ends s) refl
  where
    go : (b : Bool) → ends s ≡ b → From s m [] (cond b (Accepted s.policy) (Refused 10 m))
    go true e = record { sound = refl; ended = e; policy = refl }
    go false e = inr (record { number = refl; count = omega arith; sound = refl; unended = e })

-- a line that passes, in front of the others
behind-line : (s : State) (m : ℕ) (l : TextLine) (ls : List TextLine) (o : Outcome) → line_refusal s l ≡ None
    → From (line_after s l) (suc m) ls o → From s m (l ∷ ls) o
unfolding passes after_lines
behind-line s m l ls (Accepted p) e w = record { sound = rw e w.sound; ended = w.ended; policy = w.policy }
behind-line s m l ls (Refused n line) e (inl w) =
    inl (record {
      before = l ∷ w.before;
      at = w.at;
      behind = w.behind;
      parted = rw w.parted;
      place = omega (arith, w.place);
      sound = rw e w.sound;
      met = w.met;
    })
behind-line s m l ls (Refused n line) e (inr w) =
    inr (record { number = w.number; count = omega (arith, w.count); sound = rw e w.sound; unended = w.unended })

from : (ls : List TextLine) (s : State) (m : ℕ) → From s m ls (read_lines s m ls)
unfolding read_lines refusal_of passes after_lines
from [] s m = at-end s m
from (l ∷ ls) s m = go (line_refusal s l) refl (from ls (line_after s l) (suc m))
  where
    go : (r : Option ℕ) → line_refusal s l ≡ r → From (line_after s l) (suc m) ls (read_lines (line_after s l) (suc m) ls)
        → From s m (l ∷ ls) (given r (read_lines (line_after s l) (suc m) ls) (λ n. Refused n m))
    go None e w = behind-line s m l ls (read_lines (line_after s l) (suc m) ls) e w
    go (Some n) e w =
        inl (record {
          before = [];
          at = l;
          behind = ls;
          parted = refl;
          place = omega arith;
          sound = refl;
          met = met (line_checks s l) n e;
        })

-- ---- a text

of_lines : (t : List ℕ) (o : Outcome) → length t ≤ text_bytes → From start 0 (lines t) o → Because t o
of_lines t (Accepted p) h w = record { short = h; sound = w.sound; ended = w.ended; policy = w.policy }
of_lines t (Refused n line) h (inl w) =
    inr (inl (record {
      short = h;
      before = w.before;
      at = w.at;
      behind = w.behind;
      parted = w.parted;
      place = omega (arith, w.place);
      sound = w.sound;
      met = w.met;
      number = line-number (after_lines start w.before) w.at n w.met;
    }))
of_lines t (Refused n line) h (inr w) =
    inr (inr (record { short = h; number = w.number; count = omega (arith, w.count); sound = w.sound; unended = w.unended }))

pub because : (t : List ℕ) → Because t (read_text t)
unfolding read_text
because t = go (ltb text_bytes (length t)) refl
  where
    go : (b : Bool) → ltb text_bytes (length t) ≡ b → Because t (cond b (Refused 1 0) (read_lines start 0 (lines t)))
    go true e = inl (record { number = refl; first = refl; long = ltb-true text_bytes (length t) e })
    go false e = of_lines t (read_lines start 0 (lines t)) (ltb-false text_bytes (length t) e) (from (lines t) start 0)

-- The lines of the policy so far, while a text is read: each line that is taken adds itself at their end.
use Rattle.std.specs.Prelude.{Option, None, Some}
use Prim.Native.Nat.{ℕ, suc, ◌≤◌, ◌<◌}
use mathlib.Core.Path.{◌≡◌, refl, sym, ap, ◌∙◌, subst}
use mathlib.Core.Bool.{true, cond}
use mathlib.Core.List.{List, [], ◌∷◌, ◌++◌, map, append-nil}
use native.Mathlib.Omega.{arith}
use lib.Dec.{lit<}
use lib.ListN.{take, drop}
use borrow.Author.Tests.{ne_eqb}
use Rattle.seniority.specs.Seniority.{direct}
use Rattle.seniority.specs.declared.Direct.{Direct}
use Rattle.text.specs.Kind.{place_of, is_kind}
use Rattle.text.specs.declared.kind.Kind.{Kind}
use Rattle.text.specs.declared.kind.Kind.TheVariants.{Policy as PolicyKind, Uattr, Oattr, Usen, Osen, User, Object, Conflict as ConflictKind, Rule as RuleKind, Pair as PairKind, End}
use Rattle.policy.specs.Policy.{Rule, Policy}
use Rattle.policy.specs.Line.{Line, allowed, no_numbers, one_number, two_numbers, three_numbers, numbers_of, words_of, plain, rule_line, line_of}
use Rattle.policy.specs.Checks.{conflict_in, pair_in, extended, with_line_of}
use Rattle.policy.specs.Text.{flat, lines_of}
use Rattle.policy.specs.declared.value.Entry.{Entry}
use Rattle.policy.specs.declared.value.Conflict.{Conflict}
use Rattle.policy.specs.declared.value.Pair.{Pair}
use Rattle.policy.proofs.Order.{reached, allowed-order, cut}
use Rattle.policy.proofs.Groups.{flat-more, groups, open_lines, lines_from, lines-open}

unfoldable pub so_far : Option Kind → Policy → List Line
so_far None p = []
so_far (Some k) p = open_lines p ++ cond (is_kind End k) (lines_from End p) []

so_far-open : (b : Option Kind) (p : Policy) → place_of PolicyKind < reached b → reached b ≤ place_of End → so_far b p ≡ open_lines p
unfolding so_far
so_far-open None p h g = absurd (omega arith)
so_far-open (Some k) p h g = rw (ne_eqb (place_of End) (place_of k) (λ e. omega (arith, e)), append-nil)

pub so_far-all : (k : Kind) (p : Policy) → is_kind End k ≡ true → so_far (Some k) p ≡ lines_of p
unfolding so_far
so_far-all k p h = rw h (sym (lines-open p))

-- the lines of the kinds after k, of which there are none yet
behind : Kind → Policy → List (List Line)
behind k p = drop (suc (place_of k)) (take (place_of End) (groups (cut (suc (place_of k)) p)))

group-more : {A : Type 0} (k : Kind) (p : Policy) (f : A → Line) (xs : List A) (x : A) → flat (behind k p) ≡ []
    → flat (take (place_of k) (groups p) ++ map f (xs ++ (x ∷ [])) ∷ behind k p) ≡ flat (take (place_of k) (groups p) ++ map f xs ∷ behind k p) ++ (f x ∷ [])
group-more k p f xs x e = flat-more f xs x (take (place_of k) (groups p)) (behind k p) e

-- one line more
open_more : (k : Kind) (fs : List (List ℕ)) (p : Policy) → place_of PolicyKind < place_of k → place_of k < place_of End → let q = cut (suc (place_of k)) p in
    open_lines (with_line_of (line_of k fs) q) ≡ open_lines q ++ (line_of k fs ∷ [])
unfolding open_lines groups behind numbers_of words_of extended cut
open_more PolicyKind fs p h g = absurd (omega arith)
open_more Uattr fs p h g = group-more Uattr p (λ w. plain Uattr (one_number w)) p.user.widths (line_of Uattr fs).numbers.first refl
open_more Oattr fs p h g = group-more Oattr p (λ w. plain Oattr (one_number w)) p.object.widths (line_of Oattr fs).numbers.first refl
open_more Usen fs p h g =
    group-more Usen p (λ (l : Direct). plain Usen (two_numbers l.senior l.junior)) p.user.lines (direct (line_of Usen fs).numbers.first (line_of Usen fs).numbers.second) refl
open_more Osen fs p h g =
    group-more Osen p (λ (l : Direct). plain Osen (two_numbers l.senior l.junior)) p.object.lines (direct (line_of Osen fs).numbers.first (line_of Osen fs).numbers.second) refl
open_more User fs p h g =
    group-more User p (λ (e : Entry). plain User (two_numbers e.number e.set)) p.users (record { number = (line_of User fs).numbers.first; set = (line_of User fs).numbers.second }) refl
open_more Object fs p h g =
    group-more Object p (λ (e : Entry). plain Object (two_numbers e.number e.set)) p.objects (record { number = (line_of Object fs).numbers.first; set = (line_of Object fs).numbers.second }) refl
open_more ConflictKind fs p h g =
    group-more ConflictKind p (λ (x : Conflict). plain ConflictKind (two_numbers x.set x.most)) p.conflicts (conflict_in (line_of ConflictKind fs).numbers) refl
open_more RuleKind fs p h g =
    group-more RuleKind p (λ (r : Rule). rule_line r.action r.words) p.rules (record { action = (line_of RuleKind fs).numbers.first; words = (line_of RuleKind fs).words }) refl
open_more PairKind fs p h g =
    group-more PairKind p (λ (x : Pair). plain PairKind (three_numbers x.action x.user x.object)) p.pairs (pair_in (line_of PairKind fs).numbers) refl
open_more End fs p h g = absurd (omega arith)

module _ (fs : List (List ℕ)) (b : Option Kind) (p : Policy) where
  mid_more : (k : Kind) → place_of PolicyKind < place_of k → place_of k < place_of End → cut (suc (place_of k)) p ≡ p → allowed b k ≡ true
      → so_far (Some k) (with_line_of (line_of k fs) p) ≡ so_far b p ++ (line_of k fs ∷ [])
  mid_more k h g e a =
      let m = allowed-order b k a in
      so_far-open (Some k) (with_line_of (line_of k fs) p) (omega arith) (omega arith)
      ∙ subst (λ (q : Policy). open_lines (with_line_of (line_of k fs) q) ≡ open_lines q ++ (line_of k fs ∷ [])) e (open_more k fs p h g)
      ∙ ap (λ (ls : List Line). ls ++ (line_of k fs ∷ [])) (sym (so_far-open b p (omega (arith, m.low)) (omega (arith, m.high))))

  end_more : cut (suc (place_of End)) p ≡ p → allowed b End ≡ true → so_far (Some End) (with_line_of (line_of End fs) p) ≡ so_far b p ++ (line_of End fs ∷ [])
  unfolding so_far lines_from groups numbers_of words_of extended
  end_more e a =
      let m = allowed-order b End a in
      ap (λ (ls : List Line). ls ++ (plain End no_numbers ∷ [])) (sym (so_far-open b p (omega (arith, m.low)) (omega (arith, m.high))))

nothing_read : (b : Option Kind) (p : Policy) → reached b ≡ 0 → so_far b p ≡ []
unfolding so_far
nothing_read None p e = refl
nothing_read (Some k) p e = absurd (omega arith)

first-open : (fs : List (List ℕ)) (p : Policy) → cut (suc (place_of PolicyKind)) p ≡ p → open_lines (with_line_of (line_of PolicyKind fs) p) ≡ line_of PolicyKind fs ∷ []
unfolding open_lines groups numbers_of words_of extended cut
first-open fs p e = subst (λ (q : Policy). open_lines (with_line_of (line_of PolicyKind fs) q) ≡ line_of PolicyKind fs ∷ []) e refl

first_more : (fs : List (List ℕ)) (b : Option Kind) (p : Policy) → cut (suc (place_of PolicyKind)) p ≡ p → allowed b PolicyKind ≡ true
    → so_far (Some PolicyKind) (with_line_of (line_of PolicyKind fs) p) ≡ so_far b p ++ (line_of PolicyKind fs ∷ [])
first_more fs b p e a =
    so_far-open (Some PolicyKind) (with_line_of (line_of PolicyKind fs) p) (omega arith) (omega arith)
    ∙ first-open fs p e ∙ rw (nothing_read b p ((allowed-order b PolicyKind a).first refl))

pub so_far_more : (k : Kind) (fs : List (List ℕ)) (b : Option Kind) (p : Policy) → cut (suc (place_of k)) p ≡ p → allowed b k ≡ true
    → so_far (Some k) (with_line_of (line_of k fs) p) ≡ so_far b p ++ (line_of k fs ∷ [])
so_far_more PolicyKind fs b p = first_more fs b p
so_far_more Uattr fs b p = mid_more fs b p Uattr (lit< tt) (lit< tt)
so_far_more Oattr fs b p = mid_more fs b p Oattr (lit< tt) (lit< tt)
so_far_more Usen fs b p = mid_more fs b p Usen (lit< tt) (lit< tt)
so_far_more Osen fs b p = mid_more fs b p Osen (lit< tt) (lit< tt)
so_far_more User fs b p = mid_more fs b p User (lit< tt) (lit< tt)
so_far_more Object fs b p = mid_more fs b p Object (lit< tt) (lit< tt)
so_far_more ConflictKind fs b p = mid_more fs b p ConflictKind (lit< tt) (lit< tt)
so_far_more RuleKind fs b p = mid_more fs b p RuleKind (lit< tt) (lit< tt)
so_far_more PairKind fs b p = mid_more fs b p PairKind (lit< tt) (lit< tt)
so_far_more End fs b p = end_more fs b p

-- Where the lines of each kind stand in a policy, and what is asked of them.
use Rattle.std.specs.Prelude.{None, Some}
use mathlib.Core.Path.{◌≡◌, refl, ap}
use mathlib.Core.Bool.{Bool, true, false, cond, not}
use Prim.Native.Nat.{ℕ}
use lib.Dec.{ltb}
use lib.ListN.{length}
use Rattle.basis.specs.Choice.{first_broken}
use Rattle.seniority.specs.Seniority.{direct}
use Rattle.seniority.specs.declared.Direct.{Direct}
use Rattle.text.specs.declared.kind.Kind.TheVariants.{Uattr, Oattr, Usen, Osen, User, Object, Conflict as ConflictKind, Rule as RuleKind, Pair as PairKind}
use Rattle.policy.specs.Answers.{number_of}
use Rattle.policy.specs.Checks.{SideSizes, side_sizes, direct_fits, conflict_in, pair_in, in_range, direct_rises, entry_rises, conflict_rises, rule_rises, pair_rises, rises, with_user, with_object, with_users, with_objects, with_conflicts, with_rules, with_pairs, extended}
use Rattle.policy.specs.Limits.{values, actions, user_numbers, object_numbers, most_conflicts, most_pairs}
use Rattle.policy.specs.Policy.{Rule, Policy, total}
use Rattle.policy.specs.declared.refusal.Refusal.{Refusal}
use Rattle.policy.specs.declared.refusal.Refusal.TheVariants.{TooManyConflicts, TooManyPairs}
use Rattle.policy.specs.declared.value.Entry.{Entry}
use Rattle.policy.specs.declared.value.Conflict.{Conflict}
use Rattle.policy.specs.declared.value.Pair.{Pair}
use Rattle.line.specs.Inner.Rule.{number_in}
use Rattle.reader.specs.Inner.Lists.{Listed, TestedBy, room_by, width_test, direct_test, entry_test, conflict_test, pair_test, RuleKindOf}
use Rattle.reader.proofs.Runs.{one-wordless, two-wordless, three-wordless}

-- ---- widths

unfoldable pub user-widths : Listed Uattr ℕ
unfolding extended
user-widths =
    record {
      items = λ p. p.user.widths;
      with = λ ws p. with_user (record { widths = ws; lines = p.user.lines }) p;
      said = λ n ws. n.first;
      extends = λ p n ws. refl;
      got = λ xs p. refl;
      again = λ xs ys p. refl;
      same = λ p. refl;
    }

unfoldable pub object-widths : Listed Oattr ℕ
unfolding extended
object-widths =
    record {
      items = λ p. p.object.widths;
      with = λ ws p. with_object (record { widths = ws; lines = p.object.lines }) p;
      said = λ n ws. n.first;
      extends = λ p n ws. refl;
      got = λ xs p. refl;
      again = λ xs ys p. refl;
      same = λ p. refl;
    }

pub uattr : {p : Policy} {n : ℕ} → values p.form ≡ n → TestedBy Uattr (width_test n) user-widths p
unfolding user-widths in_range rises total first_broken
uattr e = record { layout = one-wordless; said = λ n ws. refl; range = λ xs n. rw e; rise = λ xs n. refl; space = λ xs. refl }

pub oattr : {p : Policy} {n : ℕ} → values p.form ≡ n → TestedBy Oattr (width_test n) object-widths p
unfolding object-widths in_range rises total first_broken
oattr e = record { layout = one-wordless; said = λ n ws. refl; range = λ xs n. rw e; rise = λ xs n. refl; space = λ xs. refl }

-- ---- seniorities

unfoldable pub user-directs : Listed Usen Direct
unfolding extended
user-directs =
    record {
      items = λ p. p.user.lines;
      with = λ ls p. with_user (record { widths = p.user.widths; lines = ls }) p;
      said = λ n ws. direct n.first n.second;
      extends = λ p n ws. refl;
      got = λ xs p. refl;
      again = λ xs ys p. refl;
      same = λ p. refl;
    }

unfoldable pub object-directs : Listed Osen Direct
unfolding extended
object-directs =
    record {
      items = λ p. p.object.lines;
      with = λ ls p. with_object (record { widths = p.object.widths; lines = ls }) p;
      said = λ n ws. direct n.first n.second;
      extends = λ p n ws. refl;
      got = λ xs p. refl;
      again = λ xs ys p. refl;
      same = λ p. refl;
    }

pub usen : {p : Policy} {s : SideSizes} → side_sizes p.user ≡ s → TestedBy Usen (direct_test s) user-directs p
unfolding user-directs in_range rises direct_rises total first_broken
usen e =
    record {
      layout = two-wordless;
      said = λ n ws. refl;
      range = λ xs n. ap (λ (s : SideSizes). direct_fits s n.first n.second) e;
      rise = λ xs n. refl;
      space = λ xs. refl;
    }

pub osen : {p : Policy} {s : SideSizes} → side_sizes p.object ≡ s → TestedBy Osen (direct_test s) object-directs p
unfolding object-directs in_range rises direct_rises total first_broken
osen e =
    record {
      layout = two-wordless;
      said = λ n ws. refl;
      range = λ xs n. ap (λ (s : SideSizes). direct_fits s n.first n.second) e;
      rise = λ xs n. refl;
      space = λ xs. refl;
    }

-- ---- users and objects

abbrev entry : ℕ → ℕ → Entry
entry n s = record { number = n; set = s }

unfoldable pub users : Listed User Entry
unfolding extended
users =
    record {
      items = λ p. p.users;
      with = λ es p. with_users es p;
      said = λ n ws. entry n.first n.second;
      extends = λ p n ws. refl;
      got = λ xs p. refl;
      again = λ xs ys p. refl;
      same = λ p. refl;
    }

unfoldable pub objects : Listed Object Entry
unfolding extended
objects =
    record {
      items = λ p. p.objects;
      with = λ es p. with_objects es p;
      said = λ n ws. entry n.first n.second;
      extends = λ p n ws. refl;
      got = λ xs p. refl;
      again = λ xs ys p. refl;
      same = λ p. refl;
    }

pub user : {p : Policy} {n : ℕ} → total p.user ≡ n → TestedBy User (entry_test user_numbers n) users p
unfolding users in_range rises entry_rises first_broken
user e = record { layout = two-wordless; said = λ n ws. refl; range = λ xs n. rw e; rise = λ xs n. refl; space = λ xs. refl }

pub object : {p : Policy} {n : ℕ} → total p.object ≡ n → TestedBy Object (entry_test object_numbers n) objects p
unfolding objects in_range rises entry_rises first_broken
object e = record { layout = two-wordless; said = λ n ws. refl; range = λ xs n. rw e; rise = λ xs n. refl; space = λ xs. refl }

-- ---- lists with a limit: a line past it breaks one check

full-broken : (r : Refusal) (room : Bool) → cond (not room) (Some (number_of r)) None ≡ number_in (room_by room r)
full-broken r true = refl
full-broken r false = refl

-- ---- conflicts

unfoldable pub conflicts : Listed ConflictKind Conflict
unfolding extended
conflicts =
    record {
      items = λ p. p.conflicts;
      with = λ xs p. with_conflicts xs p;
      said = λ n ws. conflict_in n;
      extends = λ p n ws. refl;
      got = λ xs p. refl;
      again = λ xs ys p. refl;
      same = λ p. refl;
    }

pub conflict : {p : Policy} {u : ℕ} → total p.user ≡ u → TestedBy ConflictKind (conflict_test u) conflicts p
unfolding conflicts in_range rises conflict_rises first_broken
conflict e = record { layout = two-wordless; said = λ n ws. refl; range = λ xs n. rw e; rise = λ xs n. refl; space = λ xs. full-broken TooManyConflicts (ltb (length xs) most_conflicts) }

-- ---- rules

unfoldable pub rules : Listed RuleKind Rule
unfolding extended
rules =
    record {
      items = λ p. p.rules;
      with = λ rs p. with_rules rs p;
      said = λ n ws. record { action = n.first; words = ws };
      extends = λ p n ws. refl;
      got = λ xs p. refl;
      again = λ xs ys p. refl;
      same = λ p. refl;
    }

pub rule : RuleKindOf rules
unfolding rules rises rule_rises
rule = record { said = λ n ws. refl; rise = λ p n. refl; form = λ rs p. refl; sizes = λ rs p. refl }

-- ---- pairs

unfoldable pub pairs : Listed PairKind Pair
unfolding extended
pairs =
    record {
      items = λ p. p.pairs;
      with = λ xs p. with_pairs xs p;
      said = λ n ws. pair_in n;
      extends = λ p n ws. refl;
      got = λ xs p. refl;
      again = λ xs ys p. refl;
      same = λ p. refl;
    }

pub pair : {p : Policy} {n u o : ℕ} → actions p.form ≡ n → total p.user ≡ u → total p.object ≡ o
    → TestedBy PairKind (pair_test n u o) pairs p
unfolding pairs in_range rises pair_rises first_broken
pair e f g = record { layout = three-wordless; said = λ n ws. refl; range = λ xs n. rw (e, f, g); rise = λ xs n. refl; space = λ xs. full-broken TooManyPairs (ltb (length xs) most_pairs) }

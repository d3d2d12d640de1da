-- `same_value` passes exactly for equal values: each test of sameness is exact, from the numbers up.
use mathlib.Core.Path.{◌≡◌, refl, sym, ap, ◌∙◌}
use mathlib.Core.Bool.{Bool, true, ◌&&◌}
use mathlib.Core.Logic.{◌↔◌}
use lib.Dec.{eqb}
use borrow.Author.Tests.{eqb-true, eq-eqb}
use Rattle.basis.specs.Lists.{same}
use Rattle.basis.proofs.Bools.{and_left, and_right}
use Rattle.basis.proofs.Same.{same_self, same-eq}
use Rattle.seniority.specs.Seniority.{direct}
use Rattle.seniority.specs.declared.Direct.{Direct}
use Rattle.policy.specs.Policy.{conflict, pair}
use Rattle.policy.specs.Valid.{same_line, same_entry, same_conflict, same_pair, same_side, same_register, same_conflicts, same_rule, same_rules, same_pairs, same_value}
use Rattle.policy.specs.declared.value.Entry.{Entry}
use Rattle.policy.specs.declared.value.SideValue.{SideValue}
use Rattle.policy.specs.declared.value.Register.{Register}
use Rattle.policy.specs.declared.value.RuleValue.{RuleValue}
use Rattle.policy.specs.declared.value.Rules.{Rules}
use Rattle.policy.specs.declared.value.Conflict.{Conflict}
use Rattle.policy.specs.declared.value.Conflicts.{Conflicts}
use Rattle.policy.specs.declared.value.Pair.{Pair}
use Rattle.policy.specs.declared.value.Pairs.{Pairs}
use Rattle.policy.specs.declared.value.PolicyValue.{PolicyValue}

-- a test passes exactly for equal things
pub record Exact {A : Type 0} (e : A → A → Bool) : Type 0 where
  pub equal : (x y : A) → e x y ≡ true → x ≡ y
  pub self : (x : A) → e x x ≡ true

pub exact_number : Exact eqb
exact_number = record { equal = eqb-true; self = λ n. eq-eqb n n refl }

pub exact_list : {A : Type 0} (e : A → A → Bool) → Exact e → Exact (same e)
exact_list e x = record { equal = same-eq e x.equal; self = same_self e x.self }

-- ---- records, field by field

-- a test passes only for things with equal parts, and for a thing and itself
record Shows {A B : Type 0} (e : A → A → Bool) (f : A → B) : Type 0 where
  equal : (x y : A) → e x y ≡ true → f x ≡ f y
  self : (x : A) → e x x ≡ true

part : {A B : Type 0} (f : A → B) {e : B → B → Bool} → Exact e → Shows (λ x y. e (f x) (f y)) f
part f x = record { equal = λ a b. x.equal (f a) (f b); self = λ a. x.self (f a) }

both : {A B C : Type 0} {e d : A → A → Bool} {f : A → B} {g : A → C} → Shows e f → Shows d g → Shows {B = B × C} (λ x y. e x y && d x y) (λ x. (f x, g x))
both {e = e} {d = d} p q =
    record {
      equal = λ x y h. let a = p.equal x y (and_left _ _ h) in let b = q.equal x y (and_right (e x y) (d x y) h) in (λ i. (a i, b i));
      self = λ x. rw (p.self x, q.self x);
    }

-- all parts are equal
made : {A B : Type 0} {e : A → A → Bool} {f : A → B} (make : B → A) → ((x : A) → make (f x) ≡ x) → Shows e f → Exact e
made make back p = record { equal = λ x y h. sym (back x) ∙ ap make (p.equal x y h) ∙ back y; self = p.self }

pub exact_line : Exact same_line
exact_line = made (λ t. direct t.0 t.1) (λ x. refl) (both (part (λ (x : Direct). x.senior) exact_number) (part (λ (x : Direct). x.junior) exact_number))

pub exact_entry : Exact same_entry
exact_entry = made (λ t. record { number = t.0; set = t.1 }) (λ x. refl) (both (part (λ (x : Entry). x.number) exact_number) (part (λ (x : Entry). x.set) exact_number))

pub exact_side : Exact same_side
unfolding same_side
exact_side =
    made (λ t. record { attributes = t.0; widths = t.1.0; lines = t.1.1.0; seniority = t.1.1.1 }) (λ x. refl)
    (both (part (λ (x : SideValue). x.attributes) exact_number)
    (both (part (λ (x : SideValue). x.widths) (exact_list eqb exact_number))
    (both (part (λ (x : SideValue). x.lines) exact_number) (part (λ (x : SideValue). x.seniority) (exact_list same_line exact_line)))))

pub exact_register : Exact same_register
unfolding same_register
exact_register =
    made (λ t. record { count = t.0; entries = t.1 }) (λ x. refl)
    (both (part (λ (x : Register). x.count) exact_number) (part (λ (x : Register). x.entries) (exact_list same_entry exact_entry)))

pub exact_conflict : Exact same_conflict
exact_conflict = made (λ t. conflict t.0 t.1) (λ x. refl) (both (part (λ (x : Conflict). x.set) exact_number) (part (λ (x : Conflict). x.most) exact_number))

pub exact_conflicts : Exact same_conflicts
unfolding same_conflicts
exact_conflicts =
    made (λ t. record { count = t.0; entries = t.1 }) (λ x. refl)
    (both (part (λ (x : Conflicts). x.count) exact_number) (part (λ (x : Conflicts). x.entries) (exact_list same_conflict exact_conflict)))

pub exact_rule : Exact same_rule
unfolding same_rule
exact_rule =
    made (λ t. record { action = t.0; count = t.1.0; words = t.1.1 }) (λ x. refl)
    (both (part (λ (x : RuleValue). x.action) exact_number)
    (both (part (λ (x : RuleValue). x.count) exact_number) (part (λ (x : RuleValue). x.words) (exact_list eqb exact_number))))

pub exact_rules : Exact same_rules
unfolding same_rules
exact_rules =
    made (λ t. record { count = t.0; entries = t.1 }) (λ x. refl)
    (both (part (λ (x : Rules). x.count) exact_number) (part (λ (x : Rules). x.entries) (exact_list same_rule exact_rule)))

pub exact_pair : Exact same_pair
exact_pair =
    made (λ t. pair t.0 t.1.0 t.1.1) (λ x. refl)
    (both (part (λ (x : Pair). x.action) exact_number)
    (both (part (λ (x : Pair). x.user) exact_number) (part (λ (x : Pair). x.object) exact_number)))

pub exact_pairs : Exact same_pairs
unfolding same_pairs
exact_pairs =
    made (λ t. record { count = t.0; entries = t.1 }) (λ x. refl)
    (both (part (λ (x : Pairs). x.count) exact_number) (part (λ (x : Pairs). x.entries) (exact_list same_pair exact_pair)))

pub exact_value : Exact same_value
unfolding same_value
exact_value =
    made (λ t. record { form = t.0; user = t.1.0; object = t.1.1.0; users = t.1.1.1.0; objects = t.1.1.1.1.0; conflicts = t.1.1.1.1.1.0; rules = t.1.1.1.1.1.1.0; pairs = t.1.1.1.1.1.1.1 }) (λ x. refl)
    (both (part (λ (x : PolicyValue). x.form) exact_number)
    (both (part (λ (x : PolicyValue). x.user) exact_side)
    (both (part (λ (x : PolicyValue). x.object) exact_side)
    (both (part (λ (x : PolicyValue). x.users) exact_register)
    (both (part (λ (x : PolicyValue). x.objects) exact_register)
    (both (part (λ (x : PolicyValue). x.conflicts) exact_conflicts)
    (both (part (λ (x : PolicyValue). x.rules) exact_rules) (part (λ (x : PolicyValue). x.pairs) exact_pairs))))))))

pub same-value : (x y : PolicyValue) → (same_value x y ≡ true) ↔ (x ≡ y)
same-value x y = (exact_value.equal x y, λ e. rw e (exact_value.self y))

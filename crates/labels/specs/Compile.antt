-- Compiling: "three byte buffers: 2^U user labels, 2^O object labels, and a table of NU × NO bytes"; in later forms the
-- buffers have other widths. Over the widths of a label and of an entry, whatever they are, and over the number of
-- actions of the form.
use Rattle.std.specs.Prelude.{ℕ, ◌+◌, ◌*◌, ◌/◌, ◌%◌, ◌≡◌, Bool, not, ◌&&◌, ◌||◌, List, [], ◌∷◌, ltb, length, get_or, Result}
use Rattle.basis.specs.Choice.{given, Check, check, first_broken, unless_refused}
use Rattle.basis.specs.Lists.{over}
use Rattle.basis.specs.Numbers.{up_to}
use Rattle.sets.specs.Set.{has, set_of}
use Rattle.policy.specs.Limits.{actions, own_widths}
use Rattle.policy.specs.Policy.{Policy, sets}
use Rattle.policy.specs.Value.{policy_of}
use Rattle.policy.specs.Valid.{valid}
use Rattle.policy.specs.Answers.{answer_of}
use Rattle.policy.specs.declared.limits.Widths.{Widths}
use Rattle.policy.specs.declared.value.PolicyValue.{PolicyValue}
use Rattle.policy.specs.declared.refusal.Refusal.{Refusal}
use Rattle.formula.specs.Truth.{Sets, at, grants}
use Rattle.labels.specs.Labels.{label, label_count, leader}
use Rattle.labels.specs.Labelling.{users_alike, objects_alike, Labelling}
use Rattle.labels.specs.declared.Counts.{Counts}

-- the sets of a policy's sides that no formula and no pair parts
unfoldable pub like_users : Policy → ℕ → ℕ → Bool
like_users p = users_alike (grants p) (actions p.form) (sets p.object)

unfoldable pub like_objects : Policy → ℕ → ℕ → Bool
like_objects p = objects_alike (grants p) (actions p.form) (sets p.user)

-- the labels of a user set and of an object set
abbrev pub user_label : Policy → ℕ → ℕ
user_label p = label (like_users p)

abbrev pub object_label : Policy → ℕ → ℕ
object_label p = label (like_objects p)

-- "NU and NO are the numbers of labels used."
unfoldable pub NU : Policy → ℕ
NU p = label_count (like_users p) (sets p.user)

unfoldable pub NO : Policy → ℕ
NO p = label_count (like_objects p) (sets p.object)

abbrev pub counts : Policy → Counts
counts p = record { users = NU p; objects = NO p }

-- the entry of two sets: "bit a (2^a) set exactly when action a is granted"
unfoldable pub entry_of : Policy → Sets → ℕ
entry_of p s = set_of (λ a. grants p a s) (actions p.form)

-- the entry of two labels is that of the lowest set of each
unfoldable pub entry : Policy → ℕ → ℕ → ℕ
entry p ul ol = entry_of p (at (leader (like_users p) (sets p.user) ul) (leader (like_objects p) (sets p.object) ol))

-- the three results; "byte at ul × NO + ol", or an entry of another width
unfoldable pub user_result : Policy → List ℕ
user_result p = up_to (user_label p) (sets p.user)

unfoldable pub object_result : Policy → List ℕ
object_result p = up_to (object_label p) (sets p.object)

unfoldable pub table_result : Policy → List ℕ
table_result p = up_to (λ i. entry p (i / NO p) (i % NO p)) (NU p * NO p)

-- the three lent buffers, and the widths of what they store: those that the call is made for
pub record Buffers : Type 0 where
  pub widths : Widths
  pub users : List ℕ
  pub objects : List ℕ
  pub table : List ℕ

abbrev pub lent : Widths → List ℕ → List ℕ → List ℕ → Buffers
lent w us os ts = record { widths = w; users = us; objects = os; table = ts }

-- "The compiled labelling is these labels with this table, read by its bits": what stands in the three buffers, with NO
-- entries to a row of the table.
unfoldable pub compiled : Counts → Buffers → Labelling
compiled n b =
    record {
      user = λ u. get_or b.users u 0;
      object = λ o. get_or b.objects o 0;
      table = λ ul ol a. has (get_or b.table (ul * n.objects + ol) 0) a;
    }

-- 20: some buffer is shorter than its result
abbrev pub too_short : Policy → Buffers → Bool
too_short p b =
    ltb (length b.users) (length (user_result p))
    || (ltb (length b.objects) (length (object_result p)) || ltb (length b.table) (length (table_result p)))

-- 11: the policy value is not what reading some accepted text yields, or "a call made for stored widths other than those
-- of the policy's form"
abbrev pub fits_widths : PolicyValue → Buffers → Bool
fits_widths v b = valid v && own_widths v.form b.widths

-- "It returns NU and NO (refusals 11, 20)."
abbrev pub compile_checks : PolicyValue → Buffers → List Check
compile_checks v b = check 11 (not (fits_widths v b)) ∷ check 20 (too_short (policy_of v) b) ∷ []

unfoldable pub compile : PolicyValue → Buffers → Result Counts ℕ
compile v b = unless_refused (compile_checks v b) (counts (policy_of v))

-- NU and NO alone, without a buffer (refusal 11)
unfoldable pub used : PolicyValue → Result Counts ℕ
used v = unless_refused (check 11 (not (valid v)) ∷ []) (counts (policy_of v))

-- "what lies past a result in a longer buffer stays"
abbrev pub filled : Policy → Buffers → Buffers
filled p b =
    lent b.widths (over (user_result p) b.users) (over (object_result p) b.objects) (over (table_result p) b.table)

-- the buffers afterwards; a refusal changes nothing
unfoldable pub compile_buffers : PolicyValue → Buffers → Buffers
compile_buffers v b = given (first_broken (compile_checks v b)) (filled (policy_of v) b) (λ n. b)

-- what a call answers and leaves in the buffers
pub record Compiles (v : PolicyValue) (before : Buffers) (r : Result Counts Refusal) (after : Buffers) : Type 0 where
  pub answer : answer_of r ≡ compile v before
  pub buffers : after ≡ compile_buffers v before

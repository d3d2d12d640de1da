-- A line against the lines before it: refusals 6 to 9, 21 and 22, and what the line adds.
use Rattle.std.specs.Prelude.{ℕ, ◌+◌, ◌-◌, ◌^◌, Bool, true, ◌&&◌, ◌||◌, List, [], ◌∷◌, ◌++◌, eqb, leb, ltb, length, get_or}
use Rattle.basis.specs.Choice.{given}
use Rattle.basis.specs.Lists.{all, last}
use Rattle.basis.specs.Numbers.{implies}
use Rattle.seniority.specs.Seniority.{direct}
use Rattle.seniority.specs.declared.Direct.{Direct}
use Rattle.text.specs.Kind.{layout_of, is_kind}
use Rattle.text.specs.declared.kind.Kind.{Kind}
use Rattle.text.specs.declared.kind.Kind.TheVariants.{Policy as PolicyKind, Uattr, Oattr, Usen, Osen, User, Object, Conflict as ConflictKind, Rule as RuleKind, Pair as PairKind, End}
use Rattle.text.specs.declared.kind.Layout.{Layout}
use Rattle.text.specs.declared.kind.Layout.TheVariants.{Bare, One, Two, Three, Formula}
use Rattle.text.specs.declared.number.Numbers.{Numbers}
use Rattle.words.specs.declared.Word.{Word}
use Rattle.words.specs.declared.Word.TheVariants.{True, False, Holds, Compares, Not, And, Or}
use Rattle.words.specs.declared.Holding.TheVariants.{User as UserValue, Object as ObjectValue}
use Rattle.words.specs.declared.Comparison.TheVariants.{Dominates, Equals}
use Rattle.policy.specs.Limits.{is_form, values, actions, user_numbers, object_numbers, most_conflicts, most_together, most_pairs}
use Rattle.policy.specs.Policy.{Side, Rule, Policy, conflict, pair, total, attribute_of}
use Rattle.policy.specs.Line.{Line}
use Rattle.policy.specs.declared.value.Entry.{Entry}
use Rattle.policy.specs.declared.value.Conflict.{Conflict}
use Rattle.policy.specs.declared.value.Pair.{Pair}

-- ---- what the ranges and the comparisons of a line go by

-- how many values and attributes a side has, and how wide these are
pub record SideSizes : Type 0 where
  pub values : ℕ
  pub attributes : ℕ
  pub widths : List ℕ

-- of both sides
pub record Sizes : Type 0 where
  pub user : SideSizes
  pub object : SideSizes

abbrev pub side_sizes : Side → SideSizes
side_sizes s = record { values = total s; attributes = length s.widths; widths = s.widths }

abbrev pub sizes : Policy → Sizes
sizes p = record { user = side_sizes p.user; object = side_sizes p.object }

-- ---- 6: "A number, value, attribute or width is outside its range, or a usen or osen pair breaks its own condition."

-- "Each W is 1 to 7; U, the sum of the W, is 1 to 7, and the line that passes 7 is at fault": a width after others that
-- sum to u
unfoldable pub width_fits : ℕ → ℕ → ℕ → Bool
width_fits most u w = leb 1 w && (leb w most && leb (u + w) most)

-- "user value V is directly senior to J; same attribute, V above J"
unfoldable pub direct_fits : SideSizes → ℕ → ℕ → Bool
direct_fits s v j =
    ltb v s.values
    && (ltb j s.values && (eqb (attribute_of s.widths v) (attribute_of s.widths j) && ltb j v))

-- "user N, 0 to 31, is assigned set S; S is below 2^U"
unfoldable pub entry_fits : ℕ → ℕ → ℕ → ℕ → Bool
entry_fits most u n set = ltb n most && ltb set (2 ^ u)

-- "user set S (below 2^U)", and "K (0 to 7)"
unfoldable pub conflict_fits : ℕ → Conflict → Bool
conflict_fits u x = ltb x.set (2 ^ u) && leb x.most most_together

-- "with the ranges of user and object values": one of n actions, of u user values and of o object values
unfoldable pub pair_fits : (n u o : ℕ) → Pair → Bool
pair_fits n u o x = ltb x.action n && (ltb x.user u && ltb x.object o)

-- both attributes are there
abbrev pub both_there : Sizes → ℕ → ℕ → Bool
both_there s i j = ltb i s.user.attributes && ltb j s.object.attributes

-- a word names a value, or attributes, that are there
abbrev pub word_fits : Sizes → Word → Bool
word_fits s True = true
word_fits s False = true
word_fits s (Holds (UserValue v)) = ltb v s.user.values
word_fits s (Holds (ObjectValue v)) = ltb v s.object.values
word_fits s (Compares (Dominates i j)) = both_there s i j
word_fits s (Compares (Equals i j)) = both_there s i j
word_fits s Not = true
word_fits s And = true
word_fits s Or = true

-- the conflict, or the pair, that the numbers of its line say
abbrev pub conflict_in : Numbers → Conflict
conflict_in n = conflict n.first n.second

abbrev pub pair_in : Numbers → Pair
pair_in n = pair n.first n.second n.third

-- of a line of a text of this form
unfoldable pub in_range : Kind → ℕ → Sizes → Numbers → List Word → Bool
in_range PolicyKind form s n ws = is_form n.first
in_range Uattr form s n ws = width_fits (values form) s.user.values n.first
in_range Oattr form s n ws = width_fits (values form) s.object.values n.first
in_range Usen form s n ws = direct_fits s.user n.first n.second
in_range Osen form s n ws = direct_fits s.object n.first n.second
in_range User form s n ws = entry_fits user_numbers s.user.values n.first n.second
in_range Object form s n ws = entry_fits object_numbers s.object.values n.first n.second
in_range ConflictKind form s n ws = conflict_fits s.user.values (conflict_in n)
in_range RuleKind form s n ws = ltb n.first (actions form) && all (word_fits s) ws
in_range PairKind form s n ws = pair_fits (actions form) s.user.values s.object.values (pair_in n)
in_range End form s n ws = true

-- ---- 7: "The line does not rise above the last of its kind."

-- "the pairs rise strictly (V first, then J)"
abbrev pub direct_above : ℕ → ℕ → Direct → Bool
direct_above v j l = ltb l.senior v || (eqb l.senior v && ltb l.junior j)

unfoldable pub direct_rises : Side → ℕ → ℕ → Bool
direct_rises s v j = given (last s.lines) true (direct_above v j)

-- "within user, object and rule the first number does"
unfoldable pub entry_rises : List Entry → ℕ → Bool
entry_rises es n = given (last es) true (λ e. ltb e.number n)

unfoldable pub rule_rises : List Rule → ℕ → Bool
rule_rises rs a = given (last rs) true (λ r. ltb r.action a)

-- "rising by S"
unfoldable pub conflict_rises : List Conflict → Conflict → Bool
conflict_rises xs x = given (last xs) true (λ b. ltb b.set x.set)

-- "rising by A, V, W"
abbrev pub pair_above : Pair → Pair → Bool
pair_above x b =
    ltb b.action x.action
    || (eqb b.action x.action && (ltb b.user x.user || (eqb b.user x.user && ltb b.object x.object)))

unfoldable pub pair_rises : List Pair → Pair → Bool
pair_rises xs x = given (last xs) true (pair_above x)

unfoldable pub rises : Kind → Policy → Numbers → Bool
rises PolicyKind p n = true
rises Uattr p n = true
rises Oattr p n = true
rises Usen p n = direct_rises p.user n.first n.second
rises Osen p n = direct_rises p.object n.first n.second
rises User p n = entry_rises p.users n.first
rises Object p n = entry_rises p.objects n.first
rises ConflictKind p n = conflict_rises p.conflicts (conflict_in n)
rises RuleKind p n = rule_rises p.rules n.first
rises PairKind p n = pair_rises p.pairs (pair_in n)
rises End p n = true

-- ---- 22: "a conflict line is past the 16th"

-- before a conflict line stand fewer than 16
abbrev pub conflict_room : Kind → Policy → Bool
conflict_room k p = implies (is_kind ConflictKind k) (ltb (length p.conflicts) most_conflicts)

-- ---- 21: "a pair line is past the 64th"

-- before a pair line stand fewer than 64
abbrev pub pair_room : Kind → Policy → Bool
pair_room k p = implies (is_kind PairKind k) (ltb (length p.pairs) most_pairs)

-- ---- 8: "A comparison names attributes of unequal width."

abbrev pub equal_width : Sizes → ℕ → ℕ → Bool
equal_width s i j = eqb (get_or s.user.widths i 0) (get_or s.object.widths j 0)

abbrev pub widths_equal : Sizes → Word → Bool
widths_equal s True = true
widths_equal s False = true
widths_equal s (Holds h) = true
widths_equal s (Compares (Dominates i j)) = equal_width s i j
widths_equal s (Compares (Equals i j)) = equal_width s i j
widths_equal s Not = true
widths_equal s And = true
widths_equal s Or = true

-- ---- 9: "A word finds too few truth values, or not exactly one remains."

-- how many truth values a word takes off the stack; each word puts one on it
abbrev pub takes : Word → ℕ
takes True = 0
takes False = 0
takes (Holds h) = 0
takes (Compares c) = 0
takes Not = 1
takes And = 2
takes Or = 2

-- with d truth values on the stack, each word finds enough and one remains at the end
unfoldable pub balanced : ℕ → List Word → Bool
balanced d [] = eqb d 1
balanced d (w ∷ ws) = leb (takes w) d && balanced (d - takes w + 1) ws

-- only a layout with words can break 9
unfoldable pub balances : Layout → List Word → Bool
balances Bare ws = true
balances One ws = true
balances Two ws = true
balances Three ws = true
balances Formula ws = balanced 0 ws

-- ---- what an accepted line adds

abbrev pub with_width : ℕ → Side → Side
with_width w s = record { widths = s.widths ++ (w ∷ []); lines = s.lines }

abbrev pub with_line : ℕ → ℕ → Side → Side
with_line v j s = record { widths = s.widths; lines = s.lines ++ (direct v j ∷ []) }

abbrev pub with_entry : ℕ → ℕ → List Entry → List Entry
with_entry n s es = es ++ (record { number = n; set = s } ∷ [])

abbrev pub with_user : Side → Policy → Policy
with_user s p = record { form = p.form; user = s; object = p.object; users = p.users; objects = p.objects; conflicts = p.conflicts; rules = p.rules; pairs = p.pairs }

abbrev pub with_object : Side → Policy → Policy
with_object s p = record { form = p.form; user = p.user; object = s; users = p.users; objects = p.objects; conflicts = p.conflicts; rules = p.rules; pairs = p.pairs }

abbrev pub with_users : List Entry → Policy → Policy
with_users es p = record { form = p.form; user = p.user; object = p.object; users = es; objects = p.objects; conflicts = p.conflicts; rules = p.rules; pairs = p.pairs }

abbrev pub with_objects : List Entry → Policy → Policy
with_objects es p = record { form = p.form; user = p.user; object = p.object; users = p.users; objects = es; conflicts = p.conflicts; rules = p.rules; pairs = p.pairs }

abbrev pub with_conflicts : List Conflict → Policy → Policy
with_conflicts xs p = record { form = p.form; user = p.user; object = p.object; users = p.users; objects = p.objects; conflicts = xs; rules = p.rules; pairs = p.pairs }

abbrev pub with_rules : List Rule → Policy → Policy
with_rules rs p = record { form = p.form; user = p.user; object = p.object; users = p.users; objects = p.objects; conflicts = p.conflicts; rules = rs; pairs = p.pairs }

abbrev pub with_pairs : List Pair → Policy → Policy
with_pairs xs p =
    record { form = p.form; user = p.user; object = p.object; users = p.users; objects = p.objects; conflicts = p.conflicts; rules = p.rules; pairs = xs }

abbrev pub with_form : ℕ → Policy → Policy
with_form n p = record { form = n; user = p.user; object = p.object; users = p.users; objects = p.objects; conflicts = p.conflicts; rules = p.rules; pairs = p.pairs }

unfoldable pub extended : Kind → Numbers → List Word → Policy → Policy
extended PolicyKind n ws p = with_form n.first p
extended Uattr n ws p = with_user (with_width n.first p.user) p
extended Oattr n ws p = with_object (with_width n.first p.object) p
extended Usen n ws p = with_user (with_line n.first n.second p.user) p
extended Osen n ws p = with_object (with_line n.first n.second p.object) p
extended User n ws p = with_users (with_entry n.first n.second p.users) p
extended Object n ws p = with_objects (with_entry n.first n.second p.objects) p
extended ConflictKind n ws p = with_conflicts (p.conflicts ++ (conflict_in n ∷ [])) p
extended RuleKind n ws p = with_rules (p.rules ++ (record { action = n.first; words = ws } ∷ [])) p
extended PairKind n ws p = with_pairs (p.pairs ++ (pair_in n ∷ [])) p
extended End n ws p = p

-- ---- of a whole line

abbrev pub line_in_range : Policy → Line → Bool
line_in_range p l = in_range l.kind p.form (sizes p) l.numbers l.words

abbrev pub line_rises : Policy → Line → Bool
line_rises p l = rises l.kind p l.numbers

abbrev pub line_conflict_room : Policy → Line → Bool
line_conflict_room p l = conflict_room l.kind p

abbrev pub line_pair_room : Policy → Line → Bool
line_pair_room p l = pair_room l.kind p

abbrev pub line_widths_equal : Policy → Line → Bool
line_widths_equal p l = all (widths_equal (sizes p)) l.words

abbrev pub line_balances : Line → Bool
line_balances l = balances (layout_of l.kind) l.words

abbrev pub with_line_of : Line → Policy → Policy
with_line_of l p = extended l.kind l.numbers l.words p

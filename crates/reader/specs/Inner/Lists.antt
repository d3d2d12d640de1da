-- The lines of one kind, which stand together in a text, as a list of a policy: what the functions that read it go by.
use Rattle.std.specs.Prelude.{ℕ, suc, ◌≤◌, ◌≡◌, Bool, true, cond, not, List, [], ◌∷◌, ◌++◌, ltb, length, Result, Ok, Err, MatchResult}
use Rattle.basis.specs.Choice.{given, Check, check, first_broken}
use Rattle.basis.specs.Lists.{last, sum, padded}
use Rattle.seniority.specs.Seniority.{direct}
use Rattle.seniority.specs.declared.Direct.{Direct}
use Rattle.text.specs.Kind.{layout_of, place_of}
use Rattle.text.specs.declared.kind.Kind.{Kind}
use Rattle.text.specs.declared.kind.Kind.TheVariants.{Policy as PolicyKind, Osen, Conflict as ConflictKind, Rule as RuleKind, Pair as PairKind, End}
use Rattle.text.specs.declared.kind.Layout.{Layout}
use Rattle.text.specs.declared.number.Numbers.{Numbers}
use Rattle.words.specs.declared.Word.{Word}
use Rattle.policy.specs.Checks.{SideSizes, Sizes, sizes, width_fits, conflict_fits, conflict_in, conflict_room, pair_fits, pair_in, pair_room, in_range, rises, balances, with_form, extended}
use Rattle.policy.specs.Limits.{most_values, most_conflicts, most_pairs}
use Rattle.policy.specs.Line.{form_fits, words_of}
use Rattle.policy.specs.Policy.{Side, Rule, Policy, blank}
use Rattle.policy.specs.Value.{width_places, line_places, register, conflicts_value, rules_value, pairs_value, value_of}
use Rattle.policy.specs.Inner.Sound.{line_in, line_above, number_in as number_in_range, number_above, set_above, pair_higher}
use Rattle.policy.specs.declared.refusal.Refusal.{Refusal}
use Rattle.policy.specs.declared.refusal.Refusal.TheVariants.{OutOfRange, NotRising, TooManyConflicts, TooManyPairs}
use Rattle.policy.specs.declared.value.Entry.{Entry}
use Rattle.policy.specs.declared.value.Conflict.{Conflict}
use Rattle.policy.specs.declared.value.Pair.{Pair}
use Rattle.policy.specs.declared.value.Conflicts.{Conflicts}
use Rattle.policy.specs.declared.value.Pairs.{Pairs}
use Rattle.policy.specs.declared.value.Register.{Register}
use Rattle.policy.specs.declared.value.Rules.{Rules}
use Rattle.policy.specs.declared.value.SideValue.{SideValue}
use Rattle.policy.specs.declared.value.PolicyValue.{PolicyValue}
use Rattle.policy.specs.declared.value.Rejection.{Rejection}
use Rattle.checks.specs.Inner.{sizes_in, both_in}
use Rattle.checks.specs.declared.shape.Shape.{Shape}
use Rattle.checks.specs.declared.shape.Shapes.{Shapes}
use Rattle.line.specs.Inner.Head.{numbers_fit}
use Rattle.line.specs.Inner.Rule.{number_in}
use Rattle.reader.specs.Inner.Cursor.{left, refused_as, Stands, Past, Reads}
use Rattle.reader.specs.declared.cursor.Cursor.{Cursor}
use Rattle.reader.specs.declared.sides.Sides.{Sides}

-- ---- a list of a policy

-- where the lines of kind k stand in a policy: each says an element, which is put behind the others
pub record Listed (k : Kind) (A : Type 0) : Type 0 where
  pub items : Policy → List A
  pub with : List A → Policy → Policy
  pub said : Numbers → List Word → A
  pub extends : (p : Policy) (n : Numbers) (ws : List Word) → extended k n ws p ≡ with (items p ++ (said n ws ∷ [])) p
  pub got : (xs : List A) (p : Policy) → items (with xs p) ≡ xs
  pub again : (xs ys : List A) (p : Policy) → with ys (with xs p) ≡ with ys p
  pub same : (p : Policy) → with (items p) p ≡ p

-- between two cursors stand the lines of kind k that say xs, and from place i on what is behind them
pub record ReadBy (t : List ℕ) (k : Kind) {A : Type 0} (Fits : Listed k A → Policy → Type 0) (i : ℕ) (c d : Cursor) (xs : List A) : Type 0 where
  pub stands : Stands t d
  pub past : Past (place_of k) c → Past i d
  pub left : (x : Listed k A) (p : Policy) → Fits x p → x.items p ≡ [] → left t c p ≡ left t d (x.with xs p)

-- or one of them is refused
abbrev pub RefusedBy : List ℕ → (k : Kind) → {A : Type 0} → (Listed k A → Policy → Type 0) → Cursor → Rejection → Type 0
RefusedBy t k Fits c e = (x : Listed k _) (p : Policy) → Fits x p → x.items p ≡ [] → left t c p ≡ refused_as e

-- ---- lines without words

-- a layout without words
pub record Wordless (x : Layout) : Type 0 where
  pub form : (fs : List (List ℕ)) → form_fits x fs ≡ numbers_fit x fs
  pub words : (fs : List (List ℕ)) → words_of x fs ≡ []
  pub balance : balances x [] ≡ true

-- the element that a line says, whether it passes checks 6 and 7 behind the others of its list, and what is broken
-- where they leave it no room
pub record Test (A : Type 0) : Type 0 where
  pub says : Numbers → A
  pub fits : List A → A → Bool
  pub rises : List A → A → Bool
  pub room : List A → Result (Unit {0}) Refusal

-- elements that rise: each passes, and stands above the one before it
abbrev pub rising_test : {A : Type 0} → (Numbers → A) → (A → Bool) → (A → A → Bool) → (List A → Result (Unit {0}) Refusal) → Test A
rising_test says fits above room =
    record { says = says; fits = λ xs. fits; rises = λ xs x. given (last xs) true (λ b. above b x); room = room }

-- whether there is room for a line of kind k: 22 and 21, in the order of testing
abbrev pub room_checks : Kind → Policy → List Check
room_checks k p = check 22 (not (conflict_room k p)) ∷ check 21 (not (pair_room k p)) ∷ []

-- lines of kind k are so tested, whichever of them stand before in the list of a policy
pub record TestedBy (k : Kind) {A : Type 0} (z : Test A) (x : Listed k A) (p : Policy) : Type 0 where
  pub layout : Wordless (layout_of k)
  pub said : (n : Numbers) (ws : List Word) → x.said n ws ≡ z.says n
  pub range : (xs : List A) (n : Numbers) → in_range k (x.with xs p).form (sizes (x.with xs p)) n [] ≡ z.fits xs (z.says n)
  pub rise : (xs : List A) (n : Numbers) → rises k (x.with xs p) n ≡ z.rises xs (z.says n)
  pub space : (xs : List A) → first_broken (room_checks k (x.with xs p)) ≡ number_in (z.room xs)

-- between two cursors stand such lines
abbrev pub TestedRefused : List ℕ → Kind → {A : Type 0} → Test A → Cursor → Rejection → Type 0
TestedRefused t k z c e = RefusedBy t k (TestedBy k z) c e

abbrev pub TestedLines : List ℕ → Kind → {A : Type 0} → Test A → ℕ → Cursor → Cursor → List A → Type 0
TestedLines t k z i c d xs = ReadBy t k (TestedBy k z) i c d xs

-- nothing is broken where there is room, and `full` where there is none
abbrev pub room_by : Bool → Refusal → Result (Unit {0}) Refusal
room_by room full = cond room (Ok tt) (Err full)

-- the first that is broken of 6, 7 and the room
abbrev pub tested_by : (fits rises : Bool) → Result (Unit {0}) Refusal → Result (Unit {0}) Refusal
tested_by fits rises room = cond fits (cond rises room (Err NotRising)) (Err OutOfRange)

-- ---- widths

abbrev pub width_test : ℕ → Test ℕ
width_test most = record { says = λ n. n.first; fits = λ ws w. width_fits most (sum ws) w; rises = λ ws w. true; room = λ ws. Ok tt }

-- the shape of a side with these widths, which are within the limit
pub record ShapeOf (ws : List ℕ) (x : Shape) : Type 0 where
  pub attributes : x.attributes ≡ length ws
  pub widths : x.widths ≡ padded width_places 0 ws
  pub total : x.total ≡ sum ws
  pub small : x.total ≤ most_values

pub record WidthsFrom (t : List ℕ) (k : Kind) (most : ℕ) (c : Cursor) (x : Shape) (d : Cursor) : Type 0 where
  pub widths : List ℕ
  pub shape : ShapeOf widths x
  pub few : length widths ≤ sum widths
  pub small : sum widths ≤ most
  pub lines : TestedLines t k (width_test most) (suc (place_of k)) c d widths

abbrev pub WidthsRead : List ℕ → Kind → ℕ → Cursor → Result (Shape × Cursor) Rejection → Type 0
WidthsRead t k most c r = MatchResult r (λ x. WidthsFrom t k most c x.0 x.1) (TestedRefused t k (width_test most) c)

-- ---- seniorities

abbrev pub direct_in : Numbers → Direct
direct_in n = direct n.first n.second

abbrev pub direct_test : SideSizes → Test Direct
direct_test s = rising_test direct_in (line_in s) line_above (λ ls. Ok tt)

pub record SenioritiesFrom (t : List ℕ) (k : Kind) (s : Shape) (c : Cursor) (x : SideValue) (d : Cursor) : Type 0 where
  pub directs : List Direct
  pub side : x ≡ record { attributes = s.attributes; widths = s.widths; lines = length directs; seniority = padded line_places (direct 0 0) directs }
  pub lines : TestedLines t k (direct_test (sizes_in s)) (suc (place_of k)) c d directs

abbrev pub SenioritiesRead : List ℕ → Kind → Shape → Cursor → SideValue → Result Cursor Rejection → Type 0
SenioritiesRead t k s c x r = MatchResult r (SenioritiesFrom t k s c x) (TestedRefused t k (direct_test (sizes_in s)) c)

-- ---- users and objects

abbrev pub entry_in : Numbers → Entry
entry_in n = record { number = n.first; set = n.second }

abbrev pub entry_test : (most total : ℕ) → Test Entry
entry_test most total = rising_test entry_in (number_in_range most total) number_above (λ es. Ok tt)

pub record EntriesFrom (t : List ℕ) (k : Kind) (most total : ℕ) (c : Cursor) (x : Register) (d : Cursor) : Type 0 where
  pub entries : List Entry
  pub register : x ≡ register entries
  pub lines : TestedLines t k (entry_test most total) (suc (place_of k)) c d entries

abbrev pub EntriesRead : List ℕ → Kind → (most total : ℕ) → Cursor → Register → Result Cursor Rejection → Type 0
EntriesRead t k most total c x r = MatchResult r (EntriesFrom t k most total c x) (TestedRefused t k (entry_test most total) c)

-- ---- rules

pub record RuleKindOf (x : Listed RuleKind Rule) : Type 0 where
  pub said : (n : Numbers) (ws : List Word) → x.said n ws ≡ record { action = n.first; words = ws }
  pub rise : (p : Policy) (n : Numbers) → rises RuleKind p n ≡ given (last (x.items p)) true (λ r. ltb r.action n.first)
  pub form : (rs : List Rule) (p : Policy) → (x.with rs p).form ≡ p.form
  pub sizes : (rs : List Rule) (p : Policy) → sizes (x.with rs p) ≡ sizes p

pub record RulesFit (n : ℕ) (s : Sizes) (x : Listed RuleKind Rule) (p : Policy) : Type 0 where
  pub kind : RuleKindOf x
  pub form : p.form ≡ n
  pub sizes : sizes p ≡ s

pub record RulesFrom (t : List ℕ) (form : ℕ) (shapes : Shapes) (c : Cursor) (x : Rules) (d : Cursor) : Type 0 where
  pub list : List Rule
  pub rules : x ≡ rules_value list
  pub lines : ReadBy t RuleKind (RulesFit form (both_in shapes)) (suc (place_of RuleKind)) c d list

abbrev pub RulesRead : List ℕ → ℕ → Shapes → Cursor → Rules → Result Cursor Rejection → Type 0
RulesRead t form shapes c x r = MatchResult r (RulesFrom t form shapes c x) (RefusedBy t RuleKind (RulesFit form (both_in shapes)) c)

-- ---- lists with a limit

-- conflicts, with u user values
abbrev pub conflict_test : ℕ → Test Conflict
conflict_test u = rising_test conflict_in (conflict_fits u) set_above (λ xs. room_by (ltb (length xs) most_conflicts) TooManyConflicts)

pub record ConflictsFrom (t : List ℕ) (u : ℕ) (c : Cursor) (x : Conflicts) (d : Cursor) : Type 0 where
  pub list : List Conflict
  pub conflicts : x ≡ conflicts_value list
  pub lines : TestedLines t ConflictKind (conflict_test u) (suc (place_of ConflictKind)) c d list

abbrev pub ConflictsRead : List ℕ → ℕ → Cursor → Conflicts → Result Cursor Rejection → Type 0
ConflictsRead t u c x r = MatchResult r (ConflictsFrom t u c x) (TestedRefused t ConflictKind (conflict_test u) c)

-- pairs, with n actions, u user values and o object values
abbrev pub pair_test : (n u o : ℕ) → Test Pair
pair_test n u o = rising_test pair_in (pair_fits n u o) pair_higher (λ xs. room_by (ltb (length xs) most_pairs) TooManyPairs)

pub record PairsFrom (t : List ℕ) (n u o : ℕ) (c : Cursor) (x : Pairs) (d : Cursor) : Type 0 where
  pub list : List Pair
  pub pairs : x ≡ pairs_value list
  pub lines : TestedLines t PairKind (pair_test n u o) (suc (place_of PairKind)) c d list

abbrev pub PairsRead : List ℕ → (n u o : ℕ) → Cursor → Pairs → Result Cursor Rejection → Type 0
PairsRead t n u o c x r = MatchResult r (PairsFrom t n u o c x) (TestedRefused t PairKind (pair_test n u o) c)

-- ---- the form, which is of one line

pub record FormFrom (t : List ℕ) (c : Cursor) (form : ℕ) (d : Cursor) : Type 0 where
  pub stands : Stands t d
  pub past : Past (suc (place_of PolicyKind)) d
  pub left : left t c blank ≡ left t d (with_form form blank)

abbrev pub FormRead : List ℕ → Cursor → Result (ℕ × Cursor) Rejection → Type 0
FormRead t c r = MatchResult r (λ x. FormFrom t c x.0 x.1) (λ e. left t c blank ≡ refused_as e)

-- ---- the form and both sides

abbrev pub with_sides : ℕ → Side → Side → Policy
with_sides form user object = record { form = form; user = user; object = object; users = []; objects = []; conflicts = []; rules = []; pairs = [] }

pub record SidesFrom (t : List ℕ) (c : Cursor) (form : ℕ) (x : PolicyValue) (r : Sides) : Type 0 where
  pub user : Side
  pub object : Side
  pub value : x ≡ value_of (with_sides form user object)
  pub user-shape : ShapeOf user.widths r.shapes.user
  pub object-shape : ShapeOf object.widths r.shapes.object
  pub lines : Reads t c (suc (place_of Osen)) r.cursor (with_sides form user object)

abbrev pub SidesRead : List ℕ → Cursor → ℕ → PolicyValue → Result Sides Rejection → Type 0
SidesRead t c form x r = MatchResult r (SidesFrom t c form x) (λ e. left t c blank ≡ refused_as e)

-- ---- all lists

pub record ListsFrom (t : List ℕ) (c : Cursor) (x : PolicyValue) (d : Cursor) : Type 0 where
  pub policy : Policy
  pub value : x ≡ value_of policy
  pub lines : Reads t c (place_of End) d policy

abbrev pub ListsRead : List ℕ → Cursor → PolicyValue → Result Cursor Rejection → Type 0
ListsRead t c x r = MatchResult r (ListsFrom t c x) (λ e. left t c blank ≡ refused_as e)

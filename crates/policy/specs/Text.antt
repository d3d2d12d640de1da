-- The text of a policy: its lines in text order, each ended by a line feed.
use Rattle.std.specs.Prelude.{ℕ, List, [], ◌∷◌, ◌++◌, map}
use Rattle.seniority.specs.declared.Direct.{Direct}
use Rattle.text.specs.Number.{decimal}
use Rattle.text.specs.Parts.{join, comma, text_of as linesText}
use Rattle.text.specs.Kind.{word_of, layout_of}
use Rattle.text.specs.declared.kind.Kind.{Kind}
use Rattle.text.specs.declared.kind.Kind.TheVariants.{Policy as PolicyKind, Uattr, Oattr, Usen, Osen, User, Object, Conflict as ConflictKind, Pair as PairKind, End}
use Rattle.text.specs.declared.kind.Layout.{Layout}
use Rattle.text.specs.declared.kind.Layout.TheVariants.{Bare, One, Two, Three, Formula}
use Rattle.text.specs.declared.number.Numbers.{Numbers}
use Rattle.words.specs.Word.{written}
use Rattle.words.specs.declared.Word.{Word}
use Rattle.policy.specs.Policy.{Side, Rule, Policy}
use Rattle.policy.specs.Line.{Line, no_numbers, one_number, two_numbers, three_numbers, plain, rule_line}
use Rattle.policy.specs.declared.value.Entry.{Entry}
use Rattle.policy.specs.declared.value.Conflict.{Conflict}
use Rattle.policy.specs.declared.value.Pair.{Pair}

-- the lines of a policy
abbrev pub width_lines : Kind → Side → List Line
width_lines k s = map (λ w. plain k (one_number w)) s.widths

abbrev pub direct_lines : Kind → Side → List Line
direct_lines k s = map (λ (l : Direct). plain k (two_numbers l.senior l.junior)) s.lines

abbrev pub entry_lines : Kind → List Entry → List Line
entry_lines k es = map (λ (e : Entry). plain k (two_numbers e.number e.set)) es

abbrev pub conflict_lines : List Conflict → List Line
conflict_lines xs = map (λ (x : Conflict). plain ConflictKind (two_numbers x.set x.most)) xs

abbrev pub rule_lines : List Rule → List Line
rule_lines rs = map (λ (r : Rule). rule_line r.action r.words) rs

abbrev pub pair_lines : List Pair → List Line
pair_lines xs = map (λ (x : Pair). plain PairKind (three_numbers x.action x.user x.object)) xs

-- those of each kind, in the order of the kinds
abbrev pub lines_by_kind : Policy → List (List Line)
lines_by_kind p =
    (plain PolicyKind (one_number p.form) ∷ [])
    ∷ width_lines Uattr p.user
    ∷ width_lines Oattr p.object
    ∷ direct_lines Usen p.user
    ∷ direct_lines Osen p.object
    ∷ entry_lines User p.users
    ∷ entry_lines Object p.objects
    ∷ conflict_lines p.conflicts
    ∷ rule_lines p.rules
    ∷ pair_lines p.pairs
    ∷ (plain End no_numbers ∷ [])
    ∷ []

-- lists in a row
abbrev pub flat : List (List Line) → List Line
flat [] = []
flat (g ∷ gs) = g ++ flat gs

unfoldable pub lines_of : Policy → List Line
lines_of p = flat (lines_by_kind p)

-- the fields after the first, by layout
unfoldable pub later_fields : Layout → Numbers → List Word → List (List ℕ)
later_fields Bare n ws = []
later_fields One n ws = decimal n.first ∷ []
later_fields Two n ws = decimal n.first ∷ decimal n.second ∷ []
later_fields Three n ws = decimal n.first ∷ decimal n.second ∷ decimal n.third ∷ []
later_fields Formula n ws = decimal n.first ∷ map written ws

-- all fields of a line
abbrev pub fields_of : Line → List (List ℕ)
fields_of l = word_of l.kind ∷ later_fields (layout_of l.kind) l.numbers l.words

unfoldable pub line_text : Line → List ℕ
line_text l = join comma (fields_of l)

-- the text of a policy
unfoldable pub text_of : Policy → List ℕ
text_of p = linesText (map line_text (lines_of p))

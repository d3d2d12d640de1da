-- The lines of a policy kind by kind: the lines from a kind on, and one line more of the last kind that has any.
use mathlib.Core.Path.{◌≡◌, refl, ◌∙◌}
use mathlib.Core.List.{List, [], ◌∷◌, ◌++◌, map, append-nil, append_assoc, map-append}
use lib.ListN.{take, drop}
use Rattle.text.specs.Kind.{place_of}
use Rattle.text.specs.declared.kind.Kind.{Kind}
use Rattle.text.specs.declared.kind.Kind.TheVariants.{Policy as PolicyKind, End}
use Rattle.policy.specs.Policy.{Policy}
use Rattle.policy.specs.Line.{Line}
use Rattle.policy.specs.Text.{lines_by_kind, flat, lines_of}

pub flat_append : (a b : List (List Line)) → flat (a ++ b) ≡ flat a ++ flat b
flat_append [] b = refl
flat_append (g ∷ a) b = rw (flat_append a b, append_assoc)

-- one element more, with nothing behind it
flat-end : (a : List (List Line)) (g : List Line) (b : List (List Line)) → flat b ≡ [] → flat (a ++ g ∷ b) ≡ flat a ++ g
flat-end a g b e = flat_append a (g ∷ b) ∙ rw (e, append-nil)

pub flat-more : {A : Type 0} (f : A → Line) (xs : List A) (x : A) (a b : List (List Line)) → flat b ≡ []
    → flat (a ++ map f (xs ++ (x ∷ [])) ∷ b) ≡ flat (a ++ map f xs ∷ b) ++ (f x ∷ [])
flat-more f xs x a b e =
    rw (flat-end a (map f (xs ++ (x ∷ []))) b e, flat-end a (map f xs) b e, map-append f xs (x ∷ []), append_assoc)

-- the lines of each kind
unfoldable pub groups : Policy → List (List Line)
groups p = lines_by_kind p

-- all lines but the end line, and the lines from a kind on
unfoldable pub open_lines : Policy → List Line
open_lines p = flat (take (place_of End) (groups p))

unfoldable pub lines_from : Kind → Policy → List Line
lines_from k p = flat (drop (place_of k) (groups p))

pub lines-from : (p : Policy) → lines_of p ≡ lines_from PolicyKind p
unfolding lines_of lines_from groups
lines-from p = refl

pub lines-open : (p : Policy) → lines_of p ≡ open_lines p ++ lines_from End p
unfolding open_lines lines_from groups
lines-open p = lines-from p ∙ flat_append (take (place_of End) (groups p)) (drop (place_of End) (groups p))

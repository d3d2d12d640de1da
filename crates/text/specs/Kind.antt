-- "The first field is one of nine words", to which document 02 adds `pair` and `conflict`; which kind may follow
-- which.
use Rattle.std.specs.Prelude.{ℕ, Bool, false, cond, ◌||◌, List, [], ◌∷◌, eqb, leb, Option, Some, None}
use Rattle.basis.specs.Bytes.{bytes}
use Rattle.basis.specs.Lists.{same}
use Rattle.text.specs.declared.kind.Kind.{Kind}
use Rattle.text.specs.declared.kind.Kind.TheVariants.{Policy, Uattr, Oattr, Usen, Osen, User, Object, Conflict, Rule, Pair, End}
use Rattle.text.specs.declared.kind.Layout.{Layout}
use Rattle.text.specs.declared.kind.Layout.TheVariants.{Bare, One, Two, Three, Formula}

-- each kind word is a fixed byte string
abbrev pub word_of : Kind → List ℕ
word_of Policy = bytes "policy"
word_of Uattr = bytes "uattr"
word_of Oattr = bytes "oattr"
word_of Usen = bytes "usen"
word_of Osen = bytes "osen"
word_of User = bytes "user"
word_of Object = bytes "object"
word_of Conflict = bytes "conflict"
word_of Rule = bytes "rule"
word_of Pair = bytes "pair"
word_of End = bytes "end"

abbrev pub kinds : List Kind
kinds = Policy ∷ Uattr ∷ Oattr ∷ Usen ∷ Osen ∷ User ∷ Object ∷ Conflict ∷ Rule ∷ Pair ∷ End ∷ []

-- the kind of a list whose word a first field is
unfoldable pub named_in : List Kind → List ℕ → Option Kind
named_in [] f = None
named_in (k ∷ ks) f = cond (same eqb f (word_of k)) (Some k) (named_in ks f)

abbrev pub named : List ℕ → Option Kind
named f = named_in kinds f

-- what stands behind a kind's word: nothing, one, two or three numbers, or an action and the words of a formula
abbrev pub layout_of : Kind → Layout
layout_of Policy = One
layout_of Uattr = One
layout_of Oattr = One
layout_of Usen = Two
layout_of Osen = Two
layout_of User = Two
layout_of Object = Two
layout_of Conflict = Two
layout_of Rule = Formula
layout_of Pair = Three
layout_of End = Bare

-- a kind's place in the list of eleven
abbrev pub place_of : Kind → ℕ
place_of Policy = 0
place_of Uattr = 1
place_of Oattr = 2
place_of Usen = 3
place_of Osen = 4
place_of User = 5
place_of Object = 6
place_of Conflict = 7
place_of Rule = 8
place_of Pair = 9
place_of End = 10

abbrev pub is_kind : Kind → Kind → Bool
is_kind j k = eqb (place_of j) (place_of k)

abbrev pub not_before : Kind → Kind → Bool
not_before j k = leb (place_of j) (place_of k)

-- "policy is followed by uattr; uattr by uattr or oattr; each of oattr to rule by itself or any later kind; end by
-- nothing"; "lines `pair,A,V,W` come between rule and end"; "lines `conflict,S,K` come between object and rule"
unfoldable pub follows : Kind → Kind → Bool
follows Policy k = is_kind Uattr k
follows Uattr k = is_kind Uattr k || is_kind Oattr k
follows Oattr k = not_before Oattr k
follows Usen k = not_before Usen k
follows Osen k = not_before Osen k
follows User k = not_before User k
follows Object k = not_before Object k
follows Conflict k = not_before Conflict k
follows Rule k = not_before Rule k
follows Pair k = not_before Pair k
follows End k = false

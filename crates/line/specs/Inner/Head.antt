-- A line as the code takes it apart: its kind and its numbers, or what it breaks of refusals 3 to 5.
use Rattle.std.specs.Prelude.{ℕ, ◌-◌, Bool, cond, List, [], ◌∷◌, length, get_or, take, drop, Option, None, Some, Result, Ok, Err}
use Rattle.text.specs.Number.{is_number}
use Rattle.text.specs.Kind.{layout_of}
use Rattle.text.specs.declared.kind.Kind.{Kind}
use Rattle.text.specs.declared.kind.Layout.{Layout}
use Rattle.text.specs.declared.kind.Layout.TheVariants.{Bare, One, Two, Three, Formula}
use Rattle.text.specs.declared.number.Numbers.{Numbers}
use Rattle.policy.specs.Line.{three_numbers, allowed, field_at, count_fits, form_fits, numbers_of}
use Rattle.policy.specs.declared.refusal.Refusal.{Refusal}
use Rattle.policy.specs.declared.refusal.Refusal.TheVariants.{KindNotAllowed, WrongFieldCount, MalformedField}
use Rattle.line.specs.declared.head.Head.{Head}

-- the bytes from i to r
abbrev pub between : List ℕ → ℕ → ℕ → List ℕ
between l i r = take (r - i) (drop i l)

-- the later fields are in their form, but for the words of a formula
unfoldable pub numbers_fit : Layout → List (List ℕ) → Bool
numbers_fit Bare fs = form_fits Bare fs
numbers_fit One fs = form_fits One fs
numbers_fit Two fs = form_fits Two fs
numbers_fit Three fs = form_fits Three fs
numbers_fit Formula fs = is_number (field_at fs 1)

-- refusals 4 and 5, by whether the count and the form fit
abbrev pub formed : {A : Type 0} → Bool → Bool → A → Result A Refusal
formed count form a = cond count (cond form (Ok a) (Err MalformedField)) (Err WrongFieldCount)

-- the numbers of a line
unfoldable pub numbers_as : Layout → List (List ℕ) → Result Numbers Refusal
numbers_as x fs = formed (count_fits x (length fs)) (numbers_fit x fs) (numbers_of x fs)

-- and its kind: refusal 3
unfoldable pub parsed_as : Option Kind → Option Kind → List (List ℕ) → Result Head Refusal
parsed_as before None fs = Err KindNotAllowed
parsed_as before (Some k) fs =
    cond (allowed before k)
    (formed (count_fits (layout_of k) (length fs)) (numbers_fit (layout_of k) fs) (record { kind = k; numbers = numbers_of (layout_of k) fs }))
    (Err KindNotAllowed)

-- the layout of a line with n number fields, of which there are at most 3
abbrev pub layout_with : ℕ → Layout
layout_with n = get_or (Bare ∷ One ∷ Two ∷ []) n Three

-- the numbers of three fields, if each is one
abbrev pub said_by : List (Option ℕ) → Option Numbers
said_by (Some l ∷ (Some m ∷ (Some n ∷ vs))) = Some (three_numbers l m n)
said_by vs = None

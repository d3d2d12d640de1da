-- The limits of documents 01 and 02, each in one place; whatever else is bounded is bounded by these, by name.
use Rattle.std.specs.Prelude.{ℕ, ◌*◌, ◌-◌, ◌/◌, ◌^◌, Bool, cond, ◌&&◌, ◌||◌, eqb}
use Rattle.policy.specs.declared.limits.Widths.{Widths}

-- "The text is longer than 8,192 bytes."
abbrev pub text_bytes : ℕ
text_bytes = 8192

-- ---- by form

-- "`policy,1`: the form's number", and document 02: "A text beginning `policy,2`", "a text beginning `policy,3`"
abbrev pub is_form : ℕ → Bool
is_form form = eqb form 1 || (eqb form 2 || eqb form 3)

-- "Each W is 1 to 7; U, the sum of the W, is 1 to 7"; a text beginning `policy,3` "has sums, and each W, from 1 to 9 on
-- each side": the greatest width and sum of a side in a text of this form
unfoldable pub values : ℕ → ℕ
values form = cond (eqb form 3) 9 7

-- "the formula of action A, 0 to 7", to which "a `policy,1` text keeps"; "a text beginning `policy,2` may have actions 0
-- to 15", and one beginning `policy,3` has "actions as in form 2": how many actions a text of this form has
unfoldable pub actions : ℕ → ℕ
actions form = cond (eqb form 1) 8 16

-- in how many bits a label is stored, and a table's entry
abbrev pub bits : ℕ → ℕ → Widths
bits label entry = record { label = label; entry = entry }

-- "three byte buffers"; "table entries are 16 bits wide. A `policy,1` text keeps byte tables"; in form 3 "label buffers
-- become 16-bit": the stored widths of a form
unfoldable pub stored_widths : ℕ → Widths
stored_widths form = cond (eqb form 1) (bits 8 8) (cond (eqb form 3) (bits 16 16) (bits 8 16))

-- a call is made for these widths, and they are not "stored widths other than those of the policy's form"
unfoldable pub own_widths : ℕ → Widths → Bool
own_widths form w = eqb w.label (stored_widths form).label && eqb w.entry (stored_widths form).entry

-- "Each is stored in 16 bits"; in form 3 "tuples 32-bit": in how many bits a form stores a tuple
unfoldable pub tuple_bits : ℕ → ℕ
tuple_bits form = cond (eqb form 3) 32 16

-- the most of any form, for which arrays have places; the laws `values-most` and `actions-most` say so
abbrev pub most_values : ℕ
most_values = 9

abbrev pub most_actions : ℕ
most_actions = 16

-- ---- of every form

-- "user N, 0 to 31"
abbrev pub user_numbers : ℕ
user_numbers = 32

-- "object N, 0 to 63"
abbrev pub object_numbers : ℕ
object_numbers = 64

-- "a map from session number 0 to 31"
abbrev pub session_numbers : ℕ
session_numbers = 32

-- "as 1 to 32 words"
abbrev pub most_words : ℕ
most_words = 32

-- 22: "a conflict line is past the 16th"
abbrev pub most_conflicts : ℕ
most_conflicts = 16

-- "at most K (0 to 7)"
abbrev pub most_together : ℕ
most_together = 7

-- 21: "a pair line is past the 64th"
abbrev pub most_pairs : ℕ
most_pairs = 64

-- ---- what follows

-- the sets of a side
abbrev pub most_sets : ℕ
most_sets = 2 ^ most_values

-- the tuples that an action may have: one for each user set and object set
abbrev pub most_tuples : ℕ
most_tuples = most_sets * most_sets

-- the seniority lines of a side: one for each two values
abbrev pub most_lines : ℕ
most_lines = most_values * (most_values - 1) / 2

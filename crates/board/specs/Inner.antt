-- What the inner functions of the code answer, and what they ask of a policy value. Public contracts do without these.
use Rattle.std.specs.Prelude.{ℕ, ◌≤◌, ◌<◌, ◌≡◌, Bool, true, false, cond, not, ◌&&◌, List, [], ◌∷◌, ◌++◌, ltb, length, get_or, set, Option, None, Some, Result, Ok, Err}
use Rattle.std.specs.Int.Bits.{bit_and}
use Rattle.std.specs.Int.Count.{ones}
use Rattle.basis.specs.Choice.{given, there, Check, check, first_broken, unless_refused}
use Rattle.basis.specs.Lists.{all, any}
use Rattle.sets.specs.Set.{within}
use Rattle.seniority.specs.Seniority.{reach}
use Rattle.seniority.specs.Inner.{Ordered, word_bits}
use Rattle.policy.specs.Limits.{user_numbers}
use Rattle.policy.specs.Policy.{Policy, total, sets, set_of_number}
use Rattle.policy.specs.Value.{entry_places, side_of, entries_of, policy_of, line_places}
use Rattle.policy.specs.Answers.{number_of, Reply, done, refused, decided}
use Rattle.policy.specs.declared.refusal.Refusal.{Refusal}
use Rattle.policy.specs.declared.value.Entry.{Entry}
use Rattle.policy.specs.declared.value.SideValue.{SideValue}
use Rattle.policy.specs.declared.value.Register.{Register}
use Rattle.policy.specs.declared.value.Conflict.{Conflict}
use Rattle.policy.specs.declared.value.PolicyValue.{PolicyValue}
use Rattle.formula.specs.Truth.{Sets, at}
use Rattle.board.specs.Machine.{Entry as SessionEntry, Call, closes, requests, session_of, reach_of, out_of_reach, checks, held_in, sets_asked, Out}
use Rattle.board.specs.Board.{entry_of, entry_at, fits, Labels, reads_past_end, grants_by_labels}
use Rattle.board.specs.declared.Session.{Session}
use Rattle.board.specs.declared.Board.{Board}
use Rattle.board.specs.declared.asking.Asked.{Asked}

-- ---- what the answers stand for

-- the refusal, if it is one
abbrev pub refusal_of : {A : Type 0} → Result A Refusal → Option ℕ
refusal_of (Ok a) = None
refusal_of (Err r) = Some (number_of r)

abbrev pub sets_of : Asked → Sets
sets_of x = at x.held x.object

abbrev pub asked_of : Result Asked Refusal → Result Sets ℕ
asked_of (Ok x) = Ok (sets_of x)
asked_of (Err r) = Err (number_of r)

-- ---- what the functions work out

-- the place of a number among those of the user numbers; past them is one for all others
unfoldable pub place_of : ℕ → ℕ
place_of n = cond (ltb n user_numbers) n user_numbers

-- the set of each user number, and none at the place of all others
pub record ByNumber (es : List Entry) (found : List (Option ℕ)) : Type 0 where
  pub below : (n : ℕ) → n < user_numbers → get_or found n None ≡ set_of_number es n
  pub past : get_or found user_numbers None ≡ None

-- a user's reach, where the user is registered
unfoldable pub reach_if : Policy → ℕ → Option ℕ
reach_if p u = given (set_of_number p.users u) None (λ s. Some (reach p.user.lines (total p.user) s))

-- a number is registered, and the set within the reach of what it is assigned
unfoldable pub covered : SideValue → Option ℕ → ℕ → Bool
covered side assigned set = given assigned false (λ s. within set (reach (side_of side).lines (total (side_of side)) s))

-- what stands at a place of a buffer, or 20
unfoldable pub read_at : List ℕ → ℕ → Result ℕ ℕ
read_at buffer place = cond (ltb place (length buffer)) (Ok (get_or buffer place 0)) (Err 20)

-- what the labels of two sets say
unfoldable pub looked_up : Labels → ℕ → Sets → Reply
looked_up l a s = cond (reads_past_end l s) (refused 20) (decided (grants_by_labels l a s))

-- the checks of a set: 19 of the one that a call names, then 23 of the one that its session would hold
abbrev pub set_checks : (outside over : Bool) → List Check
set_checks outside over = check 19 outside ∷ check 23 over ∷ []

-- the checks of add, and those of drop where nothing is over: those of close, then those of a set
abbrev pub change_checks : Policy → ℕ → ℕ → ℕ → Bool → Option SessionEntry → List Check
change_checks p u s set over e = checks p (closes u s) e ++ set_checks (out_of_reach p u set) over

-- one of these sets has too many values of a conflict: both have more in common than it allows
unfoldable pub exceeded : Conflict → List ℕ → Bool
exceeded x sets = any (λ s. ltb x.most (ones (bit_and x.set s))) sets

-- of some conflict
unfoldable pub over : List Conflict → List ℕ → Bool
over xs sets = any (λ x. exceeded x sets) xs

-- what a session holds; the empty set where it is closed
abbrev pub held_at : Session → ℕ
held_at x = held_in (entry_of x)

-- check 11 of an entry but for conflicts, and of all entries
abbrev pub reached : Policy → SessionEntry → Bool
reached p e = there (set_of_number p.users e.user) && within e.held (reach_of p e.user)

abbrev pub all_reached : Policy → List Session → Bool
all_reached p xs = all (λ x. given (entry_of x) true (reached p)) xs

-- what a request comes to: the sets that it is decided on, or the lowest of 12 to 17
unfoldable pub asked : Policy → ℕ → ℕ → ℕ → Option SessionEntry → Result Sets ℕ
asked p s a n e = unless_refused (checks p (requests s a n) e) (sets_asked p n e)

-- the answer to it
abbrev pub answered : Labels → ℕ → Result Sets ℕ → Reply
answered l a (Ok s) = looked_up l a s
answered l a (Err n) = refused n

-- the first refusal but 20 of a call that is made for the form's own widths: 11, then the machine's
unfoldable pub lower : PolicyValue → Call → Board → Option ℕ
lower v c b = first_broken (check 11 (not (fits v b)) ∷ checks (policy_of v) c (entry_at b (session_of c)))

-- the step of a call that check 11 refuses
abbrev pub invalid : Board → Out Board
invalid b = record { reply = refused 11; state = b }

-- a call done, with the entry that its session gets, or refused
unfoldable pub settled : Board → ℕ → Option ℕ → Session → Out Board
settled b s refusal entry =
    given refusal (record { reply = done; state = record { sessions = set b.sessions s entry } }) (λ n. record { reply = refused n; state = b })

-- ---- what check 11 ensures of the users and their side

-- seniority lines by which reach can be worked out
pub record Rising (side : SideValue) : Type 0 where
  pub lines : side.lines ≤ line_places
  pub values : total (side_of side) ≤ word_bits
  pub ordered : Ordered (total (side_of side)) (side_of side).lines

pub record Reachable (side : SideValue) (users : Register) : Type 0 where
  pub seniority : Rising side
  pub count : users.count ≤ entry_places
  pub numbers : (n s : ℕ) → set_of_number (entries_of users) n ≡ Some s → n < user_numbers
  pub assigned : (n s : ℕ) → set_of_number (entries_of users) n ≡ Some s → s < sets (side_of side)

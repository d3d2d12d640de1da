-- The plain machine, "fed the text and the calls with the arguments listed below, and nothing of the board, the lent
-- buffers, NU or NO". Its session functions are those of source document 002, Tables 5 and 6.
use Rattle.std.specs.Prelude.{ℕ, Bool, false, cond, not, ◌&&◌, List, [], ◌∷◌, eqb, leb, ltb, Option, None, Some}
use Rattle.basis.specs.Choice.{given, there, Check, check, first_broken}
use Rattle.basis.specs.Lists.{any}
use Rattle.basis.specs.Numbers.{count}
use Rattle.sets.specs.Set.{has, union, minus, within}
use Rattle.seniority.specs.Seniority.{reach}
use Rattle.policy.specs.Limits.{session_numbers}
use Rattle.policy.specs.Policy.{Policy, blank, total, set_of_number}
use Rattle.policy.specs.Read.{Outcome, Accepted, Refused, read_text}
use Rattle.policy.specs.Answers.{Reply, done, refused, decided}
use Rattle.policy.specs.declared.value.Conflict.{Conflict}
use Rattle.formula.specs.Truth.{Sets, at, grants}
use Rattle.formula.specs.Decide.{no_action}

-- "(user, held set)"
pub record Entry : Type 0 where
  pub user : ℕ
  pub held : ℕ

-- "Its state is a map from session number to (user, held set), empty when fresh."
abbrev pub Map : Type 0
Map = ℕ → Option Entry

unfoldable pub empty : Map
empty k = None

unfoldable pub put : Map → ℕ → Option Entry → Map
put m s e k = cond (eqb k s) e (m k)

-- the calls, with any numbers
pub data Call : Type 0 where
  opens : (user session set : ℕ) → Call
  adds : (user session set : ℕ) → Call
  drops : (user session set : ℕ) → Call
  closes : (user session : ℕ) → Call
  requests : (session action object : ℕ) → Call

-- the session that a call names
abbrev pub session_of : Call → ℕ
session_of (opens u s set) = s
session_of (adds u s set) = s
session_of (drops u s set) = s
session_of (closes u s) = s
session_of (requests s a n) = s

-- "A user's reach is the assigned values and all juniors of them."
unfoldable pub reach_of : Policy → ℕ → ℕ
reach_of p u = given (set_of_number p.users u) 0 (reach p.user.lines (total p.user))

-- the set of a registered object
unfoldable pub object_set : Policy → ℕ → ℕ
object_set p n = given (set_of_number p.objects n) 0 (λ set. set)

-- ---- what becomes of the entry of a session

abbrev pub entry : ℕ → ℕ → Entry
entry u held = record { user = u; held = held }

-- by a call that is not refused: "the map gains (user, set)"; "the held set gains or loses these values"; "the entry
-- goes"; "the map is unchanged"
unfoldable pub entry_after : Call → Option Entry → Option Entry
entry_after (opens u s set) e = Some (entry u set)
entry_after (adds u s set) e = given e None (λ x. Some (entry x.user (union x.held set)))
entry_after (drops u s set) e = given e None (λ x. Some (entry x.user (minus x.held set)))
entry_after (closes u s) e = None
entry_after (requests s a n) e = e

abbrev pub held_in : Option Entry → ℕ
held_in e = given e 0 (λ x. x.held)

-- ---- refusals 12 to 19 and 23, of a call and the entry of the session that it names

-- 13: "The session number is above 31."
abbrev pub no_session : ℕ → Bool
no_session s = leb session_numbers s

-- 14: "The user is not registered: the text has no user line with that number."
abbrev pub no_user : Policy → ℕ → Bool
no_user p u = not (there (set_of_number p.users u))

-- 15: "The object is not registered: the text has no object line with that number."
abbrev pub no_object : Policy → ℕ → Bool
no_object p n = not (there (set_of_number p.objects n))

-- 18: "the session is another user's": it "belongs to its entry's user"
abbrev pub of_another : ℕ → Option Entry → Bool
of_another u e = given e false (λ x. not (eqb x.user u))

-- 19: a set holds a value "out of the user's reach"
abbrev pub out_of_reach : Policy → ℕ → ℕ → Bool
out_of_reach p u set = not (within set (reach_of p u))

-- how many "of the values in user set S" a set holds: as held, without juniors
unfoldable pub together : Policy → ℕ → Conflict → ℕ
together p set c = count (λ v. has c.set v && has set v) (total p.user)

-- "of the values in user set S .. a session may hold at most K": a set holds more of some conflict
unfoldable pub too_many : Policy → ℕ → Bool
too_many p set = any (λ c. ltb c.most (together p set c)) p.conflicts

-- 23: "a session would hold too many values of a conflict": the session that the call names, were the call done
abbrev pub would_hold_too_many : Policy → Call → Option Entry → Bool
would_hold_too_many p c e = too_many p (held_in (entry_after c e))

-- 16: "Open: the session is open already"; 17: "Any other session call: it is not open". "A session is open while the
-- map has its number"
abbrev pub is_open : Option Entry → Bool
is_open e = there e

-- each call's own list, in the order of testing: 23 stands "after 19"
unfoldable pub checks : Policy → Call → Option Entry → List Check
checks p (opens u s set) e =
    check 13 (no_session s)
    ∷ check 14 (no_user p u)
    ∷ check 16 (is_open e)
    ∷ check 19 (out_of_reach p u set)
    ∷ check 23 (would_hold_too_many p (opens u s set) e)
    ∷ []
checks p (adds u s set) e =
    check 13 (no_session s)
    ∷ check 14 (no_user p u)
    ∷ check 17 (not (is_open e))
    ∷ check 18 (of_another u e)
    ∷ check 19 (out_of_reach p u set)
    ∷ check 23 (would_hold_too_many p (adds u s set) e)
    ∷ []
checks p (drops u s set) e =
    check 13 (no_session s)
    ∷ check 14 (no_user p u)
    ∷ check 17 (not (is_open e))
    ∷ check 18 (of_another u e)
    ∷ check 19 (out_of_reach p u set)
    ∷ []
checks p (closes u s) e =
    check 13 (no_session s) ∷ check 14 (no_user p u) ∷ check 17 (not (is_open e)) ∷ check 18 (of_another u e) ∷ []
checks p (requests s a n) e =
    check 12 (no_action p a) ∷ check 13 (no_session s) ∷ check 15 (no_object p n) ∷ check 17 (not (is_open e)) ∷ []

-- ---- the answer to a call that is not refused

-- what a request is decided on: "the held set and the object's set"
abbrev pub sets_asked : Policy → ℕ → Option Entry → Sets
sets_asked p n e = at (held_in e) (object_set p n)

-- "Its answer is the refusal; else granted or denied for a request, and done for the other calls." "the machine decides
-- by the action's formula on the held set and the object's set", and by its pairs
unfoldable pub reply : Policy → Call → Option Entry → Reply
reply p (opens u s set) e = done
reply p (adds u s set) e = done
reply p (drops u s set) e = done
reply p (closes u s) e = done
reply p (requests s a n) e = decided (grants p a (sets_asked p n e))

-- ---- a call, and a list of calls

-- an answer and the state after it
pub record Out (S : Type 0) : Type 0 where
  pub reply : Reply
  pub state : S

-- "The machine refuses by 12 to 19, the lowest that applies first, and then keeps its map", and "by 23 too"
unfoldable pub step : Policy → Call → Map → Out Map
step p c m =
    given (first_broken (checks p c (m (session_of c))))
    (record { reply = reply p c (m (session_of c)); state = put m (session_of c) (entry_after c (m (session_of c))) })
    (λ n. record { reply = refused n; state = m })

-- the answers to a list, and the state after it
pub record Ran (S : Type 0) : Type 0 where
  pub replies : List Reply
  pub state : S

-- each call gets the state that the call before it left
unfoldable pub run : {S : Type 0} → (Call → S → Out S) → List Call → S → Ran S
run f [] s = record { replies = []; state = s }
run f (c ∷ cs) s =
    let o = f c s in
    let r = run f cs o.state in
    record { replies = o.reply ∷ r.replies; state = r.state }

-- the policy of an accepted text
abbrev pub policy_in : Outcome → Policy
policy_in (Accepted p) = p
policy_in (Refused n l) = blank

-- the plain machine
unfoldable pub machine : List ℕ → List Call → Ran Map
machine text calls = run (step (policy_in (read_text text))) calls empty

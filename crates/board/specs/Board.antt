-- The board: what each of the five calls answers and leaves, whatever board, policy value and buffers it is handed.
use Rattle.std.specs.Prelude.{ℕ, ◌+◌, ◌*◌, Bool, true, false, cond, not, ◌&&◌, ◌||◌, List, [], ◌∷◌, ◌++◌, eqb, leb, length, get_or, set, replicate, Option, None, Some, Result, Ok, Err}
use Rattle.basis.specs.Choice.{given, there, Check, check, first_broken}
use Rattle.basis.specs.Lists.{all}
use Rattle.sets.specs.Set.{has, within}
use Rattle.policy.specs.Limits.{session_numbers, own_widths}
use Rattle.policy.specs.Policy.{Policy, set_of_number}
use Rattle.policy.specs.Value.{policy_of}
use Rattle.policy.specs.Valid.{valid}
use Rattle.policy.specs.Answers.{number_of, Reply, done, granted, denied, refused, decided}
use Rattle.policy.specs.declared.refusal.Refusal.{Refusal}
use Rattle.policy.specs.declared.value.PolicyValue.{PolicyValue}
use Rattle.formula.specs.Truth.{Sets}
use Rattle.labels.specs.Compile.{Buffers}
use Rattle.labels.specs.declared.Counts.{Counts}
use Rattle.board.specs.Machine.{Entry, Call, opens, adds, drops, closes, requests, session_of, reach_of, too_many, checks, entry, entry_after, sets_asked, Out}
use Rattle.board.specs.declared.Session.{Session}
use Rattle.board.specs.declared.Board.{Board}
use Rattle.board.specs.declared.Reply.{Reply as CodeReply}
use Rattle.board.specs.declared.Reply.TheVariants.{Denied, Granted, Done}
use Rattle.board.specs.declared.Call.{Call as CodeCall}
use Rattle.board.specs.declared.Call.TheVariants.{Open, Add, Drop, Close, Request}
use Rattle.board.specs.declared.Step.{Step}

-- what the code's call, answer and step stand for
abbrev pub call_of : CodeCall → Call
call_of (Open u s set) = opens u s set
call_of (Add u s set) = adds u s set
call_of (Drop u s set) = drops u s set
call_of (Close u s) = closes u s
call_of (Request s a n) = requests s a n

abbrev pub replied : CodeReply → Reply
replied Denied = denied
replied Granted = granted
replied Done = done

abbrev pub reply_of : Result CodeReply Refusal → Reply
reply_of (Ok r) = replied r
reply_of (Err r) = refused (number_of r)

abbrev pub out_of : Step → Out Board
out_of r = record { reply = reply_of r.answer; state = r.board }

-- ---- the sessions that a board holds

abbrev pub closed : Session
closed = record { live = 0; user = 0; held = 0 }

-- document 01 calls a live session open: 0 is closed, any other number open
abbrev pub entry_of : Session → Option Entry
entry_of x = cond (eqb x.live 0) None (Some (entry x.user x.held))

-- what a call stores
abbrev pub session_for : Option Entry → Session
session_for None = closed
session_for (Some e) = record { live = 1; user = e.user; held = e.held }

unfoldable pub entry_at : Board → ℕ → Option Entry
entry_at b s = entry_of (get_or b.sessions s closed)

unfoldable pub store : Board → ℕ → Option Entry → Board
store b s e = record { sessions = set b.sessions s (session_for e) }

-- "a fresh board for the text, which holds no session"
unfoldable pub fresh : Board
fresh = record { sessions = replicate session_numbers closed }

-- ---- 11: "or a board holds a session whose user is not registered or whose set is out of reach", or which holds "too
-- many values of a conflict": "a board that doesn't [keep to it] is bad under check 11"

abbrev pub entry_fits : Policy → Entry → Bool
entry_fits p e =
    there (set_of_number p.users e.user) && (within e.held (reach_of p e.user) && not (too_many p e.held))

abbrev pub sessions_fit : Policy → List Session → Bool
sessions_fit p xs = all (λ x. given (entry_of x) true (entry_fits p)) xs

unfoldable pub board_fits : Policy → Board → Bool
board_fits p b = sessions_fit p b.sessions

unfoldable pub fits : PolicyValue → Board → Bool
fits v b = valid v && board_fits (policy_of v) b

-- ---- what a request reads: "one byte of each lent buffer", or one entry of another width

-- the lent buffers, of the widths that the request is made for, with NU and NO as handed in
pub record Labels : Type 0 where
  pub counts : Counts
  pub buffers : Buffers

abbrev pub labels_of : Counts → Buffers → Labels
labels_of n b = record { counts = n; buffers = b }

-- "the held set's label ul, the object set's label ol, and the table byte at ul × NO + ol"
abbrev pub user_label_at : Labels → Sets → ℕ
user_label_at l s = get_or l.buffers.users s.user 0

abbrev pub object_label_at : Labels → Sets → ℕ
object_label_at l s = get_or l.buffers.objects s.object 0

abbrev pub place_at : Labels → Sets → ℕ
place_at l s = user_label_at l s * l.counts.objects + object_label_at l s

-- 20: "any of the three places lies past its buffer's end"
unfoldable pub reads_past_end : Labels → Sets → Bool
reads_past_end l s =
    leb (length l.buffers.users) s.user
    || (leb (length l.buffers.objects) s.object || leb (length l.buffers.table) (place_at l s))

-- "It grants action a exactly when bit a there is set."
unfoldable pub grants_by_labels : Labels → ℕ → Sets → Bool
grants_by_labels l a s = has (get_or l.buffers.table (place_at l s) 0) a

-- ---- the five calls

-- only a request looks at the buffers
unfoldable pub look_up : Policy → Labels → Call → Option Entry → List Check
look_up p l (opens u s set) e = []
look_up p l (adds u s set) e = []
look_up p l (drops u s set) e = []
look_up p l (closes u s) e = []
look_up p l (requests s a n) e = check 20 (reads_past_end l (sets_asked p n e)) ∷ []

unfoldable pub board_reply : Policy → Labels → Call → Option Entry → Reply
board_reply p l (opens u s set) e = done
board_reply p l (adds u s set) e = done
board_reply p l (drops u s set) e = done
board_reply p l (closes u s) e = done
board_reply p l (requests s a n) e = decided (grants_by_labels l a (sets_asked p n e))

-- "a call made for stored widths other than those of the policy's form": only a request is made for any
unfoldable pub other_widths : Policy → Labels → Call → Bool
other_widths p l (opens u s set) = false
other_widths p l (adds u s set) = false
other_widths p l (drops u s set) = false
other_widths p l (closes u s) = false
other_widths p l (requests s a n) = not (own_widths p.form l.buffers.widths)

-- 11, whichever of its conditions holds
abbrev pub unfit : PolicyValue → Labels → Call → Board → Bool
unfit v l c b = other_widths (policy_of v) l c || not (fits v b)

-- 11, then the machine's refusals, then 20
unfoldable pub board_checks : PolicyValue → Labels → Call → Board → List Check
board_checks v l c b =
    check 11 (unfit v l c b)
    ∷ checks (policy_of v) c (entry_at b (session_of c))
    ++ look_up (policy_of v) l c (entry_at b (session_of c))

-- a request leaves the board as it is; of the others only the session's entry changes
unfoldable pub board_after : Call → Board → Board
board_after (opens u s set) b = store b s (entry_after (opens u s set) (entry_at b s))
board_after (adds u s set) b = store b s (entry_after (adds u s set) (entry_at b s))
board_after (drops u s set) b = store b s (entry_after (drops u s set) (entry_at b s))
board_after (closes u s) b = store b s (entry_after (closes u s) (entry_at b s))
board_after (requests s a n) b = b

unfoldable pub board_step : PolicyValue → Labels → Call → Board → Out Board
board_step v l c b =
    given (first_broken (board_checks v l c b))
    (record { reply = board_reply (policy_of v) l c (entry_at b (session_of c)); state = board_after c b })
    (λ n. record { reply = refused n; state = b })

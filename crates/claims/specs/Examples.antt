-- The worked examples of document 01 ("One text through the lister", "Edges", "Plausible and false") and examples of
-- document 02's pairs, conflicts, dominance, forms and isolation as one table: what the definitions say, beside what
-- the documents say, both as text.
use Rattle.std.specs.Prelude.{ℕ, ◌/◌, ◌%◌, Bool, List, [], ◌∷◌, ◌++◌, map, eqb, Some}
use Prim.Native.String.{String}
use Rattle.basis.specs.Bytes.{byte, bytes}
use Rattle.basis.specs.Lists.{same}
use Rattle.basis.specs.Numbers.{up_to}
use Rattle.text.specs.Number.{decimal}
use Rattle.text.specs.Parts.{join, comma, text_of as lines}
use Rattle.policy.specs.Limits.{bits, stored_widths}
use Rattle.policy.specs.Policy.{Policy, conflict, pair}
use Rattle.policy.specs.Read.{Outcome, Accepted, Refused, read_text}
use Rattle.policy.specs.Text.{conflict_lines, pair_lines, line_text, text_of}
use Rattle.policy.specs.Value.{value_of}
use Rattle.policy.specs.Answers.{Reply, done, granted, denied, refused}
use Rattle.policy.specs.declared.limits.Widths.{Widths}
use Rattle.formula.specs.Truth.{at}
use Rattle.formula.specs.Decide.{decide}
use Rattle.tuples.specs.Tuples.{stored, tuples, decide_by_tuples}
use Rattle.labels.specs.Compile.{lent, NU, NO, user_result, object_result, table_result}
use Rattle.report.specs.Report.{report}
use Rattle.board.specs.Machine.{Call, opens, adds, drops, closes, requests, entry, run, machine, policy_in}
use Rattle.board.specs.Board.{Labels, store, board_step, fresh}
use Rattle.board.specs.declared.Board.{Board}
use Rattle.claims.specs.Demand3.{with_counts}
use Rattle.claims.specs.Isolation.{names, calls_where, answers_where, board_answers}

-- ---- what the definitions say, as text

abbrev pub numbers : List ℕ → List ℕ
numbers ns = join comma (map decimal ns)

abbrev pub outcome : Outcome → List ℕ
outcome (Accepted p) = bytes "accepted"
outcome (Refused n l) = bytes "refused," ++ numbers (n ∷ l ∷ [])

abbrev pub reply : Reply → List ℕ
reply done = bytes "done"
reply granted = bytes "granted"
reply denied = bytes "denied"
reply (refused n) = bytes "refused," ++ decimal n

abbrev pub replies : List Reply → List ℕ
replies rs = join (byte " ") (map reply rs)

-- the plain machine's answers, and those of a board under the compiled labels
abbrev pub by_machine : String → List Call → List ℕ
by_machine text calls = replies (machine (bytes text) calls).replies

abbrev pub policy_is : String → Policy
policy_is text = policy_in (read_text (bytes text))

abbrev pub labels_for : Widths → Policy → Labels
labels_for w p = with_counts p (lent w (user_result p) (object_result p) (table_result p))

abbrev pub on_board_from : Board → String → List Call → List ℕ
on_board_from b text calls =
    let p = policy_is text in replies (run (board_step (value_of p) (labels_for (stored_widths p.form) p)) calls b).replies

abbrev pub on_board : String → List Call → List ℕ
on_board text calls = on_board_from fresh text calls

-- ---- the table

pub record Example : Type 0 where
  pub found : List ℕ
  pub expected : List ℕ

abbrev pub example : List ℕ → String → Example
example found expected = record { found = found; expected = bytes expected }

abbrev pub reading : String → String → Example
reading text expected = example (outcome (read_text (bytes text))) expected

-- "With this text"
abbrev pub sample : String
sample = "policy,1\nuattr,2\noattr,1\nusen,1,0\nuser,0,2\nobject,0,1\nrule,0,u0,o0,a\nrule,3,u1,n\nend\n"

abbrev pub without_rules : String
without_rules = "policy,1\nuattr,2\noattr,1\nusen,1,0\nuser,0,2\nobject,0,1\nend\n"

-- starred: labels, table and tuples of the sample text, and of one with no rule lines
abbrev pub compiled_examples : List Example
compiled_examples =
    let p = policy_is sample in
    let q = policy_is without_rules in
    example (numbers (user_result p)) "0,1,2,2"
    ∷ example (numbers (object_result p)) "0,1"
    ∷ example (numbers (table_result p)) "8,8,8,9,0,1"
    ∷ example (numbers (NU p ∷ NO p ∷ [])) "3,2"
    ∷ example (numbers (tuples p 0)) "3,5,7"
    ∷ example (numbers (tuples p 3)) "0,1,2,3"
    ∷ example (numbers (NU q ∷ NO q ∷ [])) "1,1"
    ∷ example (numbers (table_result q)) "0"
    ∷ []

-- starred: "user 0 may open a session with set 1 (junior) and with 3; set 4 gets 19; in such a session a drop of 4 gets
-- 19; in it a request for action 1 on object 0 is denied; for action 8 gets 12", once by the machine and once on the
-- board
abbrev pub day : List Call
day = opens 0 0 1 ∷ opens 0 1 3 ∷ opens 0 2 4 ∷ drops 0 0 4 ∷ requests 0 1 0 ∷ requests 0 8 0 ∷ []

abbrev pub session_examples : List Example
session_examples =
    example (by_machine sample day) "done done refused,19 refused,19 denied refused,12"
    ∷ example (on_board sample day) "done done refused,19 refused,19 denied refused,12"
    ∷ []

-- starred: "widths 3 and 4 read, 4 and 4 get 6"; then the other edges
abbrev pub edge_examples : List Example
edge_examples =
    reading "policy,1\nuattr,3\nuattr,4\noattr,1\nend\n" "accepted"
    ∷ reading "policy,1\nuattr,4\nuattr,4\noattr,1\nend\n" "refused,6,2"
    ∷ reading "policy,1\nuattr,1\noattr,1\nuser,31,1\nend\n" "accepted"
    ∷ reading "policy,1\nuattr,1\noattr,1\nuser,32,1\nend\n" "refused,6,3"
    ∷ reading "policy,1\nuattr,1\noattr,1\nrule,0,t,t,a,t,a,t,a,t,a,t,a,t,a,t,a,t,a,t,a,t,a,t,a,t,a,t,a,t,a,t,a,n\nend\n" "accepted"
    ∷ reading "policy,1\nuattr,1\noattr,1\nrule,0,t,t,a,t,a,t,a,t,a,t,a,t,a,t,a,t,a,t,a,t,a,t,a,t,a,t,a,t,a,t,a,n,n\nend\n" "refused,4,3"
    ∷ reading "" "refused,10,0"
    ∷ reading "policy,1\nuattr,1\noattr,1\nend\nend\n" "refused,3,4"
    ∷ reading "policy,1\nuattr,1\noattr,1\nusen,0,0\nend\n" "refused,6,3"
    ∷ reading "policy,1\nuattr,01\noattr,1\nend\n" "refused,5,1"
    ∷ example (text_of (policy_is sample)) sample
    ∷ []

-- two object values, 1 senior to 0, and an object set that no object has
abbrev pub senior_objects : String
senior_objects = "policy,1\nuattr,1\noattr,2\nosen,1,0\nuser,0,1\nobject,0,0\nrule,0,o0\nrule,1,o1,u0,a\nend\n"

-- "Plausible and false": the subset test, one direction of seniority for both sides, a drop that shrinks what may be
-- added again, and telling apart by registered objects only
abbrev pub false_examples : List Example
false_examples =
    let p = policy_is sample in
    let q = policy_is senior_objects in
    example (reply (decide_by_tuples (value_of p) 16 (at 3 0) (tuples p 3) 4)) "denied"
    ∷ example (numbers (tuples q 0)) "1,3,5,7"
    ∷ example (numbers (tuples q 1)) "5,6,7"
    ∷ example (by_machine sample (opens 0 0 3 ∷ drops 0 0 3 ∷ adds 0 0 3 ∷ [])) "done done done"
    ∷ example (numbers (NU q ∷ NO q ∷ [])) "2,3"
    ∷ []

-- on each side two values, 1 senior to 0; an action with a formula and a pair, and two with pairs alone
abbrev pub senior_pairs : String
senior_pairs = "policy,1\nuattr,2\noattr,2\nusen,1,0\nosen,1,0\nrule,0,u1\npair,0,0,0\npair,2,0,1\npair,3,1,0\nend\n"

-- a text up to its n-th pair line
abbrev pub many_pairs : ℕ → List ℕ
many_pairs n =
    bytes "policy,1\nuattr,3\noattr,3\n"
    ++ lines (map line_text (pair_lines (map (λ i. pair (i / 9) (i / 3 % 3) (i % 3)) (up_to (λ i. i) n))))

abbrev pub pair_text : String → List ℕ
pair_text ls = bytes "policy,1\nuattr,1\noattr,1\n" ++ (bytes ls ++ bytes "end\n")

-- pairs: "holds V or a senior of it and the object set W or a junior of it", or the formula; an action without either
-- is denied; then 6, 7, 3 and, between 7 and 8, 21
abbrev pub pair_examples : List Example
pair_examples =
    let p = policy_is senior_pairs in
    example (numbers (tuples p 0)) "5,7,8,9,10,11,12,13,14,15"
    ∷ example (numbers (tuples p 1)) ""
    ∷ example (numbers (tuples p 2)) "5,6,7,9,10,11,13,14,15"
    ∷ example (numbers (tuples p 3)) "9,11,13,15"
    ∷ example (numbers (NU p ∷ NO p ∷ [])) "3,3"
    ∷ example (outcome (read_text (pair_text "pair,7,0,0\n"))) "accepted"
    ∷ example (outcome (read_text (pair_text "pair,8,0,0\n"))) "refused,6,3"
    ∷ example (outcome (read_text (pair_text "pair,0,1,0\n"))) "refused,6,3"
    ∷ example (outcome (read_text (pair_text "pair,0,0,1\n"))) "refused,6,3"
    ∷ example (outcome (read_text (pair_text "pair,0,0,0\npair,0,0,0\n"))) "refused,7,4"
    ∷ example (outcome (read_text (pair_text "pair,0,0,0\nrule,0,t\n"))) "refused,3,4"
    ∷ example (outcome (read_text (many_pairs 64 ++ bytes "end\n"))) "accepted"
    ∷ example (outcome (read_text (many_pairs 65 ++ bytes "end\n"))) "refused,21,67"
    ∷ example (outcome (read_text (many_pairs 64 ++ bytes "pair,0,0,0\nend\n"))) "refused,7,67"
    ∷ example (text_of p) senior_pairs
    ∷ []

-- employee 0, manager 1 and director 2, each senior to the one before; a director, who may not be manager and director
-- in one session (source document 002, Table 9, Example 2); value 3 is for nobody to hold, and of value 4 alone one is
-- allowed
abbrev pub constrained : String
constrained = "policy,1\nuattr,3\nuattr,2\noattr,1\nusen,1,0\nusen,2,1\nuser,0,28\nobject,0,1\nconflict,6,1\nconflict,8,0\nconflict,16,1\nrule,0,u0\nend\n"

-- both at once, director and then manager; an employee besides, what is held already; manager in place of director; a
-- second session; out of reach and too many
abbrev pub constrained_day : List Call
constrained_day =
    opens 0 0 6
    ∷ opens 0 0 4
    ∷ adds 0 0 2
    ∷ adds 0 0 1
    ∷ adds 0 0 4
    ∷ drops 0 0 4
    ∷ adds 0 0 2
    ∷ opens 0 1 4
    ∷ adds 0 1 34
    ∷ opens 0 2 8
    ∷ opens 0 2 16
    ∷ requests 0 0 0
    ∷ []

-- a text up to its n-th conflict line
abbrev pub many_conflicts : ℕ → List ℕ
many_conflicts n = bytes "policy,1\nuattr,5\noattr,1\n" ++ lines (map line_text (conflict_lines (map (λ i. conflict i 1) (up_to (λ i. i) n))))

abbrev pub conflict_text : String → List ℕ
conflict_text ls = bytes "policy,1\nuattr,2\noattr,1\n" ++ (bytes ls ++ bytes "end\n")

-- conflicts: "of the values in user set S .. a session may hold at most K", and a board on which one does not; then 6,
-- 7, 3 and, after 7, 22
abbrev pub conflict_examples : List Example
conflict_examples =
    example (by_machine constrained constrained_day) "refused,23 done refused,23 done done done done done refused,19 refused,23 done granted"
    ∷ example (on_board constrained constrained_day) "refused,23 done refused,23 done done done done done refused,19 refused,23 done granted"
    ∷ example (on_board_from (store fresh 3 (Some (entry 0 6))) constrained (closes 0 3 ∷ opens 0 0 4 ∷ [])) "refused,11 refused,11"
    ∷ example (on_board_from (store fresh 3 (Some (entry 0 4))) constrained (drops 0 3 4 ∷ closes 0 3 ∷ [])) "done done"
    ∷ example (outcome (read_text (conflict_text "conflict,0,0\nconflict,3,7\n"))) "accepted"
    ∷ example (outcome (read_text (conflict_text "conflict,4,1\n"))) "refused,6,3"
    ∷ example (outcome (read_text (conflict_text "conflict,3,8\n"))) "refused,6,3"
    ∷ example (outcome (read_text (conflict_text "conflict,3,1\nconflict,3,2\n"))) "refused,7,4"
    ∷ example (outcome (read_text (conflict_text "conflict,3,1\nobject,0,1\n"))) "refused,3,4"
    ∷ example (outcome (read_text (conflict_text "rule,0,t\nconflict,3,1\n"))) "refused,3,4"
    ∷ example (outcome (read_text (many_conflicts 16 ++ bytes "end\n"))) "accepted"
    ∷ example (outcome (read_text (many_conflicts 17 ++ bytes "end\n"))) "refused,22,19"
    ∷ example (outcome (read_text (many_conflicts 16 ++ bytes "conflict,15,1\nend\n"))) "refused,7,19"
    ∷ example (text_of (policy_is constrained)) constrained
    ∷ []

-- on each side two clearances, 1 senior to 0
abbrev pub clearances : String
clearances = "policy,1\nuattr,2\noattr,2\nusen,1,0\nosen,1,0\nrule,0,d00\nrule,1,q00\nend\n"

-- three clearances in user attribute 1, each senior to the one before, and a value in attribute 0; a chief with the
-- highest alone and a deputy with the lowest; comments of the lowest, of the middle one, of all and of the highest
abbrev pub chief : String
chief = "policy,1\nuattr,1\nuattr,3\noattr,3\nusen,2,1\nusen,3,2\nuser,0,8\nuser,1,3\nobject,0,1\nobject,1,2\nobject,2,7\nobject,3,4\nrule,0,d10\nrule,1,q10\nend\n"

-- the chief reads all, and files only what has the highest alone; the deputy reads the lowest; the chief, with the
-- middle one alone, no longer what needs the highest
abbrev pub chief_day : List Call
chief_day =
    opens 0 0 8
    ∷ requests 0 0 0
    ∷ requests 0 0 1
    ∷ requests 0 0 2
    ∷ requests 0 1 2
    ∷ requests 0 1 3
    ∷ opens 1 1 3
    ∷ requests 1 0 0
    ∷ requests 1 0 1
    ∷ opens 0 2 4
    ∷ requests 2 0 0
    ∷ requests 2 0 2
    ∷ []

-- dominance: "each place held in J must be held in I, or have a senior in I that is held. `q` keeps its sense."
abbrev pub dominance_examples : List Example
dominance_examples =
    let p = policy_is clearances in
    example (numbers (tuples p 0)) "0,4,5,8,9,10,11,12,13,14,15"
    ∷ example (numbers (tuples p 1)) "0,5,10,15"
    ∷ example (reply (decide (value_of p) 0 (at 2 1))) "granted"
    ∷ example (reply (decide (value_of p) 0 (at 1 2))) "denied"
    ∷ example (by_machine chief chief_day) "done granted granted granted denied granted done granted denied done granted denied"
    ∷ example (on_board chief chief_day) "done granted granted granted denied granted done granted denied done granted denied"
    ∷ reading "policy,1\nuattr,2\noattr,3\nusen,1,0\nrule,0,d00\nend\n" "refused,8,4"
    ∷ []

-- a card of form 2: action 8 on what holds object value 0, 15 to who holds user value 0, 9 where both hold
abbrev pub sixteen : String
sixteen = "policy,2\nuattr,1\noattr,1\nuser,0,1\nobject,0,0\nobject,1,1\nrule,8,o0\nrule,15,u0\npair,9,0,0\nend\n"

abbrev pub sixteen_day : List Call
sixteen_day = opens 0 0 1 ∷ requests 0 15 0 ∷ requests 0 8 0 ∷ requests 0 8 1 ∷ requests 0 9 1 ∷ requests 0 16 0 ∷ []

-- its requests made for a table of bytes
abbrev pub by_bytes : String → List Call → List ℕ
by_bytes text calls = let p = policy_is text in replies (run (board_step (value_of p) (labels_for (bits 8 8) p)) calls fresh).replies

-- "A text beginning `policy,2` may have actions 0 to 15. Check 12 then applies above 15, and table entries are 16 bits
-- wide. A `policy,1` text keeps .. its old limit"; "a call made for stored widths other than those of the policy's form
-- answers 11"
abbrev pub form_examples : List Example
form_examples =
    let p = policy_is sixteen in
    reading "policy,1\nuattr,1\noattr,1\nrule,7,t\npair,7,0,0\nend\n" "accepted"
    ∷ reading "policy,1\nuattr,1\noattr,1\nrule,8,t\nend\n" "refused,6,3"
    ∷ reading "policy,1\nuattr,1\noattr,1\npair,8,0,0\nend\n" "refused,6,3"
    ∷ reading "policy,2\nuattr,1\noattr,1\nrule,15,t\npair,15,0,0\nend\n" "accepted"
    ∷ reading "policy,2\nuattr,1\noattr,1\nrule,16,t\nend\n" "refused,6,3"
    ∷ reading "policy,2\nuattr,1\noattr,1\npair,16,0,0\nend\n" "refused,6,3"
    ∷ example (text_of p) sixteen
    ∷ example (numbers (NU p ∷ NO p ∷ [])) "2,2"
    ∷ example (numbers (table_result p)) "0,256,32768,33536"
    ∷ example (by_machine sixteen sixteen_day) "done granted denied granted granted refused,12"
    ∷ example (on_board sixteen sixteen_day) "done granted denied granted granted refused,12"
    ∷ example (by_bytes sixteen sixteen_day) "done refused,11 refused,11 refused,11 refused,11 refused,11"
    ∷ []

-- a card of form 3 with the same lines, and one with nine values a side
abbrev pub large : String
large = "policy,3\nuattr,1\noattr,1\nuser,0,1\nobject,0,0\nobject,1,1\nrule,8,o0\nrule,15,u0\npair,9,0,0\nend\n"

abbrev pub nine : String
nine = "policy,3\nuattr,4\nuattr,5\noattr,9\nusen,8,4\nosen,8,0\nuser,0,511\nobject,0,511\nrule,0,u8,o8,a\nend\n"

-- its requests made for labels in bytes
abbrev pub by_byte_labels : String → List Call → List ℕ
by_byte_labels text calls = let p = policy_is text in replies (run (board_step (value_of p) (labels_for (bits 8 16) p)) calls fresh).replies

-- "A text beginning `policy,3` has sums, and each W, from 1 to 9 on each side, and actions as in form 2. Label buffers
-- become 16-bit .. and tuples 32-bit. Forms 1 and 2 keep their stored widths"
abbrev pub nine_examples : List Example
nine_examples =
    let p = policy_is large in
    let q = policy_is nine in
    reading "policy,3\nuattr,9\noattr,9\nend\n" "accepted"
    ∷ reading "policy,3\nuattr,10\noattr,1\nend\n" "refused,6,1"
    ∷ reading "policy,3\nuattr,5\nuattr,4\noattr,5\noattr,5\nend\n" "refused,6,4"
    ∷ reading "policy,2\nuattr,7\noattr,8\nend\n" "refused,6,2"
    ∷ reading "policy,1\nuattr,4\nuattr,4\noattr,1\nend\n" "refused,6,2"
    ∷ reading "policy,3\nuattr,1\noattr,1\nrule,16,t\nend\n" "refused,6,3"
    ∷ reading "policy,4\nuattr,1\noattr,1\nend\n" "refused,6,0"
    ∷ example (text_of p) large
    ∷ example (text_of q) nine
    ∷ example (numbers (NU p ∷ NO p ∷ [])) "2,2"
    ∷ example (numbers (table_result p)) "0,256,32768,33536"
    ∷ example (numbers (stored q (at 511 511) ∷ stored q (at 128 0) ∷ [])) "262143,65536"
    ∷ example (reply (decide_by_tuples (value_of p) 32 (at 1 0) (tuples p 15) 2)) "granted"
    ∷ example (reply (decide_by_tuples (value_of p) 16 (at 1 0) (tuples p 15) 2)) "refused,11"
    ∷ example (reply (decide (value_of q) 0 (at 256 256))) "granted"
    ∷ example (reply (decide (value_of q) 0 (at 511 512))) "refused,19"
    ∷ example (on_board large sixteen_day) "done granted denied granted granted refused,12"
    ∷ example (by_bytes large sixteen_day) "done refused,11 refused,11 refused,11 refused,11 refused,11"
    ∷ example (by_byte_labels large sixteen_day) "done refused,11 refused,11 refused,11 refused,11 refused,11"
    ∷ []

-- the chief in session 0 and the deputy in session 1, which the chief tries to close; and the deputy's same calls with
-- the chief in session 2, who holds nothing and goes
abbrev pub together : List Call
together =
    opens 0 0 8
    ∷ opens 1 1 3
    ∷ requests 0 0 2
    ∷ requests 1 0 0
    ∷ adds 0 0 2
    ∷ closes 0 1
    ∷ requests 1 0 1
    ∷ closes 0 0
    ∷ requests 1 0 0
    ∷ opens 1 32 3
    ∷ []

abbrev pub otherwise : List Call
otherwise =
    opens 1 1 3 ∷ opens 0 2 8 ∷ drops 0 2 8 ∷ requests 1 0 0 ∷ closes 0 1 ∷ closes 0 2 ∷ requests 1 0 1 ∷ requests 1 0 0 ∷ []

-- of the board's answers to a list those to the calls naming a session
abbrev pub naming : ℕ → String → List Call → List ℕ
naming s text calls =
    let p = policy_is text in replies (answers_where (names s) calls (board_answers (value_of p) (labels_for (stored_widths p.form) p) calls))

-- "the calls naming s get the same answers, refusals included": with others, with others again, alone; and a session
-- number above 31
abbrev pub isolation_examples : List Example
isolation_examples =
    example (naming 1 chief together) "done granted refused,18 denied granted"
    ∷ example (naming 1 chief otherwise) "done granted refused,18 denied granted"
    ∷ example (on_board chief (calls_where (names 1) together)) "done granted refused,18 denied granted"
    ∷ example (naming 0 chief together) "done granted done done"
    ∷ example (naming 32 chief together) "refused,13"
    ∷ []

-- "Plausible and false", as answers that are not given: a request decided by session 0's set; entries cut to eight
-- bits; `d00` as it was before seniority counted in it; with a junior in place of a senior; with the object side's
-- seniority too; and `q00` with seniority
abbrev pub false_answers : List Example
false_answers =
    let p = policy_is clearances in
    example (naming 1 chief together) "done granted refused,18 granted granted"
    ∷ example (numbers (table_result (policy_is sixteen))) "0,0,0,0"
    ∷ example (numbers (tuples p 0)) "0,4,5,8,10,12,13,14,15"
    ∷ example (numbers (tuples p 0)) "0,4,5,6,7,8,10,12,13,14,15"
    ∷ example (numbers (tuples p 0)) "0,4,8,9,10,11,12,13,14,15"
    ∷ example (numbers (tuples p 1)) "0,5,11,15"
    ∷ []

-- what the lister writes for the sample text, for one in which a rule and a pair overlap and an action has a pair
-- alone, and for one that is refused
abbrev pub lister_examples : List Example
lister_examples =
    example (report (read_text (bytes sample)))
    "labels,3,2\naction,0,3\ntuple,0,1,1\ntuple,0,2,1\ntuple,0,3,1\naction,3,4\ntuple,3,0,0\ntuple,3,0,1\ntuple,3,1,0\ntuple,3,1,1\n"
    ∷ example (report (read_text (pair_text "rule,0,u0\npair,0,0,0\npair,2,0,0\n")))
    "labels,2,2\naction,0,2\ntuple,0,1,0\ntuple,0,1,1\naction,2,1\ntuple,2,1,1\n"
    ∷ example (report (read_text (bytes ""))) "refused,10,0\n"
    ∷ []

abbrev pub table : List Example
table = compiled_examples ++ (session_examples ++ (edge_examples ++ (false_examples ++ (pair_examples ++ (conflict_examples ++ (dominance_examples ++ (form_examples ++ (nine_examples ++ (isolation_examples ++ lister_examples)))))))))

abbrev pub holds : Example → Bool
holds e = same eqb e.found e.expected

-- `board::fit::all_reached` meets its contract: the entries from place i on decide.
use Prim.Native.Nat.{◌≤◌, ◌<◌}
use mathlib.Core.Path.{◌≡◌, refl, sym, ◌∙◌}
use native.Mathlib.Omega.{arith}
use lib.ListN.{length, get_or}
use borrow.Author.Rules.{rules}
use Rattle.basis.proofs.Lists.{long}
use Rattle.policy.specs.Limits.{session_numbers}
use Rattle.board.specs.Board.{closed}
use Rattle.board.proofs.ByNumber.{places, assigns, place-lt, found_lt}
use Rattle.board.proofs.Fitting.{reached_in, next-fails, next-reached, none_left}
use Rattle.board.proofs.fit.all_reached.Goals as goal

-- the user's place is in the table
placed : (c : goal.After-place) → c.place.result < places
placed c = rw c.place.ensures (place-lt _)

pub loop-entry-init : goal.loop-entry-init
loop-entry-init c = λ p es q. refl

pub offset_bounds-table-place : goal.offset_bounds-table-place
offset_bounds-table-place c = let h = placed c in search rules

pub bounds-table-place : goal.bounds-table-place
bounds-table-place c = placed c

pub entry_reached-requires : goal.entry_reached-requires
entry_reached-requires c = (
  c.requires.seniority,
  rw c.place.ensures
      (found_lt c.args.side.now c.args.users.now c.requires c.table-table.result c.table-table.ensures _),
)

pub returns-then-not-entry_reached : goal.returns-then-not-entry_reached
returns-then-not-entry_reached c p eu es =
    let size : length c.args.sessions.now ≡ session_numbers = search (rules, long) in
    let inside : c.loop-entry.entry-index < length c.args.sessions.now = omega arith in
    let x = get_or c.args.sessions.now c.loop-entry.entry-index closed in
    let q = assigns c.args.side.now c.args.users.now c.requires c.table-table.result c.table-table.ensures p eu in
    -- the turn's test is the call's answer
    let tested : c.entry_reached.result ≡ reached_in p x = c.entry_reached.ensures p es (rw c.place.ensures (q x.user)) in
    sym (c.loop-entry.invariant p es q ∙ next-fails p c.args.sessions.now c.loop-entry.entry-index inside (sym tested ∙ c.if-not-entry_reached.true))

pub loop-entry-preserved : goal.loop-entry-preserved
loop-entry-preserved c =
    let size : length c.args.sessions.now ≡ session_numbers = search (rules, long) in
    let inside : c.loop-entry.entry-index < length c.args.sessions.now = omega arith in
    let x = get_or c.args.sessions.now c.loop-entry.entry-index closed in
    λ p es q.
    -- the turn's test is the call's answer
    let tested : c.entry_reached.result ≡ reached_in p x = c.entry_reached.ensures p es (rw c.place.ensures (q x.user)) in
    c.loop-entry.invariant p es q ∙ next-reached p c.args.sessions.now c.loop-entry.entry-index inside (sym tested ∙ c.if-not-entry_reached.false)

pub returns : goal.returns
returns c p eu es =
    let a = c.args in
    let size : length a.sessions.now ≡ session_numbers = search (rules, long) in
    let q = assigns a.side.now a.users.now c.requires c.table-table.result c.table-table.ensures p eu in
    let h : length a.sessions.now ≤ c.loop-entry.entry-index = omega arith in
    sym (c.loop-entry.invariant p es q ∙ none_left p a.sessions.now c.loop-entry.entry-index h)

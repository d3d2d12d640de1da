-- The lines of tuples, put run by run.
use Prim.Native.Nat.{ℕ, ◌+◌, ◌-◌, ◌*◌, ◌/◌, ◌%◌, ◌^◌, ◌≤◌, ◌<◌}
use mathlib.Core.Path.{◌≡◌, sym, ap, ◌∙◌}
use mathlib.Core.List.{List, [], ◌∷◌, ◌++◌}
use native.Mathlib.Nat.{div-add-mod'}
use native.Mathlib.Omega.{arith}
use borrow.Rule.Slice.PartMut.{put_mid}
use lib.ListN.{length, get_or, take, drop}
use Rattle.basis.specs.Numbers.{first}
use Rattle.formula.specs.Inner.Lane.{lanes}
use Rattle.tuples.specs.Inner.Marks.{marked}
use Rattle.tuples.proofs.From.{from_low, from_next}
use Rattle.tuples.proofs.Marked.{Next, left_word}
use Rattle.tuples.proofs.Seeking.{left-from}
use Rattle.writer.specs.Inner.Put.{end_line}
use Rattle.report.specs.declared.lines.Lines.{Lines}
use Rattle.report.specs.declared.runs.Start.{Start}
use Rattle.report.specs.Inner.Lines.{line_room, tuple_text, Some}
use Rattle.report.proofs.Rest.{rest-long}
use Rattle.report.proofs.Pieces.{run-line}
use Rattle.report.proofs.Going.{Going, run_fits, going_run}

-- the bits from y on of its word are those of one word
word_marks : (words : List ℕ) (y k : ℕ) → get_or words (y / lanes) 0 < 2 ^ lanes → y % lanes + k < lanes
    → marked (get_or words (y / lanes) 0 / 2 ^ (y % lanes) ∷ []) k ≡ marked words (y + k)
word_marks words y k small h =
    let l = left-from words y small in
    let z : k ≡ 0 * lanes + k = omega arith in
    ap (marked (get_or words (y / lanes) 0 / 2 ^ (y % lanes) ∷ [])) z
    ∙ sym ((left_word (get_or words (y / lanes) 0 / 2 ^ (y % lanes) ∷ []) 0 l.small).below k (omega arith))
    ∙ l.below k (omega (arith, div-add-mod' y lanes))

-- y is the next marked number, and the lines of the c numbers from it on that are marked are put into the rest of the
-- buffer, as far as it has room
module _ (action values start n : ℕ) (words : List ℕ) {from : ℕ} {b m : List ℕ} {at next : ℕ}
    (x : Going (λ k. tuple_text action values (start + k)) (marked words) (n * lanes) from b m at next)
    (y : ℕ) (q : y ≡ next + first (λ k. marked words (next + k)) (n * lanes - next)) (h : y < n * lanes)
    (s : Start) (o v c : ℕ) (a : s.action ≡ action) (u : s.user ≡ (start + y) / 2 ^ values) (e : o ≡ (start + y) % 2 ^ values)
    (w : (v ≡ get_or words (y / lanes) 0 / 2 ^ (y % lanes)) × (get_or words (y / lanes) 0 < 2 ^ lanes))
    (g : (0 < c) × ((start + y) % 2 ^ values + c ≤ 2 ^ values) × (y % lanes + c ≤ lanes))
    {ys : List ℕ} {r : Lines} (p : Some (λ k. take s.count s.text ++ end_line (o + k)) (marked (v ∷ [])) c 0 (take (length m - at) (drop at m)) ys r) where
  next-is : Next (marked words) next y
  next-is = from_next (marked words) next (n * lanes) x.high y q h

  line-is : (k : ℕ) → k < c → take s.count s.text ++ end_line (o + k) ≡ tuple_text action values (start + (y + k))
  line-is k i =
      let z : start + y + k ≡ start + (y + k) = omega arith in
      run-line s values (start + y) o k u e (omega (arith, e, g.1)) ∙ rw (z, a)

  mark_is : (k : ℕ) → k < c → marked (v ∷ []) k ≡ marked words (y + k)
  mark_is k i = rw w.0 (word_marks words y k w.1 (omega (arith, g.2)))

  within : y + c ≤ n * lanes
  within = omega (arith, h, g.2, div-add-mod' y lanes)

  pub row_fits : at + r.at ≤ length m
  row_fits = run_fits x next-is h within line-is mark_is p

  module _ (l : line_room ≤ length m - at) where
    row-moves : 0 < r.next
    row-moves = p.moves g.0 (omega (arith, rest-long m at))

    pub row-less : next < y + r.next
    row-less = omega (arith, row-moves, from_low (marked words) next (n * lanes) x.high y q)

    pub row-again : Going (λ k. tuple_text action values (start + k)) (marked words) (n * lanes) from b (put_mid at (length m - at) m ys) (at + r.at) (y + r.next)
    row-again = going_run x next-is h within line-is mark_is p row-moves

-- A report handed out step by step: what was handed out and what is left make the whole, and in the end what was handed
-- out is the next chunk.
use Prim.Native.Nat.{ℕ, ◌+◌, ◌-◌, ◌≤◌}
use mathlib.Core.Path.{◌≡◌, refl, sym, ap, ◌∙◌}
use mathlib.Core.Bool.{true}
use mathlib.Core.List.{List, [], ◌++◌, append_assoc, append-nil}
use native.Mathlib.Omega.{arith}
use borrow.Rule.Slice.PartMut.{put_mid}
use lib.ListN.{length, take, drop, drop_of_length-le}
use lib.Seq.{drop_at, take_all, take_at}
use Rattle.basis.specs.Lists.{over}
use Rattle.policy.specs.Policy.{Policy}
use Rattle.writer.proofs.Putting.{put-none, put-long, put_next}
use Rattle.report.specs.Report.{chunk, behind}
use Rattle.report.specs.Inner.Cursor.{left_of, Standing, Left, is_over, Handed, Same, up_to}
use Rattle.report.specs.declared.cursor.Chunk.{Chunk}
use Rattle.report.specs.declared.cursor.Cursor.{Cursor}
use Rattle.report.proofs.Left.{over_none}
use Rattle.report.proofs.Rest.{rest-fits, rest_put}

pub handed-start : {p : Policy} {c : Cursor} (b : List ℕ) → Standing p c → Handed p c b b (up_to 0 c)
handed-start b s = record { bytes = []; put = put-none b 0 (omega arith); stands = s; left = refl }

-- nothing is handed out, and what is left is the same
pub handed-same : {p : Policy} {c d : Cursor} (b : List ℕ) → Same p c d → Handed p c b b (up_to 0 d)
handed-same b s = record { bytes = []; put = put-none b 0 (omega arith); stands = s.stands; left = s.left }

module _ {p : Policy} {c₀ : Cursor} {b m : List ℕ} {at : ℕ} {c : Cursor} (x : Handed p c₀ b m (up_to at c)) where
  pub handed-fits : at ≤ length m
  handed-fits = omega (arith, put-long x.put, x.put.fits)

  -- one step more
  module _ {ys : List ℕ} {r : Chunk} (y : Handed p c (take (length m - at) (drop at m)) ys r) where
    pub handed-sum : at + r.count ≤ length m
    handed-sum = rest-fits m at handed-fits y.put

    pub handed-next : Handed p c₀ b (put_mid at (length m - at) m ys) (up_to (at + r.count) r.next)
    handed-next =
        record {
          bytes = x.bytes ++ y.bytes;
          put = put_next x.put (rest_put m at handed-fits y.put);
          stands = y.stands;
          left = x.left ∙ rw y.left (sym (append_assoc x.bytes y.bytes (left_of p r.next)));
        }

-- ---- the next chunk

-- what `next` answers: the buffer b is m now, and c is the cursor behind the `at` bytes that stand in it
pub record Answer (left b m : List ℕ) (at : ℕ) (c : Cursor) : Type 0 where
  pub count : at ≡ length (chunk (length b) left)
  pub buffer : m ≡ over (chunk (length b) left) b
  pub next : Left c (behind (length b) left)

module _ {c₀ : Cursor} {b m : List ℕ} {at : ℕ} {c : Cursor} (handed : (p : Policy) → Standing p c₀ → Handed p c₀ b m (up_to at c)) where
  module _ (left : List ℕ) (l : Left c₀ left) where
    abbrev x : Handed l.0 c₀ b m (up_to at c)
    x = handed l.0 l.1

    whole : left ≡ x.bytes ++ left_of l.0 c
    whole = l.2 ∙ x.left

    answer : chunk (length b) left ≡ x.bytes → behind (length b) left ≡ left_of l.0 c → Answer left b m at c
    unfolding over
    answer e g = record { count = omega (arith, x.put.end, ap length e); buffer = rw e x.put.bytes; next = (l.0, x.stands, g) }

    full : length m ≤ at → Answer left b m at c
    full h =
        let k : length x.bytes ≡ length b = omega (arith, x.put.end, x.put.fits, put-long x.put) in
        answer (ap (take (length b)) whole ∙ take_at x.bytes (left_of l.0 c) (length b) k)
        (ap (drop (length b)) whole ∙ drop_at x.bytes (left_of l.0 c) (length b) k)

    none : is_over c ≡ true → Answer left b m at c
    none o =
        let e : left_of l.0 c ≡ [] = over_none x.stands o in
        let w : left ≡ x.bytes = whole ∙ rw (e, append-nil) in
        let k : length x.bytes ≤ length b = omega (arith, x.put.end, x.put.fits) in
        answer (ap (take (length b)) w ∙ take_all (length b) x.bytes k)
        (ap (drop (length b)) w ∙ drop_of_length-le x.bytes {i = length b} k ∙ sym e)

  -- where the buffer is full, and where nothing is left
  pub answer-full : length m ≤ at → (left : List ℕ) → Left c₀ left → Answer left b m at c
  answer-full h left l = full left l h

  pub answer-over : is_over c ≡ true → (left : List ℕ) → Left c₀ left → Answer left b m at c
  answer-over o left l = none left l o

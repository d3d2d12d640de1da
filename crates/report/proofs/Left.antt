-- What is left of a report at a cursor: the bytes held are handed out, lines of tuples are handed out or held, the next
-- action's block comes up, and at the end nothing is left.
use Prim.Native.Nat.{ℕ, ◌+◌, ◌-◌, ◌*◌, ◌≤◌, ◌<◌}
use mathlib.Core.Path.{◌≡◌, refl, sym, ap, ◌∙◌}
use mathlib.Core.Bool.{Bool, true, false, cond}
use mathlib.Core.List.{List, [], ◌∷◌, ◌++◌, append_assoc, map}
use native.Mathlib.Omega.{arith}
use borrow.Author.Tests.{le-ltb, ltb-false, leb-true, leb-false}
use lib.Dec.{leb, ltb}
use lib.ListN.{length, get_or, take, drop, length-take, drop_of_length-le}
use lib.Seq.{drop-drop, get_or-take, take-add, take_at}
use Rattle.basis.specs.Lists.{over}
use Rattle.basis.proofs.Counting.{count-le}
use Rattle.basis.proofs.Walk.{rest-next}
use Rattle.text.specs.Parts.{line_feed, text_of}
use Rattle.policy.specs.Limits.{most_tuples}
use Rattle.policy.specs.Policy.{Policy, total}
use Rattle.formula.specs.Inner.Lane.{lanes}
use Rattle.formula.specs.Inner.Source.{SourceOf}
use Rattle.formula.specs.declared.blocks.Source.{Source}
use Rattle.tuples.specs.Tuples.{tuples}
use Rattle.tuples.specs.Inner.Blocks.{most_blocks, pair_blocks, tuple_at, StripOf}
use Rattle.tuples.specs.Inner.Marks.{marked, passing}
use Rattle.tuples.specs.declared.marks.Marks.{Marks}
use Rattle.tuples.proofs.From.{passing-all, passing-end}
use Rattle.tuples.proofs.Numbering.{blocks-few}
use Rattle.tuples.proofs.Pairs.{tuples-are, tuples-count}
use Rattle.writer.specs.Inner.Put.{Room, Put, each, feed}
use Rattle.writer.proofs.Putting.{put-long}
use Rattle.report.specs.Report.{action_line, tuple_line, blocks, listed}
use Rattle.report.specs.Inner.Lines.{line_room, ended, tuple_text, Some}
use Rattle.report.specs.Inner.Cursor.{held_bytes, marks_end, numbers_end, next_number, tuples_left, blocks_left, left_of, HeldFits, Standing, is_over, Handed, Same}
use Rattle.report.specs.declared.lines.Lines.{Lines}
use Rattle.report.specs.declared.cursor.Chunk.{Chunk}
use Rattle.report.specs.declared.cursor.Cursor.{Cursor}
use Rattle.report.specs.declared.cursor.Held.{Held}
use Rattle.report.proofs.Onward.{some-onward}

-- a cursor with other bytes held, one with other tuples of its strip, and one in its next strip
abbrev pub holding : Cursor → Held → Cursor
holding c h = record { pairs = c.pairs; grants = c.grants; listed = c.listed; done = c.done; tuples = c.tuples; held = h }

abbrev pub listing : Cursor → ℕ → Cursor
listing c from =
    record {
      pairs = c.pairs;
      grants = c.grants;
      listed = c.listed;
      done = c.done;
      tuples = record {
        action = c.tuples.action;
        values = c.tuples.values;
        first = c.tuples.first;
        end = c.tuples.end;
        from = from;
        marks = c.tuples.marks;
      };
      held = c.held;
    }

abbrev pub onward : Cursor → Marks → Cursor
onward c m =
    record {
      pairs = c.pairs;
      grants = c.grants;
      listed = c.listed;
      done = c.done;
      tuples = record {
        action = c.tuples.action;
        values = c.tuples.values;
        first = c.tuples.first + c.tuples.marks.count;
        end = c.tuples.end;
        from = 0;
        marks = m;
      };
      held = c.held;
    }

abbrev pub held_in : List ℕ → ℕ → Held
held_in bytes to = record { from = 0; to = to; bytes = bytes }

-- ---- the bytes held

-- none are held
held_none : (h : Held) → h.to ≤ h.from → held_bytes h ≡ []
held_none h l =
    let e : h.to - h.from ≡ 0 = omega arith in
    rw e

-- what is put at the start of a line is held there
module _ {t entry exit : List ℕ} {r : ℕ} (y : Put t 0 entry exit r) where
  pub held-put : held_bytes (held_in exit r) ≡ t
  unfolding over
  held-put =
      let e : r - 0 ≡ r = omega arith in
      rw e (ap (take r) y.bytes ∙ take_at t (drop (length t) entry) r (omega (arith, y.end)))

  pub held_fits : line_room ≡ length entry → HeldFits (held_in exit r)
  held_fits l = record { low = omega arith; high = omega (arith, y.fits, put-long y); long = put-long y ∙ sym l }

module _ {p : Policy} {c : Cursor} (s : Standing p c) where
  module _ (k : ℕ) (h : k ≤ c.held.to - c.held.from) where
    abbrev less : Held
    less = record { from = c.held.from + k; to = c.held.to; bytes = c.held.bytes }

    held-parts : held_bytes c.held ≡ take (c.held.from + k - c.held.from) (drop c.held.from c.held.bytes) ++ held_bytes less
    held-parts =
        let e : c.held.from + k - c.held.from ≡ k = omega arith in
        let g : c.held.to - c.held.from ≡ k + (c.held.to - (c.held.from + k)) = omega arith in
        rw (e, g) (take-add k (c.held.to - (c.held.from + k)) (drop c.held.from c.held.bytes) ∙ rw (drop-drop k c.held.from c.held.bytes))

    -- there is room for them in a buffer of so many bytes
    pub held-room : (buffer : List ℕ) → k ≤ length buffer → Room (take (c.held.from + k - c.held.from) (drop c.held.from c.held.bytes)) 0 buffer
    held-room buffer l =
        let e : c.held.from + k - c.held.from ≡ k = omega arith in
        record { fits = rw e (omega (arith, length-take k (drop c.held.from c.held.bytes))) }

    pub held-handed : {entry exit : List ℕ} {r : ℕ} → Put (take (c.held.from + k - c.held.from) (drop c.held.from c.held.bytes)) 0 entry exit r
        → Handed p c entry exit (record { count = r; next = holding c less })
    unfolding left_of
    held-handed y =
        record {
          bytes = take (c.held.from + k - c.held.from) (drop c.held.from c.held.bytes);
          put = y;
          stands = record {
            source = s.source;
            grants = s.grants;
            stored = s.stored;
            within = s.within;
            tuples = s.tuples;
            held = record { low = omega (arith, s.held.low); high = s.held.high; long = s.held.long };
          };
          left = rw held-parts (append_assoc (take (c.held.from + k - c.held.from) (drop c.held.from c.held.bytes)) (held_bytes less) (tuples_left p c.tuples ++ blocks_left p c.done));
        }

  -- ---- lines of tuples

  -- there are few blocks, and a strip ends within them
  pub end-few : c.tuples.end ≤ most_blocks
  end-few = omega (arith, s.tuples.end, blocks-few p s.source.sides)

  pub strip-within : c.tuples.first + c.tuples.marks.count ≤ c.tuples.end
  strip-within = omega (arith, s.tuples.strip.within, s.tuples.end)

  -- the lines of its tuples can be put
  pub tuples-ready : (c.tuples.values < 32) × (c.tuples.first * lanes ≤ most_tuples) × (c.tuples.from ≤ marks_end c.tuples)
  tuples-ready =
      (omega (arith, s.tuples.values, s.source.sides.object.most), omega (arith, end-few, strip-within), s.tuples.within)

  strip-inside : c.tuples.first * lanes + marks_end c.tuples ≤ numbers_end c.tuples
  strip-inside = omega (arith, strip-within)

  module _ (h : c.held.to ≤ c.held.from) where
    pub tuples-handed : {entry exit : List ℕ} {r : Lines}
        → Some (λ k. tuple_text c.tuples.action c.tuples.values (c.tuples.first * lanes + k)) (marked c.tuples.marks.words) (marks_end c.tuples) c.tuples.from entry exit r
        → Handed p c entry exit (record { count = r.at; next = listing c r.next })
    unfolding left_of
    tuples-handed {entry} {exit} {r} y =
        record {
          bytes = y.text;
          put = y.put;
          stands = record {
            source = s.source;
            grants = s.grants;
            stored = s.stored;
            within = s.within;
            tuples = record { values = s.tuples.values; end = s.tuples.end; strip = s.tuples.strip; within = y.high };
            held = s.held;
          };
          left = rw (held_none c.held h, some-onward (tuple_text c.tuples.action c.tuples.values) (tuple_at p c.tuples.action) (c.tuples.first * lanes) c.tuples.marks.words c.tuples.marks.count (numbers_end c.tuples) s.tuples.strip.marks strip-inside y) (append_assoc y.text (tuples_left p (listing c r.next).tuples) (blocks_left p c.done));
        }

  -- ---- the next strip

  pub strip-same : (m : Marks) → marks_end c.tuples ≤ c.tuples.from
      → StripOf p c.tuples.action (c.tuples.first + c.tuples.marks.count) m.count m.words → Same p c (onward c m)
  unfolding left_of
  strip-same m h t =
      let e : (c.tuples.first + c.tuples.marks.count) * lanes + 0 ≡ next_number c.tuples = omega (arith, s.tuples.within) in
      record {
        stands = record {
          source = s.source;
          grants = s.grants;
          stored = s.stored;
          within = s.within;
          tuples = record { values = s.tuples.values; end = s.tuples.end; strip = t; within = omega arith };
          held = s.held;
        };
        left = rw e;
      }

-- bytes that would be handed out are held
pub handed-held : {p : Policy} {c : Cursor} {entry exit : List ℕ} {r : Chunk} → Handed p c entry exit r → line_room ≡ length entry
    → r.next.held.to ≤ r.next.held.from → Same p c (holding r.next (held_in exit r.count))
unfolding left_of
handed-held {p} {c} {entry} {exit} {r} y l h =
    let s = y.stands in
    record {
      stands = record { source = s.source; grants = s.grants; stored = s.stored; within = s.within; tuples = s.tuples; held = held_fits y.put l };
      left = y.left ∙ rw (held_none r.next.held h, held-put y.put);
    }

-- ---- the next action

-- lines with their line feeds, one after the other
text_of-append : (xs ys : List (List ℕ)) → text_of (xs ++ ys) ≡ text_of xs ++ text_of ys
unfolding text_of
text_of-append [] ys = refl
text_of-append (x ∷ xs) ys = rw (text_of-append xs ys) (sym (append_assoc x (line_feed ∷ text_of xs) (text_of ys)))

text_of-each : (line : ℕ → List ℕ) (ns : List ℕ) → text_of (map line ns) ≡ each (λ n. ended (line n)) ns
unfolding text_of each
text_of-each line [] = refl
text_of-each line (n ∷ ns) = rw (text_of-each line ns) (sym (append_assoc (line n) feed (each (λ k. ended (line k)) ns)))

-- the next action, and what stands for the tuples of an action
abbrev pub action_at : Cursor → ℕ
action_at c = get_or c.listed.actions c.done 0

pub record Marking (p : Policy) (a : ℕ) (m : Marks) (n : ℕ) : Type 0 where
  pub first : StripOf p a 0 m.count m.words
  pub number : n ≡ length (tuples p a)

-- the cursor in the block of its next action
abbrev pub begun : Cursor → ℕ → Marks → Held → Cursor
begun c a m h =
    record {
      pairs = c.pairs;
      grants = c.grants;
      listed = c.listed;
      done = c.done + 1;
      tuples = record { action = a; values = c.tuples.values; first = 0; end = c.tuples.end; from = 0; marks = m };
      held = h;
    }

-- they are no more than all pairs of sets
pub tuples-few : (p : Policy) (a : ℕ) {x : Source} {objects : List ℕ} → SourceOf p x objects → length (tuples p a) ≤ most_tuples
tuples-few p a s = omega (arith, tuples-count p a, count-le (tuple_at p a) (pair_blocks p * lanes), blocks-few p s.sides)

-- no lines of tuples are left past the end of the numbers
over-tuples : (p : Policy) (c : Cursor) → numbers_end c.tuples ≤ next_number c.tuples → tuples_left p c.tuples ≡ []
unfolding each
over-tuples p c h =
    let e : passing (tuple_at p c.tuples.action) (next_number c.tuples) (numbers_end c.tuples) ≡ [] = passing-end (tuple_at p c.tuples.action) _ _ h in
    rw e

module _ {p : Policy} {c : Cursor} (s : Standing p c) (h : c.done < c.listed.count) where
  abbrev action : ℕ
  action = action_at c

  next-action : drop c.done (listed p) ≡ action ∷ drop (c.done + 1) (listed p)
  next-action =
      let l : c.done < length (listed p) = omega (arith, s.stored.number) in
      let g : get_or (listed p) c.done 0 ≡ action =
      ap (λ (xs : List ℕ). get_or xs c.done 0) (sym s.stored.actions) ∙ get_or-take c.listed.count c.listed.actions c.done 0 h in
      rest-next 0 (listed p) c.done l ∙ rw g

  block-lines : blocks_left p c.done
      ≡ ended (action_line action (length (tuples p action))) ++ (each (tuple_text action (total p.object)) (tuples p action) ++ blocks_left p (c.done + 1))
  unfolding blocks text_of
  block-lines =
      let ts = tuples p action in
      let ls = map (tuple_line action (total p.object)) ts in
      let rest = blocks p (drop (c.done + 1) (listed p)) in
      rw next-action
      (rw (text_of-append ls rest, text_of-each (tuple_line action (total p.object)) ts)
      (sym (append_assoc (action_line action (length ts)) feed (each (tuple_text action (total p.object)) ts ++ text_of rest))))

  module _ {m : Marks} {n : ℕ} (k : Marking p action m n) (held : c.held.to ≤ c.held.from) (over : numbers_end c.tuples ≤ next_number c.tuples)
      {entry exit : List ℕ} {r : ℕ} (y : Put (ended (action_line action n)) 0 entry exit r) (l : line_room ≡ length entry) where
    all-tuples : tuples_left p (begun c action m (held_in exit r)).tuples ≡ each (tuple_text action (total p.object)) (tuples p action)
    all-tuples = rw (passing-all (tuple_at p action) (c.tuples.end * lanes), s.tuples.end, tuples-are p action, s.tuples.values)

    no_tuples : tuples_left p c.tuples ≡ []
    no_tuples = over-tuples p c over

    pub action-same : Same p c (begun c action m (held_in exit r))
    unfolding left_of
    action-same =
        record {
          stands = record {
            source = s.source;
            grants = s.grants;
            stored = s.stored;
            within = omega arith;
            tuples = record { values = s.tuples.values; end = s.tuples.end; strip = k.first; within = omega arith };
            held = held_fits y l;
          };
          left = rw (held_none c.held held, no_tuples, block-lines, held-put y, all-tuples, k.number);
        }

-- ---- the end

passed : (x y z : Bool) → cond x false (cond y false z) ≡ true → (x ≡ false) × (y ≡ false) × (z ≡ true)
passed false false true e = (refl, refl, refl)
passed true y z e = (cc, cc, cc)
passed false true z e = (cc, cc, cc)
passed false false false e = (cc, cc, cc)

module _ {p : Policy} {c : Cursor} (s : Standing p c) where
  pub over_none : is_over c ≡ true → left_of p c ≡ []
  unfolding is_over left_of each blocks text_of
  over_none e =
      let t = passed (ltb c.held.from c.held.to) (ltb (next_number c.tuples) (numbers_end c.tuples)) (leb c.listed.count c.done) e in
      let a : c.held.to ≤ c.held.from = ltb-false c.held.from c.held.to t.0 in
      let b : numbers_end c.tuples ≤ next_number c.tuples = ltb-false (next_number c.tuples) (numbers_end c.tuples) t.1 in
      let d : c.listed.count ≤ c.done = leb-true c.listed.count c.done t.2 in
      let w : drop c.done (listed p) ≡ [] = drop_of_length-le (listed p) {i = c.done} (omega (arith, s.stored.number)) in
      rw (held_none c.held a, over-tuples p c b, w)

-- an action is left where nothing else is
pub action-left : (c : Cursor) → is_over c ≡ false → c.held.to ≤ c.held.from → numbers_end c.tuples ≤ next_number c.tuples → c.done < c.listed.count
unfolding is_over
action-left c e a b =
    leb-false c.listed.count c.done
    (rw (le-ltb c.held.from c.held.to a, le-ltb (next_number c.tuples) (numbers_end c.tuples) b) at e)

-- ---- the start

-- no words mark no blocks
pub no_strip : (p : Policy) (a end : ℕ) (m : Marks) → end ≡ pair_blocks p → m.count ≡ 0 → StripOf p a end m.count m.words
no_strip p a end m e n =
    record { few = omega (arith, n); within = omega (arith, e, n); some = λ h. absurd (omega (arith, e)); marks = λ x h. absurd (omega (arith, n)) }

-- before the first tuple the line held and the blocks of all listed actions are left
pub start_left : (p : Policy) (c : Cursor) {q : Policy} {line : List ℕ} → c.tuples.end ≡ c.tuples.first → c.tuples.from ≡ 0 → c.done ≡ 0 → held_bytes c.held ≡ line
    → p ≡ q → line ++ text_of (blocks q (listed q)) ≡ left_of p c
unfolding left_of each
start_left p c n f i h e =
    let z : passing (tuple_at p c.tuples.action) (next_number c.tuples) (numbers_end c.tuples) ≡ [] = passing-end (tuple_at p c.tuples.action) _ _ (omega (arith, n, f)) in
    rw (z, i, h, e)

-- The run of the calls among some items, with the answers of all: one item more is one step more.
use Rattle.std.specs.Prelude.{Option, None, Some}
use Prim.Native.Nat.{ℕ, suc, ◌+◌, ◌≤◌, ◌<◌}
use mathlib.Core.Path.{◌≡◌, refl, sym, ap, ◌∙◌}
use mathlib.Core.List.{List, [], ◌∷◌, ◌++◌, map, map-append}
use native.Mathlib.Numerals.{add-one}
use native.Mathlib.Omega.{arith}
use lib.ListN.{length, get_or, take, set, length-map}
use lib.Seq.{take-suc, take_all, length-take-le}
use Rattle.basis.specs.Lists.{over}
use Rattle.basis.proofs.Over.{over-more, length_over}
use Rattle.policy.specs.Answers.{refused, reply_number}
use Rattle.board.specs.Machine.{Call, Out, Ran, run}
use Rattle.runner.specs.Calls.{calls_in}
use Rattle.runner.specs.Run.{answers_to}
use Rattle.runner.specs.Inner.{item_step}

module _ {S : Type 0} (f : Call → S → Out S) where
  abbrev pub woven : List (Option Call) → S → Ran S
  woven items s = record { replies = answers_to items (run f (calls_in items) s).replies; state = (run f (calls_in items) s).state }

  -- a run and one step after it
  abbrev pub further : Ran S → Option Call → Ran S
  further r x = record { replies = r.replies ++ ((item_step f x r.state).reply ∷ []); state = (item_step f x r.state).state }

  pub woven-more : (items : List (Option Call)) (x : Option Call) (s : S) → woven (items ++ (x ∷ [])) s ≡ further (woven items s) x
  unfolding run calls_in answers_to item_step
  woven-more [] None s = refl
  woven-more [] (Some c) s = refl
  woven-more (None ∷ items) x s = ap (λ (r : Ran S). record { replies = refused 5 ∷ r.replies; state = r.state }) (woven-more items x s)
  woven-more (Some c ∷ items) x s =
      ap (λ (r : Ran S). record { replies = (f c s).reply ∷ r.replies; state = r.state }) (woven-more items x (f c s).state)

  pub length-woven : (items : List (Option Call)) (s : S) → length (woven items s).replies ≡ length items
  unfolding run calls_in answers_to
  length-woven [] s = refl
  length-woven (None ∷ items) s = ap suc (length-woven items s)
  length-woven (Some c ∷ items) s = ap suc (length-woven items (f c s).state)

  -- the bytes of all answers
  abbrev pub woven_bytes : List (Option Call) → S → List ℕ
  woven_bytes items s = map reply_number (woven items s).replies

  -- after the first i items: the state, and the buffer with their answers at its start
  pub record Reached (items : List (Option Call)) (start : S) (old : List ℕ) (i : ℕ) (s : S) (out : List ℕ) : Type 0 where
    pub few : i ≤ length items
    pub state : s ≡ (woven (take i items) start).state
    pub bytes : out ≡ over (woven_bytes (take i items) start) old

  module _ (items : List (Option Call)) (start : S) (old : List ℕ) where
    pub reached-none : Reached items start old 0 start old
    unfolding run calls_in answers_to over
    reached-none = record { few = omega arith; state = refl; bytes = refl }

    -- as many bytes as items
    byte-count : (i : ℕ) → i ≤ length items → length (woven_bytes (take i items) start) ≡ i
    byte-count i h = length-map (woven (take i items) start).replies reply_number ∙ length-woven (take i items) start ∙ length-take-le i items h

    module _ (i : ℕ) (s : S) (out : List ℕ) (r : Reached items start old i s out) where
      abbrev before : Ran S
      before = woven (take i items) start

      pub reached-long : length items ≤ length old → length out ≡ length old
      reached-long room =
          let h : length (woven_bytes (take i items) start) ≤ length old = omega (arith, byte-count i r.few, r.few) in
          ap length r.bytes ∙ length_over (woven_bytes (take i items) start) old h

      stored : (y : ℕ) → i < length items → length items ≤ length old
          → set out i y ≡ over (woven_bytes (take i items) start ++ (y ∷ [])) old
      stored y h room =
          let n : length (woven_bytes (take i items) start) ≡ i = byte-count i r.few in
          let k : length (woven_bytes (take i items) start) < length old = omega arith in
          ap (λ (xs : List ℕ). set xs i y) r.bytes
          ∙ ap (λ (j : ℕ). set (over (woven_bytes (take i items) start) old) j y) (sym n)
          ∙ sym (over-more (woven_bytes (take i items) start) old y k)

      pub reached-more : i < length items → length items ≤ length old
          → (x : Option Call) → x ≡ get_or items i None → (o : Out S) → o ≡ item_step f x s → (y : ℕ) → y ≡ reply_number o.reply
          → Reached items start old (i + 1) o.state (set out i y)
      reached-more h room x ex o eo y ey =
          let t : take (i + 1) items ≡ take i items ++ (x ∷ []) = rw (add-one i, ex) (take-suc items i None h) in
          let e : woven (take (i + 1) items) start ≡ further before x = rw t (woven-more (take i items) x start) in
          let q : o ≡ item_step f x before.state = rw (← r.state) eo in
          let w : woven_bytes (take (i + 1) items) start ≡ woven_bytes (take i items) start ++ (y ∷ []) =
          ap (λ (z : Ran S). map reply_number z.replies) e
          ∙ map-append reply_number before.replies ((item_step f x before.state).reply ∷ [])
          ∙ ap (λ (k : ℕ). woven_bytes (take i items) start ++ (k ∷ [])) (sym (ey ∙ ap (λ (z : Out S). reply_number z.reply) q)) in
          record {
            few = omega arith;
            state = ap (λ (z : Out S). z.state) q ∙ sym (ap (λ (z : Ran S). z.state) e);
            bytes = stored y h room ∙ ap (λ (xs : List ℕ). over xs old) (sym w);
          }

      pub reached-all : length items ≤ i → (s ≡ (woven items start).state) × (out ≡ over (woven_bytes items start) old)
      reached-all h = (rw (take_all i items h) at r.state, rw (take_all i items h) at r.bytes)

-- What stands at the three places, one law for each way out of a look-up.
use Rattle.std.specs.Prelude.{Result, Ok, Err}
use Prim.Native.Nat.{ℕ, ◌+◌, ◌*◌}
use mathlib.Core.Path.{◌≡◌, refl, sym, ◌∙◌}
use mathlib.Core.Bool.{Bool, true, false, cond}
use mathlib.Core.List.{List}
use lib.Dec.{ltb, leb}
use lib.ListN.{length, get_or}
use borrow.Author.Tests.{ltb-true, ltb-false, le-leb, lt-leb}
use Rattle.std.specs.List.{slice_get}
use Rattle.std.proofs.lemmas.Option.{slice_get-get_or, slice_get_past}
use Rattle.basis.specs.Choice.{given}
use Rattle.sets.specs.Set.{has}
use Rattle.policy.specs.Answers.{granted, denied, refused, decided}
use Rattle.formula.specs.Truth.{at}
use Rattle.board.specs.Board.{Labels, place_at, reads_past_end, grants_by_labels}
use Rattle.board.specs.Inner.{read_at, looked_up}

-- a place that is in a buffer, and one that is not
there-at : (xs : List ℕ) (k b : ℕ) → Ok b ≡ read_at xs k → (leb (length xs) k ≡ false) × (get_or xs k 0 ≡ b)
unfolding read_at
there-at xs k b e = go (ltb k (length xs)) refl e
  where
    go : (t : Bool) → ltb k (length xs) ≡ t → ◌≡◌ {A = Result ℕ ℕ} (Ok b) (cond t (Ok (get_or xs k 0)) (Err 20))
        → (leb (length xs) k ≡ false) × (get_or xs k 0 ≡ b)
    go true q f = (lt-leb (length xs) k (ltb-true k (length xs) q), cc)
    go false q f = cc

gone_at : (xs : List ℕ) (k n : ℕ) → Err n ≡ read_at xs k → (leb (length xs) k ≡ true) × (n ≡ 20)
unfolding read_at
gone_at xs k n e = go (ltb k (length xs)) refl e
  where
    go : (t : Bool) → ltb k (length xs) ≡ t → ◌≡◌ {A = Result ℕ ℕ} (Err n) (cond t (Ok (get_or xs k 0)) (Err 20)) → (leb (length xs) k ≡ true) × (n ≡ 20)
    go true q f = cc
    go false q f = (le-leb (length xs) k (ltb-false k (length xs) q), cc)

-- a label or an entry that is read, or the refusal of the first that isn't
module _ (l : Labels) (a u o : ℕ) where
  pub past-user : (n : ℕ) → Err n ≡ read_at l.buffers.users u → refused n ≡ looked_up l a (at u o)
  unfolding looked_up reads_past_end
  past-user n h = let g = gone_at l.buffers.users u n h in rw (g.0, g.1)

  module _ (ul : ℕ) (hu : Ok ul ≡ read_at l.buffers.users u) where
    pub past-object : (n : ℕ) → Err n ≡ read_at l.buffers.objects o → refused n ≡ looked_up l a (at u o)
    unfolding looked_up reads_past_end
    past-object n h = let g = gone_at l.buffers.objects o n h in rw ((there-at l.buffers.users u ul hu).0, g.0, g.1)

    module _ (ol : ℕ) (ho : Ok ol ≡ read_at l.buffers.objects o) (k : ℕ) (hk : k ≡ ul * l.counts.objects + ol) where
      place : place_at l (at u o) ≡ k
      place = rw ((there-at l.buffers.users u ul hu).1, (there-at l.buffers.objects o ol ho).1) (sym hk)

      pub past-table : (n : ℕ) → Err n ≡ read_at l.buffers.table k → refused n ≡ looked_up l a (at u o)
      unfolding looked_up reads_past_end
      past-table n h =
          let g = gone_at l.buffers.table k n h in
          rw ((there-at l.buffers.users u ul hu).0, (there-at l.buffers.objects o ol ho).0, place, g.0, g.1)

      module _ (b : ℕ) (hb : Ok b ≡ read_at l.buffers.table k) where
        decided-at : decided (has b a) ≡ looked_up l a (at u o)
        unfolding looked_up reads_past_end grants_by_labels
        decided-at =
            let t = there-at l.buffers.table k b hb in
            rw ((there-at l.buffers.users u ul hu).0, (there-at l.buffers.objects o ol ho).0, place, t.0, t.1)

        pub granted-at : (t : Bool) → t ≡ has b a → t ≡ true → granted ≡ looked_up l a (at u o)
        granted-at t e q = rw (sym e ∙ q) at decided-at

        pub denied-at : (t : Bool) → t ≡ has b a → t ≡ false → denied ≡ looked_up l a (at u o)
        denied-at t e q = rw (sym e ∙ q) at decided-at

-- the library's look-up, and 20 where there is nothing
pub read-is : (xs : List ℕ) (k : ℕ) → given (slice_get xs k) (Err 20) Ok ≡ read_at xs k
unfolding read_at
read-is xs k = go (ltb k (length xs)) refl
  where
    go : (t : Bool) → ltb k (length xs) ≡ t → given {B = Result ℕ ℕ} (slice_get xs k) (Err 20) Ok ≡ cond (ltb k (length xs)) (Ok (get_or xs k 0)) (Err 20)
    go true q = rw (q, slice_get-get_or xs k 0 (ltb-true k (length xs) q))
    go false q = rw (q, slice_get_past xs k (ltb-false k (length xs) q))

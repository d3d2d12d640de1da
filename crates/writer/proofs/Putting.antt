-- Putting one text after another: what stands in a buffer once a text is put, the next text behind it, a line in the
-- rest of the buffer, and the lines of a list.
use Prim.Native.Nat.{ℕ, suc, ◌+◌, ◌-◌, ◌≤◌, ◌<◌}
use mathlib.Core.Path.{◌≡◌, refl, sym, ap, ◌∙◌}
use mathlib.Core.Bool.{Bool, true}
use mathlib.Core.List.{List, [], ◌∷◌, ◌++◌, append_assoc, append-nil}
use native.Mathlib.Numerals.{add-one}
use native.Mathlib.Omega.{arith}
use borrow.Rule.Slice.PartMut.{put_mid}
use lib.ListN.{length, get_or, take, drop, set, length-append, length-drop, take-append-drop, drop_of_length-le}
use lib.Seq.{drop_at, drop-drop, length-take-le, set_split, split_at, take_all, take_at, take-suc}
use Rattle.basis.specs.Lists.{all, over}
use Rattle.basis.proofs.Lists.{all-at, get_or-in}
use Rattle.writer.specs.Inner.Put.{Room, Put, each, always}

-- ---- what was put

pub put-none : (b : List ℕ) (at : ℕ) → at ≤ length b → Put [] at b b at
unfolding over
put-none b at h = record { bytes = sym (take-append-drop at b); end = omega arith; fits = h }

module _ {t b m : List ℕ} {at r : ℕ} (p : Put t at b m r) where
  long-before : length (take at b) ≡ at
  long-before = length-take-le at b (omega (arith, p.end, p.fits))

  -- the bytes before the place where the text ends, and those past it
  put-before : take r m ≡ take at b ++ t
  unfolding over
  put-before =
      let e : m ≡ (take at b ++ t) ++ drop (length t) (drop at b) = p.bytes ∙ sym (append_assoc (take at b) t (drop (length t) (drop at b))) in
      ap (take r) e ∙ take_at (take at b ++ t) (drop (length t) (drop at b)) r (omega (arith, length-append (take at b) t, long-before, p.end))

  put-past : drop r m ≡ drop r b
  unfolding over
  put-past =
      let e : m ≡ (take at b ++ t) ++ drop (length t) (drop at b) = p.bytes ∙ sym (append_assoc (take at b) t (drop (length t) (drop at b))) in
      ap (drop r) e
      ∙ drop_at (take at b ++ t) (drop (length t) (drop at b)) r (omega (arith, length-append (take at b) t, long-before, p.end))
      ∙ rw (drop-drop (length t) at b, ← p.end)

  pub put-long : length m ≡ length b
  put-long =
      omega (
        arith,
        ap length (take-append-drop r m),
        length-append (take r m) (drop r m),
        ap length put-before,
        ap length put-past,
        length-append (take at b) t,
        long-before,
        length-drop r b,
        p.end,
        p.fits,
      )

-- ---- one text behind another

pub room-first : (s t : List ℕ) {at : ℕ} {b : List ℕ} → Room (s ++ t) at b → Room s at b
room-first s t h = record { fits = omega (arith, h.fits, length-append s t) }

pub room_next : {s t b m : List ℕ} {at r : ℕ} → Room (s ++ t) at b → Put s at b m r → Room t r m
room_next {s} {t} h p = record { fits = omega (arith, h.fits, length-append s t, p.end, put-long p) }

pub put_next : {s t b m n : List ℕ} {at r q : ℕ} → Put s at b m r → Put t r m n q → Put (s ++ t) at b n q
unfolding over
put_next {s} {t} {b} {m} {n} {at} {r} {q} p y =
    let z : at + length (s ++ t) ≡ r + length t = omega (arith, length-append s t, p.end) in
    record {
      bytes =
          y.bytes
          ∙ rw (put-before p, put-past p, drop-drop (length t) r b, drop-drop (length (s ++ t)) at b, z, append_assoc (take at b) s (t ++ drop (r + length t) b), append_assoc s t (drop (r + length t) b));
      end = y.end ∙ sym z;
      fits = omega (arith, y.fits, put-long p);
    }

-- a byte
pub put_byte : {c at : ℕ} {b : List ℕ} → Room (c ∷ []) at b → Put (c ∷ []) at b (set b at c) (at + 1)
unfolding over
put_byte {c} {at} {b} h =
    let l : at < length b = omega (arith, h.fits) in
    record { bytes = set_split b at c l ∙ rw (drop-drop 1 at b, add-one at); end = refl; fits = omega arith }

-- ---- a line in the rest of the buffer

module _ {t m : List ℕ} {at : ℕ} (h : Room t at m) where
  pub part_room : Room t 0 (take (length m - at) (drop at m))
  part_room = record { fits = omega (arith, h.fits, length-take-le (length m - at) (drop at m) (omega (arith, length-drop at m))) }

  module _ {ys : List ℕ} {q : ℕ} (y : Put t 0 (take (length m - at) (drop at m)) ys q) where
    pub part-sum : at + q ≤ length m
    part-sum = omega (arith, h.fits, y.end)

    pub part-put : Put t at m (put_mid at (length m - at) m ys) (at + q)
    unfolding over
    part-put =
        let l : length (drop at m) ≤ length m - at = omega (arith, length-drop at m) in
        let e : ys ≡ t ++ drop (length t) (drop at m) = y.bytes ∙ rw (take_all (length m - at) (drop at m) l) in
        record {
          bytes = rw (drop_of_length-le (drop at m) l, append-nil, e);
          end = omega (arith, y.end);
          fits = part-sum;
        }

-- ---- the elements of a list, one after the other

-- i of them were put into b from `start` on; it is m now, and the last ends at `at`
pub record Run {A : Type 0} (f : A → List ℕ) (xs : List A) (start : ℕ) (b : List ℕ) (i : ℕ) (m : List ℕ) (at : ℕ) : Type 0 where
  pub room : Room (each f xs) start b
  pub put : Put (each f (take i xs)) start b m at

-- what passes at each element passes at a place
pub all-get : {A : Type 0} (f : A → Bool) (d : A) (xs : List A) (i : ℕ) → i < length xs → all f xs ≡ true → f (get_or xs i d) ≡ true
all-get f d xs i h e = all-at f xs e (get_or xs i d) (get_or-in xs i d h)

pub all_always : {A : Type 0} (xs : List A) → all always xs ≡ true
unfolding all
all_always [] = refl
all_always (x ∷ xs) = all_always xs

pub each_append : {A : Type 0} (f : A → List ℕ) (xs ys : List A) → each f (xs ++ ys) ≡ each f xs ++ each f ys
unfolding each
each_append f [] ys = refl
each_append f (x ∷ xs) ys = rw (each_append f xs ys) (sym (append_assoc (f x) (each f xs) (each f ys)))

-- one element more
pub each_next : {A : Type 0} (f : A → List ℕ) (xs : List A) (i : ℕ) (d : A) → i < length xs → each f (take (i + 1) xs) ≡ each f (take i xs) ++ f (get_or xs i d)
unfolding each
each_next f xs i d h = rw (add-one i, take-suc xs i d h, each_append, append-nil)

module _ {A : Type 0} {f : A → List ℕ} {xs : List A} {start : ℕ} {b : List ℕ} where
  pub run-start : Room (each f xs) start b → Run f xs start b 0 b start
  unfolding each
  run-start l = record { room = l; put = put-none b start (omega (arith, l.fits)) }

  module _ {i : ℕ} {m : List ℕ} {at : ℕ} (x : Run f xs start b i m at) where
    pub run_end : length xs ≤ i → Put (each f xs) start b m at
    run_end h = rw (take_all i xs h) at x.put

    pub run_fits : at ≤ length m
    run_fits = omega (arith, x.put.fits, put-long x.put)

    module _ (d : A) (h : i < length xs) where
      pub run_room : Room (f (get_or xs i d)) at m
      unfolding each
      run_room =
          let e : each f xs ≡ each f (take i xs) ++ (f (get_or xs i d) ++ each f (drop (suc i) xs)) =
          ap (each f) (split_at xs i d h) ∙ rw each_append in
          room-first (f (get_or xs i d)) (each f (drop (suc i) xs)) (room_next (rw e at x.room) x.put)

      pub run-next : {m' : List ℕ} {r : ℕ} → Put (f (get_or xs i d)) at m m' r → Run f xs start b (i + 1) m' r
      run-next y = record { room = x.room; put = rw (each_next f xs i d h) (put_next x.put y) }

      -- the next element as a line in the rest of the buffer
      pub run-part : Room (f (get_or xs i d)) 0 (take (length m - at) (drop at m))
      run-part = part_room run_room

      module _ {ys : List ℕ} {q : ℕ} (y : Put (f (get_or xs i d)) 0 (take (length m - at) (drop at m)) ys q) where
        pub run-sum : at + q ≤ length b
        run-sum = omega (arith, part-sum run_room y, put-long x.put)

        pub run-line : Run f xs start b (i + 1) (put_mid at (length m - at) m ys) (at + q)
        run-line = run-next (part-put run_room y)

-- The lines of tuples, put one after the other: what is put and the lines from the next number on make the whole.
use Prim.Native.Nat.{ℕ, zero, suc, ◌+◌, ◌-◌, ◌≤◌, ◌<◌}
use mathlib.Core.Path.{◌≡◌, refl, sym, ap, ap₂, ◌∙◌}
use mathlib.Core.Bool.{Bool, true, false, cond}
use mathlib.Core.List.{List, [], ◌∷◌, ◌++◌, append_assoc}
use native.Mathlib.Decide.{dec_lt}
use native.Mathlib.Omega.{arith}
use borrow.Rule.Slice.PartMut.{put_mid}
use lib.ListN.{length, take, drop}
use Rattle.basis.specs.Numbers.{first}
use Rattle.tuples.specs.Inner.Marks.{select_from, passing}
use Rattle.tuples.proofs.From.{passing-none, passing-end, passing-next, passing-split, from_low, from-high, from-none}
use Rattle.tuples.proofs.Marked.{Next}
use Rattle.writer.specs.Inner.Put.{Put, each}
use Rattle.writer.proofs.Putting.{put-none, put-long, put_next, each_append}
use Rattle.report.specs.Inner.Lines.{line_room, Some}
use Rattle.report.specs.declared.lines.Lines.{Lines}
use Rattle.report.proofs.Rest.{rest-fits, rest_put}

-- ---- the lines of other numbers

module _ (line other : ℕ → List ℕ) (f g : ℕ → Bool) (y c : ℕ) (a : (k : ℕ) → k < c → other k ≡ line (y + k)) (e : (k : ℕ) → k < c → g k ≡ f (y + k)) where
  one_shifted : (b : Bool) (i j : ℕ) (xs zs : List ℕ) → other i ≡ line j → each other xs ≡ each line zs → each other (cond b (i ∷ xs) xs) ≡ each line (cond b (j ∷ zs) zs)
  unfolding each
  one_shifted true i j xs zs p q = ap₂ (λ (u v : List ℕ). u ++ v) p q
  one_shifted false i j xs zs p q = q

  all-shifted : (k i : ℕ) → i + k ≤ c → each other (select_from g i k) ≡ each line (select_from f (y + i) k)
  unfolding each select_from
  all-shifted zero i h = refl
  all-shifted (suc k) i h =
      let z : y + suc i ≡ suc (y + i) = omega arith in
      let q : each other (select_from g (suc i) k) ≡ each line (select_from f (suc (y + i)) k) = all-shifted k (suc i) (omega arith) ∙ ap (λ (j : ℕ). each line (select_from f j k)) z in
      rw (e i (omega arith)) (one_shifted (f (y + i)) i (y + i) (select_from g (suc i) k) (select_from f (suc (y + i)) k) (a i (omega arith)) q)

  -- the lines of the numbers from i on and below c are those of the numbers from y + i on
  shifted : (i : ℕ) → i ≤ c → each other (passing g i c) ≡ each line (passing f (y + i) (y + c))
  shifted i h =
      let z : c - i ≡ y + c - (y + i) = omega arith in
      all-shifted (c - i) i (omega arith) ∙ ap (λ (k : ℕ). each line (select_from f (y + i) k)) z

-- the lines of the numbers from `from` on and before the next one stand in b, which is m now
pub record Going (line : ℕ → List ℕ) (f : ℕ → Bool) (n from : ℕ) (b m : List ℕ) (at next : ℕ) : Type 0 where
  pub text : List ℕ
  pub put : Put text 0 b m at
  pub left : each line (passing f from n) ≡ text ++ each line (passing f next n)
  pub low : from ≤ next
  pub high : next ≤ n
  pub none : next ≤ from → at ≡ 0

module _ {line : ℕ → List ℕ} {f : ℕ → Bool} {n from : ℕ} {b : List ℕ} where
  pub going_start : from ≤ n → Going line f n from b b 0 from
  going_start h =
      record { text = []; put = put-none b 0 (omega arith); left = refl; low = omega arith; high = h; none = λ l. refl }

  module _ {m : List ℕ} {at next : ℕ} (x : Going line f n from b m at next) where
    pub going_fits : at ≤ length m
    going_fits = omega (arith, put-long x.put, x.put.fits)

    -- all lines are put
    pub going_all : n ≤ next → Some line f n from b m (record { at = at; next = next })
    going_all h = record { text = x.text; put = x.put; left = x.left; low = x.low; high = x.high; moves = λ i r. omega arith }

    -- no room is left; where no line is put, there was none
    pub going_full : length m - at < line_room → Some line f n from b m (record { at = at; next = next })
    going_full h =
        record {
          text = x.text;
          put = x.put;
          left = x.left;
          low = x.low;
          high = x.high;
          moves = λ i r. elim (dec_lt from next) [
            | yes l ↦ l
            | no l ↦ omega (arith, l, x.none (omega (arith, l)), put-long x.put)
          ];
        }

    -- the next number, or the end where there is none
    module _ (y : ℕ) (q : y ≡ next + first (λ k. f (next + k)) (n - next)) where
      pub going_over : n ≤ y → Some line f n from b m (record { at = at; next = y })
      unfolding each
      going_over h =
          let e : passing f next n ≡ [] = from-none f next n x.high y q h in
          let l = from-high f next n x.high y q in
          let g : passing f y n ≡ [] = passing-none f y n l (λ k i j. absurd (omega arith)) in
          record {
            text = x.text;
            put = x.put;
            left = x.left ∙ rw (e, g);
            low = omega (arith, x.low, from_low f next n x.high y q);
            high = l;
            moves = λ i r. omega arith;
          }

    -- none of the numbers that are left passes
    pub going_none : ((k : ℕ) → next ≤ k → k < n → f k ≡ false) → Some line f n from b m (record { at = at; next = n })
    unfolding each
    going_none e =
        record {
          text = x.text;
          put = x.put;
          left = x.left ∙ rw (passing-none f next n x.high e, passing-end f n n (omega arith));
          low = omega (arith, x.low, x.high);
          high = omega arith;
          moves = λ i r. i;
        }

    module _ {y : ℕ} (s : Next f next y) (h : y < n) where
      -- the line of the next number
      pub going_line : {m' : List ℕ} {r : ℕ} → Put (line y) at m m' r → Going line f n from b m' r (y + 1)
      unfolding each
      going_line p =
          record {
            text = x.text ++ line y;
            put = put_next x.put p;
            left = x.left ∙ rw (passing-next f next n y s h) (sym (append_assoc x.text (line y) (each line (passing f (y + 1) n))));
            low = omega (arith, x.low, s.from);
            high = omega arith;
            none = λ l. absurd (omega (arith, x.low, s.from));
          }

      -- the lines of the next c numbers, as far as they are put into the rest of the buffer
      module _ {other : ℕ → List ℕ} {g : ℕ → Bool} {c : ℕ} (w : y + c ≤ n) (a : (k : ℕ) → k < c → other k ≡ line (y + k)) (e : (k : ℕ) → k < c → g k ≡ f (y + k))
          {ys : List ℕ} {r : Lines} (q : Some other g c 0 (take (length m - at) (drop at m)) ys r) where
        pub run_fits : at + r.at ≤ length m
        run_fits = rest-fits m at going_fits q.put

        run-split : (i : ℕ) → i ≤ c → each line (passing f (y + i) n) ≡ each other (passing g i c) ++ each line (passing f (y + c) n)
        run-split i l =
            ap (each line) (passing-split f (y + i) (y + c) n (omega arith) w)
            ∙ each_append line (passing f (y + i) (y + c)) (passing f (y + c) n)
            ∙ ap (λ (u : List ℕ). u ++ each line (passing f (y + c) n)) (sym (shifted line other f g y c a e i l))

        run-left : each line (passing f next n) ≡ q.text ++ each line (passing f (y + r.next) n)
        run-left =
            let z : y + 0 ≡ y = omega arith in
            let t : Next f y y = record { from = omega arith; passed = λ k i j. absurd (omega arith); hit = s.hit } in
            let skip : passing f next n ≡ passing f y n = passing-next f next n y s h ∙ sym (passing-next f y n y t h) in
            ap (each line) skip
            ∙ ap (λ (k : ℕ). each line (passing f k n)) (sym z)
            ∙ run-split 0 (omega arith)
            ∙ ap (λ (u : List ℕ). u ++ each line (passing f (y + c) n)) q.left
            ∙ append_assoc q.text (each other (passing g r.next c)) (each line (passing f (y + c) n))
            ∙ ap (λ (u : List ℕ). q.text ++ u) (sym (run-split r.next q.high))

        pub going_run : 0 < r.next → Going line f n from b (put_mid at (length m - at) m ys) (at + r.at) (y + r.next)
        going_run i =
            record {
              text = x.text ++ q.text;
              put = put_next x.put (rest_put m at going_fits q.put);
              left = x.left ∙ rw run-left (sym (append_assoc x.text q.text (each line (passing f (y + r.next) n))));
              low = omega (arith, x.low, s.from);
              high = omega (arith, q.high);
              none = λ l. absurd (omega (arith, x.low, s.from));
            }

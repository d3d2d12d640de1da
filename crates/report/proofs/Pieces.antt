-- Runs of tuples' lines: a start put in two copies that may overlap, the table of ends, and the lines that they make.
use Prim.Native.Nat.{ℕ, ◌+◌, ◌-◌, ◌*◌, ◌/◌, ◌%◌, ◌^◌, ◌≤◌, ◌<◌}
use mathlib.Core.Path.{◌≡◌, sym, ap, ◌∙◌}
use mathlib.Core.List.{append-nil, List, [], ◌∷◌, ◌++◌, append_assoc}
use native.Mathlib.Decide.{dec_lt}
use native.Mathlib.Nat.{div-add-mod', one-mul}
use native.Mathlib.Omega.{arith}
use lib.Arith.{digits_div, digits_mod}
use lib.Dec.{lit<}
use lib.ListN.{length, take, drop, length-append, length-drop}
use lib.Pow.{shl_exact}
use lib.Seq.{drop-append-add, drop_at, drop-drop, length-take-le, take-add, take-append-add, take-append-le, take-append_seam, take_at, take-take}
use Rattle.basis.specs.Bytes.{byte, bytes}
use Rattle.basis.specs.Lists.{over}
use Rattle.text.specs.Number.{decimal}
use Rattle.text.proofs.RoundTrip.{decimal-one, decimal-more}
use Rattle.writer.specs.Inner.Put.{Room, Put, each, field, feed, lone, number_field, number_fields, numbers_line, start_line, end_line}
use Rattle.writer.proofs.Putting.{put-long, each_append}
use Rattle.report.specs.declared.runs.Start.{Start}
use Rattle.report.specs.Inner.Lines.{tuple_text}
use Rattle.report.specs.Inner.Runs.{start_room, EndsTo}
use Rattle.report.proofs.Short.{line-is}

-- ---- a text put over the end of another

module _ {s t b m n : List ℕ} {at k p q : ℕ} (x : Put s at b m p) (y : Put t (at + k) m n q) (h : k ≤ length s) (l : length s ≤ k + length t) where
  before-long : length (take at b) ≡ at
  before-long = length-take-le at b (omega (arith, x.end, x.fits))

  onto-before : take (at + k) m ≡ take at b ++ take k s
  unfolding over
  onto-before =
      let z : at + k ≡ length (take at b) + k = omega (arith, before-long) in
      let r = drop (length s) (drop at b) in
      ap (take (at + k)) x.bytes
      ∙ ap (λ (i : ℕ). take i (take at b ++ (s ++ r))) z
      ∙ take-append-add (take at b) (s ++ r) k
      ∙ ap (λ (u : List ℕ). take at b ++ u) (take-append-le k s r h)

  onto-past : drop (length t) (drop (at + k) m) ≡ drop (k + length t) (drop at b)
  unfolding over
  onto-past =
      let j = k + length t - length s in
      let r = drop (length s) (drop at b) in
      let z : at + k + length t ≡ length (take at b) + (length s + j) = omega (arith, before-long) in
      let w : length s + j ≡ k + length t = omega arith in
      drop-drop (length t) (at + k) m
      ∙ ap (drop (at + k + length t)) x.bytes
      ∙ ap (λ (i : ℕ). drop i (take at b ++ (s ++ r))) z
      ∙ drop-append-add (take at b) (s ++ r) (length s + j)
      ∙ drop-append-add s r j
      ∙ drop-drop j (length s) (drop at b)
      ∙ ap (λ (i : ℕ). drop i (drop at b)) w

  pub put-onto : Put (take k s ++ t) at b n q
  unfolding over
  put-onto =
      let e : length (take k s ++ t) ≡ k + length t = omega (arith, length-append (take k s) t, length-take-le k s h) in
      let d = drop (k + length t) (drop at b) in
      record {
        bytes =
            y.bytes
            ∙ rw (onto-before, onto-past, e, append_assoc (take at b) (take k s) (t ++ d), append_assoc (take k s) t d);
        end = omega (arith, y.end, e);
        fits = omega (arith, y.fits, put-long x);
      }

-- ---- the first eight bytes of a start and its last eight

module _ (s : List ℕ) {b : List ℕ} {at : ℕ} (c : ℕ) (h : 8 ≤ c) (l : c ≤ length s) (r : Room (take c s) at b) where
  pub eight_room : Room (take 8 s) at b
  eight_room = record { fits = omega (arith, r.fits, length-take-le 8 s (omega arith), length-take-le c s l) }

  module _ {m : List ℕ} {p : ℕ} (x : Put (take 8 s) at b m p) where
    last-long : length (take (c - (c - 8)) (drop (c - 8) s)) ≡ 8
    last-long =
        let z : c - (c - 8) ≡ 8 = omega arith in
        rw z (length-take-le 8 (drop (c - 8) s) (omega (arith, length-drop (c - 8) s)))

    pub last-room : Room (take (c - (c - 8)) (drop (c - 8) s)) (at + (c - 8)) m
    last-room = record { fits = omega (arith, r.fits, last-long, length-take-le c s l, put-long x) }

    pub copies_put : {n : List ℕ} {q : ℕ} → c ≤ 16 → Put (take (c - (c - 8)) (drop (c - 8) s)) (at + (c - 8)) m n q → Put (take c s) at b n q
    copies_put g y =
        let z : c - (c - 8) ≡ 8 = omega arith in
        let w : c - 8 + 8 ≡ c = omega arith in
        let e : take (c - 8) (take 8 s) ++ take (c - (c - 8)) (drop (c - 8) s) ≡ take c s = rw (z, take-take (c - 8) 8 s (omega arith)) (sym (take-add (c - 8) 8 s) ∙ ap (λ (i : ℕ). take i s) w) in
        rw e at (put-onto x y (omega (arith, length-take-le 8 s (omega arith))) (omega (arith, last-long, length-take-le 8 s (omega arith))))

-- ---- the table of ends

-- the end of a number of three digits has four bytes
end-long : (n : ℕ) → 100 ≤ n → n < 1000 → length (end_line n) ≡ 4
unfolding end_line
end-long n h l =
    let a : 10 ≤ n = omega arith in
    let b : 10 ≤ n / 10 = omega arith in
    let d : n / 10 / 10 < 10 = omega arith in
    omega (
      arith,
      length-append (decimal n) feed,
      ap length (decimal-more n a),
      length-append (decimal (n / 10)) ((byte "0" + n % 10) ∷ []),
      ap length (decimal-more (n / 10) b),
      length-append (decimal (n / 10 / 10)) ((byte "0" + n / 10 % 10) ∷ []),
      ap length (decimal-one (n / 10 / 10) d),
    )

part-is : (k q : ℕ) (l : List ℕ) → q ≤ length l → take k (drop q l) ≡ drop q (take (q + k) l)
part-is k q l h = sym (ap (drop q) (take-add q k l) ∙ drop_at (take q l) (take k (drop q l)) q (length-take-le q l h))

module _ {t e m : List ℕ} {at r : ℕ} (x : Put t at e m r) where
  first-long : length (take at e) ≡ at
  first-long = length-take-le at e (omega (arith, x.end, x.fits))

  -- what stands before the text is kept
  kept : (k q : ℕ) → q + k ≤ at → take k (drop q m) ≡ take k (drop q e)
  kept k q h =
      let g : take at m ≡ take at e = ap (take at) x.bytes ∙ take_at (take at e) (over t (drop at e)) at first-long in
      let f : take (q + k) m ≡ take (q + k) e = sym (take-take (q + k) at m h) ∙ ap (take (q + k)) g ∙ take-take (q + k) at e h in
      part-is k q m (omega (arith, x.end, x.fits, put-long x)) ∙ ap (drop q) f ∙ sym (part-is k q e (omega (arith, x.end, x.fits)))

  stands : take (length t) (drop at m) ≡ t
  unfolding over
  stands =
      ap (λ (u : List ℕ). take (length t) (drop at u)) x.bytes
      ∙ ap (take (length t)) (drop_at (take at e) (t ++ drop (length t) (drop at e)) at first-long)
      ∙ take-append_seam t (drop (length t) (drop at e))

pub ends-none : (e : List ℕ) → EndsTo 100 e
ends-none e o h l = absurd (omega arith)

pub ends_next : {n r : ℕ} {e m : List ℕ} → 100 ≤ n → n < 1000 → EndsTo n e → Put (end_line n) (n * 4) e m r → EndsTo (n + 1) m
ends_next {n} {r} {e} {m} h l x p o a b = elim (dec_lt o n) [
  | yes i ↦ kept p 4 (o * 4) (omega (arith, i)) ∙ x o a i
  | no i ↦
      let z : o ≡ n = omega (arith, i) in
      rw z (rw (end-long n h l) at (stands p))
]

pub ends-room : {n : ℕ} {e : List ℕ} → 100 ≤ n → n < 512 → length e ≡ 2048 → Room (end_line n) (n * 4) e
ends-room {n} h l z = record { fits = omega (arith, z, end-long n h (omega arith)) }

-- the end of a number is copied from there
module _ (e : List ℕ) {n : ℕ} (o : ℕ) (x : EndsTo n e) (h : 100 ≤ o) (l : o < n) where
  tabled_is : take (o * 4 + 4 - o * 4) (drop (o * 4) e) ≡ end_line o
  tabled_is =
      let z : o * 4 + 4 - o * 4 ≡ 4 = omega arith in
      rw z (x o h l)

  module _ {b : List ℕ} {at : ℕ} where
    pub tabled_room : Room (end_line o) at b → Room (take (o * 4 + 4 - o * 4) (drop (o * 4) e)) at b
    tabled_room r = rw tabled_is r

    pub tabled_put : {m : List ℕ} {r : ℕ} → Put (take (o * 4 + 4 - o * 4) (drop (o * 4) e)) at b m r → Put (end_line o) at b m r
    tabled_put p = rw tabled_is at p

-- ---- the start and the end of a line

-- a start that was put
pub start_fits : (a u : ℕ) {b m : List ℕ} {r : ℕ} → Put (start_line (bytes "tuple") (a ∷ u ∷ [])) 0 b m r → length (start_line (bytes "tuple") (a ∷ u ∷ [])) ≤ start_room → start_room ≤ length b
    → (8 ≤ r) × (r ≤ start_room) × (start_room ≤ length m) × (take r m ≡ start_line (bytes "tuple") (a ∷ u ∷ []))
unfolding start_line each field over
start_fits a u {b} {m} {r} p h z =
    let fields = number_field a ++ (number_field u ++ []) in
    let t = (bytes "tuple" ++ fields) ++ lone in
    let i : r ≡ length t = omega (arith, p.end) in (
      omega (arith, i, length-append (bytes "tuple" ++ fields) lone, length-append (number_field a) (number_field u ++ []), length-append (number_field u) []),
      omega (arith, i, h),
      omega (arith, put-long p),
      ap (take r) p.bytes ∙ take_at t (drop (length t) b) r (sym i),
    )

-- the two are a line with the last number behind the others
behind-fields : (word fields d : List ℕ) → ((word ++ fields) ++ lone) ++ (d ++ feed) ≡ (word ++ (fields ++ field d)) ++ feed
unfolding field
behind-fields word fields d = simp append_assoc

parts_are : (word ns : List ℕ) (n : ℕ) → start_line word ns ++ end_line n ≡ numbers_line word (ns ++ n ∷ [])
unfolding start_line end_line numbers_line each
parts_are word ns n = rw (each_append number_field ns (n ∷ []), append-nil) (behind-fields word (number_fields ns) (decimal n))

pub run-line : (s : Start) (values t o k : ℕ) → s.user ≡ t / 2 ^ values → o ≡ t % 2 ^ values → o + k < 2 ^ values
    → take s.count s.text ++ end_line (o + k) ≡ tuple_text s.action values (t + k)
run-line s values t o k u e h =
    let z : t + k ≡ t / 2 ^ values * 2 ^ values + (o + k) = omega (arith, e, div-add-mod' t (2 ^ values)) in
    let d : (t + k) / 2 ^ values ≡ s.user = rw z (digits_div (t / 2 ^ values) h) ∙ sym u in
    let r : (t + k) % 2 ^ values ≡ o + k = rw z (digits_mod (t / 2 ^ values) h) in
    rw (s.are, d, r) (parts_are (bytes "tuple") (s.action ∷ s.user ∷ []) (o + k) ∙ line-is (bytes "tuple") (s.action ∷ s.user ∷ (o + k) ∷ []))

-- a power of two that a number of the machine has room for
pub shl_one : (v : ℕ) → v < 32 → (1 * 2 ^ v) % 2 ^ 32 ≡ 2 ^ v
shl_one v h =
    let l : 1 + v ≤ 32 = omega arith in
    shl_exact 1 v 32 (lit< tt) l ∙ one-mul (2 ^ v)

-- The digits of a number, one after the other.
use Prim.Native.Nat.{ℕ, ◌/◌, ◌%◌, ◌≤◌, ◌<◌}
use mathlib.Core.Path.{◌≡◌}
use mathlib.Core.List.{List, ◌++◌, append_assoc}
use native.Mathlib.Omega.{arith}
use Rattle.text.specs.Number.{decimal}
use Rattle.text.proofs.RoundTrip.{decimal-one, decimal-more}
use Rattle.writer.specs.Inner.Put.{Room, Put, last_digit}
use Rattle.writer.proofs.Putting.{room-first, room_next, put_next}

-- the last digit behind the others
module _ {n at : ℕ} {b : List ℕ} (l : 10 ≤ n) where
  others : Room (decimal n) at b → Room (decimal (n / 10) ++ last_digit n) at b
  others x = rw (decimal-more n l) at x

  pub others-room : Room (decimal n) at b → Room (decimal (n / 10)) at b
  others-room x = room-first _ _ (others x)

  module _ {m : List ℕ} {r : ℕ} (p : Put (decimal (n / 10)) at b m r) where
    pub last-room : Room (decimal n) at b → Room (last_digit n) r m
    last-room x = room_next (others x) p

    pub last-put : {k : List ℕ} {q : ℕ} → Put (last_digit n) r m k q → Put (decimal n) at b k q
    last-put y = rw (decimal-more n l) (put_next p y)

-- ---- one, two or three digits, put one after the other

one-is : (n : ℕ) → n < 10 → decimal n ≡ last_digit n
one-is n h =
    let e : n % 10 ≡ n = omega arith in
    rw e (decimal-one n h)

two_is : (n : ℕ) → 10 ≤ n → n < 100 → decimal n ≡ last_digit (n / 10) ++ last_digit n
two_is n l h = rw (decimal-more n l, one-is (n / 10) (omega arith))

three-is : (n : ℕ) → 100 ≤ n → n < 1000 → decimal n ≡ last_digit (n / 10 / 10) ++ (last_digit (n / 10) ++ last_digit n)
three-is n l h =
    rw (decimal-more n (omega arith), two_is (n / 10) (omega arith) (omega arith))
    (append_assoc (last_digit (n / 10 / 10)) (last_digit (n / 10)) (last_digit n))

module _ {n at : ℕ} {b : List ℕ} where
  pub one-room : n < 10 → Room (decimal n) at b → Room (last_digit n) at b
  one-room h x = rw (one-is n h) at x

  pub one-put : {m : List ℕ} {r : ℕ} → n < 10 → Put (last_digit n) at b m r → Put (decimal n) at b m r
  one-put h x = rw (one-is n h) x

  module _ (l : 10 ≤ n) (h : n < 100) where
    two-of : Room (decimal n) at b → Room (last_digit (n / 10) ++ last_digit n) at b
    two-of x = rw (two_is n l h) at x

    pub two-room : Room (decimal n) at b → Room (last_digit (n / 10)) at b
    two-room x = room-first _ _ (two-of x)

    module _ {m : List ℕ} {r : ℕ} (p : Put (last_digit (n / 10)) at b m r) where
      pub two-next : Room (decimal n) at b → Room (last_digit n) r m
      two-next x = room_next (two-of x) p

      pub two-put : {k : List ℕ} {q : ℕ} → Put (last_digit n) r m k q → Put (decimal n) at b k q
      two-put y = rw (two_is n l h) (put_next p y)

  module _ (l : 100 ≤ n) (h : n < 1000) where
    three-of : Room (decimal n) at b → Room (last_digit (n / 10 / 10) ++ (last_digit (n / 10) ++ last_digit n)) at b
    three-of x = rw (three-is n l h) at x

    pub three-room : Room (decimal n) at b → Room (last_digit (n / 10 / 10)) at b
    three-room x = room-first _ _ (three-of x)

    module _ {m : List ℕ} {r : ℕ} (p : Put (last_digit (n / 10 / 10)) at b m r) where
      pub three-second : Room (decimal n) at b → Room (last_digit (n / 10)) r m
      three-second x = room-first _ _ (room_next (three-of x) p)

      module _ {k : List ℕ} {q : ℕ} (y : Put (last_digit (n / 10)) r m k q) where
        pub three_third : Room (decimal n) at b → Room (last_digit n) q k
        three_third x = room_next (room_next (three-of x) p) y

        pub three-put : {j : List ℕ} {s : ℕ} → Put (last_digit n) q k j s → Put (decimal n) at b j s
        three-put z = rw (three-is n l h) (put_next p (put_next y z))

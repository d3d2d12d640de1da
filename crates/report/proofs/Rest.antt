-- What is put into the rest of a buffer.
use Prim.Native.Nat.{ℕ, ◌+◌, ◌-◌, ◌≤◌}
use mathlib.Core.Path.{◌≡◌}
use mathlib.Core.List.{List}
use native.Mathlib.Omega.{arith}
use borrow.Rule.Slice.PartMut.{put_mid}
use lib.ListN.{length, take, drop, length-drop}
use lib.Seq.{length-take-le}
use Rattle.writer.specs.Inner.Put.{Room, Put}
use Rattle.writer.proofs.Putting.{part-put}

module _ (m : List ℕ) (at : ℕ) where
  -- the rest is as long as it says
  pub rest-long : length (take (length m - at) (drop at m)) ≡ length m - at
  rest-long = length-take-le (length m - at) (drop at m) (omega (arith, length-drop at m))

  -- what is put there had room, and stands in the buffer
  module _ (h : at ≤ length m) {t ys : List ℕ} {q : ℕ} (y : Put t 0 (take (length m - at) (drop at m)) ys q) where
    pub rest-fits : at + q ≤ length m
    rest-fits = omega (arith, rest-long, y.fits)

    pub rest_put : Put t at m (put_mid at (length m - at) m ys) (at + q)
    rest_put =
        let r : Room t at m = record { fits = omega (arith, rest-fits, y.end) } in
        part-put r y

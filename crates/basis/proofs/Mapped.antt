-- An array that is filled place by place with the images of another array's elements: after k turns its first k places
-- are these.
use Prim.Native.Nat.{ℕ, ◌+◌, ◌≤◌, ◌<◌}
use mathlib.Core.Path.{◌≡◌, refl, sym, ◌∙◌}
use mathlib.Core.List.{List, [], ◌∷◌, map, map-append}
use native.Mathlib.Numerals.{add-one}
use native.Mathlib.Omega.{arith}
use lib.ListN.{length, get_or, take, set, length-set}
use lib.Seq.{take-suc, take-suc-set, take_all}

pub record Mapped {A B : Type 0} (f : A → B) (k : ℕ) (xs : List A) (ys : List B) : Type 0 where
  pub size : length ys ≡ length xs
  pub within : k ≤ length xs
  pub done : take k ys ≡ map f (take k xs)

module _ {A B : Type 0} {f : A → B} {xs : List A} {ys : List B} where
  pub mapped_none : length ys ≡ length xs → Mapped f 0 xs ys
  mapped_none e = record { size = e; within = omega arith; done = refl }

  -- the next place gets the image of the element there
  pub mapped_more : {k : ℕ} {y : B} → Mapped f k xs ys → (d : A) → k < length xs → y ≡ f (get_or xs k d) → Mapped f (k + 1) xs (set ys k y)
  mapped_more {k} {y} m d h e =
      let s = m.size in
      let g : k < length ys = omega arith in
      record {
        size = length-set ys k y ∙ s;
        within = omega arith;
        done =
            rw (add-one k, take-suc-set ys k y g, take-suc xs k d h, map-append f (take k xs) (get_or xs k d ∷ []), m.done, e);
      }

  -- all places are filled
  pub mapped_all : {k : ℕ} → Mapped f k xs ys → length xs ≤ k → ys ≡ map f xs
  mapped_all {k} m h =
      let s = m.size in
      let g : length ys ≤ k = omega arith in
      sym (take_all k ys g) ∙ rw (take_all k xs h) at m.done

-- The lines of the tuples from a number on: those of one strip, which its marks give, and those of the strips behind it.
use Prim.Native.Nat.{ℕ, zero, suc, ◌+◌, ◌-◌, ◌*◌, ◌≤◌, ◌<◌}
use mathlib.Core.Path.{◌≡◌, refl, sym, ap, ◌∙◌}
use mathlib.Core.Bool.{Bool, true, false, cond}
use mathlib.Core.List.{List, ◌∷◌, ◌++◌, append_assoc}
use native.Mathlib.Omega.{arith}
use Rattle.formula.specs.Inner.Lane.{lanes}
use Rattle.tuples.specs.Inner.Marks.{marked, Follows, select_from, passing}
use Rattle.tuples.proofs.From.{passing-split}
use Rattle.writer.specs.Inner.Put.{each}
use Rattle.writer.proofs.Putting.{each_append}
use Rattle.report.specs.Inner.Lines.{Some}
use Rattle.report.specs.declared.lines.Lines.{Lines}

module _ (line : ℕ → List ℕ) (f g : ℕ → Bool) (d : ℕ) where
  -- one number, by a test with both answers
  one : (x : ℕ) (b : Bool) (xs ys : List ℕ) → each (λ k. line (d + k)) xs ≡ each line ys
      → each (λ k. line (d + k)) (cond b (x ∷ xs) xs) ≡ each line (cond b ((d + x) ∷ ys) ys)
  unfolding each
  one x true xs ys e = rw e
  one x false xs ys e = e

  from-shifted : (k x : ℕ) → ((i : ℕ) → x ≤ i → i < x + k → g i ≡ f (d + i)) → each (λ i. line (d + i)) (select_from g x k) ≡ each line (select_from f (d + x) k)
  unfolding select_from each
  from-shifted zero x e = refl
  from-shifted (suc k) x e =
      let z : d + suc x ≡ suc (d + x) = omega arith in
      let h = from-shifted k (suc x) (λ i a b. e i (omega arith) (omega arith)) in
      rw (e x (omega arith) (omega arith)) (one x (f (d + x)) (select_from g (suc x) k) (select_from f (suc (d + x)) k) (rw z at h))

  -- the lines of numbers, by the tests of numbers that are d less
  pub each-shifted : (x n : ℕ) → ((i : ℕ) → i < n → g i ≡ f (d + i)) → each (λ i. line (d + i)) (passing g x n) ≡ each line (passing f (d + x) (d + n))
  each-shifted x n e =
      let z : n - x ≡ d + n - (d + x) = omega arith in
      from-shifted (n - x) x (λ i a b. e i (omega arith)) ∙ ap (λ (k : ℕ). each line (select_from f (d + x) k)) z

-- the lines from a number of a strip on are the rest of the strip's and those behind it
module _ (line : ℕ → List ℕ) (f : ℕ → Bool) (d : ℕ) (words : List ℕ) (n m : ℕ) (e : Follows f d words n) (h : d + n * lanes ≤ m) where
  onward : (x : ℕ) → x ≤ n * lanes
      → each line (passing f (d + x) m) ≡ each (λ k. line (d + k)) (passing (marked words) x (n * lanes)) ++ each line (passing f (d + n * lanes) m)
  onward x l =
      ap (each line) (passing-split f (d + x) (d + n * lanes) m (omega arith) h)
      ∙ each_append line (passing f (d + x) (d + n * lanes)) (passing f (d + n * lanes) m)
      ∙ ap (λ (t : List ℕ). t ++ each line (passing f (d + n * lanes) m)) (sym (each-shifted line f (marked words) d x (n * lanes) e))

  -- so where some of the strip's are put, the others are left
  pub some-onward : {from : ℕ} {entry exit : List ℕ} {r : Lines} (y : Some (λ k. line (d + k)) (marked words) (n * lanes) from entry exit r)
      → each line (passing f (d + from) m) ≡ y.text ++ each line (passing f (d + r.next) m)
  some-onward {from} {entry} {exit} {r} y =
      onward from (omega (arith, y.low, y.high))
      ∙ ap (λ (t : List ℕ). t ++ each line (passing f (d + n * lanes) m)) y.left
      ∙ append_assoc y.text (each (λ k. line (d + k)) (passing (marked words) r.next (n * lanes))) (each line (passing f (d + n * lanes) m))
      ∙ ap (λ (t : List ℕ). y.text ++ t) (sym (onward r.next y.high))

-- `formula::both::Blocks::work` meets its contract, word by word.
use Prim.Native.Nat.{ℕ, ◌+◌}
use mathlib.Core.Path.{ap, ◌∙◌}
use mathlib.Core.Bool.{Bool}
use mathlib.Core.List.{◌∷◌}
use native.Mathlib.Omega.{arith}
use Rattle.sets.specs.Set.{has}
use Rattle.sets.proofs.Laws.{has-zero}
use Rattle.formula.specs.Truth.{step}
use Rattle.formula.specs.Inner.Lane.{in_block, column}
use Rattle.formula.proofs.Stack.{column-put, top-on, below_on}
use Rattle.formula.proofs.Vectors.{has-ones}
use Rattle.formula.proofs.both.Blocks.work.Goals as goal

pub returns-in-True : goal.returns-in-True
unfolding step
returns-in-True c =
    let x = c.fill.ensures in (
      omega arith,
      x.long,
      λ b h p k s y.
          let a = c.args in
          column-put a.self.now.count b (a.d + 1) x h k
          ∙ rw c.in-True.is (ap (λ (e : Bool). e ∷ column (in_block a.stack.now a.self.now.count b) (a.d + 1) k) (ap (λ (z : ℕ). has z k) (x.here b h) ∙ has-ones k y.1.lane)),
    )

pub returns-in-False : goal.returns-in-False
unfolding step
returns-in-False c =
    let x = c.fill-in-False.ensures in (
      omega arith,
      x.long,
      λ b h p k s y.
          let a = c.args in
          column-put a.self.now.count b (a.d + 1) x h k
          ∙ rw c.in-False.is (ap (λ (e : Bool). e ∷ column (in_block a.stack.now a.self.now.count b) (a.d + 1) k) (ap (λ (z : ℕ). has z k) (x.here b h) ∙ has-zero k)),
    )

pub returns-in-Holds : goal.returns-in-Holds
unfolding step
returns-in-Holds c =
    let x = c.put_held.ensures in (
      omega arith,
      x.long,
      λ b h p k s y.
          let a = c.args in
          column-put a.self.now.count b (a.d + 1) x h k
          ∙ rw c.in-Holds.is (ap (λ (e : Bool). e ∷ column (in_block a.stack.now a.self.now.count b) (a.d + 1) k) (x.here b h p k s y.1)),
    )

pub returns-in-Compares : goal.returns-in-Compares
unfolding step
returns-in-Compares c =
    let x = c.put_compared.ensures in (
      omega arith,
      x.long,
      λ b h p k s y.
          let a = c.args in
          column-put a.self.now.count b (a.d + 1) x h k
          ∙ rw c.in-Compares.is (ap (λ (e : Bool). e ∷ column (in_block a.stack.now a.self.now.count b) (a.d + 1) k) (x.here b h p k s y)),
    )

pub returns-in-Not : goal.returns-in-Not
unfolding step
returns-in-Not c =
    let x = c.negate.ensures in (
      omega arith,
      x.long,
      λ b h p k s y.
          let a = c.args in let f : ℕ → ℕ = in_block a.stack.now a.self.now.count b in
          column-put a.self.now.count b a.d x h k
          ∙ rw (c.in-Not.is, top-on f a.d k, below_on f a.d k) (ap (λ (e : Bool). e ∷ column f a.d k) (x.here b h k y.1.lane)),
    )

pub returns-in-And : goal.returns-in-And
unfolding step
returns-in-And c =
    let x = c.combine.ensures in
    (omega (arith, x.0), x.1, λ b h p k s y. rw c.in-And.is (x.2 b k h))

pub returns-in-Or : goal.returns-in-Or
unfolding step
returns-in-Or c =
    let x = c.combine-in-Or.ensures in
    (omega (arith, x.0), x.1, λ b h p k s y. rw c.in-Or.is (x.2 b k h))

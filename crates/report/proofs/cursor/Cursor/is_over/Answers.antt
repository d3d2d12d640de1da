-- `report::cursor::Cursor::is_over` meets its contract, test by test.
use Prim.Native.Nat.{◌≤◌, ◌<◌}
use mathlib.Core.Path.{refl, sym, ◌∙◌}
use native.Mathlib.Omega.{arith}
use borrow.Author.Tests.{lt-ltb, le-ltb, leb-true, leb-false}
use Rattle.report.specs.Inner.Cursor.{is_over, numbers_end, next_number}
use Rattle.report.proofs.Left.{end-few, strip-within}
use Rattle.report.proofs.cursor.Cursor.is_over.Goals.{then-self, else-self}
use Rattle.report.proofs.cursor.Cursor.is_over.Goals as goal

pub overflow_mul-self : goal.overflow_mul-self
overflow_mul-self c = let s = c.requires.1 in omega (arith, end-few s)

pub overflow_mul-self-then-self : goal.overflow_mul-self-then-self
overflow_mul-self-then-self c = let s = c.requires.1 in omega (arith, end-few s, strip-within s)

pub overflow_add-self : goal.overflow_add-self
overflow_add-self c = let s = c.requires.1 in omega (arith, end-few s, strip-within s, s.tuples.within, s.tuples.strip.few)

pub returns-then-self-2 : goal.returns-then-self-2
unfolding is_over
returns-then-self-2 c =
    let a = c.args.self.now in
    elim c.if-self.branch [
      | then-self w ↦
          let h : numbers_end a.tuples ≤ next_number a.tuples = leb-true _ _ (sym w.value-is ∙ c.if-self-2.true) in
          rw (le-ltb a.held.from a.held.to w.if-self.true, le-ltb (next_number a.tuples) (numbers_end a.tuples) h) refl
      | else-self w ↦ let h = leb-true a.held.to a.held.from (sym w.value-is ∙ c.if-self-2.true) in absurd (omega (arith, h, w.if-self.false))
    ]

pub returns-else-self-2 : goal.returns-else-self-2
unfolding is_over
returns-else-self-2 c =
    let a = c.args.self.now in
    elim c.if-self.branch [
      | then-self w ↦
          let h : next_number a.tuples < numbers_end a.tuples = leb-false _ _ (sym w.value-is ∙ c.if-self-2.false) in
          c.if-self-2.false ∙ rw (le-ltb a.held.from a.held.to w.if-self.true, lt-ltb (next_number a.tuples) (numbers_end a.tuples) h) refl
      | else-self w ↦ c.if-self-2.false ∙ rw (lt-ltb a.held.from a.held.to w.if-self.false) refl
    ]

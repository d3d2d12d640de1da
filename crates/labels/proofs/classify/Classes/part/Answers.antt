-- `labels::classify::classify` meets its contract: each turn labels one row, and a row that is like no leader becomes
-- one.
use native.Mathlib.Omega.{arith}
use Rattle.labels.proofs.Alike.{rows-equivalence}
use Rattle.labels.proofs.Turn.{turned_none, leader-row, found-le, turned-old, turned-new, turned-all}
use Rattle.labels.proofs.classify.Classes.part.Goals as goal
use Rattle.labels.proofs.classify.Classes.part.Goals.{then-l-self, else-l-self}

pub loop-u-init : goal.loop-u-init
loop-u-init c = let f = c.requires.few-rows in turned_none _ _ _ _ (omega arith) (omega arith)

pub label_of-l-requires : goal.label_of-l-requires
label_of-l-requires c =
    let s = c.requires in
    (s, c.loop-u-test.true, omega (arith, s.few-rows), leader-row (rows-equivalence _ _ _) c.loop-u.invariant)

pub overflow_cast-self : goal.overflow_cast-self
overflow_cast-self c =
    let s = c.requires in
    omega (arith, s.few-rows, found-le (rows-equivalence _ _ _) c.loop-u.invariant c.loop-u-test.true _ c.label_of-l.ensures)

pub loop-u-preserved : goal.loop-u-preserved
loop-u-preserved c =
    let h = c.loop-u-test.true in
    let q = c.label_of-l.ensures in
    elim c.if-l-self.branch [
      | then-l-self w ↦ rw (w.self-is) (turned-new (rows-equivalence _ _ _) c.loop-u.invariant h _ q w.if-l-self.true)
      | else-l-self w ↦ rw (w.self-is) (turned-old (rows-equivalence _ _ _) c.loop-u.invariant h _ q w.if-l-self.false)
    ]

pub returns : goal.returns
returns c = turned-all c.loop-u.invariant c.loop-u-test.false

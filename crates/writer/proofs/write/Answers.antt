-- `writer::write` meets its contract: by the checks in their order.
use Rattle.std.specs.Prelude.{Ok, Err}
use Prim.Native.Nat.{ℕ, ◌+◌, ◌≤◌, ◌<◌}
use mathlib.Core.Path.{◌≡◌, sym, ap, ◌∙◌}
use mathlib.Core.Bool.{Bool, true, false}
use mathlib.Core.List.{List}
use native.Mathlib.Nat.{zero-add}
use native.Mathlib.Omega.{arith}
use borrow.Author.Tests.{lt-ltb, le-ltb, leb-true, leb-false}
use lib.Dec.{leb}
use lib.ListN.{length}
use Rattle.basis.specs.Choice.{first_broken}
use Rattle.policy.specs.Text.{text_of}
use Rattle.policy.specs.Valid.{valid}
use Rattle.policy.specs.Value.{policy_of}
use Rattle.policy.specs.Write.{write, write_buffer}
use Rattle.policy.specs.declared.value.PolicyValue.{PolicyValue}
use Rattle.writer.specs.Inner.Put.{Room, Put}
use Rattle.writer.proofs.Ready.{valid-writable, valid-short}
use Rattle.writer.proofs.write.Goals as goal

-- the answer and the buffer by the checks
module _ (v : PolicyValue) (b : List ℕ) where
  invalid : valid v ≡ false → (Err 11 ≡ write v b) × (b ≡ write_buffer v b)
  unfolding write write_buffer first_broken
  invalid e = (rw e, rw e)

  module _ (e : valid v ≡ true) where
    short : length b < length (text_of (policy_of v)) → (Err 20 ≡ write v b) × (b ≡ write_buffer v b)
    unfolding write write_buffer first_broken
    short h =
        let t = lt-ltb (length b) (length (text_of (policy_of v))) h in
        (rw (e, t), rw (e, t))

    stored : {m : List ℕ} {r : ℕ} → Room (text_of (policy_of v)) 0 b → Put (text_of (policy_of v)) 0 b m r → (Ok r ≡ write v b) × (m ≡ write_buffer v b)
    unfolding write write_buffer first_broken
    stored h p =
        let t = le-ltb (length b) (length (text_of (policy_of v))) (omega (arith, h.fits)) in
        (rw (e, t) (ap Ok (p.end ∙ zero-add _)), rw (e, t) p.bytes)

-- what the answer of `fits` says
tight : {m n : ℕ} {r : Bool} → r ≡ leb m n → r ≡ false → n < m
tight {m} {n} e t = leb-false m n (sym e ∙ t)

loose : {m n : ℕ} {r : Bool} → r ≡ leb m n → r ≡ true → m ≤ n
loose {m} {n} e t = leb-true m n (sym e ∙ t)

from_start : {m n : ℕ} → m ≤ n → 0 + m ≤ n
from_start h = omega arith

pub returns-then-not-check : goal.returns-then-not-check
returns-then-not-check c = let i = invalid c.args.v c.args.buffer.now (sym c.check.ensures ∙ c.if-not-check.true) in record { answer = i.0; bytes = i.1 }

pub fits-requires : goal.fits-requires
fits-requires c = let e = sym c.check.ensures ∙ c.if-not-check.false in record { can = valid-writable _ e; short = valid-short _ e }

pub returns-then-not-fits : goal.returns-then-not-fits
returns-then-not-fits c =
    let i = short c.args.v c.args.buffer.now (sym c.check.ensures ∙ c.if-not-check.false) (tight c.fits.ensures c.if-not-fits.true) in
    record { answer = i.0; bytes = i.1 }

pub put-requires : goal.put-requires
put-requires c = record { can = valid-writable _ (sym c.check.ensures ∙ c.if-not-check.false); room = record { fits = from_start (loose c.fits.ensures c.if-not-fits.false) } }

pub returns : goal.returns
returns c =
    let i = stored c.args.v c.args.buffer.now (sym c.check.ensures ∙ c.if-not-check.false) (record { fits = from_start (loose c.fits.ensures c.if-not-fits.false) }) c.put.ensures in
    record { answer = i.0; bytes = i.1 }

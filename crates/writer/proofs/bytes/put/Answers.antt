-- `writer::bytes::put` meets its contract: after i turns the first i bytes are put.
use Prim.Native.Nat.{ℕ, ◌+◌, ◌<◌}
use mathlib.Core.Path.{◌≡◌}
use mathlib.Core.List.{List, []}
use native.Mathlib.Numerals.{add-one}
use native.Mathlib.Omega.{arith}
use lib.ListN.{length, get_or, take, set}
use lib.Seq.{take_all, take-suc}
use Rattle.writer.specs.Inner.Put.{Room, Put}
use Rattle.writer.proofs.Putting.{put-none, put-long, put_next, put_byte}
use Rattle.writer.proofs.bytes.put.Goals as goal

first-none : (s b : List ℕ) {at : ℕ} → Room s at b → Put [] at b b (at + 0)
first-none s b {at} h =
    let z : at + 0 ≡ at = omega arith in
    rw z (put-none b at (omega (arith, h.fits)))

-- the byte at i after those before it
byte_next : (s b : List ℕ) {m : List ℕ} {at i : ℕ} → i < length s → Room s at b → Put (take i s) at b m (at + i)
    → Put (take (i + 1) s) at b (set m (at + i) (get_or s i 0)) (at + (i + 1))
byte_next s b {m} {at} {i} h l x =
    let z : at + (i + 1) ≡ at + i + 1 = omega arith in
    rw (z, add-one i, take-suc s i 0 h)
    (put_next x (put_byte (record { fits = omega (arith, l.fits, put-long x) })))

all-put : {s b m : List ℕ} {at i : ℕ} → Put (take i s) at b m (at + i) → i ≡ length s → Put s at b m (at + length s)
all-put {s} {b} {m} {at} {i} x e = rw (← e) (rw (take_all i s (omega (arith, e))) at x)

pub loop-i-init : goal.loop-i-init
loop-i-init c = first-none _ _ c.requires

pub loop-i-preserved : goal.loop-i-preserved
loop-i-preserved c = byte_next _ _ c.loop-i-test.true c.requires c.loop-i.invariant

pub returns : goal.returns
returns c = all-put c.loop-i.invariant (omega arith)

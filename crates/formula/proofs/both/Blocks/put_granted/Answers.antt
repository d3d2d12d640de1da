-- `formula::both::Blocks::put_granted` meets its contract: by the rules and then, where there are any, by the pairs.
use Prim.Native.Nat.{ℕ, ◌≤◌, ◌<◌}
use mathlib.Core.List.{List, ◌++◌}
use mathlib.Core.Path.{◌≡◌, ◌∙◌}
use mathlib.Core.Bool.{◌&&◌}
use native.Mathlib.Omega.{arith}
use lib.Dec.{eqb}
use lib.ListN.{length, take, drop, get_or, replicate, length-append, length-drop, length-replicate, get_or-append, get_or-replicate}
use lib.Seq.{length-take-le}
use Rattle.formula.specs.Truth.{pair_holds}
use Rattle.formula.proofs.Granting.{rules-placed}
use Rattle.formula.proofs.Pairing.{grants-stored, pairs-placed, none-stored}
use Rattle.formula.proofs.both.Blocks.put_granted.Goals as goal

-- the first m numbers made 0
module _ (m : ℕ) (xs fresh : List ℕ) (h : m ≤ length xs) (e : fresh ≡ replicate (length (take m xs)) 0) where
  cleared : fresh ≡ replicate m 0
  cleared = rw (length-take-le m xs h) at e

  cleared-length : length (fresh ++ drop m xs) ≡ length xs
  cleared-length = rw (cleared, length-append, length-replicate {A = ℕ} m 0, length-drop) (omega arith)

  cleared-zero : (i : ℕ) → i < m → get_or (fresh ++ drop m xs) i 0 ≡ 0
  cleared-zero i l =
      let k : i < length (replicate m 0) = rw (length-replicate {A = ℕ} m 0) l in
      rw cleared (get_or-append (replicate m 0) (drop m xs) 0 i k ∙ get_or-replicate m i 0 0 l)

pub put_rules-requires : goal.put_rules-requires
put_rules-requires c =
    let t = c.requires in let g = t.0 in
    let f = c.fill.ensures.after (λ y e. e) in
    let l = cleared-length _ c.args.granted.now c.fill.new.self t.2 f in
    ((g.0, g.1), rules-placed g.0 _ g.2, t.1, omega (arith, t.2, l), cleared-zero _ c.args.granted.now c.fill.new.self t.2 f)

pub add_pairs-requires : goal.add_pairs-requires
add_pairs-requires c =
    let t = c.requires in let g = t.0 in
    let l = cleared-length _ c.args.granted.now c.fill.new.self t.2 (c.fill.ensures.after (λ y e. e)) in
    (pairs-placed g.0 _ g.2, omega (arith, t.2, c.put_rules.ensures.0, l))

pub returns-then-grants-ne0 : goal.returns-then-grants-ne0
returns-then-grants-ne0 c =
    let x = c.put_rules.ensures in let y = c.add_pairs.ensures in (
      y.0 ∙ x.0 ∙ cleared-length _ c.args.granted.now c.fill.new.self c.requires.2 (c.fill.ensures.after (λ y e. e)),
      λ b h p k s z g a l. y.1 b h p k s z.1 a l ∙ rw (x.1 b h p k s z a l) (grants-stored p s c.args.grants a g),
    )

pub returns-else-grants-ne0 : goal.returns-else-grants-ne0
returns-else-grants-ne0 c =
    let x = c.put_rules.ensures in let r = c.args in (
      x.0 ∙ cleared-length _ r.granted.now c.fill.new.self c.requires.2 (c.fill.ensures.after (λ y e. e)),
      λ b h p k s z g a l.
          x.1 b h p k s z a l ∙ none-stored _ (λ y. eqb y.action a && pair_holds p s y) r.grants.pairs c.if-grants-ne0.false
          ∙ grants-stored p s r.grants a g,
    )

-- `formula::both::Blocks::put_by_rules` meets its contract: the numbers say what the rules gone through say.
use Prim.Native.Nat.{ℕ}
use mathlib.Core.Path.{◌≡◌, refl, sym, ap, ◌∙◌}
use mathlib.Core.List.{[], ◌∷◌}
use borrow.Author.Rules.{rules}
use Rattle.std.proofs.lemmas.List.{append-nil}
use Rattle.formula.proofs.Backwards.{moved, moved-in, all_done}
use native.Mathlib.Omega.{arith}
use lib.ListN.{take}
use lib.Arith.{digits_lt}
use Rattle.sets.specs.Set.{has}
use Rattle.policy.specs.Limits.{most_actions}
use Rattle.formula.specs.Inner.Lane.{stack_places}
use Rattle.formula.proofs.Granting.{outcome-all, says_none, says-next}
use Rattle.formula.proofs.Placing.{place-room}
use Rattle.formula.proofs.both.Blocks.put_by_rules.Goals as goal

pub loop-rule-init : goal.loop-rule-init
loop-rule-init c =
    let rest = c.into_iter-rule-iterator.result.iter.rest.now in
    let e : take c.args.rules.count c.args.rules.entries ≡ rest = search rules in
    ([], e ∙ sym (append-nil rest), refl, refl, λ b h p k s x. says_none p s _ k (λ a g. c.requires.4 _ (digits_lt g h)))

pub where_true-d-requires : goal.where_true-d-requires
where_true-d-requires c =
    let l = c.loop-rule.invariant in let left = c.next.new.self.iter.rest.now in let r = c.in-Some.rule.now in
    let m = moved-in left l.0 r (moved left l.0 r l.1 c.in-Some.ensures.steps) in
    (c.requires.0, (c.requires.1.each r m).words, omega (arith, c.requires.2, l.2))

pub copy-requires : goal.copy-requires
copy-requires c =
    let l = c.loop-rule.invariant in let left = c.next.new.self.iter.rest.now in let r = c.in-Some.rule.now in
    let m = moved-in left l.0 r (moved left l.0 r l.1 c.in-Some.ensures.steps) in
    let g = c.requires in let w = c.where_true-d.ensures in (
      place-room stack_places _ _ _ (omega (arith, g.2, l.2, w.1)) (omega (arith, w.0, (g.1.each r m).words)),
      place-room most_actions _ _ _ (omega (arith, g.3, l.3)) (g.1.each r m).action,
    )

pub loop-rule-preserved : goal.loop-rule-preserved
loop-rule-preserved c =
    let l = c.loop-rule.invariant in let r = c.in-Some.rule.now in
    let w = c.where_true-d in let z = c.copy.ensures in (
      r ∷ l.0,
      moved c.next.new.self.iter.rest.now l.0 r l.1 c.in-Some.ensures.steps,
      w.ensures.1 ∙ l.2,
      z.long ∙ l.3,
      λ b g p k s x. says-next p s r l.0 k z g (ap (λ (m : ℕ). has m k) (z.here b g) ∙ w.ensures.2 b g p k s x) (l.4 b g p k s x),
    )

pub returns : goal.returns
returns c =
    let l = c.loop-rule.invariant in
    let e = all_done c.loop-rule.rule-iterator.iter.rest.now l.0 l.1 c.in-None.ensures.steps.0 in (
      l.2,
      l.3,
      λ b g p k s x a h. (rw (sym e) at (l.4 b g p k s x a h)) ∙ outcome-all p s c.args.rules a,
    )

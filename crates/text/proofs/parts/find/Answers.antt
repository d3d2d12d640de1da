-- `text::parts::find` meets its contract: the place from `from` on.
use Rattle.std.proofs.Common.{◌≡◌, ℕ, ◌+◌, ◌-◌, ◌≤◌, Option, Some, None, Bool, true, false, cond, not, List, eqb, nat_lt, length, take, drop, arith, rules, tests, refl, sym, ap, ◌∙◌}
use Rattle.std.proofs.lemmas.Bool.{ltb-true, ltb-false}
use Rattle.std.proofs.lemmas.Iterator.{YieldsList-from_slice}
use Rattle.std.proofs.lemmas.Iterator.Search.{position_from_yields_List}
use Rattle.std.proofs.lemmas.List.Sums.{prefix_len-le-length}
use Rattle.std.specs.List.{position, position_or_len}
use lib.ListN.{length-drop}
use lib.Seq.{take_all}
use Rattle.text.specs.Inner.{Found, index_of}
use Rattle.text.proofs.Split.{index-position}
use Rattle.text.proofs.parts.find.Goals as goal

abbrev is_b : ℕ → ℕ → Bool
is_b b x = eqb x b

-- m is told where it is below n
some : (t : Bool) (m i : ℕ) → cond t (Some m) None ≡ Some i → (t ≡ true) × (m ≡ i)
some true m i e = (refl, cc)
some false m i e = absurd (cc)

none : (t : Bool) (m : ℕ) → cond t (Some m) None ≡ None → t ≡ false
none true m e = absurd (cc)
none false m e = refl

module _ (s : List ℕ) (from b : ℕ) (h : from ≤ length s) (o : Option ℕ) (is : o ≡ position (is_b b) (take (length s - from) (drop from s))) where
  rest : take (length s - from) (drop from s) ≡ drop from s
  rest = take_all (length s - from) (drop from s) (rw length-drop (omega arith))

  at : o ≡ position (is_b b) (drop from s)
  at = is ∙ ap (position (is_b b)) rest

  index : index_of b (drop from s) ≡ position_or_len (is_b b) (drop from s)
  index = index-position b (drop from s)

  length-rest : length (drop from s) ≡ length s - from
  length-rest = rw length-drop refl

  found : (i : ℕ) → o ≡ Some i → Found s from b (from + i)
  found i e =
      let k = some (nat_lt (position_or_len (is_b b) (drop from s)) (length (drop from s))) (position_or_len (is_b b) (drop from s)) i (sym at ∙ e) in
      let l = ltb-true _ _ k.0 in
      record { low = omega arith; high = omega (arith, l, k.1, length-rest); at = omega (arith, index, k.1) }

  missing : o ≡ None → Found s from b (length s)
  missing e =
      let k = none (nat_lt (position_or_len (is_b b) (drop from s)) (length (drop from s))) (position_or_len (is_b b) (drop from s)) (sym at ∙ e) in
      let l = prefix_len-le-length (λ x. not (is_b b x)) (drop from s) in
      let g = ltb-false _ _ k in
      record { low = h; high = omega arith; at = omega (arith, index, l, g, length-rest) }

pub returns-in-Some : goal.returns-in-Some
returns-in-Some c =
    let p = position_from_yields_List (is_b c.args.b) _ _ c.position.result c.position.ensures.ran (YieldsList-from_slice _ c.iter.ensures.rest) (λ x b q k. search (rules, tests)) in
    found _ _ _ c.requires _ p _ c.in-Some.is

pub returns-in-None : goal.returns-in-None
returns-in-None c =
    let p = position_from_yields_List (is_b c.args.b) _ _ c.position.result c.position.ensures.ran (YieldsList-from_slice _ c.iter.ensures.rest) (λ x b q k. search (rules, tests)) in
    missing _ _ _ c.requires _ p c.in-None.is

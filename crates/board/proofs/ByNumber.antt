-- What is found for each user number: filled from the last entry to the first, and read at a number's place.
use Rattle.std.specs.Prelude.{Option, None, Some}
use Prim.Native.Nat.{ℕ, ◌+◌, ◌≤◌, ◌<◌}
use mathlib.Core.Path.{◌≡◌, refl, sym, ◌∙◌}
use mathlib.Core.Bool.{Bool, true, false, cond}
use mathlib.Core.List.{List, [], ◌∷◌}
use native.Mathlib.Omega.{arith}
use lib.Dec.{eqb, ltb}
use lib.Pow.{pow_pos}
use lib.ListN.{length, get_or, set, replicate}
use lib.Seq.{get_or-set_same, get_or-set_other}
use borrow.Author.Tests.{ltb-true, ltb-false, eqb-true, eqb-false, ne_eqb}
use Rattle.basis.specs.Choice.{given}
use Rattle.basis.proofs.Lists.{get_or-blank}
use Rattle.policy.specs.Limits.{user_numbers}
use Rattle.policy.specs.Policy.{Policy, total, sets, set_of_number}
use Rattle.policy.specs.Value.{side_of, entries_of}
use Rattle.policy.specs.declared.value.Entry.{Entry}
use Rattle.policy.specs.declared.value.SideValue.{SideValue}
use Rattle.policy.specs.declared.value.Register.{Register}
use Rattle.board.specs.Inner.{place_of, ByNumber, Reachable}

-- the places of the user numbers, and one more
abbrev pub places : ℕ
places = user_numbers + 1

-- ---- filling

pub filled_none : ByNumber [] (replicate places None)
unfolding set_of_number
filled_none = record { below = λ k l. get_or-blank places k None; past = get_or-blank places user_numbers None }

module _ (es : List Entry) (e : Entry) (found : List (Option ℕ)) (q : ByNumber es found) where
  pub filled_next : length found ≡ places → e.number < user_numbers → ByNumber (e ∷ es) (set found e.number (Some e.set))
  unfolding set_of_number
  filled_next s b =
      record {
        below = λ k l. at k l (eqb e.number k) refl;
        past = get_or-set_other found e.number user_numbers (Some e.set) None (λ w. omega arith) ∙ q.past;
      }
    where
      at : (k : ℕ) → k < user_numbers → (t : Bool) → eqb e.number k ≡ t
          → get_or (set found e.number (Some e.set)) k None ≡ cond (eqb e.number k) (Some e.set) (set_of_number es k)
      at k l true w =
          let v = eqb-true e.number k w in
          rw w (rw (← v) (get_or-set_same found e.number (Some e.set) None (omega arith)))
      at k l false w =
          let v = eqb-false e.number k w in
          rw w (get_or-set_other found e.number k (Some e.set) None (λ z. v (sym z)) ∙ q.below k l)

  pub filled-past : user_numbers ≤ e.number → ByNumber (e ∷ es) found
  unfolding set_of_number
  filled-past b = record { below = λ k l. q.below k l ∙ sym (rw (ne_eqb e.number k (λ w. omega arith))); past = q.past }

-- ---- reading

pub place-lt : (n : ℕ) → place_of n < places
unfolding place_of
place-lt n = go (ltb n user_numbers) refl
  where
    go : (t : Bool) → ltb n user_numbers ≡ t → place_of n < places
    go true l = rw l (omega (arith, ltb-true n user_numbers l))
    go false l = rw l (omega arith)

-- what is found for every number is what the policy assigns to it
abbrev pub Assigns : Policy → List (Option ℕ) → Type 0
Assigns p found = (n : ℕ) → get_or found (place_of n) None ≡ set_of_number p.users n

module _ (side : SideValue) (users : Register) (h : Reachable side users) (found : List (Option ℕ)) (q : ByNumber (entries_of users) found) where
  found_at : (n : ℕ) → get_or found (place_of n) None ≡ set_of_number (entries_of users) n
  unfolding place_of
  found_at n = go (ltb n user_numbers) refl (set_of_number (entries_of users) n) refl
    where
      go : (t : Bool) → ltb n user_numbers ≡ t → (x : Option ℕ) → set_of_number (entries_of users) n ≡ x
          → get_or found (place_of n) None ≡ set_of_number (entries_of users) n
      go true l x e = rw l (q.below n (ltb-true n user_numbers l))
      go false l None e = rw (l, e) q.past
      go false l (Some s) e = absurd (omega (arith, h.numbers n s e, ltb-false n user_numbers l))

  pub assigns : (p : Policy) → p.users ≡ entries_of users → Assigns p found
  assigns p eu n = rw eu (found_at n)

  pub found_lt : (n : ℕ) → given (get_or found (place_of n) None) 0 (λ s. s) < sets (side_of side)
  found_lt n = rw (found_at n) (go (set_of_number (entries_of users) n) refl)
    where
      go : (x : Option ℕ) → set_of_number (entries_of users) n ≡ x → given (set_of_number (entries_of users) n) 0 (λ s. s) < sets (side_of side)
      go None e = rw e (pow_pos (total (side_of side)))
      go (Some s) e = rw e (h.assigned n s e)

-- Demand 3's last sentence, of one request with any board, policy value, buffers, NU and NO: what is not refused is
-- granted exactly when the bit at the labels is set, and a place past its buffer's end gets 20. By cases on the lower
-- refusals and on the places.
use Rattle.std.specs.Prelude.{Option, None, Some}
use Prim.Native.Nat.{ℕ, ◌≤◌}
use mathlib.Core.Path.{◌≡◌, refl, sym, ap, ◌∙◌}
use mathlib.Core.Bool.{Bool, true, false, cond, ◌||◌}
use mathlib.Core.Logic.{◌⊎◌, inl, inr, ⊎_elim, ◌↔◌}
use lib.Dec.{leb}
use lib.ListN.{length}
use borrow.Author.Tests.{le-leb, leb-true}
use Rattle.basis.specs.Choice.{given, first_broken}
use Rattle.basis.proofs.Bools.{or_cases, or_left, or_right, fails}
use Rattle.policy.specs.Value.{policy_of}
use Rattle.policy.specs.Answers.{Reply, granted, refused, decided}
use Rattle.policy.specs.declared.value.PolicyValue.{PolicyValue}
use Rattle.formula.specs.Truth.{Sets}
use Rattle.board.specs.declared.Board.{Board}
use Rattle.board.proofs.Refusals.{allowed, step_other, step_is}
use Rattle.board.specs.Inner.{lower, looked_up}
use Rattle.board.specs.Machine.{requests, sets_asked, Out}
use Rattle.board.specs.Board.{entry_at, Labels, place_at, reads_past_end, grants_by_labels, look_up, other_widths, board_reply, board_step}

-- the answer to a request, and the sets that it is decided on
abbrev pub answer : PolicyValue → Labels → Board → ℕ → ℕ → ℕ → Reply
answer v l b s a n = (board_step v l (requests s a n) b).reply

abbrev pub sets_of : PolicyValue → Board → ℕ → ℕ → Sets
sets_of v b s n = sets_asked (policy_of v) n (entry_at b s)

-- any of the three places lies past its buffer's end
abbrev pub Past : Labels → Sets → Type 0
Past l s =
    (length l.buffers.users ≤ s.user) ⊎ ((length l.buffers.objects ≤ s.object) ⊎ (length l.buffers.table ≤ place_at l s))

pub past-iff : (l : Labels) (s : Sets) → (reads_past_end l s ≡ true) ↔ Past l s
unfolding reads_past_end
past-iff l s =
    let x = leb (length l.buffers.users) s.user in
    let y = leb (length l.buffers.objects) s.object in
    let z = leb (length l.buffers.table) (place_at l s) in (
      (λ e. ⊎_elim
          (λ p. inl (leb-true (length l.buffers.users) s.user p))
          (λ q. inr (⊎_elim (λ p. inl (leb-true (length l.buffers.objects) s.object p)) (λ p. inr (leb-true (length l.buffers.table) (place_at l s) p)) (or_cases y z q)))
          (or_cases x (y || z) e)),
      ⊎_elim
          (λ p. or_left x (y || z) (le-leb (length l.buffers.users) s.user p))
          (λ q. or_right x (y || z) (⊎_elim
          (λ p. or_left y z (le-leb (length l.buffers.objects) s.object p))
          (λ p. or_right y z (le-leb (length l.buffers.table) (place_at l s) p)) q)),
    )

-- what an answer says of its parts: r a lower refusal, t that a place lies past its end, g the bit
past-only : (t g : Bool) → cond t (refused 20) (decided g) ≡ refused 20 → t ≡ true
past-only true g e = refl
past-only false true e = cc
past-only false false e = cc

bit_only : (g : Bool) → decided g ≡ granted → g ≡ true
bit_only true e = refl
bit_only false e = cc

decided-only : (r : Option ℕ) (t g : Bool) → ((k : ℕ) → given r (cond t (refused 20) (decided g)) refused ≡ refused k → ⊥)
    → given r (cond t (refused 20) (decided g)) refused ≡ decided g
decided-only None true g h = absurd (h 20 refl)
decided-only None false g h = refl
decided-only (Some k) t g h = absurd (h k refl)

module _ (v : PolicyValue) (l : Labels) (b : Board) (s a n : ℕ) where
  looked_up_lem : (t : Bool) → reads_past_end l (sets_of v b s n) ≡ t
      → (allowed v l (requests s a n) b).reply ≡ cond t (refused 20) (decided (grants_by_labels l a (sets_of v b s n)))
  unfolding allowed look_up board_reply first_broken
  looked_up_lem true e = rw e
  looked_up_lem false e = rw e

  -- the whole answer
  pub answer-is : other_widths (policy_of v) l (requests s a n) ≡ false
      → answer v l b s a n ≡ given (lower v (requests s a n) b) (looked_up l a (sets_of v b s n)) refused
  unfolding looked_up
  answer-is own = ap (λ (o : Out Board). o.reply) (step_is v l (requests s a n) b own) ∙ go (lower v (requests s a n) b)
    where
      go : (r : Option ℕ)
          → (given {B = Out Board} r (allowed v l (requests s a n) b) (λ k. record { reply = refused k; state = b })).reply
          ≡ given r (looked_up l a (sets_of v b s n)) refused
      go None = looked_up_lem (reads_past_end l (sets_of v b s n)) refl
      go (Some k) = refl

  -- where no lower refusal applies, 20 is the answer exactly where some place lies past its buffer's end
  pub refused-iff : other_widths (policy_of v) l (requests s a n) ≡ false → lower v (requests s a n) b ≡ None
      → (answer v l b s a n ≡ refused 20) ↔ Past l (sets_of v b s n)
  unfolding looked_up
  refused-iff own e =
      let t = reads_past_end l (sets_of v b s n) in
      let g = grants_by_labels l a (sets_of v b s n) in
      let q : answer v l b s a n ≡ cond t (refused 20) (decided g) = answer-is own ∙ rw e in
      (λ f. (past-iff l (sets_of v b s n)).0 (past-only t g (sym q ∙ f)), λ f. q ∙ rw ((past-iff l (sets_of v b s n)).1 f))

  -- "It grants action a exactly when bit a there is set."
  pub granted-iff : ((k : ℕ) → answer v l b s a n ≡ refused k → ⊥)
      → (answer v l b s a n ≡ granted) ↔ (grants_by_labels l a (sets_of v b s n) ≡ true)
  unfolding looked_up
  granted-iff h =
      let own = fails (other_widths (policy_of v) l (requests s a n)) (λ e. h 11 (ap (λ (o : Out Board). o.reply) (step_other v l (requests s a n) b e))) in
      let t = reads_past_end l (sets_of v b s n) in
      let g = grants_by_labels l a (sets_of v b s n) in
      let q : answer v l b s a n ≡ decided g = answer-is own ∙ decided-only (lower v (requests s a n) b) t g (λ k f. h k (answer-is own ∙ f)) in
      (λ f. bit_only g (sym q ∙ f), λ f. q ∙ rw f)

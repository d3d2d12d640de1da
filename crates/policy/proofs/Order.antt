-- The order of the kinds: which kind may follow, as inequalities of places, and a policy without the lines of later
-- kinds.
use Rattle.std.specs.Prelude.{Option, None, Some}
use Prim.Native.Nat.{ℕ, zero, suc, ◌≤◌, min}
use mathlib.Core.Path.{◌≡◌, refl, sym, ap, ◌∙◌}
use mathlib.Core.Bool.{Bool, true, false, cond, ◌&&◌}
use mathlib.Core.List.{List, []}
use native.Mathlib.Omega.{arith}
use native.Mathlib.Decide.{dec_lt}
use lib.Dec.{eqb, leb, ltb}
use borrow.Author.Tests.{leb-true, le-leb, lt-ltb, le-ltb, eqb-true, eq-eqb, ne_eqb}
use Rattle.basis.specs.Numbers.{agree, implies}
use Rattle.basis.proofs.Bools.{and_left, and_right}
use Rattle.basis.proofs.Same.{agree-eq}
use Rattle.basis.proofs.Table.{every_entry}
use Rattle.text.specs.Kind.{kinds, place_of, follows}
use Rattle.text.specs.declared.kind.Kind.{Kind}
use Rattle.text.specs.declared.kind.Kind.TheVariants.{Policy as PolicyKind, Uattr, Oattr, Usen, Osen, User, Object, Conflict as ConflictKind, Rule as RuleKind, Pair as PairKind, End}
use Rattle.text.proofs.Naming.{each-kind}
use Rattle.policy.specs.Policy.{Policy}
use Rattle.policy.specs.Line.{allowed}

-- ---- which kind may follow

-- the place after the last line's kind
abbrev pub reached : Option Kind → ℕ
reached None = 0
reached (Some k) = suc (place_of k)

-- every text reaches at least this place before its end: behind the last of the kinds that it must have
abbrev pub required : ℕ
required = suc (place_of Oattr)

-- the kind at place j may stand where the kinds before place i were reached
abbrev may : ℕ → ℕ → Bool
may i j = leb (min j required) i && (leb i (min (suc j) (place_of End)) && implies (eqb j (place_of PolicyKind)) (eqb i 0))

follows-may : (j k : Kind) → follows j k ≡ may (suc (place_of j)) (place_of k)
unfolding follows
follows-may j k =
    agree-eq (follows j k) (may (suc (place_of j)) (place_of k))
    (each-kind (λ k. agree (follows j k) (may (suc (place_of j)) (place_of k)))
    (each-kind (λ j. every_entry (λ _ k. agree (follows j k) (may (suc (place_of j)) (place_of k))) 0 kinds) refl j) k)

first-may : (k : Kind) → allowed None k ≡ may 0 (place_of k)
unfolding allowed
first-may k = agree-eq (allowed None k) (may 0 (place_of k)) (each-kind (λ k. agree (allowed None k) (may 0 (place_of k))) refl k)

allowed-may : (b : Option Kind) (k : Kind) → allowed b k ≡ may (reached b) (place_of k)
unfolding allowed
allowed-may None k = first-may k
allowed-may (Some j) k = follows-may j k

pub record May (i j : ℕ) : Type 0 where
  pub low : min j required ≤ i
  pub high : i ≤ min (suc j) (place_of End)
  pub first : j ≡ place_of PolicyKind → i ≡ 0

implied : (a b : Bool) → implies a b ≡ true → a ≡ true → b ≡ true
implied true b e h = e
implied false b e h = absurd (let z : ◌≡◌ {A = ℕ} 0 1 = cc in omega arith)

pub allowed-order : (b : Option Kind) (k : Kind) → allowed b k ≡ true → May (reached b) (place_of k)
allowed-order b k a =
    let i = reached b in
    let j = place_of k in
    let e = sym (allowed-may b k) ∙ a in
    let e₁ = and_right (leb (min j required) i) _ e in
    record {
      low = leb-true (min j required) i (and_left _ _ e);
      high = leb-true i (min (suc j) (place_of End)) (and_left _ _ e₁);
      first = λ h. eqb-true i 0 (implied (eqb j (place_of PolicyKind)) (eqb i 0) (and_right (leb i (min (suc j) (place_of End))) _ e₁) (eq-eqb j (place_of PolicyKind) h));
    }

not_first : (i j : ℕ) → (j ≡ place_of PolicyKind → i ≡ 0) → implies (eqb j (place_of PolicyKind)) (eqb i 0) ≡ true
not_first i zero h = rw (h refl)
not_first i (suc j) h = rw (ne_eqb (suc j) (place_of PolicyKind) (λ e. omega (arith, e)))

pub order-allowed : (b : Option Kind) (k : Kind) → May (reached b) (place_of k) → allowed b k ≡ true
order-allowed b k m =
    let i = reached b in
    let j = place_of k in
    allowed-may b k ∙ rw (le-leb (min j required) i m.low, le-leb i (min (suc j) (place_of End)) m.high, not_first i j m.first)

-- ---- the lines of the kinds before place i

abbrev keep : {A : Type 0} → ℕ → Kind → List A → List A
keep i k xs = cond (ltb (place_of k) i) xs []

unfoldable pub cut : ℕ → Policy → Policy
cut i p =
    record {
      form = p.form;
      user = record { widths = keep i Uattr p.user.widths; lines = keep i Usen p.user.lines };
      object = record { widths = keep i Oattr p.object.widths; lines = keep i Osen p.object.lines };
      users = keep i User p.users;
      objects = keep i Object p.objects;
      conflicts = keep i ConflictKind p.conflicts;
      rules = keep i RuleKind p.rules;
      pairs = keep i PairKind p.pairs;
    }

keep-keep : {A : Type 0} (i j : ℕ) (k : Kind) (xs : List A) → i ≤ j → keep j k (keep i k xs) ≡ keep i k xs
keep-keep i j k xs h = elim (dec_lt (place_of k) j) [
  | yes l ↦ rw (lt-ltb (place_of k) j l)
  | no l ↦ rw (le-ltb (place_of k) i (omega arith), le-ltb (place_of k) j (omega arith))
]

cut-cut : (i j : ℕ) (p : Policy) → i ≤ j → cut j (cut i p) ≡ cut i p
unfolding cut
cut-cut i j p h =
    rw (
      keep-keep i j Uattr p.user.widths h,
      keep-keep i j Usen p.user.lines h,
      keep-keep i j Oattr p.object.widths h,
      keep-keep i j Osen p.object.lines h,
      keep-keep i j User p.users h,
      keep-keep i j Object p.objects h,
      keep-keep i j ConflictKind p.conflicts h,
      keep-keep i j RuleKind p.rules h,
      keep-keep i j PairKind p.pairs h,
    )

-- a policy with no line from place i on has none from a later place on
pub cut-more : (i j : ℕ) (p : Policy) → i ≤ j → cut i p ≡ p → cut j p ≡ p
cut-more i j p h e = ap (cut j) (sym e) ∙ cut-cut i j p h ∙ e

-- Lines that are read back: one line that passes its checks, the lines of a kind, and a list that rises.
use Rattle.std.specs.Prelude.{Option, None, Some}
use Prim.Native.Nat.{ℕ, suc, ◌+◌, ◌≤◌, ◌<◌, min}
use mathlib.Core.Path.{◌≡◌, refl, sym, ◌∙◌}
use mathlib.Core.Bool.{Bool, true}
use mathlib.Core.List.{List, [], ◌∷◌, ◌++◌, map, append-nil}
use native.Mathlib.Omega.{arith}
use lib.ListN.{length}
use lib.Seq.{append_snoc}
use Rattle.basis.specs.Choice.{given}
use Rattle.basis.specs.Lists.{last}
use Rattle.basis.proofs.Snoc.{last_snoc, length-snoc}
use Rattle.text.specs.Parts.{TextLine}
use Rattle.text.specs.Kind.{place_of}
use Rattle.text.specs.declared.kind.Kind.{Kind}
use Rattle.text.specs.declared.kind.Kind.TheVariants.{Policy as PolicyKind, End}
use Rattle.text.proofs.RoundTrip.{named-word, ended_line}
use Rattle.policy.specs.Policy.{Policy}
use Rattle.policy.specs.Line.{Line, allowed}
use Rattle.policy.specs.Checks.{with_line_of}
use Rattle.policy.specs.Read.{Accepted, State, after, read_lines}
use Rattle.policy.specs.Text.{fields_of, line_text}
use Rattle.policy.specs.Inner.Sound.{rising}
use Rattle.policy.proofs.Rising.{head}
use Rattle.policy.proofs.Order.{reached, required, May, order-allowed}
use Rattle.policy.proofs.Passed.{Passed, not-refused}
use Rattle.policy.proofs.Growth.{Fits}
use Rattle.policy.proofs.Fields.{Back}
use Rattle.policy.proofs.LineText.{fields-text}

abbrev pub state : Option Kind → Policy → State
state b p = record { before = b; policy = p }

-- a line as it stands in a text
abbrev pub text_line : Line → TextLine
text_line l = ended_line (line_text l)

-- lines read from a state on yield a policy, wherever they stand
abbrev pub Leads : State → List Line → Policy → Type 0
Leads s ls q = (n : ℕ) → read_lines s n (map text_line ls) ≡ Accepted q

-- ---- one line

-- a line is read back from its fields and passes checks 6 to 9, 21 and 22
pub record Good (p : Policy) (l : Line) : Type 0 where
  pub back : Back l
  pub fits : Fits l.kind p l.numbers l.words

good_passed : (b : Option Kind) (p : Policy) (l : Line) → allowed b l.kind ≡ true → Good p l → Passed b p true l.kind (fields_of l)
good_passed b p l a g =
    let f = g.fits in
    let n = g.back.numbers in
    let w = g.back.words in
    record {
      ends = refl;
      order = a;
      count = g.back.count;
      form = g.back.form;
      range = rw (n, w) f.range;
      rise = rw n f.rise;
      conflict-room = f.conflict-room;
      pair-room = f.pair-room;
      equal = rw w f.equal;
      balance = rw w f.balance;
    }

pub leads-line : (b : Option Kind) (p : Policy) (l : Line) (ls : List Line) (q : Policy) → allowed b l.kind ≡ true → Good p l
    → Leads (state (Some l.kind) (with_line_of l p)) ls q → Leads (state b p) (l ∷ ls) q
unfolding read_lines after
leads-line b p l ls q a g h n =
    rw (fields-text l, named-word l.kind, not-refused b p true l.kind (fields_of l) (good_passed b p l a g), g.back.numbers, g.back.words) (h (suc n))

-- ---- the lines of a kind

-- a list of which each element adds itself to the policy, in a test that goes on
module _ {A : Type 0} (k : Kind) (no_policy : place_of PolicyKind < place_of k) (no_end : place_of k < place_of End) (line : A → Line) (kinds : (x : A) → (line x).kind ≡ k)
    (put : List A → Policy) (grow : (done : List A) (x : A) → with_line_of (line x) (put done) ≡ put (done ++ (x ∷ [])))
    (Ok : List A → List A → Type 0) (good : (done : List A) (x : A) (rest : List A) → Ok done (x ∷ rest) → Good (put done) (line x))
    (next : (done : List A) (x : A) (rest : List A) → Ok done (x ∷ rest) → Ok (done ++ (x ∷ [])) rest)
    (xs : List A) (more : List Line) (q : Policy)
    (then : (b : Option Kind) → May (reached b) (suc (place_of k)) → Leads (state b (put xs)) more q) where
  kind-from : (rest done : List A) (b : Option Kind) → done ++ rest ≡ xs → May (reached b) (place_of k)
      → (length rest ≡ 0 → min (suc (place_of k)) required ≤ reached b) → Ok done rest
      → Leads (state b (put done)) (map line rest ++ more) q
  kind-from [] done b e m d o =
      let z : done ≡ xs = sym (append-nil done) ∙ e in
      rw z (then b (record { low = d refl; high = omega (arith, m.high); first = λ h. omega arith }))
  kind-from (x ∷ rest) done b e m d o =
      leads-line b (put done) (line x) (map line rest ++ more) q (rw (kinds x) (order-allowed b k m)) (good done x rest o)
      (rw (grow done x, kinds x)
      (kind-from rest (done ++ (x ∷ [])) (Some k) (append_snoc done x rest ∙ e)
      (record { low = omega arith; high = omega arith; first = λ h. omega arith }) (λ h. omega arith) (next done x rest o)))

  pub kind-lines : (b : Option Kind) → May (reached b) (place_of k) → (length xs ≡ 0 → min (suc (place_of k)) required ≤ reached b) → Ok [] xs
      → Leads (state b (put [])) (map line xs ++ more) q
  kind-lines b m d o = kind-from xs [] b refl m d o

-- a list that rises and has no more than so many elements
module _ {A : Type 0} (most : ℕ) (k : Kind) (free : required ≤ place_of k) (no_end : place_of k < place_of End) (line : A → Line) (kinds : (x : A) → (line x).kind ≡ k)
    (put : List A → Policy) (grow : (done : List A) (x : A) → with_line_of (line x) (put done) ≡ put (done ++ (x ∷ [])))
    (fits : A → Bool) (above : A → A → Bool)
    (good : (done : List A) (x : A) → length done < most → fits x ≡ true → given (last done) true (λ y. above y x) ≡ true → Good (put done) (line x)) where
  abbrev Rises : List A → List A → Type 0
  Rises done rest = (rising fits above (last done) rest ≡ true) × (length done + length rest ≤ most)

  rises-good : (done : List A) (x : A) (rest : List A) → Rises done (x ∷ rest) → Good (put done) (line x)
  rises-good done x rest e = let h = head fits above (last done) x rest e.0 in good done x (omega (arith, e.1)) h.fits-it h.above-it

  rises_next : (done : List A) (x : A) (rest : List A) → Rises done (x ∷ rest) → Rises (done ++ (x ∷ [])) rest
  rises_next done x rest e =
      (rw (last_snoc done x) (head fits above (last done) x rest e.0).rest, omega (arith, e.1, length-snoc done x))

  pub rising-lines : (xs : List A) → rising fits above None xs ≡ true → length xs ≤ most → (more : List Line) (q : Policy)
      → ((b : Option Kind) → May (reached b) (suc (place_of k)) → Leads (state b (put xs)) more q)
      → (b : Option Kind) → May (reached b) (place_of k) → Leads (state b (put [])) (map line xs ++ more) q
  unfolding last
  rising-lines xs e l more q then b m =
      kind-lines k (omega arith) no_end line kinds put grow Rises rises-good rises_next xs more q then b m (λ h. omega (arith, m.low)) (e, omega arith)

-- What the commas that were found say of a line's fields, and one law for each answer about its kind and numbers.
use Rattle.std.specs.Prelude.{Option, Some, None, Result, Ok, Err, ltb, ◌++◌, set, take, map}
use Rattle.std.specs.Option.{ok_or}
use Prim.Native.Nat.{ℕ, zero, suc, ◌+◌, ◌≤◌, ◌<◌}
use mathlib.Core.Path.{◌≡◌, refl, sym, ap, ◌∙◌}
use mathlib.Core.Bool.{Bool, true, false, cond, and-false, ◌&&◌}
use mathlib.Core.List.{List, [], ◌∷◌, map-append, append_assoc, append-nil}
use native.Mathlib.Decide.{dec_lt}
use native.Mathlib.Nat.{sub-zero}
use native.Mathlib.Omega.{arith}
use borrow.Author.Tests.{lt-ltb, le-ltb, lt-leb, le-leb, ne_eqb}
use lib.ListN.{length, get_or, drop, length-append}
use Rattle.std.proofs.lemmas.List.{take_more_set, take_all, length-take-le}
use Rattle.basis.specs.Lists.{all}
use Rattle.text.specs.Number.{is_number, value_of, numeral}
use Rattle.text.specs.Inner.{Found}
use Rattle.text.specs.Parts.{fields, comma}
use Rattle.text.specs.Kind.{is_kind, follows, named, layout_of}
use Rattle.text.specs.declared.kind.Kind.{Kind}
use Rattle.text.specs.declared.kind.Kind.TheVariants.{Policy}
use Rattle.text.specs.declared.kind.Layout.TheVariants.{Formula}
use Rattle.text.specs.declared.number.Numbers.{Numbers}
use Rattle.text.proofs.Split.{split-pos, part-next, part-last, part-first}
use Rattle.policy.specs.Limits.{most_words}
use Rattle.policy.specs.Line.{three_numbers, one_number, allowed, field_at, count_fits, form_fits, numbers_of}
use Rattle.policy.specs.Read.{kind_of}
use Rattle.policy.specs.declared.refusal.Refusal.{Refusal}
use Rattle.policy.specs.declared.refusal.Refusal.TheVariants.{KindNotAllowed, WrongFieldCount, MalformedField}
use Rattle.line.specs.Inner.Head.{between, formed, numbers_fit, numbers_as, layout_with, said_by, parsed_as}
use Rattle.line.specs.declared.head.Head.{Head}

-- ---- fields

module _ (l : List ℕ) (i r : ℕ) (f : Found l i comma r) where
  -- no comma from i on: one field
  pub last-field : r ≡ length l → fields (drop i l) ≡ between l i r ∷ []
  last-field h = let e = part-last l i comma r f h in e ∙ rw (part-first l i comma r f ∙ ap (λ (ps : List (List ℕ)). get_or ps 0 []) e)

  -- a comma at r: a field, and those behind it
  pub next_field : (r ≡ length l → ⊥) → fields (drop i l) ≡ between l i r ∷ fields (drop (r + 1) l)
  next_field h = part-next l i comma r f (omega (arith, h, f.high))

  -- either way there is a field
  pub some-field : (ps : List (List ℕ)) × (fields (drop i l) ≡ between l i r ∷ ps)
  some-field =
      elim (dec_lt r (length l)) [
        | yes h ↦ (fields (drop (r + 1) l), next_field (λ z. omega (arith, h, z)))
        | no h ↦ ([], last-field (omega (arith, h, f.high)))
      ]

-- ---- the exit of a `?`

-- what is missing is refused by the refusal named for it
pub missing-refused : {A : Type 0} (o : Option A) (e r : Refusal) → Err r ≡ ok_or o e → o ≡ None → r ≡ e
missing-refused {A} o e r q h = let z : ◌≡◌ {A = Result A Refusal} (Err r) (Err e) = q ∙ ap (λ x. ok_or x e) h in cc

pub ok-err : {A E : Type 0} (a : A) (r : E) → Ok a ≡ Err r → ⊥
ok-err a r e = cc

pub ok-same : {A E : Type 0} (a b : A) → ◌≡◌ {A = Result A E} (Ok a) (Ok b) → a ≡ b
ok-same a b e = cc

-- ---- numbers

-- the fields behind a comma, or none behind the line's end
abbrev behind : List ℕ → ℕ → List (List ℕ)
behind l at = cond (ltb at (length l)) (fields (drop (at + 1) l)) []

-- i number fields are read; behind them is a comma or the end
pub record NumbersRead (l : List ℕ) (c : ℕ) (values : List (Option ℕ)) (i at : ℕ) : Type 0 where
  pub within : at ≤ length l
  pub done : List (List ℕ)
  pub count : length done ≡ i
  pub stored : take i values ≡ map numeral done
  pub fields : fields l ≡ between l 0 c ∷ (done ++ behind l at)

-- from a place on there is a field, and then those behind its end
fields_from : (l : List ℕ) (i r : ℕ) → Found l i comma r → fields (drop i l) ≡ between l i r ∷ behind l r
fields_from l i r f =
    elim (dec_lt r (length l)) [
      | yes h ↦ rw (lt-ltb r (length l) h) (next_field l i r f (λ z. omega (arith, h, z)))
      | no h ↦ rw (le-ltb r (length l) (omega (arith, h))) (last-field l i r f (omega (arith, h, f.high)))
    ]

-- there are places for n numbers
pub values-length : (n : ℕ) → n ≤ 3 → length {A = Option ℕ} (take n (Some 0 ∷ (Some 0 ∷ (Some 0 ∷ [])))) ≡ n
values-length n h = length-take-le {A = Option ℕ} n (Some 0 ∷ (Some 0 ∷ (Some 0 ∷ []))) h

pub no_number : (l : List ℕ) (c : ℕ) (values : List (Option ℕ)) → Found l 0 comma c → NumbersRead l c values 0 c
no_number l c values f = record { within = f.high; done = []; count = refl; stored = refl; fields = fields_from l 0 c f }

-- a line with another number of fields
count-other : (n : ℕ) (fs : List (List ℕ)) → n ≤ 3 → (length fs ≡ n + 1 → ⊥) → Err WrongFieldCount ≡ numbers_as (layout_with n) fs
unfolding numbers_as count_fits
count-other zero fs m h = rw (ne_eqb (length fs) 1 h)
count-other (suc zero) fs m h = rw (ne_eqb (length fs) 2 h)
count-other (suc (suc zero)) fs m h = rw (ne_eqb (length fs) 3 h)
count-other (suc (suc (suc zero))) fs m h = rw (ne_eqb (length fs) 4 h)
count-other (suc (suc (suc (suc n)))) fs m h = absurd (omega (arith, m))

-- numbers, or else refusal 5
abbrev pub formed_by : List (Option ℕ) → Result Numbers Refusal
formed_by vs = ok_or (said_by vs) MalformedField

said-three : (a b c : Bool) (l m n : ℕ) → formed_by (cond a (Some l) None ∷ (cond b (Some m) None ∷ (cond c (Some n) None ∷ [])))
    ≡ cond (a && (b && (c && true))) (Ok (three_numbers l m n)) (Err MalformedField)
said-three false b c l m n = refl
said-three true false c l m n = refl
said-three true true false l m n = refl
said-three true true true l m n = refl

-- the numbers in a line's fields, and 0 for those that it does not have
fields-said : (w : List ℕ) (fs : List (List ℕ)) → length fs ≤ 3 → formed_by (map numeral fs ++ drop (length fs) (Some 0 ∷ (Some 0 ∷ (Some 0 ∷ []))))
    ≡ numbers_as (layout_with (length fs)) (w ∷ fs)
unfolding numbers_as count_fits numbers_fit form_fits numbers_of numeral all
fields-said w [] h = refl
fields-said w (a ∷ []) h = said-three (is_number a) true true (value_of a) 0 0
fields-said w (a ∷ (b ∷ [])) h = said-three (is_number a) (is_number b) true (value_of a) (value_of b) 0
fields-said w (a ∷ (b ∷ (c ∷ []))) h = said-three (is_number a) (is_number b) (is_number c) (value_of a) (value_of b) (value_of c)
fields-said w (a ∷ (b ∷ (c ∷ (d ∷ fs)))) h = absurd (omega (arith, h))

module _ {l : List ℕ} {c : ℕ} {values : List (Option ℕ)} {i at : ℕ} (r : NumbersRead l c values i at) where
  pub number_more : (at ≡ length l → ⊥) → (e : ℕ) → Found l (at + 1) comma e → (v : Option ℕ) → v ≡ numeral (between l (at + 1) e) → i < length values
      → NumbersRead l c (set values i v) (i + 1) e
  number_more h e f v q k =
      let w = between l (at + 1) e in
      record {
        within = f.high;
        done = r.done ++ (w ∷ []);
        count = omega (arith, length-append r.done (w ∷ []), r.count);
        stored = rw (take_more_set values i v k, r.stored, q) (sym (map-append numeral r.done (w ∷ [])));
        fields = r.fields ∙ rw (lt-ltb at (length l) (omega (arith, h, r.within)), fields_from l (at + 1) e f) (ap (λ (fs : List (List ℕ)). between l 0 c ∷ fs) (sym (append_assoc r.done (w ∷ []) (behind l e))));
      }

  -- behind the last are no more
  no_more : length l ≤ at → fields l ≡ between l 0 c ∷ r.done
  no_more h = r.fields ∙ rw (le-ltb at (length l) h, append-nil r.done)

  pub number_missing : (n : ℕ) → n ≤ 3 → i < n → at ≡ length l → Err WrongFieldCount ≡ numbers_as (layout_with n) (fields l)
  number_missing n m h e = count-other n (fields l) m (λ z. omega (arith, ap length (no_more (omega (arith, e))), r.count, z, h))

  module _ (n : ℕ) (m : n ≤ 3) (e : i ≡ n) where
    pub number_left : at < length l → Err WrongFieldCount ≡ numbers_as (layout_with n) (fields l)
    number_left h =
        let q : fields l ≡ between l 0 c ∷ (r.done ++ fields (drop (at + 1) l)) = r.fields ∙ (rw (lt-ltb at (length l) h)) in
        count-other n (fields l) m
        (λ z. omega (arith, ap length q, length-append r.done (fields (drop (at + 1) l)), split-pos comma (drop (at + 1) l), r.count, z, e))

    -- all are read
    pub numbers_read : length l ≤ at → length values ≡ n → formed_by (values ++ drop n (Some 0 ∷ (Some 0 ∷ (Some 0 ∷ [])))) ≡ numbers_as (layout_with n) (fields l)
    numbers_read h k =
        let q : values ≡ map numeral r.done = sym (take_all i values (omega (arith, k, e))) ∙ r.stored in
        let d : n ≡ length r.done = omega (arith, r.count, e) in
        rw (q, no_more h, d) (fields-said (between l 0 c) r.done (omega (arith, d, m)))

-- ---- a formula but for its words

-- three fields have a comma behind the first
pub comma-there : (l : List ℕ) (c n : ℕ) → Found l 0 comma c → n ≡ length (fields l) → 3 ≤ n → c + 1 ≤ length l
comma-there l c n f e h =
    elim (dec_lt c (length l)) [
      | yes p ↦ omega (arith, p)
      | no p ↦ absurd (omega (arith, ap length (last-field l 0 c f (omega (arith, p, f.high)))))
    ]

some-none : {A : Type 0} (a : A) → Some a ≡ None → ⊥
some-none a e = cc

-- a number, or refusal 5
said-none : (a : Bool) (n : ℕ) → cond a (Some n) None ≡ None → cond a (Ok (one_number n)) (Err MalformedField) ≡ Err MalformedField
said-none true n e = absurd (some-none n e)
said-none false n e = refl

said-some : (a : Bool) (n v : ℕ) → cond a (Some n) None ≡ Some v → cond a (Ok (one_number n)) (Err MalformedField) ≡ Ok (one_number v)
said-some true n v e = cc
said-some false n v e = absurd (some-none v (sym e))

module _ (l : List ℕ) (c : ℕ) (f : Found l 0 comma c) (n : ℕ) (e : n ≡ length (fields l)) where
  pub formula-few : n < 3 → Err WrongFieldCount ≡ numbers_as Formula (fields l)
  unfolding numbers_as count_fits
  formula-few h = rw (← e, lt-leb 3 n h)

  pub formula-many : 2 + most_words < n → Err WrongFieldCount ≡ numbers_as Formula (fields l)
  unfolding numbers_as count_fits
  formula-many h = rw (← e, lt-leb n (2 + most_words) h, and-false)

  module _ (h : 3 ≤ n) (i : n ≤ 2 + most_words) (b : ℕ) (g : Found l (c + 1) comma b) (x : Option ℕ) (d : x ≡ numeral (between l (c + 1) b)) where
    formula-said : numbers_as Formula (fields l) ≡ cond (is_number (between l (c + 1) b)) (Ok (one_number (value_of (between l (c + 1) b)))) (Err MalformedField)
    unfolding numbers_as count_fits numbers_fit numbers_of
    formula-said =
        let s : field_at (fields l) 1 ≡ between l (c + 1) b = rw (next_field l 0 c f (λ z. omega (arith, comma-there l c n f e h, z))) (sym (part-first l (c + 1) comma b g)) in
        rw (← e, le-leb 3 n h, le-leb n (2 + most_words) i, s)

    pub formula-malformed : x ≡ None → Err MalformedField ≡ numbers_as Formula (fields l)
    unfolding numeral
    formula-malformed q = sym (formula-said ∙ said-none (is_number (between l (c + 1) b)) (value_of (between l (c + 1) b)) (sym d ∙ q))

    pub formula-action : (v : ℕ) → x ≡ Some v → Ok (one_number v) ≡ numbers_as Formula (fields l)
    unfolding numeral
    formula-action v q = sym (formula-said ∙ said-some (is_number (between l (c + 1) b)) (value_of (between l (c + 1) b)) v (sym d ∙ q))

-- ---- the kind, and the whole line

module _ (b : Option Kind) (k : Kind) where
  pub stands-first : (r : Bool) → b ≡ None → r ≡ is_kind Policy k → r ≡ allowed b k
  unfolding allowed
  stands-first r e q = rw e q

  pub stands_after : (r : Bool) (j : Kind) → b ≡ Some j → r ≡ follows j k → r ≡ allowed b k
  unfolding allowed
  stands_after r j e q = rw e q

formed-fault : {A B : Type 0} (c f : Bool) (a : A) (b : B) (r : Refusal) → formed c f a ≡ Err r → Err r ≡ formed c f b
formed-fault true true a b r e = absurd (ok-err a r e)
formed-fault true false a b r e = cc
formed-fault false f a b r e = cc

formed-known : (c f : Bool) (k : Kind) (n m : Numbers) → formed c f n ≡ Ok m → ◌≡◌ {A = Result Head Refusal} (Ok (record { kind = k; numbers = m })) (formed c f (record { kind = k; numbers = n }))
formed-known true true k n m e = rw (ok-same n m e)
formed-known true false k n m e = absurd (ok-err m MalformedField (sym e))
formed-known false f k n m e = absurd (ok-err m WrongFieldCount (sym e))

module _ (b : Option Kind) (l : List ℕ) (c : ℕ) (f : Found l 0 comma c) (x : Option Kind) (e : x ≡ named (take c l)) where
  first-named : kind_of l ≡ x
  first-named = sym (e ∙ ap named (rw (sub-zero c) at (part-first l 0 comma c f)))

  pub parsed-unknown : x ≡ None → Err KindNotAllowed ≡ parsed_as b (kind_of l) (fields l)
  unfolding parsed_as
  parsed-unknown h = rw (first-named ∙ h)

  module _ (k : Kind) (h : x ≡ Some k) (a : Bool) (i : a ≡ allowed b k) where
    pub parsed-wrong : a ≡ false → Err KindNotAllowed ≡ parsed_as b (kind_of l) (fields l)
    unfolding parsed_as
    parsed-wrong g = rw (first-named ∙ h, sym i ∙ g)

    module _ (g : a ≡ true) (n : Result Numbers Refusal) (d : n ≡ numbers_as (layout_of k) (fields l)) where
      pub parsed-fault : (r : Refusal) → n ≡ Err r → Err r ≡ parsed_as b (kind_of l) (fields l)
      unfolding parsed_as numbers_as
      parsed-fault r q = rw (first-named ∙ h, sym i ∙ g)
          (formed-fault (count_fits (layout_of k) (length (fields l))) (numbers_fit (layout_of k) (fields l)) _ _ r (sym d ∙ q))

      pub parsed-known : (m : Numbers) → n ≡ Ok m → Ok (record { kind = k; numbers = m }) ≡ parsed_as b (kind_of l) (fields l)
      unfolding parsed_as numbers_as
      parsed-known m q = rw (first-named ∙ h, sym i ∙ g)
          (formed-known (count_fits (layout_of k) (length (fields l))) (numbers_fit (layout_of k) (fields l)) k _ m (sym d ∙ q))

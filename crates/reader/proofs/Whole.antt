-- The lists of a text, one behind the other, make its policy.
use Rattle.std.specs.Prelude.{Ok, Err}
use Prim.Native.Nat.{ℕ, suc, ◌≤◌, ◌<◌}
use mathlib.Core.Path.{◌≡◌, refl, sym, ap, ◌∙◌}
use mathlib.Core.List.{List, []}
use native.Mathlib.Omega.{arith}
use lib.ListN.{length}
use borrow.Author.Tests.{lt-ltb}
use Rattle.basis.proofs.Padded.{take-padded}
use Rattle.seniority.specs.Seniority.{direct}
use Rattle.seniority.specs.declared.Direct.{Direct}
use Rattle.text.specs.Kind.{place_of}
use Rattle.text.specs.declared.kind.Kind.{Kind}
use Rattle.text.specs.declared.kind.Kind.TheVariants.{Uattr, Oattr, Usen, Osen, User, Object, Conflict as ConflictKind, Rule as RuleKind, Pair as PairKind, End}
use Rattle.policy.specs.Answers.{ReadAs}
use Rattle.policy.specs.Checks.{side_sizes}
use Rattle.policy.specs.Limits.{text_bytes, most_values, values, actions, user_numbers, object_numbers}
use Rattle.policy.specs.Policy.{Side, Policy, blank_side, blank, total, conflict, pair}
use Rattle.policy.specs.Read.{Outcome, Accepted, read_text}
use Rattle.policy.specs.Value.{width_places, line_places, entry_places, conflict_places, pair_places, no_entry, side_value, register, conflicts_value, rules_value, pairs_value, value_of}
use Rattle.policy.specs.declared.refusal.Refusal.TheVariants.{TextTooLong}
use Rattle.policy.specs.declared.value.Rejection.{Rejection}
use Rattle.policy.specs.declared.value.Entry.{Entry}
use Rattle.policy.specs.declared.value.Conflict.{Conflict}
use Rattle.policy.specs.declared.value.Pair.{Pair}
use Rattle.policy.specs.declared.value.Register.{Register}
use Rattle.policy.specs.declared.value.Conflicts.{Conflicts}
use Rattle.policy.specs.declared.value.Rules.{Rules}
use Rattle.policy.specs.declared.value.Pairs.{Pairs}
use Rattle.policy.specs.declared.value.SideValue.{SideValue}
use Rattle.policy.specs.declared.value.PolicyValue.{PolicyValue}
use Rattle.policy.proofs.Forms.{values-most}
use Rattle.checks.specs.Inner.{sizes_in, both_in}
use Rattle.checks.specs.declared.shape.Shape.{Shape}
use Rattle.reader.specs.Inner.Cursor.{left, refused_as, Reads, FirstOf}
use Rattle.reader.specs.Inner.Lists.{ShapeOf, with_sides, TestedRefused, RefusedBy, RulesFit, width_test, direct_test, entry_test, conflict_test, pair_test, WidthsFrom, SenioritiesFrom, EntriesFrom, ConflictsFrom, RulesFrom, PairsFrom, FormFrom, SidesFrom, ListsFrom}
use Rattle.reader.specs.Inner.Rising.{RisingFrom}
use Rattle.reader.specs.declared.cursor.Cursor.{Cursor}
use Rattle.reader.specs.declared.sides.Sides.{Sides}
use Rattle.reader.proofs.RisingLines.{from-blank, blank-places}
use Rattle.reader.proofs.Runs.{then, then-refused}
use Rattle.reader.proofs.Sections.{user-widths, object-widths, uattr, oattr, user-directs, object-directs, usen, osen, users, objects, user, object, conflicts, conflict as conflict-lines, rules, rule, pairs, pair as pair-lines}

-- ---- a list that was blank, with what is read into it

pub register-places : (x : Register) → x ≡ register [] → length x.entries ≡ entry_places
unfolding register
register-places x e = blank-places entry_places no_entry x.entries (ap (λ (y : Register). y.entries) e)

pub line-places : (x : SideValue) → x ≡ side_value blank_side → length x.seniority ≡ line_places
unfolding side_value
line-places x e = blank-places line_places (direct 0 0) x.seniority (ap (λ (y : SideValue). y.seniority) e)

pub conflict-places : (x : Conflicts) → x ≡ conflicts_value [] → length x.entries ≡ conflict_places
unfolding conflicts_value
conflict-places x e = blank-places conflict_places (conflict 0 0) x.entries (ap (λ (y : Conflicts). y.entries) e)

pub pair-places : (x : Pairs) → x ≡ pairs_value [] → length x.entries ≡ pair_places
unfolding pairs_value
pair-places x e = blank-places pair_places (pair 0 0 0) x.entries (ap (λ (y : Pairs). y.entries) e)

module _ {t : List ℕ} {c : Cursor} {n : ℕ} {d : Cursor} where
  pub entries-from : {k : Kind} {most total : ℕ} {new : List Entry} (x : Register) → x ≡ register []
      → RisingFrom t k (entry_test most total) c x.entries new n d → EntriesFrom t k most total c (record { count = n; entries = new }) d
  unfolding register
  entries-from {new = new} x e r =
      let f = from-blank entry_places no_entry x.entries new r.items n (ap (λ (y : Register). y.entries) e) r.count r.stored in
      record { entries = r.items; register = rw (f, r.count) refl; lines = r.lines }

  pub directs-from : {k : Kind} {s : Shape} {new : List Direct} (x : SideValue) → x ≡ side_value blank_side
      → RisingFrom t k (direct_test (sizes_in s)) c x.seniority new n d
      → SenioritiesFrom t k s c (record { attributes = s.attributes; widths = s.widths; lines = n; seniority = new }) d
  unfolding side_value
  directs-from {new = new} x e r =
      let f = from-blank line_places (direct 0 0) x.seniority new r.items n (ap (λ (y : SideValue). y.seniority) e) r.count r.stored in
      record { directs = r.items; side = rw (f, r.count) refl; lines = r.lines }

  pub conflicts-from : {u : ℕ} {new : List Conflict} (x : Conflicts) → x ≡ conflicts_value []
      → RisingFrom t ConflictKind (conflict_test u) c x.entries new n d → ConflictsFrom t u c (record { count = n; entries = new }) d
  unfolding conflicts_value
  conflicts-from {new = new} x e r =
      let f = from-blank conflict_places (conflict 0 0) x.entries new r.items n (ap (λ (y : Conflicts). y.entries) e) r.count r.stored in
      record { list = r.items; conflicts = rw (f, r.count) refl; lines = r.lines }

  pub pairs-from : {m u o : ℕ} {new : List Pair} (x : Pairs) → x ≡ pairs_value []
      → RisingFrom t PairKind (pair_test m u o) c x.entries new n d → PairsFrom t m u o c (record { count = n; entries = new }) d
  unfolding pairs_value
  pairs-from {new = new} x e r =
      let f = from-blank pair_places (pair 0 0 0) x.entries new r.items n (ap (λ (y : Pairs). y.entries) e) r.count r.stored in
      record { list = r.items; pairs = rw (f, r.count) refl; lines = r.lines }

-- ---- a side

pub most-small : (most form : ℕ) → most ≡ values form → most ≤ most_values
most-small most form e = omega (arith, e, values-most form)

-- the sizes that its shape says, and its value
module _ (s : Side) (x : Shape) (e : ShapeOf s.widths x) where
  shape-sizes : side_sizes s ≡ sizes_in x
  unfolding total
  shape-sizes = rw (e.attributes, e.widths, e.total, take-padded width_places 0 s.widths)

  shape-total : total s ≡ x.total
  unfolding total
  shape-total = sym e.total

-- a blank policy's sides
pub blank-user : (x : PolicyValue) → x ≡ value_of blank → x.user ≡ side_value blank_side
unfolding value_of blank
blank-user x e = ap (λ (v : PolicyValue). v.user) e

pub blank-object : (x : PolicyValue) → x ≡ value_of blank → x.object ≡ side_value blank_side
unfolding value_of blank
blank-object x e = ap (λ (v : PolicyValue). v.object) e

-- ---- both sides

abbrev widths_side : List ℕ → Side
widths_side ws = record { widths = ws; lines = [] }

module _ {t : List ℕ} {c : Cursor} {form : ℕ} {d : Cursor} (g : FormFrom t c form d) {most : ℕ} (m : most ≡ values form) where
  none : Reads t c (place_of Uattr) d (with_sides form (widths_side []) (widths_side []))
  unfolding blank
  none = record { stands = g.stands; past = g.past; left = g.left }

  pub uattr-refused : (e : Rejection) → TestedRefused t Uattr (width_test most) d e → left t c blank ≡ refused_as e
  unfolding user-widths
  uattr-refused e r = then-refused none e r user-widths (uattr (sym m)) refl

  module _ {x : Shape} {d1 : Cursor} (w : WidthsFrom t Uattr most d x d1) where
    us : Reads t c (place_of Oattr) d1 (with_sides form (widths_side w.widths) (widths_side []))
    unfolding user-widths
    us = then none w.lines user-widths (uattr (sym m)) refl

    pub oattr-refused : (e : Rejection) → TestedRefused t Oattr (width_test most) d1 e → left t c blank ≡ refused_as e
    unfolding object-widths
    oattr-refused e r = then-refused us e r object-widths (oattr (sym m)) refl

    module _ {y : Shape} {d2 : Cursor} (v : WidthsFrom t Oattr most d1 y d2) where
      os : Reads t c (place_of Usen) d2 (with_sides form (widths_side w.widths) (widths_side v.widths))
      unfolding object-widths
      os = then us v.lines object-widths (oattr (sym m)) refl

      pub usen-refused : (e : Rejection) → TestedRefused t Usen (direct_test (sizes_in x)) d2 e → left t c blank ≡ refused_as e
      unfolding user-directs
      usen-refused e r = then-refused os e r user-directs (usen (shape-sizes (widths_side w.widths) x w.shape)) refl

      module _ {a : SideValue} {d3 : Cursor} (p : SenioritiesFrom t Usen x d2 a d3) where
        user_side : Side
        user_side = record { widths = w.widths; lines = p.directs }

        ul : Reads t c (place_of Osen) d3 (with_sides form (record { widths = w.widths; lines = p.directs }) (widths_side v.widths))
        unfolding user-directs
        ul = then os p.lines user-directs (usen (shape-sizes (widths_side w.widths) x w.shape)) refl

        pub osen-refused : (e : Rejection) → TestedRefused t Osen (direct_test (sizes_in y)) d3 e → left t c blank ≡ refused_as e
        unfolding object-directs
        osen-refused e r = then-refused ul e r object-directs (osen (shape-sizes (widths_side v.widths) y v.shape)) refl

        module _ {b : SideValue} {d4 : Cursor} (q : SenioritiesFrom t Osen y d3 b d4) where
          ol : Reads t c (suc (place_of Osen)) d4 (with_sides form (record { widths = w.widths; lines = p.directs }) (record { widths = v.widths; lines = q.directs }))
          unfolding object-directs
          ol = then ul q.lines object-directs (osen (shape-sizes (widths_side v.widths) y v.shape)) refl

          sides-value : (z : PolicyValue) → z ≡ value_of blank
              → ◌≡◌ {A = PolicyValue} (record { form = form; user = a; object = b; users = z.users; objects = z.objects; conflicts = z.conflicts; rules = z.rules; pairs = z.pairs })
              (value_of (with_sides form (record { widths = w.widths; lines = p.directs }) (record { widths = v.widths; lines = q.directs })))
          unfolding value_of side_value blank
          sides-value z e = rw (e, p.side, q.side, w.shape.attributes, w.shape.widths, v.shape.attributes, v.shape.widths) refl

          pub sides-read : (z : PolicyValue) → z ≡ value_of blank
              → SidesFrom t c form
              (record { form = form; user = a; object = b; users = z.users; objects = z.objects; conflicts = z.conflicts; rules = z.rules; pairs = z.pairs })
              (record { shapes = record { user = x; object = y }; cursor = d4 })
          sides-read z e =
              record {
                user = record { widths = w.widths; lines = p.directs };
                object = record { widths = v.widths; lines = q.directs };
                value = sides-value z e;
                user-shape = w.shape;
                object-shape = v.shape;
                lines = ol;
              }

-- ---- all lists

module _ {t : List ℕ} {c : Cursor} {form : ℕ} {x : PolicyValue} {s : Sides} (h : SidesFrom t c form x s) where
  ut : total h.user ≡ s.shapes.user.total
  ut = shape-total h.user s.shapes.user h.user-shape

  ot : total h.object ≡ s.shapes.object.total
  ot = shape-total h.object s.shapes.object h.object-shape

  -- no list is read yet
  pub blank-users : x.users ≡ register []
  unfolding value_of
  blank-users = ap (λ (v : PolicyValue). v.users) h.value

  pub blank-objects : x.objects ≡ register []
  unfolding value_of
  blank-objects = ap (λ (v : PolicyValue). v.objects) h.value

  pub blank-conflicts : x.conflicts ≡ conflicts_value []
  unfolding value_of
  blank-conflicts = ap (λ (v : PolicyValue). v.conflicts) h.value

  pub blank-rules : x.rules ≡ rules_value []
  unfolding value_of
  blank-rules = ap (λ (v : PolicyValue). v.rules) h.value

  pub blank-pairs : x.pairs ≡ pairs_value []
  unfolding value_of
  blank-pairs = ap (λ (v : PolicyValue). v.pairs) h.value

  pub users-refused : (e : Rejection) → TestedRefused t User (entry_test user_numbers s.shapes.user.total) s.cursor e → left t c blank ≡ refused_as e
  unfolding users
  users-refused e r = then-refused h.lines e r users (user ut) refl

  module _ {y : Register} {d1 : Cursor} (u : EntriesFrom t User user_numbers s.shapes.user.total s.cursor y d1) where
    abbrev with_u : Policy
    with_u = record { form = form; user = h.user; object = h.object; users = u.entries; objects = []; conflicts = []; rules = []; pairs = [] }

    ru : Reads t c (place_of Object) d1 with_u
    unfolding users
    ru = then h.lines u.lines users (user ut) refl

    pub objects-refused : (e : Rejection) → TestedRefused t Object (entry_test object_numbers s.shapes.object.total) d1 e → left t c blank ≡ refused_as e
    unfolding objects
    objects-refused e r = then-refused ru e r objects (object ot) refl

    module _ {z : Register} {d2 : Cursor} (o : EntriesFrom t Object object_numbers s.shapes.object.total d1 z d2) where
      abbrev with_o : Policy
      with_o = record { form = form; user = h.user; object = h.object; users = u.entries; objects = o.entries; conflicts = []; rules = []; pairs = [] }

      ro : Reads t c (place_of ConflictKind) d2 with_o
      unfolding objects
      ro = then ru o.lines objects (object ot) refl

      pub conflicts-refused : (e : Rejection) → TestedRefused t ConflictKind (conflict_test s.shapes.user.total) d2 e → left t c blank ≡ refused_as e
      unfolding conflicts
      conflicts-refused e r = then-refused ro e r conflicts (conflict-lines ut) refl

      module _ {v : Conflicts} {d3 : Cursor} (k : ConflictsFrom t s.shapes.user.total d2 v d3) where
        abbrev with_k : Policy
        with_k = record { form = form; user = h.user; object = h.object; users = u.entries; objects = o.entries; conflicts = k.list; rules = []; pairs = [] }

        rk : Reads t c (place_of RuleKind) d3 with_k
        unfolding conflicts
        rk = then ro k.lines conflicts (conflict-lines ut) refl

        fit : RulesFit form (both_in s.shapes) rules with_k
        fit = record { kind = rule; form = refl; sizes = rw (shape-sizes h.user s.shapes.user h.user-shape, shape-sizes h.object s.shapes.object h.object-shape) refl }

        pub rules-refused : (e : Rejection) → RefusedBy t RuleKind (RulesFit form (both_in s.shapes)) d3 e → left t c blank ≡ refused_as e
        unfolding rules
        rules-refused e r = then-refused rk e r rules fit refl

        module _ {w : Rules} {d4 : Cursor} (l : RulesFrom t form s.shapes d3 w d4) {most : ℕ} (m : most ≡ actions form) where
          abbrev with_l : Policy
          with_l = record { form = form; user = h.user; object = h.object; users = u.entries; objects = o.entries; conflicts = k.list; rules = l.list; pairs = [] }

          rl : Reads t c (place_of PairKind) d4 with_l
          unfolding rules
          rl = then rk l.lines rules fit refl

          pub pairs-refused : (e : Rejection) → TestedRefused t PairKind (pair_test most s.shapes.user.total s.shapes.object.total) d4 e → left t c blank ≡ refused_as e
          unfolding pairs
          pairs-refused e r = then-refused rl e r pairs (pair-lines (sym m) ut ot) refl

          module _ {a : Pairs} {d5 : Cursor} (q : PairsFrom t most s.shapes.user.total s.shapes.object.total d4 a d5) where
            abbrev with_q : Policy
            with_q = record { form = form; user = h.user; object = h.object; users = u.entries; objects = o.entries; conflicts = k.list; rules = l.list; pairs = q.list }

            rq : Reads t c (place_of End) d5 with_q
            unfolding pairs
            rq = then rl q.lines pairs (pair-lines (sym m) ut ot) refl

            lists-value : ◌≡◌ {A = PolicyValue} (record { form = x.form; user = x.user; object = x.object; users = y; objects = z; conflicts = v; rules = w; pairs = a }) (value_of with_q)
            unfolding value_of
            lists-value = rw (h.value, u.register, o.register, k.conflicts, l.rules, q.pairs) refl

            pub lists-read : ListsFrom t c (record { form = x.form; user = x.user; object = x.object; users = y; objects = z; conflicts = v; rules = w; pairs = a }) d5
            lists-read = record { policy = with_q; value = lists-value; lines = rq }

-- ---- the text

pub read-refused : (o : Outcome) (e : Rejection) → o ≡ refused_as e → ReadAs o (Err e)
read-refused o e q = rw q (refl, refl)

pub read-accepted : (o : Outcome) (p : Policy) (v : PolicyValue) → o ≡ Accepted p → v ≡ value_of p → ReadAs o (Ok v)
read-accepted o p v q e = rw (q, e) refl

pub long-refused : (t : List ℕ) → text_bytes < length t → read_text t ≡ refused_as (record { refusal = TextTooLong; line = 0 })
unfolding read_text
long-refused t h = rw (lt-ltb text_bytes (length t) h) refl

module _ {t : List ℕ} {c : Cursor} (f : FirstOf t c) where
  -- what is read so far, and refused
  pub read-later : (e : Rejection) → left t c blank ≡ refused_as e → ReadAs (read_text t) (Err e)
  read-later e q = read-refused (read_text t) e (f.left ∙ q)

  module _ {x : PolicyValue} {d : Cursor} (l : ListsFrom t c x d) where
    pub read-unfinished : (e : Rejection) → ((p : Policy) → left t d p ≡ refused_as e) → ReadAs (read_text t) (Err e)
    read-unfinished e q = read-later e (l.lines.left ∙ q l.policy)

    pub read-whole : ((p : Policy) → left t d p ≡ Accepted p) → ReadAs (read_text t) (Ok x)
    read-whole q = read-accepted (read_text t) l.policy x (f.left ∙ l.lines.left ∙ q l.policy) l.value

-- The widths of a side, line by line.
use Prim.Native.Nat.{ℕ, ◌+◌, ◌≤◌, ◌<◌}
use mathlib.Core.Path.{◌≡◌, refl, sym, ◌∙◌}
use mathlib.Core.Bool.{Bool, true, false}
use mathlib.Core.List.{List, [], ◌∷◌, ◌++◌}
use native.Mathlib.Omega.{arith}
use Rattle.std.specs.Prelude.{Some}
use lib.ListN.{length, set, take, drop}
use Rattle.text.specs.Parts.{lines}
use Rattle.policy.specs.Policy.{Policy}
use Rattle.policy.specs.Read.{read_lines}
use Rattle.policy.specs.declared.value.Rejection.{Rejection}
use Rattle.checks.specs.declared.shape.Shape.{Shape}
use Rattle.basis.specs.Lists.{sum, padded}
use Rattle.basis.proofs.Padded.{take-padded, padded-more}
use Rattle.basis.proofs.Snoc.{length-snoc, sum-snoc}
use Rattle.text.specs.Kind.{place_of}
use Rattle.text.specs.declared.kind.Kind.{Kind}
use Rattle.policy.specs.Checks.{width_fits}
use Rattle.policy.specs.Limits.{most_values}
use Rattle.policy.specs.Value.{width_places}
use Rattle.policy.specs.declared.refusal.Refusal.TheVariants.{OutOfRange}
use Rattle.policy.proofs.Bounds.{width_fits_lem}
use Rattle.reader.specs.Inner.Cursor.{refused_as, Stands, NextOf, ahead_is}
use Rattle.reader.specs.Inner.Lists.{TestedBy, TestedLines, TestedRefused, width_test, WidthsFrom}
use Rattle.reader.specs.declared.cursor.Cursor.{Cursor}
use Rattle.reader.proofs.Runs.{none_read, all_read, tested-more, tested-next, tested-out}

-- what is held between two lines
pub record WidthsHeld (t : List ℕ) (k : Kind) (most : ℕ) (c : Cursor) (ws : List ℕ) (n u : ℕ) (d : Cursor) : Type 0 where
  pub widths : List ℕ
  pub stored : ws ≡ padded width_places 0 widths
  pub count : n ≡ length widths
  pub total : u ≡ sum widths
  pub few : length widths ≤ sum widths
  pub small : sum widths ≤ most
  pub lines : TestedLines t k (width_test most) (place_of k) c d widths

pub no_widths : (t : List ℕ) (k : Kind) (most : ℕ) (c : Cursor) → Stands t c → WidthsHeld t k most c (padded width_places 0 []) 0 0 c
unfolding sum
no_widths t k most c s =
    record { widths = []; stored = refl; count = refl; total = refl; few = omega arith; small = omega arith; lines = none_read t k (TestedBy k (width_test most)) c s }

module _ {t : List ℕ} {k : Kind} {most : ℕ} {c : Cursor} {ws : List ℕ} {n u : ℕ} {d : Cursor} (h : WidthsHeld t k most c ws n u d) where
  pub widths-sum : sum (take n ws) ≡ u
  widths-sum = rw (h.stored, h.count, take-padded width_places 0 h.widths) (sym h.total)

  pub widths-read : (x : Shape) → x.attributes ≡ n → x.widths ≡ ws → x.total ≡ sum (take n ws) → most ≤ most_values → ahead_is d.ahead k ≡ false → WidthsFrom t k most c x d
  widths-read x a b e m f =
      record {
        widths = h.widths;
        shape = record { attributes = a ∙ h.count; widths = b ∙ h.stored; total = e ∙ widths-sum ∙ h.total; small = omega (arith, e, widths-sum, h.total, h.small, m) };
        few = h.few;
        small = h.small;
        lines = all_read t k (TestedBy k (width_test most)) h.lines f;
      }

  module _ (w : ℕ) (r : Bool) (e : r ≡ width_fits most u w) where
    -- a width that fits finds a free place
    pub width_room : r ≡ true → most ≤ most_values → n < width_places
    width_room g m = let z = width_fits_lem most u w (sym e ∙ g) in omega (arith, z.some, z.fits, h.count, h.total, h.few)

    pub width-sum : r ≡ true → u + w ≤ most
    width-sum g = (width_fits_lem most u w (sym e ∙ g)).fits

  module _ (q : d.ahead ≡ Some k) (r : Bool) (e : r ≡ width_fits most u d.numbers.first) where
    -- check 6 decides
    width-tested : width_fits most (sum h.widths) d.numbers.first ≡ r
    width-tested = rw (← h.total) (sym e)

    pub width-out : r ≡ false → TestedRefused t k (width_test most) c (record { refusal = OutOfRange; line = d.line })
    width-out g = tested-out h.lines q OutOfRange (rw (width-tested ∙ g))

    module _ (g : r ≡ true) where
      pub width-next : (x : Rejection) → ((p : Policy) → read_lines (record { before = Some k; policy = p }) (d.line + 1) (lines (drop (d.end + 1) t)) ≡ refused_as x)
          → TestedRefused t k (width_test most) c x
      width-next x i = tested-next h.lines q tt (rw (width-tested ∙ g)) x i

      pub width-more : most ≤ most_values → (b : Cursor) → NextOf t d k b → WidthsHeld t k most c (set ws n d.numbers.first) (n + 1) (u + d.numbers.first) b
      width-more m b i =
          let w = d.numbers.first in
          let z = width_fits_lem most u w (sym e ∙ g) in
          record {
            widths = h.widths ++ (w ∷ []);
            stored = rw (h.stored, h.count) (sym (padded-more width_places 0 h.widths w (omega (arith, width_room w r e g m, h.count))));
            count = rw (length-snoc h.widths w, h.count);
            total = rw (sum-snoc h.widths w, h.total);
            few = omega (arith, length-snoc h.widths w, sum-snoc h.widths w, h.few, z.some);
            small = omega (arith, sum-snoc h.widths w, h.total, z.fits);
            lines = tested-more h.lines q tt (rw (width-tested ∙ g)) b i;
          }

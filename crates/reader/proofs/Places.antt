-- The lines of a text from a place on, by where the next line feed was found.
use Prim.Native.Nat.{ℕ, ◌+◌, ◌≤◌, ◌<◌}
use mathlib.Core.Path.{◌≡◌, ap, ◌∙◌}
use mathlib.Core.Bool.{false}
use mathlib.Core.List.{List, [], ◌∷◌}
use native.Mathlib.Omega.{arith}
use lib.ListN.{length, drop, drop_of_length-le}
use lib.Seq.{drop-cons}
use Rattle.text.specs.Inner.{Found}
use Rattle.text.specs.Parts.{line_feed, split, lines_of, lines}
use Rattle.text.proofs.Split.{split-pos, part-next, part-last}
use Rattle.text.proofs.RoundTrip.{ended_line, lines_cons}
use Rattle.line.specs.Inner.Head.{between}

module _ (t : List ℕ) (i r : ℕ) (f : Found t i line_feed r) where
  -- a line feed at r: a line, and those behind it
  pub next-line : (r ≡ length t → ⊥) → lines (drop i t) ≡ ended_line (between t i r) ∷ lines (drop (r + 1) t)
  next-line h =
      ap lines_of (part-next t i line_feed r f (omega (arith, h, f.high)))
      ∙ lines_cons (between t i r) (split line_feed (drop (r + 1) t)) (split-pos line_feed (drop (r + 1) t))

  -- none: the line is not ended
  pub open_line : r ≡ length t → i < length t → lines (drop i t) ≡ record { bytes = drop i t; ended = false } ∷ []
  unfolding lines_of
  open_line h g = rw (part-last t i line_feed r f h, drop-cons t i 0 g)

pub no_line : (t : List ℕ) (i : ℕ) → length t ≤ i → lines (drop i t) ≡ []
unfolding lines_of split
no_line t i h = rw (drop_of_length-le t h)

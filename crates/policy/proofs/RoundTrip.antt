-- Reading and writing undo each other: an accepted text is written back unchanged, and a sound policy's text is read
-- back as the policy.
use Prim.Native.Nat.{ℕ, ◌≤◌}
use mathlib.Core.Path.{◌≡◌, refl, sym, ap, ◌∙◌}
use mathlib.Core.Bool.{true}
use mathlib.Core.List.{List, [], ◌∷◌, map, map-map}
use borrow.Author.Tests.{le-ltb}
use lib.ListN.{length}
use Rattle.basis.specs.Lists.{all}
use Rattle.text.specs.Parts.{line_feed, lines, text_of as linesText}
use Rattle.text.proofs.RoundTrip.{lacks, lines-text, text-lines, ended_line}
use Rattle.policy.specs.Limits.{text_bytes}
use Rattle.policy.specs.Policy.{Policy}
use Rattle.policy.specs.Line.{Line}
use Rattle.policy.specs.Read.{Accepted, read_text}
use Rattle.policy.specs.Text.{lines_of, line_text, text_of}
use Rattle.policy.specs.Inner.Sound.{sound}
use Rattle.policy.proofs.Parts.{parts, whole}
use Rattle.policy.proofs.LineText.{text-lacks-feed}
use Rattle.policy.proofs.SoFar.{so_far}
use Rattle.policy.proofs.Accepted.{text-reads, texts}
use Rattle.policy.proofs.ReadBack.{text_line}
use Rattle.policy.proofs.Length.{parts-short}
use Rattle.policy.proofs.Written.{leads-all}

pub read-sound : (t : List ℕ) (p : Policy) → read_text t ≡ Accepted p → sound p ≡ true
read-sound t p e = (text-reads t p e).sound-is

-- an accepted text is written back unchanged
pub read-text : (t : List ℕ) (p : Policy) → read_text t ≡ Accepted p → text_of p ≡ t
unfolding text_of texts so_far
read-text t p e = let r = text-reads t p e in ap linesText (sym r.lines_are) ∙ text-lines t r.ended-all

pub text-short : (p : Policy) → sound p ≡ true → length (text_of p) ≤ text_bytes
text-short p e = let w = whole p e in parts-short p (parts p w.lists) w.form

-- ---- the lines of a policy's text

each-lacks : (ls : List Line) → all (lacks line_feed) (map line_text ls) ≡ true
unfolding all
each-lacks [] = refl
each-lacks (l ∷ ls) = rw (text-lacks-feed l) (each-lacks ls)

lines-text_of : (p : Policy) → lines (text_of p) ≡ map text_line (lines_of p)
unfolding text_of
lines-text_of p = lines-text (map line_text (lines_of p)) (each-lacks (lines_of p)) ∙ map-map ended_line line_text (lines_of p)

-- writing and reading back gives the same policy
pub sound-read : (p : Policy) → sound p ≡ true → read_text (text_of p) ≡ Accepted p
unfolding read_text
sound-read p e = rw (le-ltb text_bytes (length (text_of p)) (text-short p e), lines-text_of p) (leads-all p (whole p e) 0)

-- "Bytes in lines, each ended by byte 10. Fields stand in a fixed order, parted by commas, without quoting."
use Rattle.std.specs.Prelude.{ℕ, Bool, true, false, List, [], ◌∷◌, ◌++◌, eqb}
use Rattle.basis.specs.Bytes.{byte}

abbrev pub line_feed : ℕ
line_feed = 10

abbrev pub comma : ℕ
comma = byte ","

-- a byte in front of parts: a separator starts a new part, any other byte joins the first
abbrev pub onto : Bool → ℕ → List (List ℕ) → List (List ℕ)
onto true x ps = [] ∷ ps
onto false x [] = (x ∷ []) ∷ []
onto false x (p ∷ ps) = (x ∷ p) ∷ ps

-- bytes parted at each separator; there is always one part at least
unfoldable pub split : ℕ → List ℕ → List (List ℕ)
split b [] = [] ∷ []
split b (x ∷ xs) = onto (eqb x b) x (split b xs)

-- the fields of a line
abbrev pub fields : List ℕ → List (List ℕ)
fields l = split comma l

-- parts with a separator between them
unfoldable pub join : ℕ → List (List ℕ) → List ℕ
join b [] = []
join b (p ∷ []) = p
join b (p ∷ q ∷ ps) = p ++ b ∷ join b (q ∷ ps)

-- a line of a text: its bytes, and whether a line feed ends it
pub record TextLine : Type 0 where
  pub bytes : List ℕ
  pub ended : Bool

-- the lines of a text that is parted at its line feeds: all parts but the last are ended, and nothing after the last
-- line feed is no line
unfoldable pub lines_of : List (List ℕ) → List TextLine
lines_of [] = []
lines_of ([] ∷ []) = []
lines_of ((x ∷ p) ∷ []) = record { bytes = x ∷ p; ended = false } ∷ []
lines_of (p ∷ q ∷ ps) = record { bytes = p; ended = true } ∷ lines_of (q ∷ ps)

abbrev pub lines : List ℕ → List TextLine
lines t = lines_of (split line_feed t)

-- lines as a text, each ended by a line feed
unfoldable pub text_of : List (List ℕ) → List ℕ
text_of [] = []
text_of (l ∷ ls) = l ++ line_feed ∷ text_of ls

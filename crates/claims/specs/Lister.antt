-- The lister: for every text, refused ones included, the chunks that `report::chunks::next` hands out from its start, in
-- order and up to the first empty one, are the report of the text, whatever the size of the buffer.
use Rattle.std.specs.Prelude.{ℕ, ◌<◌, ◌≡◌, List, []}
use Rattle.policy.specs.Read.{read_text}
use Rattle.report.specs.Report.{report, chunk, sent, unsent}

-- the chunk after n others is empty: nothing is left
abbrev pub Empty : List ℕ → ℕ → ℕ → Type 0
Empty t size n = chunk size (unsent size n (report (read_text t))) ≡ []

pub record Listed (t : List ℕ) (size : ℕ) : Type 0 where
  pub whole : (n : ℕ) → Empty t size n → sent size n (report (read_text t)) ≡ report (read_text t)
  pub ends : (n : ℕ) × Empty t size n

abbrev pub Claim : Type 0
Claim = (t : List ℕ) (size : ℕ) → 0 < size → Listed t size

-- The claim about the lister, from the law of chunks.
use Rattle.policy.specs.Read.{read_text}
use Rattle.report.proofs.Whole.{report-sent, report-ends}
use Rattle.claims.specs.Lister.{Claim}

pub lister : Claim
lister t size h = record { whole = report-sent size h (read_text t); ends = report-ends size h (read_text t) }

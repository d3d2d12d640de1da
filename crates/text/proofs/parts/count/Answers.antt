-- `text::parts::count` meets its contract: each comma makes a field more.
use Rattle.std.proofs.Common.{◌≡◌, eqb, arith, rules}
use Rattle.std.specs.List.{count_by}
use Rattle.text.specs.Parts.{comma}
use Rattle.text.proofs.Split.{split-count}
use Rattle.text.proofs.parts.count.Goals as goal

pub returns : goal.returns
returns c =
    let h : c.count.result ≡ count_by (λ x. eqb x comma) c.args.line.now = search rules in
    omega (arith, h, split-count comma c.args.line.now)

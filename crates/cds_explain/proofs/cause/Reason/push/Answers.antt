use Rattle.std.proofs.Common.{◌≡◌, ◌++◌, ℕ, List}
use Rattle.cds_explain.specs.ReasonLines.{reason_line}
use Rattle.cds_explain.proofs.ReasonLemmas.{of_some}
use Rattle.cds_explain.proofs.cause.Reason.push.Goals as goal

pub returns : goal.returns
returns c =
    of_some (λ (w : List ℕ). c.push_line.new.text.items ≡ c.args.text.now.items ++ reason_line c.args.self.now w) c.push_line.result c.deref.result.now
    c.push_line.ensures

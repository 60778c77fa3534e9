use Rattle.std.proofs.Common.{false}
use Rattle.std.proofs.lemmas.Option.{IfSome_then}
use Rattle.directory.proofs.DeletionSets.{begins, updated}
use Rattle.directory.proofs.deletions.Deletions.pop_first.Goals as goal

pub returns-clause-first : goal.returns-clause-first
returns-clause-first c = begins (λ d. d) c.args.self.now.known c.pop_first.result c.pop_first.ensures.member c.pop_first.ensures.least

pub returns-clause-rest : goal.returns-clause-rest
returns-clause-rest c =
    IfSome_then c.pop_first.result c.pop_first.ensures.updates (λ d updates. updated c.args.self.now.known c.pop_first.new.self d false updates)

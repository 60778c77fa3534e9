use Rattle.directory.proofs.DeletionSets.{begins}
use Rattle.directory.proofs.deletions.Deletions.first.Goals as goal

pub returns-clause-first : goal.returns-clause-first
returns-clause-first c = begins (λ d. d.now) c.args.self.now.known c.first.result c.first.ensures.member c.first.ensures.least

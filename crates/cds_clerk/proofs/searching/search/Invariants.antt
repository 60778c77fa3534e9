use Rattle.cds_clerk.specs.Searches.{IsUnderWay}
use Rattle.cds_clerk.proofs.searching.search.Given as goal

abbrev pub invariant-steps : goal.invariant-steps
invariant-steps l = IsUnderWay l.heard l.interface l.first l.entries.items l.names.items l.lacks.items

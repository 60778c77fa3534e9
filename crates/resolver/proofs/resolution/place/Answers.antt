use Rattle.std.proofs.Common.{true}
use Rattle.resolver.specs.Walks.{place_of}
use Rattle.resolver.specs.declared.walk.End.TheVariants.{Found, Missing, Refused}
use Rattle.resolver.proofs.EndLaws.{placed_at}
use Rattle.resolver.proofs.PassLaws.{without_memory}
use Rattle.resolver.proofs.resolution.place.Goals as goal

pub returns-in_err-found-clause-ends : goal.returns-in_err-found-clause-ends
returns-in_err-found-clause-ends g c =
    without_memory (g.R.EntryReader.tells c.args.reader.now) true c.args.name.now place_of c.from_residual.result c.from_residual.ensures.1

pub returns-in-Found-clause-placed : goal.returns-in-Found-clause-placed
returns-in-Found-clause-placed g c = placed_at (Found c.in-Found.found) c.in_ok-found.ensures.ends c.in-Found.is

pub returns-in-Missing-clause-placed : goal.returns-in-Missing-clause-placed
returns-in-Missing-clause-placed g c = placed_at (Missing c.in-Missing.place c.in-Missing.field-1) c.in_ok-found.ensures.ends c.in-Missing.is

pub returns-in-Refused-clause-placed : goal.returns-in-Refused-clause-placed
returns-in-Refused-clause-placed g c = placed_at (Refused c.in-Refused.refusal) c.in_ok-found.ensures.ends c.in-Refused.is

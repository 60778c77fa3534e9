use Rattle.resolver.specs.Walks.{found_of}
use Rattle.resolver.specs.declared.walk.End.TheVariants.{Found, Missing, Refused}
use Rattle.resolver.proofs.EndLaws.{walked_at}
use Rattle.resolver.proofs.PassLaws.{without_memory}
use Rattle.resolver.proofs.resolution.resolve.Goals as goal

pub returns-in_err-found-clause-ends : goal.returns-in_err-found-clause-ends
returns-in_err-found-clause-ends g c =
    without_memory (g.R.EntryReader.tells c.args.reader.now) c.args.follow_last c.args.name.now found_of c.from_residual.result c.from_residual.ensures.1

pub returns-in-Found-clause-walked : goal.returns-in-Found-clause-walked
returns-in-Found-clause-walked g c = walked_at (Found c.in-Found.found) c.in_ok-found.ensures.ends c.in-Found.is

pub returns-in-Missing-clause-walked : goal.returns-in-Missing-clause-walked
returns-in-Missing-clause-walked g c = walked_at (Missing c.in-Missing.field-0 c.in-Missing.done) c.in_ok-found.ensures.ends c.in-Missing.is

pub returns-clause-walked : goal.returns-clause-walked
returns-clause-walked g c = walked_at (Refused c.in-Refused.refusal) c.in_ok-found.ensures.ends c.in-Refused.is

use Rattle.std.proofs.Common.{inr}
use Rattle.std.specs.Option.{option_copied}
use Rattle.directory.proofs.LaterLaws.{known_taken}
use Rattle.directory.proofs.later.is_known.Goals as goal

pub returns-else-is_passed-clause-known : goal.returns-else-is_passed-clause-known
returns-else-is_passed-clause-known c = λ out own entry.
    known_taken c.args.t (option_copied c.args.own) c.args.entry.now entry (inr (c.outdates.ensures out own entry))

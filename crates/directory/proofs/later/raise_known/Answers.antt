use Rattle.directory.proofs.IndexLaws.{raised_known}
use Rattle.directory.proofs.LaterLaws.{on_ok}
use Rattle.directory.proofs.later.raise_known.Goals as goal

pub returns-clause-knows : goal.returns-clause-knows
returns-clause-knows c = on_ok c.raise_logged.result (λ joins known entry.
    raised_known c.args.deletions.now c.add_entry.new.self c.args.entries.now c.raise_logged.new.self c.args.name.now c.args.entry.now
    c.add_entry.ensures.adds.0 c.in_ok-add_entry.ensures.ok entry (joins (known.valid c.args.name.now) entry) known) c.raise_logged.ensures.ok

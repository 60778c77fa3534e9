use Rattle.std.proofs.Common.{ap, sym, ◌∙◌}
use Rattle.std.specs.Option.{option_map}
use Rattle.std.specs.Prelude.{None}
use Rattle.cell_names.specs.ChildPointers.{pointer_in}
use Rattle.resolver.specs.Readers.{sight_of}
use Rattle.clerk_cache.specs.Clerks.{query_of}
use Rattle.clerk_cache.proofs.ClerkLaws.{sight_from_list}
use Rattle.clerk_cache.proofs.clerk.Clerk.lookup.Goals as goal

pub returns-in-Some-clause-low : goal.returns-in-Some-clause-low
returns-in-Some-clause-low g c = λ low.
    ap (λ k. (sight_of c.in-Some.seen, record { prefer = c.args.self.now.prefer; kept = k })) c.promote.ensures.entries
    ∙ sight_from_list c.args.self.now c.in_ok-query.query (query_of c.args.self.now (pointer_in c.args.at.now) c.args.name.now None) c.args.now
    ((g.R.EntryReader.tells c.args.reader.now).sees (pointer_in c.args.at.now) c.args.name.now) (sight_of c.in-Some.seen)
    c.in_ok-query.ensures (sym c.in_ok-seen.ensures ∙ ap (option_map sight_of) c.in-Some.is)

use Rattle.std.proofs.Common.{ap, sym, ◌∙◌}
use Rattle.std.specs.Option.{option_map}
use Rattle.std.specs.Prelude.{Some}
use Rattle.cell_names.specs.ChildPointers.{pointer_in}
use Rattle.clerk_cache.specs.Clerks.{query_of, shown_values}
use Rattle.clerk_cache.proofs.ClerkLaws.{values_from_list}
use Rattle.clerk_cache.proofs.clerk.Clerk.values.Goals as goal

pub returns-in-Some-clause-low : goal.returns-in-Some-clause-low
returns-in-Some-clause-low g c = λ low.
    ap (λ k. (Some c.in-Some.values.items, record { prefer = c.args.self.now.prefer; kept = k })) c.promote.ensures.entries
    ∙ values_from_list c.args.self.now c.in_ok-query.query (query_of c.args.self.now (pointer_in c.args.at.now) c.args.name.now (Some c.args.attr.now)) c.args.now
    (shown_values (g.R.EntryReader.tells c.args.reader.now) (pointer_in c.args.at.now) c.args.name.now c.args.attr.now) c.in-Some.values.items
    (c.in_ok-query.ensures ∙ ap (λ a. query_of c.args.self.now (pointer_in c.args.at.now) c.args.name.now (Some a)) c.in_ok-copy.ensures)
    (sym c.in_ok-values.ensures ∙ ap (option_map (λ v. v.items)) c.in-Some.is)

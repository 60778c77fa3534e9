use Rattle.std.proofs.Common.{◌∙◌, ◌∷◌, ◌++◌, [], reverse, ap}
use Rattle.ns_import.specs.Imports.{names_of}
use Rattle.ns_import.proofs.Landing.{shown_lead}
use Rattle.ns_import.proofs.Beginning.{begins_with}
use Rattle.ns_import.proofs.importer.Importer.begin.Goals as goal

pub returns : goal.returns
returns g c =
    let tells = g.R.EntryReader.tells c.args.reader.now in
    let objects = g.R.EntryReader.objects c.args.reader.now in
    λ others shows.
    begins_with tells objects (shown_lead tells objects (g.met.R.EntryReader.shows_only c.args.reader.now)) others (shown_lead tells others shows)
    c.args.wanted c.args.name.now c.in_ok-at.at c.in_ok-at.ensures c.in_ok-client.client c.in_ok-client.ensures
    (reverse c.enter.new.self.ready.items) c.enter.new.self.searched.keys (reverse c.enter.new.self.names.items)
    c.in_ok-enter.ensures.ready
    (c.in_ok-enter.ensures.searched ∙ ap (λ es. es ++ c.in_ok-at.at ∷ []) c.new-progress.ensures.searched)
    (c.in_ok-enter.ensures.names ∙ ap (λ ns. names_of tells c.in_ok-client.client.interface c.in_ok-at.at ++ reverse ns) c.new-progress.ensures.names)

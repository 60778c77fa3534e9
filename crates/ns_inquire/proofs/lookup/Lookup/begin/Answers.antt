use Rattle.ns_import.specs.Imports.{import_list}
use Rattle.ns_inquire.proofs.BatchLaws.{begun_usable}
use Rattle.ns_inquire.proofs.lookup.Lookup.begin.Goals as goal

pub invariant_of-result : goal.invariant_of-result
invariant_of-result g c =
    let reader = c.args.reader.now in
    let objects = g.R.EntryReader.objects reader in (
      c.requires,
      λ _. begun_usable (import_list (g.R.EntryReader.tells reader) objects c.args.wanted c.args.name.now) c.in_ok-importer.importer
          (c.in_ok-importer.ensures objects (g.met.R.EntryReader.shows_only reader)),
    )

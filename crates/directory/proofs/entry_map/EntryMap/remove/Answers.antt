use Rattle.std.specs.Cmp.Lexicographic.{nat_list_cmp_total}
use Rattle.cds_stamps.specs.Octets.{octets_exact}
use Rattle.directory.specs.Entries.{join_entries}
use Rattle.directory.specs.EntryUndoWords.{undo_entry}
use Rattle.cds_stamps.proofs.Undoing.{mended_new}
use Rattle.directory.proofs.entry_map.EntryMap.remove.Goals as goal

pub returns : goal.returns
returns c =
    mended_new nat_list_cmp_total octets_exact join_entries undo_entry c.args.self.now c.self.inside.entries.entries c.remove.new.self.entries
    c.args.name.now c.self.view_is c.remove.ensures.updates.0

use Rattle.std.proofs.Common.{◌≡◌}
use Rattle.std.specs.Cmp.Lexicographic.{nat_list_cmp_total}
use Rattle.cds_stamps.specs.Octets.{octets_exact}
use Rattle.cds_stamps.specs.Undos.{taken_back}
use Rattle.attr_sets.specs.CellUndoWords.{undo_cell}
use Rattle.cds_stamps.proofs.Undoing.{taken_back-is}
use Rattle.directory.proofs.entry.EntryCell.join_tied_logged.Goals as goal

pub returns-clause-back : goal.returns-clause-back
returns-clause-back c =
    let attrs : taken_back undo_cell c.in_ok-log.log c.join_logged.new.self
    ≡ c.args.self.now.attrs =
    taken_back-is nat_list_cmp_total octets_exact undo_cell c.args.self.now.attrs c.join_logged.new.self c.in_ok-log.log c.in_ok-log.ensures.back in
    λ i. record { birth = c.args.self.now.birth; kind = c.replace.ensures.value i; death = c.replace-2.ensures.value i; attrs = attrs i }

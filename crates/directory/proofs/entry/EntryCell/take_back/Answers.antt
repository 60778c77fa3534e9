use Rattle.std.proofs.Common.{◌≡◌}
use Rattle.std.specs.Cmp.Lexicographic.{nat_list_cmp_total}
use Rattle.cds_stamps.specs.Octets.{octets_exact}
use Rattle.cds_stamps.specs.Undos.{taken_back}
use Rattle.attr_sets.specs.CellUndoWords.{undo_cell}
use Rattle.cds_stamps.proofs.Undoing.{is_taken_back}
use Rattle.directory.proofs.entry.EntryCell.take_back.Goals as goal

pub returns-in-Tied : goal.returns-in-Tied
returns-in-Tied c = rw c.in-Tied.is
    (let attrs : c.take_back.new.self ≡ taken_back undo_cell c.in-Tied.log c.args.self.now.attrs = is_taken_back nat_list_cmp_total octets_exact
    undo_cell c.args.self.now.attrs c.take_back.new.self c.in-Tied.log c.take_back.ensures in
    λ i. record { birth = c.args.self.now.birth; kind = c.in-Tied.kind; death = c.in-Tied.death; attrs = attrs i })

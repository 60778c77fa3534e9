use Rattle.std.proofs.Common.{◌≡◌, ap}
use Rattle.std.specs.FinMap as map
use Rattle.std.specs.Cmp.Lexicographic.{nat_list_cmp_total}
use Rattle.cds_stamps.specs.Octets.{octets_cmp, octets_exact}
use Rattle.cds_stamps.specs.Undos.{taken_back, back_at}
use Rattle.attr_sets.specs.CellUndoWords.{undo_cell}
use Rattle.cds_stamps.proofs.Undoing.{taken_back-is}
use Rattle.directory.proofs.entry.EntryCell.join_logged.Goals as goal

pub returns-in-Greater-clause-back : goal.returns-in-Greater-clause-back
returns-in-Greater-clause-back c =
    let m = c.args.self.now.attrs in
    let attrs : taken_back undo_cell c.new.result m
    ≡ m =
    taken_back-is nat_list_cmp_total octets_exact undo_cell m m c.new.result (λ q. ap (λ log. back_at octets_cmp undo_cell log q
    (map.get m q)) c.new.ensures) in
    λ i. record { birth = c.args.self.now.birth; kind = c.args.self.now.kind; death = c.args.self.now.death; attrs = attrs i }

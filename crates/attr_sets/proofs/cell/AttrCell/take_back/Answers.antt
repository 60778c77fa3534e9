use Rattle.std.proofs.Common.{◌≡◌}
use Rattle.std.specs.Cmp.Lexicographic.{nat_list_cmp_total}
use Rattle.cds_stamps.specs.Octets.{octets_exact}
use Rattle.cds_stamps.specs.Undos.{put_back, taken_back}
use Rattle.cds_stamps.proofs.Undoing.{is_taken_back}
use Rattle.attr_sets.proofs.cell.AttrCell.take_back.Goals as goal

pub returns-in-Marks : goal.returns-in-Marks
returns-in-Marks c = rw c.in-Marks.is
    (let values : c.take_back.new.self ≡ taken_back put_back c.in-Marks.log c.args.self.now.values = is_taken_back nat_list_cmp_total octets_exact
    put_back c.args.self.now.values c.take_back.new.self c.in-Marks.log c.take_back.ensures in
    λ i. record { cleared = c.args.self.now.cleared; values = values i })

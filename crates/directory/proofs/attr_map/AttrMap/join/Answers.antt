use Rattle.std.proofs.Common.{◌∙◌, sym}
use Rattle.std.specs.FinMap as map
use Rattle.std.specs.Cmp.Lexicographic.{nat_list_cmp_total}
use Rattle.cds_stamps.specs.Octets.{octets_exact}
use Rattle.attr_sets.specs.AttributeCells.{join_cells}
use Rattle.cds_stamps.specs.Joins.{join_maps, get-join_maps}
use Rattle.directory.specs.Entries.{IsHeldCell}
use Rattle.cds_stamps.proofs.ValidJoins.{one_valid}
use Rattle.cds_stamps.proofs.Undoing.{one_joined}
use Rattle.directory.proofs.attr_map.AttrMap.join.Goals as goal

pub returns-in-Some-clause-ok : goal.returns-in-Some-clause-ok
returns-in-Some-clause-ok c =
    λ old other. map.same_map nat_list_cmp_total octets_exact c.join_cell.new.self (join_maps join_cells c.args.self.now c.args.other.now) (λ q.
    one_joined nat_list_cmp_total octets_exact join_cells c.args.self.now c.join_cell.new.self c.args.other.now c.in-Some.name.now c.in-Some.cell.now
    (c.in_ok-join_cell.ensures.ok
    (old c.in-Some.name.now)
    (one_valid nat_list_cmp_total IsHeldCell c.args.other.now c.in-Some.name.now c.in-Some.cell.now c.in-Some.ensures other)) c.in-Some.ensures q
    ∙ sym (get-join_maps nat_list_cmp_total octets_exact join_cells c.args.self.now c.args.other.now q))

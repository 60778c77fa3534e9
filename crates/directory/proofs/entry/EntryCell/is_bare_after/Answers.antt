use Rattle.std.proofs.Common.{◌≡◌, Bool, true, false, not, Option, Some, None, refl, ap, ◌∙◌}
use Rattle.std.specs.Prelude.{◌&&◌, ◌==◌, is_none, is_some}
use Rattle.cds_stamps.specs.declared.stamp.Stamp.{Stamp}
use Rattle.std.specs.FinMap.{len}
use Rattle.std.specs.Cmp.Lexicographic.{nat_list_cmp_total}
use Rattle.cds_stamps.specs.Keyed.{map_some}
use Rattle.cds_stamps.specs.Octets.{octets_exact}
use Rattle.attr_sets.specs.CellPurges.{cell_after}
use Rattle.directory.proofs.LaterLaws.{none_counted}
use Rattle.directory.proofs.entry.EntryCell.is_bare_after.Goals as goal

-- what has nothing is none
is_gone : (d : Option Stamp) (r : Bool) → is_some d ≡ not r → r ≡ true → true ≡ is_none d
is_gone None r has is = refl
is_gone (Some s) true has is = cc (has)
is_gone (Some s) false has is = cc (is)

pub returns-then-is_none : goal.returns-then-is_none
returns-then-is_none c =
    none_counted nat_list_cmp_total octets_exact (cell_after c.args.t) c.args.self.now.attrs c.is_old.result c.is_old.ensures
    ∙ ap (λ b. b && (len (map_some (cell_after c.args.t) c.args.self.now.attrs) == 0))
    (is_gone c.death_after.result c.is_none.result c.is_none.ensures c.if-is_none.true ∙ ap is_none c.death_after.ensures)

use Rattle.std.proofs.Common.{refl, sym, ◌≡◌, ◌∙◌}
use Rattle.std.specs.Cmp.Lexicographic.{nat_list_cmp_total}
use Rattle.cds_stamps.specs.Octets.{octets_exact}
use Rattle.cds_stamps.specs.Undos.{put_back, taken_back}
use Rattle.cds_stamps.proofs.Undoing.{taken_back-is}
use Rattle.attr_sets.specs.declared.cell.AttrCell.{AttrCell}
use Rattle.attr_sets.proofs.CellUndoing.{kept_joined, kept_agrees, joined_agrees}
use Rattle.attr_sets.proofs.cell.AttrCell.join_logged.Goals as goal

pub returns-then-covers_clear-clause-ok : goal.returns-then-covers_clear-clause-ok
returns-then-covers_clear-clause-ok c =
    let new : AttrCell = record { cleared = c.args.self.now.cleared; values = c.join_logged.new.self } in
    kept_joined c.args.self.now c.args.other.now new refl (rw c.if-covers_clear.true at c.covers_clear.ensures) c.in_ok-log.ensures.ok

pub returns-then-covers_clear-clause-back : goal.returns-then-covers_clear-clause-back
returns-then-covers_clear-clause-back c =
    let values : taken_back put_back c.in_ok-log.log c.join_logged.new.self
    ≡ c.args.self.now.values =
    taken_back-is nat_list_cmp_total octets_exact put_back c.args.self.now.values c.join_logged.new.self c.in_ok-log.log c.in_ok-log.ensures.back in
    λ i. record { cleared = c.args.self.now.cleared; values = values i }

pub returns-then-covers_clear-clause-cleared : goal.returns-then-covers_clear-clause-cleared
returns-then-covers_clear-clause-cleared c = sym (rw c.if-covers_clear.true at c.covers_clear.ensures)

pub returns-then-covers_clear-clause-values : goal.returns-then-covers_clear-clause-values
returns-then-covers_clear-clause-values c =
    kept_agrees c.args.self.now.cleared c.args.self.now.values c.join_logged.new.self c.args.other.now.values c.in_ok-log.ensures.ok

pub returns-clause-values : goal.returns-clause-values
returns-clause-values c = joined_agrees c.args.self.now c.args.other.now c.replace.new.dest (c.replace.ensures.after ∙ c.in_ok-next.ensures)

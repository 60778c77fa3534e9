use Rattle.std.proofs.Common.{sym, subst}
use Rattle.cds_cell.specs.ModelCells.{Stands}
use Rattle.script_replay.specs.declared.replayer.Replayer.{Replayer}
use Rattle.journal_replay.specs.CellJournals.{puts_of, with_puts}
use Rattle.cds_cell.specs.CommandImages.{one_or_none}
use Rattle.journal_replay.proofs.Doing.{both_first, both_later}
use Rattle.journal_replay.proofs.FullTold.{tells_later, tells_up}
use Rattle.journal_replay.proofs.keeper.Keeper.keep_both.Goals as goal

pub returns-in_err-keep_one-clause-puts : goal.returns-in_err-keep_one-clause-puts
returns-in_err-keep_one-clause-puts c g lists s hold =
    both_first g (one_or_none c.args.first) (one_or_none c.args.second) lists c.from_residual.result c.in_err-keep_one.field-0.0 c.keep_one.new.self.disks.items
    c.from_residual.ensures.1 (c.in_err-keep_one.ensures.puts g lists s hold)

pub returns-clause-puts : goal.returns-clause-puts
returns-clause-puts c g lists s hold =
    let one = c.in_ok-keep_one.ensures.puts g lists s hold in
    let still : Stands c.keep_one.new.self.replayer.cell g = subst (λ (r : Replayer). Stands r.cell g) (sym c.keep_one.ensures.same) s in
    both_later g (one_or_none c.args.first) (one_or_none c.args.second) lists c.keep_one-2.result c.keep_one-2.new.self.disks.items one.1
    (c.keep_one-2.ensures.puts g (with_puts (puts_of g (one_or_none c.args.first) lists) lists) still one.0)

pub returns-in_err-keep_one-clause-full : goal.returns-in_err-keep_one-clause-full
returns-in_err-keep_one-clause-full c =
    tells_up (Unit {0}) c.from_residual.result c.in_err-keep_one.field-0.0 _ _ c.from_residual.ensures.1 c.in_err-keep_one.ensures.full

pub returns-clause-full : goal.returns-clause-full
returns-clause-full c =
    tells_later c.keep_one-2.result c.args.self.now.full c.keep_one.new.self.full c.keep_one-2.new.self.full c.in_ok-keep_one.ensures.full
    c.keep_one-2.ensures.full

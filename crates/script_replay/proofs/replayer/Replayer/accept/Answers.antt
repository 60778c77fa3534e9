use Rattle.std.proofs.Common.{List, Some, ap, subst, sym}
use Rattle.directory.specs.declared.update.Update.{Update}
use Rattle.directory.specs.EntryChanges.{changes}
use Rattle.cds_cell.specs.Accepting.{IsAccepting, accept_in_turn}
use Rattle.cds_cell.specs.ModelCells.{Stands}
use Rattle.script_replay.proofs.UpdateLaws.{model_up}
use Rattle.script_replay.proofs.replayer.Replayer.accept.Goals as goal

pub returns-clause-done : goal.returns-clause-done
returns-clause-done c g s =
    let cell = c.accept_all.new.self in
    let h = c.args.updates.now.house.0 in
    let d = c.args.updates.now.dir.0 in
    let us = changes c.args.updates.now.list.items in
    let w = accept_in_turn g h d us in
    let it : IsAccepting c.in_ok-done.done cell w =
    subst (λ (list : List Update). IsAccepting c.in_ok-done.done cell (accept_in_turn g h d (changes list))) c.deref.ensures.value
    (c.in_ok-done.ensures.all g s) in
    let told = c.answer_to_updates.ensures w (record { count = it.count; posted = it.posted; refused = it.refused }) in
    let up = model_up c.args.self.now.cell g h s c.requires.up in
    record {
      answer = ap Some (sym told);
      stands = subst (Stands cell) (c.accepted_updates_are_commands.ensures.cells g h d us s.reached up) it.stands;
    }

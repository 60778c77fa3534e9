use Rattle.std.proofs.Common.{◌∙◌, ap, subst, true, None, List, ℕ}
use Rattle.std.specs.Prelude.{option_copied}
use Rattle.std.specs.Result.{result_map_both}
use Rattle.cds_stamps.specs.Outcomes.{Answers}
use Rattle.resolver.specs.Readers.{Reader}
use Rattle.ns_commands.specs.Asks.{changes_in, unexport}
use Rattle.script_replay.specs.Replies.{trusted_reader}
use Rattle.script_replay.proofs.SaidLaws.{asked_said}
use Rattle.script_replay.proofs.questions.reply_to_unexport.Goals as goal

pub returns-clause-said : goal.returns-clause-said
returns-clause-said c g s =
    let a = c.args in
    let reader = c.reader_of_masters.ensures ∙ c.cells_tell_the_model.ensures a.cell.now g s None true in
    let is =
    ap (λ (r : Reader). unexport r a.name.now (option_copied a.interface) c.list.result.now) reader
    ∙ ap (λ (os : List (List ℕ)). unexport (trusted_reader g) a.name.now (option_copied a.interface) os) c.list.ensures in
    asked_said c.unexport.result c.asked.result g (unexport (trusted_reader g) a.name.now (option_copied a.interface) a.objects.now) c.asked.ensures
    (subst (Answers (result_map_both changes_in (λ e. e) c.unexport.result)) is c.unexport.ensures)

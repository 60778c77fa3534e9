use Rattle.std.proofs.Common.{◌∙◌, ap, subst, true, None, List, ℕ}
use Rattle.std.specs.Prelude.{option_copied}
use Rattle.std.specs.Result.{result_map_both}
use Rattle.cds_stamps.specs.Outcomes.{Answers}
use Rattle.cds_cell.specs.Telling.{program_reader}
use Rattle.resolver.specs.Readers.{Reader}
use Rattle.resolver.specs.WalkEnds.{place_of_walk}
use Rattle.ns_commands.specs.Asks.{Asks, changes_in, add_element}
use Rattle.script_replay.specs.Replies.{trusted_reader}
use Rattle.script_replay.proofs.SaidLaws.{asked_said, asked_up, place_up, unless_up}
use Rattle.script_replay.proofs.questions.reply_to_profadd.Goals as goal

pub returns-clause-said : goal.returns-clause-said
returns-clause-said c g s =
    let a = c.args in
    let reader = c.reader_of_masters.ensures ∙ c.cells_tell_the_model.ensures a.cell.now g s None true in
    let is =
    ap (λ (r : Reader). add_element r a.name.now (option_copied a.interface) a.member.now a.priority c.octets.result.now) reader
    ∙ ap (λ (os : List ℕ). add_element (trusted_reader g) a.name.now (option_copied a.interface) a.member.now a.priority os) c.octets.ensures.octets in
    asked_said c.add_element.result c.asked.result g (add_element (trusted_reader g) a.name.now (option_copied a.interface) a.member.now a.priority a.note.now)
    c.asked.ensures
    (subst (Answers (result_map_both changes_in (λ e. e) c.add_element.result)) is c.add_element.ensures.answer)

pub returns-clause-up : goal.returns-clause-up
returns-clause-up c =
    let a = c.args in
    let cell = a.cell.now in
    let reader = program_reader cell None true in
    let asks : Reader → Asks = λ r. add_element r a.name.now (option_copied a.interface) a.member.now a.priority c.octets.result.now in
    let is = subst (Answers (result_map_both changes_in (λ e. e) c.add_element.result)) (ap asks c.reader_of_masters.ensures) c.add_element.ensures.answer in
    asked_up cell c.add_element.result c.asked.result (asks reader) c.asked.ensures is
    (unless_up cell _ _
    (place_up cell (place_of_walk reader c.args.name.now) _ (c.asked_houses_accept.ensures.placed_up cell None true c.args.name.now)))

use Rattle.std.proofs.Common.{◌≡◌, ◌∙◌, ap, subst, true, false, None, Some}
use Rattle.std.specs.Result.{result_map_both}
use Rattle.std.proofs.lemmas.Result.{IfOk-weaker}
use Rattle.cds_stamps.specs.Outcomes.{Answers}
use Rattle.cds_cell.specs.Telling.{program_reader}
use Rattle.cds_cell.specs.Readings.{cell_reader}
use Rattle.resolver.specs.Readers.{Reader}
use Rattle.resolver.specs.WalkEnds.{place_of_walk, walk_end}
use Rattle.ns_commands.specs.Asks.{Asks, add_member, changes_in, delete_member}
use Rattle.script_answers.specs.declared.answer.Answer.{Answer}
use Rattle.script_replay.specs.Replies.{asked_of, target_read, trusted_reader, values_read}
use Rattle.script_replay.proofs.SaidLaws.{asked_said, asked_up, place_up, told_said}
use Rattle.script_replay.proofs.questions.reply_to_question.Goals as goal

pub returns-in-Read-clause-said : goal.returns-in-Read-clause-said
returns-in-Read-clause-said c g s =
    let q = c.in-Read in
    let cell = c.args.cell.now in
    let h = q.house.0 in
    let answer : Reader → Answer = λ r. asked_of g h (values_read r q.attr (walk_end r true q.name)) in
    rw c.in-Read.is
    (told_said c.read.result c.told.result g (answer (cell_reader g (Some h) q.high)) c.told.ensures
    (IfOk-weaker c.read.result (λ a. a ≡ answer (program_reader cell (Some h) q.high)) (λ a. a ≡ answer (cell_reader g (Some h) q.high))
    (λ a is. is ∙ ap answer (c.cells_tell_the_model.ensures cell g s (Some h) q.high)) (c.read.ensures g s)))

pub returns-in-Readlink-clause-said : goal.returns-in-Readlink-clause-said
returns-in-Readlink-clause-said c g s =
    let q = c.in-Readlink in
    let cell = c.args.cell.now in
    let h = q.house.0 in
    let answer : Reader → Answer = λ r. asked_of g h (target_read r (walk_end r false q.name)) in
    rw c.in-Readlink.is
    (told_said c.read_link.result c.told-in-Readlink.result g (answer (cell_reader g (Some h) q.high)) c.told-in-Readlink.ensures
    (IfOk-weaker c.read_link.result (λ a. a ≡ answer (program_reader cell (Some h) q.high)) (λ a. a ≡ answer (cell_reader g (Some h) q.high))
    (λ a is. is ∙ ap answer (c.cells_tell_the_model.ensures cell g s (Some h) q.high)) (c.read_link.ensures g s)))

pub returns-in-Groupadd-clause-said : goal.returns-in-Groupadd-clause-said
returns-in-Groupadd-clause-said c g s =
    let q = c.in-Groupadd in
    let asks : Reader → Asks = λ r. add_member r q.name q.member in
    let reader = c.reader_of_masters.ensures ∙ c.cells_tell_the_model.ensures c.args.cell.now g s None true in
    rw c.in-Groupadd.is
    (asked_said c.add_member.result c.asked.result g (asks (trusted_reader g)) c.asked.ensures
    (subst (Answers (result_map_both changes_in (λ e. e) c.add_member.result)) (ap asks reader) c.add_member.ensures))

pub returns-in-Groupadd-clause-up : goal.returns-in-Groupadd-clause-up
returns-in-Groupadd-clause-up c =
    let q = c.in-Groupadd in
    let cell = c.args.cell.now in
    let reader = program_reader cell None true in
    let asks : Reader → Asks = λ r. add_member r q.name q.member in
    let is = subst (Answers (result_map_both changes_in (λ e. e) c.add_member.result)) (ap asks c.reader_of_masters.ensures) c.add_member.ensures in
    asked_up cell c.add_member.result c.asked.result (asks reader) c.asked.ensures is
    (place_up cell (place_of_walk reader q.name) _ (c.asked_houses_accept.ensures.placed_up cell None true q.name))

pub returns-in-Groupdel-clause-said : goal.returns-in-Groupdel-clause-said
returns-in-Groupdel-clause-said c g s =
    let q = c.in-Groupdel in
    let asks : Reader → Asks = λ r. delete_member r q.name q.member in
    let reader = c.reader_of_masters-in-Groupdel.ensures ∙ c.cells_tell_the_model.ensures c.args.cell.now g s None true in
    rw c.in-Groupdel.is
    (asked_said c.delete_member.result c.asked-in-Groupdel.result g (asks (trusted_reader g)) c.asked-in-Groupdel.ensures
    (subst (Answers (result_map_both changes_in (λ e. e) c.delete_member.result)) (ap asks reader) c.delete_member.ensures))

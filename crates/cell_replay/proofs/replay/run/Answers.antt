use Rattle.std.proofs.Common.{◌≡◌}
use Rattle.cell_model.specs.Cells.{empty_cell}
use Rattle.clerk_replay.specs.Clerking.{clerk_dialogue, start}
use Rattle.inquire_replay.specs.Inquiring.{inquire_dialogue}
use Rattle.script_replay.proofs.Scripts.{is_dialogue_replay, is_replay}
use Rattle.cell_replay.specs.declared.forms.Form.TheVariants as form
use Rattle.cell_replay.proofs.JournalReplays.{is_journal_replay}
use Rattle.cell_replay.proofs.replay.run.Goals as goal

pub returns-in-Some-clause-transcript : goal.returns-in-Some-clause-transcript
returns-in-Some-clause-transcript g c is ok =
    let chosen = c.in-Some.ensures.form in
    let known : c.in-Some.form ≡ form.Run = cc (chosen, is) in
    let ended = rw (known, ok) at c.serve.ensures.ends in
    is_replay _ ended.1

pub returns-in-Some-clause-inquired : goal.returns-in-Some-clause-inquired
returns-in-Some-clause-inquired g c is ok =
    let chosen = c.in-Some.ensures.form in
    let known : c.in-Some.form ≡ form.Inquire = cc (chosen, is) in
    let ended = rw (known, ok) at c.serve.ensures.ends in
    is_dialogue_replay inquire_dialogue empty_cell _ ended.1

pub returns-in-Some-clause-clerked : goal.returns-in-Some-clause-clerked
returns-in-Some-clause-clerked g c room is ok =
    let chosen = c.in-Some.ensures.form in
    let known : c.in-Some.form ≡ form.Clerk room = cc (chosen, is) in
    let ended = rw (known, ok) at c.serve.ensures.ends in
    is_dialogue_replay clerk_dialogue (start room) _ ended.1

pub returns-in-Some-clause-journaled : goal.returns-in-Some-clause-journaled
returns-in-Some-clause-journaled g c is ok =
    let chosen = c.in-Some.ensures.form in
    let known : c.in-Some.form ≡ form.Journal = cc (chosen, is) in
    let ended = rw (known, ok) at c.serve.ensures.ends in
    is_journal_replay _ ended.1

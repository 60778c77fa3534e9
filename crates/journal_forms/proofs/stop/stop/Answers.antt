use Rattle.std.proofs.Common.{ap, sym, ◌∙◌}
use Rattle.std.specs.Prelude.{Err}
use Rattle.std.proofs.lemmas.Result.{err_from_is_err_and}
use Rattle.journal_forms.proofs.StopEnds.{ends_command, ends_counted, ends_stopping, four_words}
use Rattle.journal_forms.proofs.stop.stop.Goals as goal

pub returns-in_err-counted : goal.returns-in_err-counted
returns-in_err-counted c =
    let p = err_from_is_err_and c.from_residual-in_err-counted.result c.from_residual-in_err-counted.ensures.1 in
    let h = c.in_ok-house_word.house_word.now in
    let k = c.in_ok-call_word.call_word.now in
    let w = c.in_ok-leave_word.leave_word.now in
    let name = c.in_ok-name.name.now in
    let ws = c.needed-4.new.self.rest in
    let rest = four_words c.args.words.now.rest c.needed.new.self.rest c.needed-2.new.self.rest c.needed-3.new.self.rest ws h k w name
    c.in_ok-house_word.ensures.word c.in_ok-call_word.ensures.word c.in_ok-leave_word.ensures.word c.in_ok-name.ensures.word in
    let read = c.command-command in
    let ends = ends_counted h k w name ws read.result read.ensures.answer read.ensures.early read.ensures.no_command c.in_err-counted.field-0.0 _
    (sym c.in_err-counted.ensures) (p.1 ∙ ap Err p.2) in
    record { answer = rw rest ends.0; early = rw rest ends.1 }

pub returns-in_err-house : goal.returns-in_err-house
returns-in_err-house c =
    let p = err_from_is_err_and c.from_residual-in_err-house.result c.from_residual-in_err-house.ensures.1 in
    let h = c.in_ok-house_word.house_word.now in
    let k = c.in_ok-call_word.call_word.now in
    let w = c.in_ok-leave_word.leave_word.now in
    let name = c.in_ok-name.name.now in
    let ws = c.needed-4.new.self.rest in
    let rest = four_words c.args.words.now.rest c.needed.new.self.rest c.needed-2.new.self.rest c.needed-3.new.self.rest ws h k w name
    c.in_ok-house_word.ensures.word c.in_ok-call_word.ensures.word c.in_ok-leave_word.ensures.word c.in_ok-name.ensures.word in
    let read = c.command-command in
    let ends = ends_stopping h k w name ws read.result read.ensures.answer read.ensures.early read.ensures.no_command c.in_ok-counted.field-0
    c.in_err-house.field-0.0 c.stopping.result _ (sym c.in_ok-counted.ensures) c.in_err-house.was c.stopping.ensures.answer c.stopping.ensures.memory
    (p.1 ∙ ap Err p.2) in
    record { answer = rw rest ends.0; early = rw rest ends.1 }

pub returns-in_err-command : goal.returns-in_err-command
returns-in_err-command c =
    let p = err_from_is_err_and c.from_residual-in_err-command.result c.from_residual-in_err-command.ensures.1 in
    let h = c.in_ok-house_word.house_word.now in
    let k = c.in_ok-call_word.call_word.now in
    let w = c.in_ok-leave_word.leave_word.now in
    let name = c.in_ok-name.name.now in
    let ws = c.needed-4.new.self.rest in
    let rest = four_words c.args.words.now.rest c.needed.new.self.rest c.needed-2.new.self.rest c.needed-3.new.self.rest ws h k w name
    c.in_ok-house_word.ensures.word c.in_ok-call_word.ensures.word c.in_ok-leave_word.ensures.word c.in_ok-name.ensures.word in
    let read = c.command-command in
    let ends = ends_command h k w name ws read.result read.ensures.answer read.ensures.early read.ensures.no_command c.in_ok-counted.field-0 _
    c.in_err-command.field-0.0 _ (sym c.in_ok-counted.ensures) c.in_ok-house.ensures.answer c.in_err-command.was (p.1 ∙ ap Err p.2) in
    record { answer = rw rest ends.0; early = rw rest ends.1 }

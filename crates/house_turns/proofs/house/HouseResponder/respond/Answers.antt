use Rattle.std.proofs.Common.{List, ℕ, refl, ap, ◌∙◌}
use Rattle.std.specs.Prelude.{Some, None, Ok, Err}
use Rattle.cell_script.specs.Words.{words_of}
use Rattle.house_turns.proofs.Replies.{fault_replied, responds_by}
use Rattle.house_turns.proofs.house.HouseResponder.respond.Goals as goal

pub returns-in-Ok-None : goal.returns-in-Ok-None
returns-in-Ok-None c =
    responds_by (Ok c.without_record.result) c.args.self.now c.args.self.now c.args.number c.args.line.now (Ok None)
    (rw c.in-Ok-None.field-0-is at c.in-Ok-None.ensures.answer)
    (c.without_record.ensures ∙ ap (λ (t : List ℕ). record { text = t; body = None }) c.new.ensures.items, refl)

pub returns-in-Ok-Some : goal.returns-in-Ok-Some
returns-in-Ok-Some c =
    responds_by c.reply_to.result c.args.self.now c.reply_to.new.self c.args.number c.args.line.now (Ok (Some c.in-Ok-Some.says))
    (rw c.in-Ok-Some.field-0-is at c.in-Ok-Some.ensures.answer) c.reply_to.ensures

pub returns-in-Err-Fault : goal.returns-in-Err-Fault
returns-in-Err-Fault c =
    let h = c.args.self.now in
    responds_by c.reply_fault.result h c.reply_fault.new.self c.args.number c.args.line.now (Err c.in-Err-Fault.fault)
    (rw c.in-Err-Fault.field-0-is at c.in-Err-Fault.ensures.answer)
    (fault_replied c.reply_fault.result h c.reply_fault.new.self c.args.number (words_of c.args.line.now) c.in-Err-Fault.fault c.reply_fault.ensures.said
    c.reply_fault.ensures.after)

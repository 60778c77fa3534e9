use Rattle.house_turns.proofs.resuming.started.Goals as goal

pub returns-in-Err-Fault : goal.returns-in-Err-Fault
returns-in-Err-Fault c = λ home same.
    let fault = rw c.in-Err-Fault.field-0-is at c.in-Err-Fault.ensures.answer in
    absurd (cc (fault, same))

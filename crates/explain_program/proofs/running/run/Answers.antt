use Rattle.std.proofs.Common.{ℕ, List, subst, take}
use Rattle.std.specs.Io.KnownBytes.{Appends}
use Rattle.explain_program.proofs.RunLemmas.{ends_said, part_said, said_none}
use Rattle.explain_program.proofs.running.run.Goals as goal

pub returns-in-Ok-put_all-clause-ends : goal.returns-in-Ok-put_all-clause-ends
returns-in-Ok-put_all-clause-ends g c =
    ends_said c.args.folders.now c.in-Ok.told.status c.in-Ok.told.text.items _ _ _ c.in-Ok.ensures
    (subst (λ (t : List ℕ). Appends (g.K.Sink.written c.args.sink.now) (g.K.Sink.written c.put_all.new.sink) t) c.deref.ensures.value c.in-Ok-put_all.ensures.ok)

pub returns-in-Ok-put_all-clause-fault : goal.returns-in-Ok-put_all-clause-fault
returns-in-Ok-put_all-clause-fault g c is = absurd (said_none c.args.folders.now c.in-Ok.told.status c.in-Ok.told.text.items c.in-Ok.ensures is)

pub returns-clause-ends : goal.returns-clause-ends
returns-clause-ends g c =
    let k = c.in-Err.field-0.0 in
    part_said c.args.folders.now c.in-Ok.told.status c.in-Ok.told.text.items k _ _ c.in-Ok.ensures
    (subst (λ (t : List ℕ). Appends (g.K.Sink.written c.args.sink.now) (g.K.Sink.written c.put_all.new.sink) (take k t)) c.deref.ensures.value
    c.in-Err.ensures.err)

pub returns-clause-fault : goal.returns-clause-fault
returns-clause-fault g c is = c.in-Err.ensures.cause.failed

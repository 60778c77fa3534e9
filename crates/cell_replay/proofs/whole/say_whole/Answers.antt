use Rattle.std.proofs.Common.{arith, ap, length}
use Rattle.cell_replay.specs.PrivateWholes.{task_of}
use Rattle.cell_replay.proofs.WholeTurns.{has_few, has_many, not_true, nothing_said, read_from_none, saying_ends, too_long_said, whole_unread}
use Rattle.cell_replay.proofs.whole.say_whole.Goals as goal

pub returns-in-Ok-true-clause-ends : goal.returns-in-Ok-true-clause-ends
returns-in-Ok-true-clause-ends g c =
    let read = c.in-Ok-true.ensures in
    let ended = c.in-Ok-true.field-0-test in
    let none = ap length c.new-held.ensures.items in
    let is_said = rw c.deref.ensures.value at c.say.ensures in
    saying_ends (task_of c.args.whole) _ _ _ c.read_whole.new.held.items (read_from_none _ _ _ _ c.new-held.ensures.items read.part.reads)
    (omega (arith, read.part.within, none)) c.say.result is_said (has_few _ _ _ ended read.part.short (omega (arith, none))) (read.part.end ended)
    _ _ _ _ _ _ read.calm c.end_saying.ensures

pub returns-in-Ok-false-clause-ends : goal.returns-in-Ok-false-clause-ends
returns-in-Ok-false-clause-ends g c =
    let read = c.in-Ok-false.ensures in
    let none = ap length c.new-held.ensures.items in
    too_long_said (task_of c.args.whole) _ _ _ c.read_whole.new.held.items (read_from_none _ _ _ _ c.new-held.ensures.items read.part.reads)
    (omega (arith, read.part.within, none)) c.too_long.result c.too_long.ensures
    (has_many _ _ _ (not_true _ c.in-Ok-false.field-0-test) read.part.short (omega (arith, none))) _ _ _ _ _ _ read.calm
    c.end_saying-in-Ok-false.ensures

pub returns-in-Err-Fault-clause-ends : goal.returns-in-Err-Fault-clause-ends
returns-in-Err-Fault-clause-ends g c =
    let stops = rw c.in-Err-Fault.field-0-is at c.in-Err-Fault.ensures.err in
    whole_unread (task_of c.args.whole) _ _ _ stops.0.read stops.0.taken (omega (arith, stops.0.few)) (omega (arith, stops.0.few)) _ _ _ stops.1

pub returns-clause-ends : goal.returns-clause-ends
returns-clause-ends g c =
    let stops = rw c.in-Err-OutOfMemory.field-0-is at c.in-Err-OutOfMemory.ensures.err in
    nothing_said (task_of c.args.whole) _ _ _ stops.0.read stops.0.taken (omega (arith, stops.0.few)) _ _ _ stops.1

pub returns-in-Ok-true-clause-few : goal.returns-in-Ok-true-clause-few
returns-in-Ok-true-clause-few g c =
    let part = c.in-Ok-true.ensures.part in
    (c.read_whole.new.held.items, read_from_none _ _ _ _ c.new-held.ensures.items part.reads, omega (arith, part.within, ap length c.new-held.ensures.items))

pub returns-in-Ok-false-clause-few : goal.returns-in-Ok-false-clause-few
returns-in-Ok-false-clause-few g c =
    let part = c.in-Ok-false.ensures.part in
    (c.read_whole.new.held.items, read_from_none _ _ _ _ c.new-held.ensures.items part.reads, omega (arith, part.within, ap length c.new-held.ensures.items))

pub returns-in-Err-Fault-clause-few : goal.returns-in-Err-Fault-clause-few
returns-in-Err-Fault-clause-few g c =
    let stops = rw c.in-Err-Fault.field-0-is at c.in-Err-Fault.ensures.err in
    (stops.0.read, stops.0.taken, omega (arith, stops.0.few))

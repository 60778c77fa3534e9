use Rattle.std.proofs.Common.{true}
use Rattle.house_turns.proofs.RunningLines.{begins_skulk, endless_read, one_read, other_read}
use Rattle.house_turns.proofs.running.read_skulks.Goals as goal

pub returns-in_default : goal.returns-in_default
returns-in_default c =
    endless_read c.args.text.now c.lines.rest.now c.lines.skulks.items c.lines.invariant (begins_skulk c.lines.rest.now true c.lines-test.ensures.value)
    c.in_default.ensures

pub returns-in_default-2 : goal.returns-in_default-2
returns-in_default-2 c =
    other_read c.args.text.now c.lines.rest.now c.in-Some.line.now c.in-Some.behind.now c.lines.skulks.items c.lines.invariant
    (begins_skulk c.lines.rest.now true c.lines-test.ensures.value) c.in-Some.ensures.0 c.in-Some.ensures.1
    (rw c.in_default-2.is at c.in_ok-skulk.ensures.none)

pub lines-preserved : goal.lines-preserved
lines-preserved c =
    let read = rw c.in-Some-2.is at c.in_ok-skulk.ensures.some in
    one_read c.args.text.now c.lines.rest.now c.in-Some.line.now c.in-Some.behind.now c.lines.skulks.items c.push.new.self.items c.in-Some-2.skulk
    c.lines.invariant (begins_skulk c.lines.rest.now true c.lines-test.ensures.value) c.in-Some.ensures.0 c.in-Some.ensures.1 read.0 read.1
    c.in_ok-push.ensures.items

use Rattle.std.proofs.Common.{refl}
use Rattle.house_turns.proofs.Resumptions.{not_first, segment_reads, start_read}
use Rattle.house_turns.proofs.resuming.read_first.Goals as goal

pub returns-in-Some : goal.returns-in-Some
returns-in-Some c =
    start_read c.args.entry c.args.text.now c.in-Some.last.now (record { skulks = c.new.result; rest = c.in-Some.last }) c.in-Some.ensures
    c.new.ensures.items refl

pub returns-in-Some-behind : goal.returns-in-Some-behind
returns-in-Some-behind c =
    segment_reads c.args.entry c.args.text.now c.in-Some-behind.rest.now c.read_skulks.result c.in_default.ensures
    (rw (c.deref.ensures.value, c.in_ok-line.ensures) at c.in-Some-behind.ensures) c.read_skulks.ensures

pub returns : goal.returns
returns c =
    not_first c.args.entry c.args.text.now c.in_default.ensures (rw (c.deref.ensures.value, c.in_ok-line.ensures) at c.in-None.ensures)

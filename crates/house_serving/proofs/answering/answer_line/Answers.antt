use Rattle.std.proofs.Common.{ℕ, List, subst, take}
use Rattle.std.specs.Io.KnownBytes.{Appends}
use Rattle.house_serving.specs.Replies.{said_in}
use Rattle.house_serving.proofs.Lines.{cut_off, line_answered, line_kept_open, line_unmade, line_written}
use Rattle.house_serving.proofs.answering.answer_line.Goals as goal

pub returns-then-line-gt-MOST_LINE : goal.returns-then-line-gt-MOST_LINE
returns-then-line-gt-MOST_LINE g c before bodies at =
    cut_off g.R.Responder.responds g.D.Disk before bodies g.met.D.Disk.only_now c.args.number c.args.line.now c.args.house.now c.args.segment.now at
    _ _ _ _ c.stop_at.result c.if-line-gt-MOST_LINE.true c.stop_at.ensures

pub returns-in_default : goal.returns-in_default
returns-in_default g c before bodies at =
    line_unmade g.R.Responder.responds g.D.Disk before bodies g.met.D.Disk.only_now c.args.number c.args.line.now c.args.house.now c.args.segment.now at
    c.respond.new.self _ _

pub returns-in-Err : goal.returns-in-Err
returns-in-Err g c before bodies at =
    line_kept_open g.R.Responder.responds g.D.Disk before bodies g.met.D.Disk.only_now c.args.number c.args.line.now c.args.house.now c.args.segment.now at
    c.respond.new.self c.keep.new.segment (said_in c.in-Ok.reply) c.in-Err.ending _ _ c.in-Ok.ensures (c.in-Err.ensures before bodies at)

pub returns-in-Ok-put_all : goal.returns-in-Ok-put_all
returns-in-Ok-put_all g c before bodies at =
    line_answered g.R.Responder.responds g.D.Disk before bodies g.met.D.Disk.only_now c.args.number c.args.line.now c.args.house.now c.args.segment.now at
    c.respond.new.self c.keep.new.segment (said_in c.in-Ok.reply) c.in-Ok.ensures (c.in_default-keep.ensures before bodies at) _ _ _ _
    (subst (λ (t : List ℕ). Appends (g.K.Sink.written c.args.sink.now) (g.K.Sink.written c.put_all.new.sink) t) c.deref.ensures.value c.in-Ok-put_all.ensures.ok)
    c.in-Ok-put_all.ensures.cause.answered

pub returns : goal.returns
returns g c before bodies at =
    let k = c.in-Err-put_all.field-0.0 in
    line_written g.R.Responder.responds g.D.Disk before bodies g.met.D.Disk.only_now c.args.number c.args.line.now c.args.house.now c.args.segment.now at
    c.respond.new.self c.keep.new.segment (said_in c.in-Ok.reply) c.in-Ok.ensures (c.in_default-keep.ensures before bodies at) _ _ _ _ k
    (subst (λ (t : List ℕ). Appends (g.K.Sink.written c.args.sink.now) (g.K.Sink.written c.put_all.new.sink) (take k t)) c.deref.ensures.value
    c.in-Err-put_all.ensures.err)
    c.in-Err-put_all.ensures.cause.failed

use Rattle.std.proofs.Common.{inr, refl, ◌∙◌, arith}
use Rattle.line_forms.proofs.Turns.{unread_lines, first_line, counts_on, write_fails, turned, line_goes_on, line_stops, line_fills, line_without_memory, input_ends, ends_at_fault}
use Rattle.line_forms.proofs.LinesLeft.{input_ends_so, ends_at_fault_so, fills_so, flushed_so, goes_on_so, memory_so, none_so, nothing_or_ready, stops_so}
use Rattle.line_forms.proofs.LinesLeft.{unread_left, write_fails_so}
use Rattle.reply_buffer.specs.declared.replies.LineEnd.{LineEnd}
use Rattle.reply_buffer.specs.declared.replies.LineEnd.TheVariants as end
use Rattle.line_forms.proofs.Holding.{fault_holds, finish_holds, stop_holds}
use Rattle.line_forms.proofs.serving.serve_form.Goals as goal

pub returns-in_default-clause-ends : goal.returns-in_default-clause-ends
returns-in_default-clause-ends g c state at = unread_lines g.F.LineForm.rule state _ _ _ _

pub returns-in_default-clause-leaves : goal.returns-in_default-clause-leaves
returns-in_default-clause-leaves g c state at =
    unread_left g.F.LineForm.rule (g.F.LineForm.is_kept c.args.form.now) (g.F.LineForm.is_broken c.args.form.now) state _ _ _ _
    (g.met.F.LineForm.keeps c.args.form.now state at)

pub lines-init : goal.lines-init
lines-init g c = record {
  between = λ state at. record {
    at = state;
    stands = at;
    reached = first_line g.F.LineForm.rule state _ _ _ _ _ c.in-Ok.ensures.empty c.new-waiting.ensures c.in-Ok.ensures.number;
    unbroken = c.in-Ok.ensures.fault;
    calm = refl;
    quiet = refl;
  };
  so = λ state at. (state, at, none_so g.F.LineForm.rule state _ _ _ _ _ c.in-Ok.ensures.empty c.new-waiting.ensures c.in-Ok.ensures.number);
  unbroken = c.in-Ok.ensures.fault;
  counted = omega (arith, c.requires.start);
  holds = λ state at held. held;
}

pub returns-in_default-flush_before-clause-ends : goal.returns-in_default-flush_before-clause-ends
returns-in_default-flush_before-clause-ends g c state at =
    let failed = c.in_default-flush_before.ensures in
    write_fails g.F.LineForm.rule state _ _ _ _ _ _ _ _ _ _ _ (c.lines.invariant.between state at) _ c.in_default-flush_before.field-0.0 _ failed.err failed.cause.failed

pub lines-preserved : goal.lines-preserved
lines-preserved g c =
    let moved = rw (c.in-Ok-Some.is, c.in-Ok-Some.field-0-is) at c.next.follows.holds-at-none in
    let next = moved.next c.lines.invariant.unbroken in
    record {
      between = λ state at.
          let b = c.lines.invariant.between state at in
          let way = c.in-Ok-flush_before.ensures in
          let t = turned g.F.LineForm.rule state _ _ _ _ _ _ _ _ _ _ _ b _ _ _ way.ok c.has_line-ready.ensures in
          let moved = rw (c.in-Ok-Some.is, c.in-Ok-Some.field-0-is) at c.next.follows.holds-at-none in
          line_goes_on g.F.LineForm.rule g.S.Source.left g.S.Source.faults c.lines.source c.next.new.source state _ _ _ _ _ _ _ _ _ t b.unbroken b.calm _ _ moved _ _ _
          (c.in-GoesOn.ensures.reply b.at b.stands) (way.cause.answered ∙ b.quiet);
      so = λ state at.
          let so = c.lines.invariant.so state at in
          let flushed = flushed_so g.F.LineForm.rule state _ _ _ _ _ _ _ so.0 so.2 _ _ _ c.in-Ok-flush_before.ensures.ok in
          let moved = rw (c.in-Ok-Some.is, c.in-Ok-Some.field-0-is) at c.next.follows.holds-at-none in
          goes_on_so g.F.LineForm.rule g.S.Source.left g.S.Source.faults c.lines.source c.next.new.source state _ _ _ 0 0 _ _ _ so.0 flushed c.lines.invariant.unbroken _ _ moved
          _ (g.F.LineForm.is_at c.answer.new.self) (c.in-GoesOn.ensures.reply so.0 so.1);
      unbroken = next.fault;
      counted = counts_on _ _ _ _ _ _ _ next c.answer.ensures.counted;
      holds = λ state at held.
          let so = c.lines.invariant.so state at in
          c.in-GoesOn.ensures.holds so.0 so.1 (c.lines.invariant.holds state at held);
    }

pub returns-in-Stops-clause-ends : goal.returns-in-Stops-clause-ends
returns-in-Stops-clause-ends g c state at =
    let b = c.lines.invariant.between state at in
    let way = c.in-Ok-flush_before.ensures in
    let t = turned g.F.LineForm.rule state _ _ _ _ _ _ _ _ _ _ _ b _ _ _ way.ok c.has_line-ready.ensures in
    let moved = rw (c.in-Ok-Some.is, c.in-Ok-Some.field-0-is) at c.next.follows.holds-at-none in
    line_stops g.F.LineForm.rule g.S.Source.left g.S.Source.faults c.lines.source c.next.new.source state _ _ _ _ _ _ _ _ _ t b.unbroken b.calm _ _ moved _ _ _ _ _
    (way.cause.answered ∙ b.quiet) _ (c.in-Stops.ensures.reply b.at b.stands) c.finish.ensures

pub returns-in-NoMemory-clause-ends : goal.returns-in-NoMemory-clause-ends
returns-in-NoMemory-clause-ends g c state at =
    let b = c.lines.invariant.between state at in
    let way = c.in-Ok-flush_before.ensures in
    let t = turned g.F.LineForm.rule state _ _ _ _ _ _ _ _ _ _ _ b _ _ _ way.ok c.has_line-ready.ensures in
    let moved = rw (c.in-Ok-Some.is, c.in-Ok-Some.field-0-is) at c.next.follows.holds-at-none in
    line_without_memory g.F.LineForm.rule g.S.Source.left g.S.Source.faults c.lines.source c.next.new.source state _ _ _ _ _ _ _ _ _ t b.unbroken b.calm _ _ moved _ _ _
    _ _ (way.cause.answered ∙ b.quiet) (c.in-NoMemory.ensures.reply b.at b.stands) c.finish-in-NoMemory.ensures

pub returns-in-Full-clause-ends : goal.returns-in-Full-clause-ends
returns-in-Full-clause-ends g c state at =
    let b = c.lines.invariant.between state at in
    let way = c.in-Ok-flush_before.ensures in
    let t = turned g.F.LineForm.rule state _ _ _ _ _ _ _ _ _ _ _ b _ _ _ way.ok c.has_line-ready.ensures in
    let moved = rw (c.in-Ok-Some.is, c.in-Ok-Some.field-0-is) at c.next.follows.holds-at-none in
    line_fills g.F.LineForm.rule g.S.Source.left g.S.Source.faults c.lines.source c.next.new.source state _ _ _ _ _ _ _ _ _ t b.unbroken b.calm _ _ moved _ _ _ _ _
    (way.cause.answered ∙ b.quiet) _ (c.in-Full.ensures.reply b.at b.stands) c.finish-in-Full.ensures

pub returns-in-Ok-None-clause-ends : goal.returns-in-Ok-None-clause-ends
returns-in-Ok-None-clause-ends g c state at =
    let b = c.lines.invariant.between state at in
    let way = c.in-Ok-flush_before.ensures in
    let t = turned g.F.LineForm.rule state _ _ _ _ _ _ _ _ _ _ _ b _ _ _ way.ok c.has_line-ready.ensures in
    let moved = rw (c.in-Ok-None.is, c.in-Ok-None.field-0-is) at c.next.follows.holds-at-none in
    input_ends g.F.LineForm.rule g.S.Source.left g.S.Source.faults c.lines.source c.next.new.source state _ _ _ _ _ _ _ _ _ t b.unbroken b.calm _ _ _ _
    (way.cause.answered ∙ b.quiet) moved (c.stop_at_end.ensures b.at b.stands)

pub returns-in-Err-clause-ends : goal.returns-in-Err-clause-ends
returns-in-Err-clause-ends g c state at =
    let b = c.lines.invariant.between state at in
    let way = c.in-Ok-flush_before.ensures in
    let t = turned g.F.LineForm.rule state _ _ _ _ _ _ _ _ _ _ _ b _ _ _ way.ok c.has_line-ready.ensures in
    let moved = rw (c.in-Err.is) at c.next.follows.holds-at-none in
    ends_at_fault g.F.LineForm.rule g.S.Source.left g.S.Source.faults c.lines.source c.next.new.source state _ _ _ _ _ _ _ _ _ t b.unbroken b.calm g.K.Sink.written
    g.K.Sink.faults _ _ _ _ refl (way.cause.answered ∙ b.quiet) moved c.stop_at.ensures.read c.stop_at.ensures.other

-- ---- what is left

pub returns-in_default-flush_before-clause-leaves : goal.returns-in_default-flush_before-clause-leaves
returns-in_default-flush_before-clause-leaves g c state at =
    let so = c.lines.invariant.so state at in
    write_fails_so g.F.LineForm.rule _ _ state _ _ _ _ _ _ _ so.0 so.2 _ _ _ _ _ c.in_default-flush_before.field-0.0 c.in_default-flush_before.ensures.err.1 (g.met.F.LineForm.keeps _ so.0 so.1)

pub returns-in-Stops-clause-leaves : goal.returns-in-Stops-clause-leaves
returns-in-Stops-clause-leaves g c state at =
    let so = c.lines.invariant.so state at in
    let flushed = flushed_so g.F.LineForm.rule state _ _ _ _ _ _ _ so.0 so.2 _ _ _ c.in-Ok-flush_before.ensures.ok in
    let moved = rw (c.in-Ok-Some.is, c.in-Ok-Some.field-0-is) at c.next.follows.holds-at-none in
    stops_so g.F.LineForm.rule g.S.Source.left g.S.Source.faults c.lines.source c.next.new.source state _ _ _ _ _ _ _ _ so.0 flushed c.lines.invariant.unbroken _ _ moved _
    (g.F.LineForm.is_kept c.answer.new.self) (g.F.LineForm.is_broken c.answer.new.self) _ _ _ _ (g.F.LineForm.is_at c.answer.new.self) (c.in-Stops.ensures.reply so.0 so.1) c.finish.ensures
    (c.in-Stops.ensures.kept so.0 so.1 refl)

pub returns-in-NoMemory-clause-leaves : goal.returns-in-NoMemory-clause-leaves
returns-in-NoMemory-clause-leaves g c state at =
    let so = c.lines.invariant.so state at in
    let flushed = flushed_so g.F.LineForm.rule state _ _ _ _ _ _ _ so.0 so.2 _ _ _ c.in-Ok-flush_before.ensures.ok in
    let moved = rw (c.in-Ok-Some.is, c.in-Ok-Some.field-0-is) at c.next.follows.holds-at-none in
    memory_so g.F.LineForm.rule g.S.Source.left g.S.Source.faults c.lines.source c.next.new.source state _ _ _ _ _ _ _ _ so.0 flushed c.lines.invariant.unbroken _ _ moved _
    (g.F.LineForm.is_kept c.answer.new.self) (g.F.LineForm.is_broken c.answer.new.self) _ _ _ _ (c.in-NoMemory.ensures.reply so.0 so.1) c.finish-in-NoMemory.ensures
    (c.in-NoMemory.ensures.broken so.0 so.1 tt)

pub returns-in-Full-clause-leaves : goal.returns-in-Full-clause-leaves
returns-in-Full-clause-leaves g c state at =
    let so = c.lines.invariant.so state at in
    let flushed = flushed_so g.F.LineForm.rule state _ _ _ _ _ _ _ so.0 so.2 _ _ _ c.in-Ok-flush_before.ensures.ok in
    let moved = rw (c.in-Ok-Some.is, c.in-Ok-Some.field-0-is) at c.next.follows.holds-at-none in
    fills_so g.F.LineForm.rule g.S.Source.left g.S.Source.faults c.lines.source c.next.new.source state _ _ _ _ _ _ _ _ so.0 flushed c.lines.invariant.unbroken _ _ moved _
    (g.F.LineForm.is_kept c.answer.new.self) (g.F.LineForm.is_broken c.answer.new.self) _ _ _ _ (g.F.LineForm.is_at c.answer.new.self) (c.in-Full.ensures.reply so.0 so.1) c.finish-in-Full.ensures
    (c.in-Full.ensures.broken so.0 so.1 tt)

pub returns-in-Ok-None-clause-leaves : goal.returns-in-Ok-None-clause-leaves
returns-in-Ok-None-clause-leaves g c state at =
    let so = c.lines.invariant.so state at in
    let flushed = flushed_so g.F.LineForm.rule state _ _ _ _ _ _ _ so.0 so.2 _ _ _ c.in-Ok-flush_before.ensures.ok in
    let moved = rw (c.in-Ok-None.is, c.in-Ok-None.field-0-is) at c.next.follows.holds-at-none in
    input_ends_so g.F.LineForm.rule g.S.Source.left g.S.Source.faults c.lines.source c.next.new.source state _ _ _ _ _ _ _ _ so.0 flushed c.lines.invariant.unbroken moved
    _ _ _ _ _ _ _ (c.stop_at_end.ensures so.0 so.1) (g.met.F.LineForm.keeps _ so.0 so.1)

pub returns-in-Err-clause-leaves : goal.returns-in-Err-clause-leaves
returns-in-Err-clause-leaves g c state at =
    let so = c.lines.invariant.so state at in
    let way = c.in-Ok-flush_before.ensures in
    let flushed = flushed_so g.F.LineForm.rule state _ _ _ _ _ _ _ so.0 so.2 _ _ _ way.ok in
    let moved = rw (c.in-Err.is) at c.next.follows.holds-at-none in
    ends_at_fault_so g.F.LineForm.rule g.S.Source.left g.S.Source.faults c.lines.source c.next.new.source state _ _ _ _ _ _ _ _ so.0 flushed c.lines.invariant.unbroken
    g.K.Sink.written g.K.Sink.faults _ _ _ _ _ _ _ refl moved (nothing_or_ready _ _ _ _ c.lines.lines way.ok c.has_line-ready.ensures) c.stop_at.ensures.read
    c.stop_at.ensures.other (g.met.F.LineForm.keeps _ so.0 so.1)

-- ---- what holds of the form itself

pub returns-in_default-flush_before-clause-holds : goal.returns-in_default-flush_before-clause-holds
returns-in_default-flush_before-clause-holds g c state at held = (end.GoesOn, c.lines.invariant.holds state at held)

pub returns-in-Stops-clause-holds : goal.returns-in-Stops-clause-holds
returns-in-Stops-clause-holds g c state at held =
    let so = c.lines.invariant.so state at in
    let after = c.in-Stops.ensures.holds so.0 so.1 (c.lines.invariant.holds state at held) in
    finish_holds (λ (e : LineEnd). g.F.LineForm.holds e c.answer.new.self) end.Stops _ _ _ _ _ (inr after) after c.finish.ensures

pub returns-in-NoMemory-clause-holds : goal.returns-in-NoMemory-clause-holds
returns-in-NoMemory-clause-holds g c state at held =
    let so = c.lines.invariant.so state at in
    let after = c.in-NoMemory.ensures.holds so.0 so.1 (c.lines.invariant.holds state at held) in
    finish_holds (λ (e : LineEnd). g.F.LineForm.holds e c.answer.new.self) end.NoMemory _ _ _ _ _ (inr after) after c.finish-in-NoMemory.ensures

pub returns-in-Full-clause-holds : goal.returns-in-Full-clause-holds
returns-in-Full-clause-holds g c state at held =
    let so = c.lines.invariant.so state at in
    let after = c.in-Full.ensures.holds so.0 so.1 (c.lines.invariant.holds state at held) in
    finish_holds (λ (e : LineEnd). g.F.LineForm.holds e c.answer.new.self) end.Full _ _ _ _ _ after after c.finish-in-Full.ensures

pub returns-in-Ok-None-clause-holds : goal.returns-in-Ok-None-clause-holds
returns-in-Ok-None-clause-holds g c state at held =
    let so = c.lines.invariant.so state at in
    let now = c.lines.invariant.holds state at held in
    stop_holds (λ (e : LineEnd). g.F.LineForm.holds e c.lines.form) _ _ _ _ _ _ now now (c.stop_at_end.ensures so.0 so.1)

pub returns-in-Err-clause-holds : goal.returns-in-Err-clause-holds
returns-in-Err-clause-holds g c state at held =
    fault_holds (λ (e : LineEnd). g.F.LineForm.holds e c.lines.form) _ _ _ _ _ _ (c.lines.invariant.holds state at held) c.stop_at.ensures.read
    c.stop_at.ensures.other

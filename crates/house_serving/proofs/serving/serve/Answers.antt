use Rattle.std.proofs.Common.{◌<◌, ◌++◌, ℕ, inl, inr, refl, subst}
use Rattle.house_serving.specs.Turns.{bodies_of}
use Rattle.house_serving.proofs.Runs.{begins_between, goes_on, grown, input_ends, line_ends, stops_at}
use Rattle.house_serving.proofs.serving.serve.Goals as goal

pub lines-init : goal.lines-init
lines-init g c = record {
  between = λ before bodies at.
      begins_between g.R.Responder.responds g.D.Disk before bodies g.met.D.Disk.only_now c.args.house.now c.args.segment.now c.args.lines.now _ _ _ _ at;
  unbroken = c.requires.unbroken;
  small = inl refl;
}

pub answer_line-requires : goal.answer_line-requires
answer_line-requires g c =
    let r = c.requires.ready in
    let b = c.lines.invariant.between r.0 r.1 r.2 in
    record { ready = (r.0, r.1 ++ bodies_of b.turns, b.synced) }

pub lines-preserved : goal.lines-preserved
lines-preserved g c =
    let moved = rw (c.in-Ok-Some.is, c.in-Ok-Some.field-0-is) at c.next.follows.holds-at-none in
    let next = moved.next c.lines.invariant.unbroken in
    let calm = moved.cause c.lines.invariant.unbroken in
    record {
      between = λ before bodies at.
          let moved = rw (c.in-Ok-Some.is, c.in-Ok-Some.field-0-is) at c.next.follows.holds-at-none in
          let b = c.lines.invariant.between before bodies at in
          goes_on g.R.Responder.responds g.D.Disk before bodies g.met.D.Disk.only_now _ _ _ _ _ _ _ _ _ _ _ _ _ _ b _ _ _ _ _
          (moved.next c.lines.invariant.unbroken) (moved.cause c.lines.invariant.unbroken) _ _ _ _ _
          (c.answer_line.ensures before (bodies ++ bodies_of b.turns) b.synced) c.in-Ok.is;
      unbroken = next.fault;
      small = inr (subst (λ (n : ℕ). n < c.args.most) c.size.ensures c.if-size-most.false);
    }

pub returns-in-Err-answer_line-clause-served : goal.returns-in-Err-answer_line-clause-served
returns-in-Err-answer_line-clause-served g c before bodies at =
    let moved = rw (c.in-Ok-Some.is, c.in-Ok-Some.field-0-is) at c.next.follows.holds-at-none in
    let b = c.lines.invariant.between before bodies at in
    line_ends g.R.Responder.responds g.D.Disk before bodies g.met.D.Disk.only_now _ _ _ _ _ _ _ _ _ _ _ _ _ _ b _ _ _ _ _
    (moved.next c.lines.invariant.unbroken) (moved.cause c.lines.invariant.unbroken) _ _ _ _ _
    (c.answer_line.ensures before (bodies ++ bodies_of b.turns) b.synced) c.in-Err-answer_line.ending c.in-Err-answer_line.is

pub returns-then-size-most-clause-served : goal.returns-then-size-most-clause-served
returns-then-size-most-clause-served g c before bodies at =
    let moved = rw (c.in-Ok-Some.is, c.in-Ok-Some.field-0-is) at c.next.follows.holds-at-none in
    let next = moved.next c.lines.invariant.unbroken in
    let b = c.lines.invariant.between before bodies at in
    grown g.R.Responder.responds g.D.Disk before bodies g.met.D.Disk.only_now _ _ _ _ _ _ _ _ _ _ _ _ _ _
    (goes_on g.R.Responder.responds g.D.Disk before bodies g.met.D.Disk.only_now _ _ _ _ _ _ _ _ _ _ _ _ _ _ b _ _ _ _ _
    next (moved.cause c.lines.invariant.unbroken) _ _ _ _ _
    (c.answer_line.ensures before (bodies ++ bodies_of b.turns) b.synced) c.in-Ok.is)
    next.fault

pub returns-in-Err-clause-served : goal.returns-in-Err-clause-served
returns-in-Err-clause-served g c before bodies at =
    let moved = rw (c.in-Err.is) at c.next.follows.holds-at-none in
    let b = c.lines.invariant.between before bodies at in
    stops_at g.R.Responder.responds g.D.Disk before bodies g.met.D.Disk.only_now _ _ _ _ _ _ _ _ _ _ _ _ _ _ b _ _ _ c.in-Err.fault
    (moved.next c.lines.invariant.unbroken) _ _ c.stop_at.result c.stop_at.ensures (moved.cause c.lines.invariant.unbroken)

pub returns-in-Ok-None-clause-served : goal.returns-in-Ok-None-clause-served
returns-in-Ok-None-clause-served g c before bodies at =
    let moved = rw (c.in-Ok-None.is, c.in-Ok-None.field-0-is) at c.next.follows.holds-at-none in
    let b = c.lines.invariant.between before bodies at in
    input_ends g.R.Responder.responds g.D.Disk before bodies g.met.D.Disk.only_now _ _ _ _ _ _ _ _ _ _ _ _ _ _ b _ _ _
    (moved.next c.lines.invariant.unbroken) (moved.cause c.lines.invariant.unbroken)

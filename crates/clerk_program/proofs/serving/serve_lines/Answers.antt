use Rattle.std.proofs.Common.{refl}
use Rattle.clerk_program.proofs.Runs.{begins_between, ends_at_fault, goes_between, input_ends, line_ends}
use Rattle.clerk_program.proofs.serving.serve_lines.Goals as goal

pub lines-init : goal.lines-init
lines-init g c = begins_between c.args.clerk.now c.args.lines.now _ _ _ _ c.requires

pub lines-preserved : goal.lines-preserved
lines-preserved g c =
    let b = c.lines.invariant in
    let moved = rw (c.in-Ok-Some.is, c.in-Ok-Some.field-0-is) at c.next.follows.holds-at-none in
    goes_between _ _ _ _ _ b _ _ _ _ _ (moved.next b.unbroken) (moved.cause b.unbroken) _ _ (rw c.in-Ok.is at c.take_line.ensures)

pub returns-in-Err-take_line : goal.returns-in-Err-take_line
returns-in-Err-take_line g c =
    let b = c.lines.invariant in
    let moved = rw (c.in-Ok-Some.is, c.in-Ok-Some.field-0-is) at c.next.follows.holds-at-none in
    line_ends _ _ _ _ _ b _ _ _ _ _ (moved.next b.unbroken) moved.few (moved.cause b.unbroken) _ _ (rw c.in-Err-take_line.is at c.take_line.ensures)

pub returns-in-Ok-None : goal.returns-in-Ok-None
returns-in-Ok-None g c =
    let b = c.lines.invariant in
    let moved = rw (c.in-Ok-None.is, c.in-Ok-None.field-0-is) at c.next.follows.holds-at-none in
    input_ends _ _ _ _ _ b _ _ _ _ (moved.next b.unbroken) (moved.cause b.unbroken) refl refl

pub returns-in-Err : goal.returns-in-Err
returns-in-Err g c =
    let b = c.lines.invariant in
    let moved = rw (c.in-Err.is) at c.next.follows.holds-at-none in
    rw (c.status_of.ensures) (ends_at_fault _ _ _ _ _ b _ _ _ _ _ (moved.next b.unbroken) (moved.cause b.unbroken) refl refl)

use Rattle.std.proofs.Common.{Bor, List, ℕ}
use Rattle.std.proofs.lemmas.Result.{err_from_is_err_and}
use Rattle.std.specs.Option.{option_map}
use Rattle.cds_stamps.specs.Octets.{octets_cmp}
use Rattle.record_fields.specs.LayoutReading.{read}
use Rattle.record_fields.specs.Fields.{value}
use Rattle.record_fields.specs.ListLayouts.{mark, map_of}
use Rattle.record_fields.proofs.MapLoops.{begins, goes_on, ends, is_done}
use Rattle.record_fields.proofs.fields.Reader.marks.Goals as goal

pub loop-init : goal.loop-init
loop-init c = rw (c.reserve.ensures, c.new-marks.ensures) (begins value (mark c.args.above.now c.args.cleared.now) c.args.count c.args.self.now)

pub returns-in_err-own : goal.returns-in_err-own
returns-in_err-own c =
    let p = err_from_is_err_and c.from_residual.result c.from_residual.ensures.1 in
    rw (p.1, p.2) (ends value (mark c.args.above.now c.args.cleared.now) (λ x. x)
    (λ (x : Bor (List ℕ)). x.now) c.in_err-own.field-0.0 c.loop.marks c.add_mark.new.marks c.args.count c.loop.counter
    (option_map (λ b. b.now) c.loop.before) c.loop.self c.add_mark.new.self c.add_mark.new.self c.args.self.now c.loop-test.true c.in_err-own.ensures
    c.loop.invariant)

pub loop-preserved : goal.loop-preserved
loop-preserved c =
    goes_on value (mark c.args.above.now c.args.cleared.now) (λ (x : Bor (List ℕ)). x.now) c.in_ok-own.own c.loop.marks c.add_mark.new.marks c.args.count c.loop.counter
    (option_map (λ b. b.now) c.loop.before) c.loop.self c.add_mark.new.self
    (read (map_of {R = octets_cmp} value (mark c.args.above.now c.args.cleared.now) c.args.count) c.args.self.now) c.loop-test.true c.in_ok-own.ensures c.loop.invariant

pub returns : goal.returns
returns c =
    is_done value (mark c.args.above.now c.args.cleared.now) c.loop.marks c.args.count c.loop.counter (option_map (λ b. b.now) c.loop.before) c.loop.self
    (read (map_of {R = octets_cmp} value (mark c.args.above.now c.args.cleared.now) c.args.count) c.args.self.now) c.loop-test.false c.loop.invariant

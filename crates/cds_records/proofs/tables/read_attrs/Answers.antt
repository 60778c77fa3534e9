use Rattle.std.proofs.Common.{Bor, List, ℕ}
use Rattle.std.proofs.lemmas.Result.{err_from_is_err_and}
use Rattle.std.specs.Option.{option_map}
use Rattle.cds_stamps.specs.Octets.{octets_cmp}
use Rattle.record_fields.specs.LayoutReading.{read}
use Rattle.record_fields.specs.Fields.{attr_name}
use Rattle.record_fields.specs.ListLayouts.{cell, map_of}
use Rattle.record_fields.proofs.MapLoops.{begins, goes_on, ends, is_done}
use Rattle.cds_records.proofs.tables.read_attrs.Goals as goal

pub loop-init : goal.loop-init
loop-init c = rw c.new-attrs.ensures (begins attr_name (cell c.args.above.now) c.args.count c.args.reader.now)

pub returns-in_err-own : goal.returns-in_err-own
returns-in_err-own c =
    let p = err_from_is_err_and c.from_residual.result c.from_residual.ensures.1 in
    rw (p.1, p.2) (ends attr_name (cell c.args.above.now) (λ x. x)
    (λ (x : Bor (List ℕ)). x.now) c.in_err-own.field-0.0 c.loop.attrs c.add_attr.new.attrs c.args.count c.loop.counter
    (option_map (λ b. b.now) c.loop.before) c.loop.reader c.add_attr.new.reader c.add_attr.new.reader c.args.reader.now c.loop-test.true c.in_err-own.ensures
    c.loop.invariant)

pub loop-preserved : goal.loop-preserved
loop-preserved c =
    goes_on attr_name (cell c.args.above.now) (λ (x : Bor (List ℕ)). x.now) c.in_ok-own.own c.loop.attrs c.add_attr.new.attrs c.args.count c.loop.counter
    (option_map (λ b. b.now) c.loop.before) c.loop.reader c.add_attr.new.reader
    (read (map_of {R = octets_cmp} attr_name (cell c.args.above.now) c.args.count) c.args.reader.now) c.loop-test.true c.in_ok-own.ensures c.loop.invariant

pub returns : goal.returns
returns c =
    is_done attr_name (cell c.args.above.now) c.loop.attrs c.args.count c.loop.counter (option_map (λ b. b.now) c.loop.before) c.loop.reader
    (read (map_of {R = octets_cmp} attr_name (cell c.args.above.now) c.args.count) c.args.reader.now) c.loop-test.false c.loop.invariant

use Rattle.std.proofs.Common.{Bor, List, ℕ, None, Vec, Global}
use Rattle.std.proofs.lemmas.Result.{err_from_is_err_and}
use Rattle.std.specs.Option.{option_map}
use Rattle.directory.specs.declared.entry.EntryCell.{EntryCell}
use Rattle.record_fields.specs.LayoutReading.{read}
use Rattle.record_fields.specs.Fields.{simple_name}
use Rattle.cds_records.specs.Records.{entry}
use Rattle.record_fields.specs.ListLayouts.{ascending_items}
use Rattle.record_fields.proofs.ListLoops.{list_begins, list_goes_on, list_ends, list_done}
use Rattle.cds_records.proofs.tables.read_entries.Goals as goal

pub loop-init : goal.loop-init
loop-init c = rw c.roomy-entries.ensures (list_begins simple_name (entry c.args.above.now) c.args.count c.args.reader.now)

pub returns-in_err-own : goal.returns-in_err-own
returns-in_err-own c =
    let p = err_from_is_err_and c.from_residual.result c.from_residual.ensures.1 in
    rw (p.1, p.2) (list_ends simple_name (entry c.args.above.now) (λ (v : Vec (List ℕ × EntryCell) Global). v.items)
    (λ (x : Bor (List ℕ)). x.now) c.in_err-own.field-0.0 c.loop.entries.items c.push_entry.new.entries.items c.args.count c.loop.counter
    (option_map (λ b. b.now) c.loop.before) c.loop.reader c.push_entry.new.reader c.push_entry.new.reader c.args.reader.now c.loop-test.true
    c.in_err-own.ensures c.loop.invariant)

pub loop-preserved : goal.loop-preserved
loop-preserved c =
    list_goes_on simple_name (entry c.args.above.now) (λ (x : Bor (List ℕ)). x.now) c.in_ok-own.own c.loop.entries.items c.push_entry.new.entries.items c.args.count
    c.loop.counter (option_map (λ b. b.now) c.loop.before) c.loop.reader c.push_entry.new.reader
    (read (ascending_items simple_name (entry c.args.above.now) c.args.count None) c.args.reader.now) c.loop-test.true c.in_ok-own.ensures c.loop.invariant

pub returns : goal.returns
returns c =
    list_done simple_name (entry c.args.above.now) c.loop.entries.items c.args.count c.loop.counter (option_map (λ b. b.now) c.loop.before) c.loop.reader
    (read (ascending_items simple_name (entry c.args.above.now) c.args.count None) c.args.reader.now) c.loop-test.false c.loop.invariant

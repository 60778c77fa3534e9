use Rattle.std.proofs.lemmas.Result.{err_from_is_err_and}
use Rattle.cds_stamps.specs.declared.numbers.DirId.{DirId}
use Rattle.record_fields.specs.LayoutReading.{read}
use Rattle.record_fields.specs.ListLayouts.{map_of}
use Rattle.cds_messages.specs.Dirs.{dir_cmp}
use Rattle.cds_records.specs.Images.{dir_number, dir_state}
use Rattle.record_fields.proofs.MapLoops.{begins, goes_on, ends, is_done}
use Rattle.cds_records.proofs.images.read_dirs.Goals as goal

pub loop-init : goal.loop-init
loop-init c = rw c.new-dirs.ensures (begins dir_number (dir_state c.args.format) c.args.count c.args.reader.now)

pub returns-in_err-own : goal.returns-in_err-own
returns-in_err-own c =
    let p = err_from_is_err_and c.from_residual.result c.from_residual.ensures.1 in
    rw (p.1, p.2) (ends dir_number (dir_state c.args.format) (λ x. x)
    (λ (x : DirId). x) c.in_err-own.field-0.0 c.loop.dirs c.add_dir.new.dirs c.args.count c.loop.counter c.loop.before c.loop.reader c.add_dir.new.reader
    c.add_dir.new.reader c.args.reader.now c.loop-test.true c.in_err-own.ensures c.loop.invariant)

pub loop-preserved : goal.loop-preserved
loop-preserved c =
    goes_on dir_number (dir_state c.args.format)
    (λ (x : DirId). x) c.in_ok-own.own c.loop.dirs c.add_dir.new.dirs c.args.count c.loop.counter c.loop.before c.loop.reader c.add_dir.new.reader
    (read (map_of {R = dir_cmp} dir_number (dir_state c.args.format) c.args.count) c.args.reader.now) c.loop-test.true c.in_ok-own.ensures c.loop.invariant

pub returns : goal.returns
returns c =
    is_done dir_number (dir_state c.args.format) c.loop.dirs c.args.count c.loop.counter c.loop.before c.loop.reader
    (read (map_of {R = dir_cmp} dir_number (dir_state c.args.format) c.args.count) c.args.reader.now) c.loop-test.false c.loop.invariant

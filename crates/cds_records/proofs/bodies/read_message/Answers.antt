use Rattle.std.proofs.Common.{◌≡◌, true, refl}
use Rattle.std.proofs.lemmas.Result.{err_from_is_err_and}
use Rattle.cds_records.specs.RecordMemory.{message_head, takes_memory, WantsForMessage}
use Rattle.record_fields.proofs.LayoutLaws.{read_stands}
use Rattle.record_fields.proofs.WantingLaws.{part_wants}
use Rattle.cds_records.proofs.bodies.read_message.Goals as goal

pub returns-in_err-body-clause-wanting : goal.returns-in_err-body-clause-wanting
unfolding message_head
returns-in_err-body-clause-wanting c =
    let p = err_from_is_err_and c.from_residual-in_err-body.result c.from_residual-in_err-body.ensures.1 in
    let tag = c.in_ok-tag.tag in
    let rest = c.u64-2.new.self in
    let head =
    read_stands message_head c.args.reader.now tag rest
    (rw (
      c.in_ok-_format.ensures.read,
      c.in_ok-tag.ensures.read,
      c.in_ok-dir.ensures,
      c.in_ok-from.ensures,
      c.in_ok-epoch.ensures,
      c.in_ok-floor.ensures,
    ) refl) in
    rw (p.1, p.2) (part_wants (takes_memory tag ≡ true) (WantsForMessage c.args.reader.now) c.in_err-body.field-0.0 (λ t. (tag, rest, head, t))
    c.in_err-body.ensures.wanting)

use Rattle.std.proofs.Common.{refl}
use Rattle.cds_records.specs.RecordMemory.{image_head, WantsForImage}
use Rattle.record_fields.proofs.LayoutLaws.{read_stands}
use Rattle.record_fields.proofs.WantingLaws.{any_wants}
use Rattle.cds_records.proofs.images.read_image.Goals as goal

pub returns-in_err-dirs-clause-wanting : goal.returns-in_err-dirs-clause-wanting
unfolding image_head
returns-in_err-dirs-clause-wanting c =
    let count = c.in_ok-count.count in
    let rest = c.u64-2.new.self in
    any_wants (WantsForImage c.args.least c.args.most c.args.reader.now) c.from_residual-in_err-dirs.result (
      count,
      rest,
      read_stands (image_head c.args.least c.args.most) c.args.reader.now count rest
          (rw (
            c.in_ok-format.ensures.read,
            c.in_ok-_tag.ensures.read,
            c.in_ok-house.ensures,
            c.in_ok-node.ensures,
            c.in_ok-floor.ensures,
            c.in_ok-count.ensures,
          ) refl),
    )

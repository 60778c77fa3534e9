use Rattle.cds_records.specs.RecordMemory.{WantsForImage}
use Rattle.record_fields.proofs.WantingLaws.{any_wants}
use Rattle.cds_records.proofs.WholeDecoding.{image_has_head}
use Rattle.cds_records.proofs.decoding.migrate_image.Goals as goal

pub returns-in_err-migrated-clause-wanting : goal.returns-in_err-migrated-clause-wanting
returns-in_err-migrated-clause-wanting c =
    any_wants (WantsForImage 1 2 c.args.octets.now) c.from_residual-in_err-migrated.result
    (image_has_head c.args.octets.now c.in_ok-image.image c.in_ok-image.ensures.answer)

pub returns-clause-format_2 : goal.returns-clause-format_2
returns-clause-format_2 c = (c.in_ok-image.image, c.in_ok-migrated.ensures.whole c.in_ok-image.ensures.valid)

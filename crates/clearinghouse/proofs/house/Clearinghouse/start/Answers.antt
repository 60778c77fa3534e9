use Rattle.std.proofs.Common.{Err, Ok, sym, ap, subst, ◌∙◌}
use Rattle.cds_stamps.specs.Outcomes.{Answers}
use Rattle.record_fields.proofs.WantingLaws.{any_wants}
use Rattle.cds_records.specs.Migration.{whole_image}
use Rattle.cds_records.specs.RecordMemory.{WantsForImage}
use Rattle.cds_records.proofs.WholeDecoding.{image_has_head}
use Rattle.clearinghouse.specs.HouseImages.{start_of_image}
use Rattle.clearinghouse.specs.LawfulHouses.{IsLawful}
use Rattle.clearinghouse.proofs.Starting.{started_lawful}
use Rattle.clearinghouse.proofs.house.Clearinghouse.start.Goals as goal

pub returns-clause-lawful : goal.returns-clause-lawful
returns-clause-lawful c = subst IsLawful (sym c.in_ok-house.ensures) (started_lawful c.in-Ok.image c.in-Ok.ensures.valid)

pub returns-in_err-house-clause-wanting : goal.returns-in_err-house-clause-wanting
returns-in_err-house-clause-wanting c =
    any_wants (WantsForImage 1 2 c.args.octets.now) c.from_residual.result
    (image_has_head c.args.octets.now c.in-Ok.image c.in-Ok.ensures.answer)

use Rattle.std.proofs.Common.{◌∙◌, ap, sym, subst, arith, Err}
use Rattle.record_fields.specs.LayoutReading.{read}
use Rattle.cds_records.specs.RecordMemory.{WantsForImage}
use Rattle.record_fields.specs.FieldReaders.{Reads}
use Rattle.cds_records.specs.Images.{image_in}
use Rattle.cds_messages.specs.declared.image.Image.{Image}
use Rattle.record_fields.proofs.DecodingLaws.{decoded, rest_within, error_within, error_decodes}
use Rattle.record_fields.proofs.WantingLaws.{place_wants}
use Rattle.cds_records.proofs.Valid.{image_valid}
use Rattle.cds_records.proofs.decoding.decode_image_in.Goals as goal

pub overflow_sub-result : goal.overflow_sub-result
overflow_sub-result c =
    omega (
      arith,
      c.left.ensures,
      rest_within (image_in c.args.least c.args.most) c.args.octets.now c.in-Ok.image c.read_image.new.reader
          (ap (read (image_in c.args.least c.args.most)) (sym c.new-reader.ensures) ∙ c.in-Ok.ensures.read),
    )

pub fault_from-requires : goal.fault_from-requires
fault_from-requires c =
    error_within (image_in c.args.least c.args.most) c.args.octets.now c.read_image.new.reader c.in-Err.error
    (subst (λ x. Reads (λ (i : Image). i) (image_in c.args.least c.args.most) x c.read_image.new.reader (Err c.in-Err.error)) c.new-reader.ensures c.in-Err.ensures.read)

pub returns-in-Ok-clause-decodes : goal.returns-in-Ok-clause-decodes
returns-in-Ok-clause-decodes c =
    decoded (image_in c.args.least c.args.most) c.args.octets.now c.in-Ok.image c.read_image.new.reader _ (ap (read (image_in c.args.least c.args.most)) (sym c.new-reader.ensures) ∙ c.in-Ok.ensures.read)
    (omega (arith, c.left.ensures))

pub returns-in-Ok-clause-valid : goal.returns-in-Ok-clause-valid
returns-in-Ok-clause-valid c = image_valid c.args.least c.args.most c.new-reader.result c.in-Ok.image c.read_image.new.reader c.in-Ok.ensures.read

pub returns-in-Err-clause-decodes : goal.returns-in-Err-clause-decodes
returns-in-Err-clause-decodes c =
    rw c.fault_from.ensures
    (error_decodes (image_in c.args.least c.args.most) c.args.octets.now c.read_image.new.reader c.in-Err.error
    (subst (λ x. Reads (λ (i : Image). i) (image_in c.args.least c.args.most) x c.read_image.new.reader (Err c.in-Err.error)) c.new-reader.ensures c.in-Err.ensures.read))

pub returns-in-Err-clause-wanting : goal.returns-in-Err-clause-wanting
returns-in-Err-clause-wanting c =
    rw c.fault_from.ensures
    (place_wants (WantsForImage c.args.least c.args.most c.new-reader.result) (WantsForImage c.args.least c.args.most c.args.octets.now) _ c.in-Err.error (subst (WantsForImage c.args.least c.args.most) c.new-reader.ensures)
    c.in-Err.ensures.wanting)

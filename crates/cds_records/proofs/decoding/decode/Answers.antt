use Rattle.std.proofs.Common.{◌∙◌, ap, sym, subst, arith, Err}
use Rattle.record_fields.specs.LayoutReading.{read}
use Rattle.cds_records.specs.RecordMemory.{WantsForMessage}
use Rattle.record_fields.specs.FieldReaders.{Reads}
use Rattle.cds_records.specs.Records.{message}
use Rattle.cds_messages.specs.declared.message.Message.{Message}
use Rattle.record_fields.proofs.DecodingLaws.{decoded, rest_within, error_within, error_decodes}
use Rattle.record_fields.proofs.WantingLaws.{place_wants}
use Rattle.cds_records.proofs.Valid.{message_valid}
use Rattle.cds_records.proofs.decoding.decode.Goals as goal

pub overflow_sub-result : goal.overflow_sub-result
overflow_sub-result c =
    omega (
      arith,
      c.left.ensures,
      rest_within message c.args.octets.now c.in-Ok.message c.read_message.new.reader
          (ap (read message) (sym c.new-reader.ensures) ∙ c.in-Ok.ensures.read),
    )

pub fault_from-requires : goal.fault_from-requires
fault_from-requires c =
    error_within message c.args.octets.now c.read_message.new.reader c.in-Err.error
    (subst (λ x. Reads (λ (m : Message). m) message x c.read_message.new.reader (Err c.in-Err.error)) c.new-reader.ensures c.in-Err.ensures.read)

pub returns-in-Ok-clause-decodes : goal.returns-in-Ok-clause-decodes
returns-in-Ok-clause-decodes c =
    decoded message c.args.octets.now c.in-Ok.message c.read_message.new.reader _ (ap (read message) (sym c.new-reader.ensures) ∙ c.in-Ok.ensures.read)
    (omega (arith, c.left.ensures))

pub returns-in-Ok-clause-valid : goal.returns-in-Ok-clause-valid
returns-in-Ok-clause-valid c = message_valid c.new-reader.result c.in-Ok.message c.read_message.new.reader c.in-Ok.ensures.read

pub returns-in-Err-clause-decodes : goal.returns-in-Err-clause-decodes
returns-in-Err-clause-decodes c =
    rw c.fault_from.ensures
    (error_decodes message c.args.octets.now c.read_message.new.reader c.in-Err.error
    (subst (λ x. Reads (λ (m : Message). m) message x c.read_message.new.reader (Err c.in-Err.error)) c.new-reader.ensures c.in-Err.ensures.read))

pub returns-in-Err-clause-wanting : goal.returns-in-Err-clause-wanting
returns-in-Err-clause-wanting c =
    rw c.fault_from.ensures
    (place_wants (WantsForMessage c.new-reader.result) (WantsForMessage c.args.octets.now) _ c.in-Err.error (subst WantsForMessage c.new-reader.ensures)
    c.in-Err.ensures.wanting)

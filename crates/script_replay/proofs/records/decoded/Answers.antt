use Rattle.std.proofs.Common.{◌≡◌, ap, refl, ℕ, Ok, Err}
use Rattle.cds_stamps.specs.declared.alloc_or.AllocOr.TheVariants.{Fault}
use Rattle.cds_records.specs.Records.{message}
use Rattle.record_fields.specs.Decoding.{Decodes, decode_by}
use Rattle.record_fields.proofs.OneDecoding.{answers_decoding}
use Rattle.script_answers.specs.declared.answer.Answer.TheVariants as answer
use Rattle.script_replay.proofs.records.decoded.Goals as goal

pub returns-in-Ok : goal.returns-in-Ok
returns-in-Ok c =
    let said : decode_by message c.args.octets.now ≡ Ok (c.in-Ok.message, c.in-Ok.used) = answers_decoding message c.args.octets.now
    (Ok (c.in-Ok.message, c.in-Ok.used)) c.in-Ok.ensures.decodes in
    rw said (ap (λ (tag : ℕ). answer.Decoded tag c.in-Ok.used) c.tag.ensures)

pub returns-in-Err-Fault : goal.returns-in-Err-Fault
returns-in-Err-Fault c =
    let decodes : Decodes message c.args.octets.now (Err (Fault c.in-Err-Fault.fault)) = rw c.in-Err-Fault.field-0-is at c.in-Err-Fault.ensures.decodes in
    let said : decode_by message c.args.octets.now ≡ Err c.in-Err-Fault.fault = answers_decoding message c.args.octets.now
    (Err (Fault c.in-Err-Fault.fault)) decodes in
    rw said refl

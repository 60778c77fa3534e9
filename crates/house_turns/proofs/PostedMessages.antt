-- A house of a cell refuses no message that was posted to it before it asks the model.
use Rattle.std.proofs.Common.{◌≡◌, ℕ, true, List, [], length, sym, ap, ◌∙◌, append-nil, arith}
use Rattle.std.specs.Prelude.{None, Result, Ok, Err}
use Rattle.cds_stamps.specs.Outcomes.{Answers}
use Rattle.record_fields.specs.declared.fault.RecordFault.{RecordFault}
use Rattle.record_fields.specs.Decoding.{IsWhole, decode_by, with_memory}
use Rattle.record_fields.proofs.OneDecoding.{decoding_decodes}
use Rattle.cds_records.specs.Records as records
use Rattle.cds_messages.specs.declared.message.Message.{Message}
use Rattle.cell_model.specs.Cells as model
use Rattle.cell_model.specs.Reached.{IsReached}
use Rattle.cell_model.specs.Sets.{In, has}
use Rattle.clearinghouse.specs.ModelHouses.{StandsHouse}
use Rattle.clearinghouse.specs.declared.house.Clearinghouse.{Clearinghouse}
use Rattle.own_stamps.specs.OwnStamps.{later_own}
use Rattle.own_stamps.proofs.Carried.{not_later}
use Rattle.own_stamps.proofs.Given.{gave_theirs}
use Rattle.cell_runs.specs.OrderSteps.{IsLetterOf}
use Rattle.house_lines.specs.declared.line.HouseOrder.TheVariants as order
use Rattle.house_turns.specs.HouseAnswers.{early_refusal, restored_refusal}
use Rattle.house_turns.proofs.Comes.{take_whole}

-- octets that are the whole of a message are decoded to it
whole_message : (octets : List ℕ) (m : Message) → IsWhole records.message m octets → decode_by records.message octets ≡ Ok (m, length octets)
whole_message octets m whole =
    go (decode_by records.message octets) ((decoding_decodes records.message octets).only m octets [] whole (sym (append-nil octets)))
  where
    go : (r : Result (Message × ℕ) RecordFault) → Answers (with_memory r) (Ok (m, length octets)) → r ≡ Ok (m, length octets)
    go (Ok x) is = sym is
    go (Err f) is = absurd (cc)

-- so a house takes it, or does not, by the model alone
pub not_refused_early : (g : model.Cell) (m : model.Message) (c : Clearinghouse) (octets : List ℕ) → IsReached g → In m g.bag
    → has m.receiver g.made ≡ true → StandsHouse c (g.house m.receiver) → IsLetterOf m.receiver octets m
    → early_refusal c (order.Take octets) ≡ None
not_refused_early g m c octets reached posted made stands letter =
    let none : later_own (g.house m.receiver).node (g.house m.receiver).floor letter.carried ≡ None =
    not_later (g.house m.receiver).node (g.house m.receiver).floor m.receiver letter.carried m letter.stands
    (gave_theirs g reached m m.receiver posted made) in
    take_whole c octets letter.carried (length octets) (whole_message octets letter.carried letter.whole) (omega arith)
    ∙ ap restored_refusal
    (ap (λ (n : ℕ). later_own n c.floor.time letter.carried) (sym stands.node)
    ∙ ap (λ (f : ℕ). later_own (g.house m.receiver).node f letter.carried) (sym stands.floor) ∙ none)

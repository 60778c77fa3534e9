-- Messages in the bag, by their serial numbers.
use Rattle.std.specs.Prelude.{◌≡◌, ◌<◌, ℕ, false, nat_eq, length, Option, Some, None}
use Rattle.std.specs.Rc.{rc_slice_items}
use Rattle.indexmap.specs.IndexMap.{get}
use Rattle.record_fields.specs.Decoding.{IsWhole}
use Rattle.cds_records.specs.RecordOctets.{message_octets}
use Rattle.cds_records.specs.Records.{message}
use Rattle.cds_messages.specs.Validity.{IsValidMessage}
use Rattle.cds_messages.specs.declared.message.Message.{Message}
use Rattle.cell_model.specs.Cells as model
use Rattle.cell_model.specs.Sets.{has}
use Rattle.cell_model.specs.Steps.{message_at}
use Rattle.house_directory.specs.HouseMessages.{StandsMessage}
use Rattle.cds_cell.specs.declared.bag.Bag.{Bag}
use Rattle.cds_cell.specs.declared.bag.Letter.{Letter}

-- the message of a serial number, if it is in the bag
abbrev pub letter_at : Bag → ℕ → Option Letter
letter_at b n = get nat_eq b.letters n

-- ---- what it stands for

-- a message as octets stands for one of the model: its octets are the whole of a valid message that
-- does
pub record StandsLetter (l : Letter) (m : model.Message) : Type 0 where
  pub carried : Message
  pub stands : StandsMessage l.to.0 carried m
  pub valid : IsValidMessage carried
  pub octets : rc_slice_items l.shared ≡ message_octets carried
  pub whole : IsWhole message carried (rc_slice_items l.shared)

-- there is none on either side, or it stands for that one
abbrev pub MaybeStandsLetter : Option Letter → Option model.Message → Type 0
MaybeStandsLetter None None = Unit {0}
MaybeStandsLetter (Some l) (Some m) = StandsLetter l m
MaybeStandsLetter _ _ = ⊥

-- the bag has the messages of the model's that were not lost, by their serial numbers; only what
-- was posted was lost
pub record StandsBag (b : Bag) (g : model.Cell) : Type 0 where
  pub posted : b.posted ≡ length g.bag
  pub letters : (n : ℕ) → MaybeStandsLetter (letter_at b n) (message_at g n)
  pub lost : (n : ℕ) → length g.bag < n → has n g.lost ≡ false

-- What a clearinghouse has to post, and letters, which are its octets (own, after C705, updates,
-- skulks and new epochs).
use Rattle.std.specs.Prelude.{◌≡◌, List, [], ◌++◌, Option, Some, None}
use Rattle.std.specs.FinMap.{get}
use Rattle.cds_stamps.specs.declared.numbers.DirId.{DirId}
use Rattle.cds_stamps.specs.declared.numbers.EpochNo.{EpochNo}
use Rattle.cds_stamps.specs.declared.numbers.HouseNo.{HouseNo}
use Rattle.record_fields.specs.Decoding.{IsWhole}
use Rattle.cds_records.specs.RecordOctets.{message_octets}
use Rattle.cds_records.specs.Records as records
use Rattle.cds_messages.specs.Validity.{IsValidMessage}
use Rattle.cds_messages.specs.declared.message.Message.{Message}
use Rattle.house_directory.specs.declared.epochs.EpochRefusal.{EpochRefusal}
use Rattle.clearinghouse.specs.declared.letters.Letters.{Letters}
use Rattle.house_directory.specs.declared.posted.Posted.{Posted}
use Rattle.house_directory.specs.declared.outgoing.Outgoing.{Outgoing}
use Rattle.house_directory.specs.declared.outgoing.Outgoing.TheVariants as out
use Rattle.house_directory.specs.declared.outgoing.Sender.{Sender}
use Rattle.clearinghouse.specs.declared.house.Clearinghouse.{Clearinghouse}
use Rattle.house_directory.specs.HouseMessages.{numbers_of, posts_to, leave_of, posts_if}

-- a clearinghouse as a sender of messages about a directory (own)
abbrev pub sender_of : Clearinghouse → DirId → Sender
sender_of c dir = record { house = c.house; dir = dir; floor = c.floor.time }

-- what a clearinghouse has to post about a directory (own)
abbrev pub posts_at : Clearinghouse → DirId → Option Outgoing → List Posted
posts_at c dir o = posts_if (sender_of c dir) (get c.dirs dir) o

-- what the master of a new epoch has to post: the Joins, and then a Leave to each house that is a
-- member no more; nothing where it refused (own)
abbrev pub epoch_posts_at : Clearinghouse → DirId → EpochNo → List HouseNo → Option EpochRefusal → List Posted
epoch_posts_at c dir k leaving None = posts_at c dir (Some out.Join) ++ posts_to (numbers_of leaving) (leave_of (sender_of c dir) k)
epoch_posts_at c dir k leaving (Some r) = []

-- a message to each of the receivers, whose octets these are: they are the whole of it if it is
-- valid (own)
pub record AreLetters (ls : Letters) (ps : List Posted) : Type 0 where
  pub message : Message
  pub posts : ps ≡ posts_to (numbers_of ls.receivers.items) message
  pub octets : ls.octets.items ≡ message_octets message
  pub whole : IsValidMessage message → IsWhole records.message message ls.octets.items

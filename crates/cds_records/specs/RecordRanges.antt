-- Numbers that fit their fields, and names, values and member lists that keep their rules. A
-- program has no others, by its types; a law has to say so.
use Rattle.std.specs.Prelude.{◌≡◌, ◌^◌, ◌<◌, List, None, IfSome}
use Rattle.std.specs.List.{AllByRecursion}
use Rattle.cds_stamps.specs.declared.members.Member.{Member}
use Rattle.cds_stamps.specs.Members.{members_of, members_fault}
use Rattle.cds_stamps.specs.Names.{simple_name_fault, attr_fault}
use Rattle.directory.specs.declared.entry.EntryCell.{EntryCell}
use Rattle.purge_rule.specs.declared.delta.Delta.{Delta}
use Rattle.purge_rule.specs.declared.replica.Replica.{Replica}
use Rattle.cds_messages.specs.declared.image.ImageDir.{ImageDir}
use Rattle.cds_messages.specs.declared.image.ImageDir.TheVariants.{Held, Gone}
use Rattle.cds_messages.specs.declared.image.Image.{Image}
use Rattle.cds_messages.specs.declared.message.Head.{Head}
use Rattle.cds_messages.specs.declared.message.Message.{Message}
use Rattle.cds_messages.specs.declared.message.Body.{Body}
use Rattle.cds_messages.specs.declared.message.Body.TheVariants.{Update, Gather, Gathered, Spread, SpreadAck, Advance, Join, Leave}
use Rattle.cds_messages.specs.Messages.{head_of}
use Rattle.record_fields.specs.FieldRanges.{FitsCell, FitsMap, FitsStamp}

-- an entry
pub record FitsEntry (e : EntryCell) : Type 0 where
  pub birth : FitsStamp e.birth
  pub death : IfSome e.death FitsStamp
  pub attrs : FitsMap (λ n. attr_fault n ≡ None) FitsCell e.attrs

-- a replica
pub record FitsReplica (r : Replica) : Type 0 where
  pub all_up_to : IfSome r.all_up_to FitsStamp
  pub table : FitsMap (λ n. simple_name_fault n ≡ None) FitsEntry r.table

-- a delta
pub record FitsDelta (d : Delta) : Type 0 where
  pub above : IfSome d.above FitsStamp
  pub table : FitsMap (λ n. simple_name_fault n ≡ None) FitsEntry d.table

-- members of an epoch
pub record FitsMembers (ms : List Member) : Type 0 where
  pub lawful : members_fault (members_of ms) ≡ None
  pub since : AllByRecursion (λ m. m.since.0 < 2 ^ 64) ms

-- what a message carries
abbrev pub FitsBody : Body → Type 0
FitsBody (Update f) = (simple_name_fault f.name ≡ None) × FitsEntry f.entry
FitsBody (Gather t) = FitsStamp t
FitsBody (Gathered t d) = FitsStamp t × FitsDelta d
FitsBody (Spread t d) = FitsStamp t × FitsDelta d
FitsBody (SpreadAck t) = FitsStamp t
FitsBody (Advance t) = FitsStamp t
FitsBody (Join ms r) = FitsMembers ms × FitsReplica r
FitsBody Leave = Unit {0}

-- what is before that
pub record FitsHead (h : Head) : Type 0 where
  pub dir : h.dir.0 < 2 ^ 32
  pub epoch : h.epoch.0 < 2 ^ 64
  pub floor : h.floor < 2 ^ 64

-- a message
pub record FitsMessage (m : Message) : Type 0 where
  pub head : FitsHead (head_of m)
  pub body : FitsBody m.body

-- what is kept of a directory
abbrev pub FitsDir : ImageDir → Type 0
FitsDir (Held e ms r) = (e.0 < 2 ^ 64) × FitsMembers ms × FitsReplica r
FitsDir (Gone e) = e.0 < 2 ^ 64

-- an image
pub record FitsImage (i : Image) : Type 0 where
  pub node : i.node < 2 ^ 48
  pub floor : i.floor < 2 ^ 64
  pub dirs : FitsMap (λ d. d.0 < 2 ^ 32) FitsDir i.dirs

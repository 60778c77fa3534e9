-- Messages and images whose entries, tables and deltas are valid.
use Rattle.cds_stamps.specs.Joins.{EachValue}
use Rattle.directory.specs.Entries.{IsValidEntry, IsValidTable}
use Rattle.purge_rule.specs.Replicas.{IsDelta}
use Rattle.cds_messages.specs.declared.image.ImageDir.{ImageDir}
use Rattle.cds_messages.specs.declared.image.ImageDir.TheVariants.{Held, Gone}
use Rattle.cds_messages.specs.declared.image.Image.{Image}
use Rattle.cds_messages.specs.declared.message.Message.{Message}
use Rattle.cds_messages.specs.declared.message.Body.{Body}
use Rattle.cds_messages.specs.declared.message.Body.TheVariants.{Update, Gather, Gathered, Spread, SpreadAck, Advance, Join, Leave}

-- what a message carries is valid
abbrev pub IsValidBody : Body → Type 0
IsValidBody (Update f) = IsValidEntry f.entry
IsValidBody (Gather t) = Unit {0}
IsValidBody (Gathered t d) = IsDelta d
IsValidBody (Spread t d) = IsDelta d
IsValidBody (SpreadAck t) = Unit {0}
IsValidBody (Advance t) = Unit {0}
IsValidBody (Join ms r) = IsValidTable r.table
IsValidBody Leave = Unit {0}

-- so is the message
abbrev pub IsValidMessage : Message → Type 0
IsValidMessage m = IsValidBody m.body

-- the table of a directory that is held is valid
abbrev pub IsValidDir : ImageDir → Type 0
IsValidDir (Held e ms r) = IsValidTable r.table
IsValidDir (Gone e) = Unit {0}

-- the tables of an image are valid
abbrev pub IsValidImage : Image → Type 0
IsValidImage i = EachValue IsValidDir i.dirs

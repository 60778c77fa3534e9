-- The parts of messages.
use Rattle.std.specs.Prelude.{ℕ}
use Rattle.cds_messages.specs.declared.message.Head.{Head}
use Rattle.cds_messages.specs.declared.message.Message.{Message}
use Rattle.cds_messages.specs.declared.message.Body.{Body}
use Rattle.cds_messages.specs.declared.message.Body.TheVariants.{Update, Gather, Gathered, Spread, SpreadAck, Advance, Join, Leave}

-- the head of a message
abbrev pub head_of : Message → Head
head_of m = record { dir = m.dir; from = m.from; epoch = m.epoch; floor = m.floor }

-- the tag of what a message carries
abbrev pub tag_of : Body → ℕ
tag_of (Update f) = 1
tag_of (Gather t) = 2
tag_of (Gathered t d) = 3
tag_of (Spread t d) = 4
tag_of (SpreadAck t) = 5
tag_of (Advance t) = 6
tag_of (Join ms r) = 7
tag_of Leave = 8

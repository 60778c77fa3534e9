-- The times in messages and images: no later than n, and the greatest of them (own, after C705,
-- timestamps).
use Rattle.std.specs.Prelude.{ℕ, ◌≤◌, max}
use Rattle.std.specs.FinMap.{entries}
use Rattle.purge_rule.specs.Latest.{EntryUpTo, ReplicaUpTo, DeltaUpTo, greatest_of, latest_in_entry, latest_in_delta, latest_time}
use Rattle.cds_messages.specs.declared.image.Image.{Image}
use Rattle.cds_messages.specs.declared.image.ImageDir.{ImageDir}
use Rattle.cds_messages.specs.declared.image.ImageDir.TheVariants as kept
use Rattle.cds_messages.specs.declared.message.Message.{Message}
use Rattle.cds_messages.specs.declared.message.Body.{Body}
use Rattle.cds_messages.specs.declared.message.Body.TheVariants.{Update, Gather, Gathered, Spread, SpreadAck, Advance, Join, Leave}

-- no time that a message carries is later than n (own)
abbrev pub BodyUpTo : ℕ → Body → Type 0
BodyUpTo n (Update f) = EntryUpTo n f.entry
BodyUpTo n (Gather t) = t.time ≤ n
BodyUpTo n (Gathered t d) = (t.time ≤ n) × DeltaUpTo n d
BodyUpTo n (Spread t d) = (t.time ≤ n) × DeltaUpTo n d
BodyUpTo n (SpreadAck t) = t.time ≤ n
BodyUpTo n (Advance t) = t.time ≤ n
BodyUpTo n (Join ms r) = ReplicaUpTo n r
BodyUpTo n Leave = Unit {0}

-- the greatest time that a message carries; 0 where there is none (own)
abbrev pub latest_in_body : Body → ℕ
latest_in_body (Update f) = latest_in_entry f.entry
latest_in_body (Gather t) = t.time
latest_in_body (Gathered t d) = max t.time (latest_in_delta d)
latest_in_body (Spread t d) = max t.time (latest_in_delta d)
latest_in_body (SpreadAck t) = t.time
latest_in_body (Advance t) = t.time
latest_in_body (Join ms r) = latest_time r
latest_in_body Leave = 0

-- the greatest time in a message: its floor, and what it carries (own)
abbrev pub latest_in_message : Message → ℕ
latest_in_message m = max m.floor (latest_in_body m.body)

-- the greatest time of what an image keeps of a directory; 0 where there is none (own)
abbrev pub latest_in_kept : ImageDir → ℕ
latest_in_kept (kept.Held e ms r) = latest_time r
latest_in_kept (kept.Gone e) = 0

-- the greatest time in an image: its floor, and what it keeps of directories (own)
abbrev pub latest_in_image : Image → ℕ
latest_in_image i = max i.floor (greatest_of (λ e. latest_in_kept e.1) (entries i.dirs))

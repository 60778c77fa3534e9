-- What an audit of two images tells (own, after C705, skulks and AllUpTo).
use Rattle.std.specs.Prelude.{ℕ, Bool, true, false, Option, Some, None, if◌then◌else◌}
use Rattle.std.specs.List.{find}
use Rattle.std.specs.Option.{option_and_then}
use Rattle.std.specs.FinMap.{get}
use Rattle.std.specs.Ordering.{is_lt}
use Rattle.cds_stamps.specs.declared.stamp.Stamp.{Stamp}
use Rattle.cds_stamps.specs.declared.numbers.DirId.{DirId}
use Rattle.cds_stamps.specs.Stamps.{is_stamp, earlier_stamp}
use Rattle.purge_rule.specs.declared.replica.Replica.{Replica}
use Rattle.cds_messages.specs.declared.image.Image.{Image}
use Rattle.cds_messages.specs.declared.image.ImageDir.{ImageDir}
use Rattle.cds_messages.specs.declared.image.ImageDir.TheVariants.{Held, Gone}
use Rattle.image_audit.specs.declared.fact.Fact.{Fact}
use Rattle.image_audit.specs.declared.verdict.Verdict.{Verdict}
use Rattle.image_audit.specs.declared.verdict.Verdict.TheVariants.{NoReplica, Agree, Differ}
use Rattle.image_audit.specs.Facts.{facts, is_open, fact_cmp}

-- the smaller of two AllUpTo: none is the smallest (own)
abbrev pub smaller : Option Stamp → Option Stamp → Option Stamp
smaller None b = None
smaller (Some s) None = None
smaller (Some s) (Some t) = Some (earlier_stamp s t)

-- an AllUpTo is this one (own)
abbrev pub is_up_to_same : Option Stamp → Option Stamp → Bool
is_up_to_same None None = true
is_up_to_same None (Some t) = false
is_up_to_same (Some s) None = false
is_up_to_same (Some s) (Some t) = is_stamp s t

-- the first fact of a replica up to t for which the other does not answer. Only one whose AllUpTo
-- is t is asked: a greater one may have forgotten what answered (own, after C705, skulks and
-- AllUpTo)
abbrev pub open_of : Option Stamp → (own other : Replica) → Option Fact
open_of t own other = if is_up_to_same t other.all_up_to then find (is_open other.table) (facts t own.table) else None

-- the first of two facts, and whose it is: where neither comes first, that of the first replica
-- (own)
abbrev pub first_of : Option Fact → Option Fact → Option (ℕ × Fact)
first_of None None = None
first_of (Some f) None = Some (1, f)
first_of None (Some g) = Some (2, g)
first_of (Some f) (Some g) = if is_lt (fact_cmp g f) then Some (2, g) else Some (1, f)

-- the first open fact of two replicas up to the smaller AllUpTo, and whose it is (own)
abbrev pub first_open : Replica → Replica → Option (ℕ × Fact)
first_open one two = let t = smaller one.all_up_to two.all_up_to in first_of (open_of t one two) (open_of t two one)

-- the replica of a directory that is held; what was left is not (own)
abbrev pub replica_held : ImageDir → Option Replica
replica_held (Held epoch members replica) = Some replica
replica_held (Gone epoch) = None

-- the replica that an image has of a directory (own)
abbrev pub replica_in : Image → DirId → Option Replica
replica_in image dir = option_and_then replica_held (get image.dirs dir)

-- two replicas differ by their first open fact, or agree up to t (own)
abbrev pub tell_verdict : Option Stamp → Option (ℕ × Fact) → Verdict
tell_verdict t None = Agree t
tell_verdict t (Some f) = Differ f.0 f.1

-- of two replicas that may be missing, the first that is, or what the replicas tell (own)
abbrev pub verdict_of : Option Replica → Option Replica → Verdict
verdict_of None two = NoReplica 1
verdict_of (Some one) None = NoReplica 2
verdict_of (Some one) (Some two) = tell_verdict (smaller one.all_up_to two.all_up_to) (first_open one two)

-- what an audit of a directory in two images tells (own)
abbrev pub verdict : Image → Image → DirId → Verdict
verdict first second dir = verdict_of (replica_in first dir) (replica_in second dir)

-- a fact is reported (own)
abbrev pub is_differ : Verdict → Bool
is_differ (NoReplica image) = false
is_differ (Agree t) = false
is_differ (Differ image fact) = true

-- What a message carries (own, after C705, updates, skulks and new epochs).
use Rattle.std.specs.Prelude.{List, [], Option, Some, None}
use Rattle.cds_stamps.specs.declared.stamp.Stamp.{Stamp}
use Rattle.directory.specs.Histories.{Mark}
use Rattle.cell_model.specs.Cells.{Copy, Body, Update, Gather, Gathered, Spread, SpreadAck, Advance, Join, Leave}

-- the copy of a replica (own)
abbrev pub copy_in : Body → Option Copy
copy_in (Update marks) = None
copy_in (Gather t) = None
copy_in (Gathered t copy) = Some copy
copy_in (Spread t copy) = Some copy
copy_in (SpreadAck t) = None
copy_in (Advance t) = None
copy_in (Join ms copy) = Some copy
copy_in Leave = None

-- the marks (own)
abbrev pub marks_in : Body → List Mark
marks_in (Update marks) = marks
marks_in (Gather t) = []
marks_in (Gathered t copy) = copy.history
marks_in (Spread t copy) = copy.history
marks_in (SpreadAck t) = []
marks_in (Advance t) = []
marks_in (Join ms copy) = copy.history
marks_in Leave = []

-- the stamp of the skulk that it belongs to (own)
abbrev pub round_of : Body → Option Stamp
round_of (Update marks) = None
round_of (Gather t) = Some t
round_of (Gathered t copy) = Some t
round_of (Spread t copy) = Some t
round_of (SpreadAck t) = Some t
round_of (Advance t) = Some t
round_of (Join ms copy) = None
round_of Leave = None

-- an AllUpTo: that of its copy, or the one that it announces (own)
abbrev pub up_to_in : Body → Option Stamp
up_to_in (Update marks) = None
up_to_in (Gather t) = None
up_to_in (Gathered t copy) = copy.all_up_to
up_to_in (Spread t copy) = copy.all_up_to
up_to_in (SpreadAck t) = None
up_to_in (Advance t) = Some t
up_to_in (Join ms copy) = copy.all_up_to
up_to_in Leave = None

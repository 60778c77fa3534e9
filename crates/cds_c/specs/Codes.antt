-- The numbers by which the calls of a house say how they ended, and what a handle holds. Own.
use Rattle.std.specs.Prelude.{ℕ, if◌then◌else◌, List, Option, Some, None, length, nat_lt}
use Rattle.house_sessions.specs.declared.fault.SessionFault.{SessionFault}
use Rattle.house_sessions.specs.declared.fault.SessionFault.TheVariants as why
use Rattle.house_sessions.specs.declared.session.Session.{Session}

-- the number of each fault
abbrev pub code_of : SessionFault → ℕ
code_of why.OutOfMemory = 6
code_of why.NoRecord = 18
code_of why.NotKept = 19
code_of why.Spent = 20
code_of why.BadLine = 21
code_of why.NotStarted = 22
code_of why.Started = 23
code_of why.NoneWaits = 24

-- the number of octets that are put into a room: 5 if it is too small for them
abbrev pub room_code : (room : ℕ) → (octets : List ℕ) → ℕ
room_code room octets = if nat_lt room (length octets) then 5 else 0

-- a session is held, of which this is so
abbrev pub Holds : (held : Option Session) → (so : Session → Type 0) → Type 0
Holds None so = ⊥
Holds (Some s) so = so s

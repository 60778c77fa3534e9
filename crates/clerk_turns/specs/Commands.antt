-- The commands of a clerk.
use Rattle.std.specs.Prelude.{Bool, true, false}
use Rattle.cds_clerk.specs.declared.planning.NamedUpdate.TheVariants as update
use Rattle.clerk_turns.specs.declared.command.Command.{Command}
use Rattle.clerk_turns.specs.declared.command.Command.TheVariants as command

-- a command trusts masters alone; one that changes an entry does
abbrev pub is_high : Command → Bool
is_high (command.Read high name attr) = high
is_high (command.Readlink high name) = high
is_high (command.Import high name wanted) = high
is_high (command.Inquire high name listing) = high
is_high (command.Lookup high name wanted most) = high
is_high (command.Plan plan) = true
is_high (command.Update name u) = true

-- a command is one update, whose answer is that of its house
abbrev pub is_update : Command → Bool
is_update (command.Update name u) = true
is_update other = false

-- a command's lines may be sent again if nobody knows whether they were done: a second one takes
-- away nothing that another client gave
abbrev pub may_repeat : Command → Bool
may_repeat (command.Update name update.Delete) = false
may_repeat (command.Update name (update.Put attr value)) = false
may_repeat (command.Update name (update.Clear attr)) = false
may_repeat other = true

-- What is found in a message, by examples: house 2 has the node 11.
use Rattle.std.proofs.Common.{◌≡◌, ℕ, refl}
use Rattle.std.specs.Prelude.{None, Some}
use Rattle.cds_messages.specs.declared.message.Body.{Body}
use Rattle.cds_messages.specs.declared.message.Body.TheVariants.{Gather, Leave}
use Rattle.cds_messages.specs.declared.message.Message.{Message}
use Rattle.own_stamps.specs.OwnStamps.{later_own}

abbrev saying : Body → Message
saying body = record { dir = record { 0 = 1 }; from = record { 0 = 1 }; epoch = record { 0 = 1 }; floor = 9; body = body }

-- a stamp that it forgot: its floor is below it
pub forgotten : later_own 11 4 (saying (Gather (record { time = 5; node = 11 }))) ≡ Some (record { time = 5; node = 11 })
forgotten = refl

-- one that it gave, or that is not later than what it heard of
pub given : later_own 11 5 (saying (Gather (record { time = 5; node = 11 }))) ≡ None
given = refl

-- one of another house
pub of_another : later_own 11 4 (saying (Gather (record { time = 5; node = 10 }))) ≡ None
of_another = refl

-- the floor of a message is no stamp
pub floor_alone : later_own 11 4 (saying Leave) ≡ None
floor_alone = refl

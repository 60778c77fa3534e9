-- Words of private contracts: what a line of the program asks for.
use Rattle.clerk_replay.specs.Clerking as asks
use Rattle.clerk_replay.specs.declared.low_read.LowRead.{LowRead}

-- what is asked for
abbrev pub read_of : LowRead → asks.LowRead
read_of r = record { house = r.house; name = r.name.now; attr = r.attr.now }

-- The octets in a buffer. Own.
use Rattle.std.specs.Prelude.{ℕ, List, slice_range}
use Rattle.std.specs.Vec.{vec_len}
use Rattle.cds_base.specs.declared.buffer.Buffer.{Buffer}

-- the octets that were read and not taken off yet
abbrev pub octets_in : Buffer → List ℕ
octets_in buffer = slice_range buffer.octets.items buffer.start buffer.end

-- how many octets there is room for
abbrev pub room_of : Buffer → ℕ
room_of buffer = vec_len buffer.octets

-- Numbers with a name.
use Rattle.std.specs.Prelude.{ℕ}

-- the directory of the cell's root
abbrev pub root_dir : ℕ
root_dir = 1

-- how many bits a node identifier has (C706, node of a UUID)
abbrev pub node_bits : ℕ
node_bits = 48

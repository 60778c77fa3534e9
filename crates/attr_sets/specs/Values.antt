-- Octets that are values of attributes, and the fault of those that are none (own, after C705,
-- attribute values).
use Rattle.std.specs.Prelude.{ℕ, ◌||◌, ◌==◌, nat_lt, List, length, Option, Some, None, if◌then◌else◌}
use Rattle.attr_sets.specs.declared.value.ValueFault.{ValueFault}
use Rattle.attr_sets.specs.declared.value.ValueFault.TheVariants.{BadSize}

-- the most octets of a value (own)
abbrev pub longest_value : ℕ
longest_value = 1024

-- octets that are none, or too many, are no value (own)
abbrev pub value_fault : List ℕ → Option ValueFault
value_fault octets = if (length octets == 0) || nat_lt longest_value (length octets) then Some BadSize else None

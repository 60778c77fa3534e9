-- Reading a tower field by field, as the private readers do, and the floors that a view shows (own,
-- after C706, protocol towers).
use Rattle.std.specs.Prelude.{ℕ, zero, suc, ◌+◌, ◌-◌, ◌*◌, List, [], ◌∷◌, length, take, drop, slice_index, Result, Ok, Err, nat_lt, ◌==◌, if◌then◌else◌}
use Rattle.tower_codec.specs.declared.fault.TowerFault.{TowerFault}
use Rattle.tower_codec.specs.declared.fault.TowerFault.TheVariants.{ShortCount, ShortLength, ShortPart, EmptyLeft}
use Rattle.tower_codec.specs.ReadingSteps.{◌>>=◌}
use Rattle.tower_codec.specs.Tower.{Floor}

-- A length and what follows it. `past` is the place after the last octet.
abbrev pub length_at : ℕ → List ℕ → Result (ℕ × List ℕ) TowerFault
length_at past [] = Err (ShortLength past)
length_at past (low ∷ []) = Err (ShortLength past)
length_at past (low ∷ high ∷ rest) = Ok (low + 256 * high, rest)

-- A part of this length and what follows it.
abbrev pub part_at : ℕ → ℕ → List ℕ → Result (List ℕ × List ℕ) TowerFault
part_at past len octets = if nat_lt (length octets) len then Err (ShortPart past) else Ok (take len octets, drop len octets)

-- A floor and what follows it.
unfoldable pub floor_at : ℕ → List ℕ → Result (Floor × List ℕ) TowerFault
floor_at past octets = do
  left_len ← length_at past octets
  left ← if left_len.0 == 0 then Err (EmptyLeft (past - length octets)) else part_at past left_len.0 left_len.1
  right_len ← length_at past left.1
  right ← part_at past right_len.0 right_len.1
  Ok (record { left = left.0; right = right.0 }, right.1)

-- What follows so many floors.
unfoldable pub after_floors : ℕ → ℕ → List ℕ → Result (List ℕ) TowerFault
after_floors past zero octets = Ok octets
after_floors past (suc count) octets = floor_at past octets >>= λ first. after_floors past count first.1

-- The number of floors of the tower at the front, and the octets of those floors.
unfoldable pub body_at : List ℕ → Result (ℕ × List ℕ) TowerFault
body_at [] = Err (ShortCount 1)
body_at (low ∷ []) = Err (ShortCount 2)
body_at (low ∷ high ∷ octets) = do
  rest ← after_floors (length octets + 3) (low + 256 * high) octets
  Ok (low + 256 * high, take (length octets - length rest) octets)

-- ---- The same where the parts are known to stand there.

-- The length at the front (own).
abbrev pub known_length : List ℕ → ℕ
known_length octets = slice_index octets 0 + 256 * slice_index octets 1

-- The part that is known to stand at the front (own).
abbrev pub known_part : List ℕ → List ℕ
known_part octets = take (known_length octets) (drop 2 octets)

-- What follows it (own).
abbrev pub after_known_part : List ℕ → List ℕ
after_known_part octets = drop (known_length octets) (drop 2 octets)

-- The floor that is known to stand at the front (own).
abbrev pub known_floor : List ℕ → Floor
known_floor octets = record { left = known_part octets; right = known_part (after_known_part octets) }

-- What follows a floor that is known to stand at the front (own).
abbrev pub after_known_floor : List ℕ → List ℕ
after_known_floor octets = after_known_part (after_known_part octets)

-- The first floors of the octets.
unfoldable pub known_floors : ℕ → List ℕ → List Floor
known_floors zero octets = []
known_floors (suc count) octets = known_floor octets ∷ known_floors count (after_known_floor octets)

-- Towers as lines of text, and the lines that say a tower.
use Rattle.std.specs.Prelude.{ℕ, Bool, false, nat_le, nat_eq, if◌then◌else◌, List, [], ◌∷◌, ◌++◌, length, codes, Option, Some, None}
use Rattle.std.specs.List.{flat_map, starts_with}
use Rattle.std.specs.Option.{option_and_then, option_map}
use Rattle.std.specs.Result.{result_ok}
use Rattle.std.specs.Str.{bytes_eq}
use Rattle.hex.specs.Hex.{decode_of, encode_lower}
use Rattle.reply_buffer.specs.declared.limits.TheConstants.{LONGEST_TOWER}
use Rattle.tower_codec.specs.Tower.{Floor}
use Rattle.tower_codec.specs.Spelling.{tower_octets}
use Rattle.tower_codec.specs.BindingReading.{cut_at_mark}

-- a floor: its left part, `:` and its right part, in hexadecimal digits
abbrev pub floor_text : Floor → List ℕ
floor_text floor = encode_lower floor.left ++ (58 ∷ encode_lower floor.right)

-- the line of a tower: its floors with a space between two of them, or `-` for none
abbrev pub floors_text : List Floor → List ℕ
floors_text [] = codes "-"
floors_text (floor ∷ floors) = floor_text floor ++ flat_map (λ f. 32 ∷ floor_text f) floors

-- the same with its end
abbrev pub tower_text : List Floor → List ℕ
tower_text floors = floors_text floors ++ 10 ∷ []

-- ---- the way back

-- both parts were read, and the left one has an octet at least
abbrev pub floor_of_parts : Option (List ℕ) → Option (List ℕ) → Option Floor
floor_of_parts None right = None
floor_of_parts (Some []) right = None
floor_of_parts (Some (b ∷ bs)) right = option_map (λ octets. record { left = b ∷ bs; right = octets }) right

-- the floor that a word says: parts in hexadecimal digits of either case, cut at the first `:`
unfoldable pub floor_said : List ℕ → Option Floor
floor_said word = option_and_then (λ p. floor_of_parts (result_ok (decode_of p.0)) (result_ok (decode_of p.1))) (cut_at_mark 58 word)

-- the floors that words say, if each says one
abbrev pub floors_said : List (List ℕ) → Option (List Floor)
floors_said [] = Some []
floors_said (word ∷ words) = option_and_then (λ floor. option_map (λ floors. floor ∷ floors) (floors_said words)) (floor_said word)

-- `-` alone says no floors
abbrev pub is_dash : List (List ℕ) → Bool
is_dash [] = false
is_dash (word ∷ []) = bytes_eq word (codes "-")
is_dash (word ∷ second ∷ words) = false

-- what a line says: nothing, as in a script; or a tower of at most 1,024 octets; or it is at fault
pub data TowerLine : Type 0 where
  SaysNothing : TowerLine
  SaysTower : (floors : List Floor) → TowerLine
  NoTower : TowerLine

-- the tower of floors, if it has at most 1,024 octets
abbrev pub short_tower : Option (List Floor) → TowerLine
short_tower None = NoTower
short_tower (Some floors) = if nat_le (length (tower_octets floors)) LONGEST_TOWER then SaysTower floors else NoTower

-- the tower that words say
abbrev pub tower_in : List (List ℕ) → TowerLine
tower_in words = short_tower (if is_dash words then Some [] else floors_said words)

-- what the words of a line say
abbrev pub tower_said : List (List ℕ) → TowerLine
tower_said [] = SaysNothing
tower_said (word ∷ words) = if starts_with nat_eq word (codes "#") then SaysNothing else tower_in (word ∷ words)

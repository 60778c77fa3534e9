-- The folder of a house: what its processes left there, one after the other.
use Rattle.std.specs.Prelude.{◌≡◌, ℕ, List, [], ◌∷◌, ◌++◌, Option, None, Some}
use Rattle.house_segments.specs.Segments.{HasBodies}
use Rattle.house_serving.specs.Turns.{Dialogue, Turn, bodies_of}
use Rattle.house_turns.specs.declared.house.House.{House}
use Rattle.house_turns.specs.HouseReplies.{Responds}
use Rattle.house_turns.specs.Openings.{IsSegmentRecord, OpensBy, after_start, new_house, start_text}
use Rattle.house_turns.specs.Records.{IsRecord}

-- a process begins with a segment; or the one of the segment before goes on there
pub data Beginning : Type 0 where
  ProcessBegins : Beginning
  ProcessGoesOn : Beginning

-- a segment of a folder: its first record after the head, and the lines that were answered in it,
-- as far as their records are durable; the first of them has this number
pub record FolderSegment : Type 0 where
  pub begins : Beginning
  pub first : List ℕ
  pub number : ℕ
  pub turns : List Turn

-- the bodies of its records after the head
abbrev pub segment_bodies : FolderSegment → List (List ℕ)
segment_bodies s = s.first ∷ bodies_of s.turns

-- those of all segments
abbrev pub folder_bodies : List FolderSegment → List (List ℕ)
folder_bodies [] = []
folder_bodies (s ∷ ss) = segment_bodies s ++ folder_bodies ss

-- a process goes on from the records of the last segment of its folder, if there is one
abbrev pub OpensFrom : Option (List (List ℕ)) → House → Type 0
OpensFrom None house = house ≡ new_house
OpensFrom (Some bodies) house = OpensBy bodies house

-- a segment that follows these records begins with this one, and the house is so then: it is opened
-- and started; or it is as it was
abbrev pub BeginsWith : Beginning → (last : Option (List (List ℕ))) → (house : House)
    → (first : List ℕ) → (begun : House) → Type 0
BeginsWith ProcessBegins last house first begun =
    (opened : House) × OpensFrom last opened × (begun ≡ after_start opened opened.home)
    × IsRecord begun (start_text opened.home opened.last) first
BeginsWith ProcessGoesOn last house first begun =
    (begun ≡ house) × IsSegmentRecord begun first

-- segments that follow one with these records, where the house is so
abbrev pub AreSegments : (last : Option (List (List ℕ))) → House → List FolderSegment → Type 0
AreSegments last house [] = Unit {0}
AreSegments last house (s ∷ ss) =
    (begun : House) × (at : House) × BeginsWith s.begins last house s.first begun
    × Dialogue Responds s.number begun s.turns at
    × AreSegments (Some (segment_bodies s)) at ss

-- the records of the last of segments that follow these, if there is one
abbrev pub last_bodies : (last : Option (List (List ℕ))) → List FolderSegment
    → Option (List (List ℕ))
last_bodies last [] = last
last_bodies last (s ∷ ss) = last_bodies (Some (segment_bodies s)) ss

-- the segments of a folder, from its first one on
abbrev pub IsFolder : List FolderSegment → Type 0
IsFolder segments = AreSegments None new_house segments

-- octets of a segment whose first records have these bodies, and then those of lines, as the house
-- replies to them; the first line has this number
pub record HasLines (before : List ℕ) (first_bodies : List (List ℕ)) (number : ℕ) (house : House)
    (octets : List ℕ) : Type 0 where
  pub turns : List Turn
  pub at : House
  pub talk : Dialogue Responds number house turns at
  pub bodies : HasBodies before (first_bodies ++ bodies_of turns) octets

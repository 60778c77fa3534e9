-- The files of a folder as the segments that the processes of a house left.
use Rattle.std.specs.Prelude.{◌≡◌, ℕ, ◌+◌, List, [], ◌∷◌, ◌++◌, Option, None, length, replicate}
use Rattle.house_entries.specs.Bodies.{head_of}
use Rattle.house_runs.specs.Folders.{AreSegments, FolderSegment, IsFolder, ProcessBegins, folder_bodies, last_bodies, segment_bodies}
use Rattle.house_segments.specs.Chains.{last_digest}
use Rattle.house_segments.specs.Segments.{HasBodies}
use Rattle.house_turns.specs.Openings.{new_house}
use Rattle.house_program.specs.Files.{Files, NumberedFile}

-- the bodies of the records of a segment of this number, which comes after this digest: its head,
-- and the others (own)
abbrev pub bodies_in_file : (number : ℕ) → (before : List ℕ) → FolderSegment → List (List ℕ)
bodies_in_file number before s = head_of number before ∷ segment_bodies s

-- the digest after segments, of which the first has this number and comes after this digest (own)
abbrev pub digest_after_all : (number : ℕ) → (before : List ℕ) → List FolderSegment → List ℕ
digest_after_all number before [] = before
digest_after_all number before (s ∷ ss) = digest_after_all (number + 1)
    (last_digest before (bodies_in_file number before s)) ss

-- files are these segments, of which the first has this number and comes after this digest (own)
abbrev pub AreFiles : (number : ℕ) → (before : List ℕ) → List FolderSegment → Files → Type 0
AreFiles number before [] files = files ≡ []
AreFiles number before (s ∷ ss) files =
    (octets : List ℕ) × (others : Files) × (files
    ≡ record { number = number; octets = octets } ∷ others)
    × HasBodies before (bodies_in_file number before s) octets
    × AreFiles (number + 1) (last_digest before (bodies_in_file number before s)) ss others

-- files are what the processes of a house left, with any crashes between; the oldest may be gone
-- (own)
pub record IsHouseFolder (files : Files) : Type 0 where
  pub gone : List FolderSegment
  pub segments : List FolderSegment
  pub folder : IsFolder (gone ++ segments)
  pub last_is_there : segments ≡ [] → gone ≡ []
  pub are : AreFiles (length gone + 1) (digest_after_all 1 (replicate 32 0) gone) segments files

-- all that a crash may leave is the folder of a house (own)
abbrev pub LeavesHouse : (left : Files → Type 0) → Type 0
LeavesHouse left = (files : Files) → left files → IsHouseFolder files

-- what a process goes on from: the records of the last segment, if there is one, its number, or 0,
-- and the digest of its last record, or zeros (own)
pub record Found : Type 0 where
  pub last : Option (List (List ℕ))
  pub number : ℕ
  pub digest : List ℕ

-- so it is with a folder that ends in these segments (own)
pub record EndsIn (segments : List FolderSegment) (found : Found) : Type 0 where
  pub last : found.last ≡ last_bodies None segments
  pub number : found.number ≡ length segments
  pub digest : found.digest ≡ digest_after_all 1 (replicate 32 0) segments

-- the first one of segments is that of a process that begins (own)
abbrev pub BeginsAnew : List FolderSegment → Type 0
BeginsAnew [] = Unit {0}
BeginsAnew (s ∷ ss) = s.begins ≡ ProcessBegins

-- files are those of before, from which a process goes on so, and then segments as it makes them,
-- whose records are a front of these (own)
pub record HasFolderFront (old : Files → Type 0) (found : Found) (all : List (List ℕ))
    (files : Files) : Type 0 where
  pub was : Files
  pub made : Files
  pub segments : List FolderSegment
  pub more : List (List ℕ)
  pub kept : old was
  pub after : (h : IsHouseFolder was) → EndsIn (h.gone ++ h.segments) found
  pub split : files ≡ was ++ made
  pub are : AreFiles (found.number + 1) found.digest segments made
  pub follow : AreSegments found.last new_house segments
  pub begins : BeginsAnew segments
  pub records : all ≡ folder_bodies segments ++ more

-- What a process finds in the last segment of its folder, and what the next one begins with.
use Rattle.std.specs.Prelude.{◌≡◌, ◌-◌, ℕ, Bool, false, if◌then◌else◌, List, [], ◌∷◌, ◌++◌, Option, None, Some, codes, length, map, replicate, take}
use Rattle.house_journal.specs.JournalRecords.{images}
use Rattle.house_entries.specs.Bodies.{head_of}
use Rattle.house_segments.specs.Reading.{IsLast}
use Rattle.house_turns.specs.Openings.{OpensBy, begins_with, new_house}
use Rattle.house_program.specs.declared.status.Status.{Status}
use Rattle.house_program.specs.declared.status.Status.TheVariants.{BadFolder, OtherVersion}
use Rattle.house_program.specs.Files.{NumberedFile, last_file}
use Rattle.house_program.specs.declared.reading.FolderHouse.{FolderHouse}
use Rattle.house_program.specs.declared.segments.Next.{Next}

-- the body of a record, which ends in a digest of 32 octets (own)
abbrev pub body_in : (record_octets : List ℕ) → List ℕ
body_in r = take (length r - 32) r

-- the octets are a segment of this number, and the house goes on from its records after the head
-- (own)
pub record IsLastSegment (number : ℕ) (octets : List ℕ) (f : FolderHouse) : Type 0 where
  pub head : List ℕ
  pub others : List (List ℕ)
  pub last : List ℕ
  pub chain : IsLast (head_of number []) (images octets) last f.digest
  pub records : images octets ≡ head ∷ others
  pub house : OpensBy (map body_in others) f.house
  pub numbered : f.number ≡ number

-- a house is as a process finds it: in a folder without a file a house that is new; or it goes on
-- from the last file (own)
abbrev pub IsFound : Option NumberedFile → FolderHouse → Type 0
IsFound None f = (f.house ≡ new_house) × (f.number ≡ 0) × (f.digest ≡ replicate 32 0)
IsFound (Some file) f = IsLastSegment file.number file.octets f

-- what a process finds is the last file, which is this one, if there is one, whatever a crash
-- leaves (own)
pub record FindsSo (kept : List NumberedFile → Type 0) (f : FolderHouse) : Type 0 where
  pub file : Option NumberedFile
  pub always : (files : List NumberedFile) → kept files → last_file files ≡ file
  pub is : IsFound file f

-- a first record is the head of a segment of another version (own)
abbrev pub is_other_head : List ℕ → Bool
is_other_head head = if begins_with (codes "cdshouse journal 2 ") head then false else begins_with
    (codes "cdshouse journal ") head

-- the first of these records is so (own)
abbrev pub begins_otherwise : (records : List (List ℕ)) → Bool
begins_otherwise [] = false
begins_otherwise (head ∷ others) = is_other_head head

-- why a segment is not read, if these are its records (own)
abbrev pub status_not_read : (records : List (List ℕ)) → Status
status_not_read records = if begins_otherwise records then OtherVersion else BadFolder

-- the bodies that a segment begins with: its head, and its first record (own)
abbrev pub first_bodies : Next → List (List ℕ)
first_bodies next = head_of next.number next.before ∷ next.first.items ∷ []

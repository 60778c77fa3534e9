-- The journals that the octets of folders are.
use Rattle.std.specs.Prelude.{◌≡◌, ℕ, ◌+◌, List, [], ◌∷◌, ◌++◌, All, length, replicate, MatchOption, Option, Some, None}
use Rattle.std.specs.List.{flat_map}
use Rattle.std.specs.Option.{option_to_list}
use Rattle.house_logs.specs.Faults.{IsFaultOf}
use Rattle.house_logs.specs.declared.fault.LogFault.{LogFault}
use Rattle.house_logs.specs.declared.log.HouseLog.{HouseLog}
use Rattle.house_logs.specs.declared.reader.LogReader.{LogReader}
use Rattle.house_logs.specs.Logs.{IsJournalOf, IsNew, IsSegment}
use Rattle.house_logs.specs.Reads.{HasRead}
use Rattle.explain_program.specs.declared.folder.FolderOctets.{FolderOctets}
use Rattle.explain_program.specs.declared.folder.FolderEnd.{FolderEnd}
use Rattle.explain_program.specs.declared.folder.FolderEnd.TheVariants as end
use Rattle.explain_program.specs.declared.folder.FolderFault.{FolderFault}
use Rattle.explain_program.specs.declared.folder.FolderFault.TheVariants as why
use Rattle.explain_program.specs.declared.folder.FolderLog.{FolderLog}
use Rattle.explain_program.specs.declared.told.PlacedFault.{PlacedFault}

-- ---- segments

-- octets are segments from this number on, the first one after a record with this digest; these are
-- the bodies of their records, and the last one has the digest after (own)
abbrev pub AreSegments : (number : ℕ) → (before : List ℕ) → (segments bodies : List (List ℕ))
    → (after : List ℕ) → Type 0
AreSegments number before [] bodies after = (bodies ≡ []) × (after ≡ before)
AreSegments number before (octets ∷ segments) bodies after =
    (mid : List ℕ) × (own : List (List ℕ)) × (others : List (List ℕ))
    × IsSegment number before octets own mid × AreSegments (number + 1) mid segments others after
    × (bodies ≡ own ++ others)

-- the digest before the first record of a journal
abbrev pub no_digest : List ℕ
no_digest = replicate 32 0

-- what was read of a folder: so many whole segments, whose records have these bodies, the last one
-- with this digest; and a front of the next one
pub record FirstParts : Type 0 where
  pub whole : ℕ
  pub digest : List ℕ
  pub own : List (List ℕ)
  pub front : List (List ℕ)

abbrev pub first_parts : (whole : ℕ) → (digest : List ℕ) → (own front : List (List ℕ)) → FirstParts
first_parts whole digest own front =
    record { whole = whole; digest = digest; own = own; front = front }

-- this is the fault of the segments after those that were read: the next one is not there; or its
-- octets have the fault, after good records with the bodies of the front
abbrev pub StopsReading : (how : FolderEnd) → FirstParts → (others : List (List ℕ)) → FolderFault
    → Type 0
StopsReading how first [] (why.Missing n) =
    (how ≡ end.Missing) × (n ≡ first.whole + 1) × (first.front ≡ [])
StopsReading how first [] (why.BadLog f) = ⊥
StopsReading how first (octets ∷ others) (why.Missing n) = ⊥
StopsReading how first (octets ∷ others) (why.BadLog f) =
    IsFaultOf (first.whole + 1) first.digest first.own octets first.front f

-- the first records of a folder have these bodies: those of its first segments, which are whole,
-- and the first ones of the next segment; why no more are read (own)
pub record AreFirst (how : FolderEnd) (segments bodies : List (List ℕ)) (fault : FolderFault)
    : Type 0 where
  pub whole : List (List ℕ)
  pub others : List (List ℕ)
  pub own : List (List ℕ)
  pub after : List ℕ
  pub front : List (List ℕ)
  pub parts : segments ≡ whole ++ others
  pub are : AreSegments 1 no_digest whole own after
  pub bodies_are : bodies ≡ own ++ front
  pub stops : StopsReading how (first_parts (length whole) after own front) others fault

-- a reader has read these segments
pub record HasReadAll (segments : List (List ℕ)) (r : LogReader) : Type 0 where
  pub bodies : List (List ℕ)
  pub are : AreSegments 1 no_digest segments bodies r.digest
  pub read : HasRead r bodies
  pub count : r.segments ≡ length segments

-- a reader has read the first records of these segments, up to this fault
pub record HasReadFirst (segments : List (List ℕ)) (f : LogFault) (r : LogReader) : Type 0 where
  pub bodies : List (List ℕ)
  pub are : (how : FolderEnd) → AreFirst how segments bodies (why.BadLog f)
  pub read : HasRead r bodies

-- ---- folders

-- no segment of a folder is missing; or the next one after those that are there is
abbrev pub EndsFolder : FolderOctets → (fault : Option FolderFault) → Type 0
EndsFolder f None = f.end ≡ end.Whole
EndsFolder f (Some (why.Missing n)) = (f.end ≡ end.Missing) × (n ≡ length f.segments.items + 1)
EndsFolder f (Some (why.BadLog fault)) = ⊥

-- records with these bodies are this journal; none, if no house was made
abbrev pub IsLog : (bodies : List (List ℕ)) → Option HouseLog → Type 0
IsLog bodies log = MatchOption log (All IsNew bodies) (IsJournalOf bodies)

-- the segments of a folder are all there, and they are this journal
pub record IsWhole (f : FolderOctets) (log : Option HouseLog) : Type 0 where
  pub bodies : List (List ℕ)
  pub after : List ℕ
  pub there : f.end ≡ end.Whole
  pub are : AreSegments 1 no_digest f.segments.items bodies after
  pub is : IsLog bodies log

-- the segments of a folder are not all there, or not those of a house
abbrev pub IsDamaged : FolderOctets → Type 0
IsDamaged f = (log : Option HouseLog) → ¬ IsWhole f log

-- the first records of a folder, up to this fault, are this journal
pub record IsBegun (f : FolderOctets) (fault : FolderFault) (log : Option HouseLog) : Type 0 where
  pub bodies : List (List ℕ)
  pub are : AreFirst f.end f.segments.items bodies fault
  pub is : IsLog bodies log

-- what was read of a folder: the whole, or up to a fault
abbrev pub IsReadTo : FolderOctets → Option HouseLog → Option FolderFault → Type 0
IsReadTo f log None = IsWhole f log
IsReadTo f log (Some fault) = IsBegun f fault log

abbrev pub IsRead : FolderOctets → FolderLog → Type 0
IsRead f r = IsReadTo f r.log r.fault

-- ---- all folders

-- what was read of folders, one after the other
abbrev pub AreRead : List FolderOctets → List FolderLog → Type 0
AreRead [] [] = Unit {0}
AreRead (f ∷ fs) (r ∷ rs) = IsRead f r × AreRead fs rs
AreRead fs rs = ⊥

-- the journals among these
abbrev pub logs_in : List FolderLog → List HouseLog
logs_in = flat_map (λ r. option_to_list r.log)

-- a fault, with the place of its folder
abbrev pub fault_at : (place : ℕ) → Option FolderFault → List PlacedFault
fault_at place None = []
fault_at place (Some fault) = record { place = place; fault = fault } ∷ []

-- the faults of folders, the first of which has this place
abbrev pub faults_in : (place : ℕ) → List FolderLog → List PlacedFault
faults_in place [] = []
faults_in place (r ∷ rs) = fault_at place r.fault ++ faults_in (place + 1) rs

-- these are the journals of folders, as far as they are read, and these are their faults
pub record IsEvidence (fs : List FolderOctets) (logs : List HouseLog) (faults : List PlacedFault)
    : Type 0 where
  pub rs : List FolderLog
  pub read : AreRead fs rs
  pub logs_are : logs ≡ logs_in rs
  pub faults_are : faults ≡ faults_in 1 rs

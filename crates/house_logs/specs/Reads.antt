-- What a reader of a journal has read.
use Rattle.std.specs.Prelude.{◌≡◌, ℕ, ◌+◌, List, [], ◌++◌, All, Option, Some, None, Result, Ok, Err}
use Rattle.cds_stamps.specs.declared.alloc_or.AllocOr.{AllocOr}
use Rattle.cds_stamps.specs.declared.alloc_or.AllocOr.TheVariants.{Fault, OutOfMemory}
use Rattle.house_logs.specs.declared.fault.LogFault.{LogFault}
use Rattle.house_logs.specs.declared.log.Making.{Making}
use Rattle.house_logs.specs.declared.reader.LogReader.{LogReader}
use Rattle.house_logs.specs.Faults.{IsFaultOf}
use Rattle.house_logs.specs.Logs.{IsLogOf, IsNew, IsSegment}
use Rattle.house_logs.specs.Records.{Told}

-- what was read of the house that was made
abbrev pub told_of : Making → LogReader → Told
told_of m r =
    record {
      house = m.house;
      node = m.node;
      image = r.image;
      entries = r.entries.items;
      number = r.number;
      clock = r.clock;
      turn = r.turn.items;
    }

-- the bodies of records are those of the house that was made, if one was
abbrev pub HasReadOf : Option Making → LogReader → (bodies : List (List ℕ)) → Type 0
HasReadOf None r bodies = All IsNew bodies × (r.number ≡ 0) × (r.entries.items ≡ [])
HasReadOf (Some m) r bodies = IsLogOf bodies (told_of m r)

-- the records with these bodies were read, and are those of the house
pub record HasRead (r : LogReader) (bodies : List (List ℕ)) : Type 0 where
  pub is : HasReadOf r.made r bodies

-- after records with these bodies the octets of the next segment were read
pub record ReadsOn (bodies : List (List ℕ)) (octets : List ℕ) (old new : LogReader) : Type 0 where
  pub more : List (List ℕ)
  pub segment : IsSegment (old.segments + 1) old.digest octets more new.digest
  pub read : HasRead new (bodies ++ more)

-- the first records of the segment with this number after its head, which comes after a record with
-- this digest, were read, and are those of the house; the next one has this fault, or the head
pub record ReadsFront (number : ℕ) (before : List ℕ) (bodies : List (List ℕ)) (octets : List ℕ)
    (fault : LogFault) (new : LogReader) : Type 0 where
  pub front : List (List ℕ)
  pub read : HasRead new (bodies ++ front)
  pub why : IsFaultOf number before bodies octets front fault

-- this holds of the fault, if it is one
abbrev pub OfFault : {F : Type 0} → AllocOr F → (holds : F → Type 0) → Type 0
OfFault (Fault fault) holds = holds fault
OfFault OutOfMemory holds = Unit {0}

-- of a call that ended by a fault
abbrev pub IfFault : {T F : Type 0} → Result T (AllocOr F) → (holds : F → Type 0) → Type 0
IfFault (Ok x) holds = Unit {0}
IfFault (Err e) holds = OfFault e holds

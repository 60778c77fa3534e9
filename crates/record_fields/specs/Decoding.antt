-- What is decoded of octets by a layout, and with which fault it fails.
use Rattle.std.specs.Prelude.{◌≡◌, ℕ, ◌+◌, ◌-◌, ◌≤◌, List, [], ◌++◌, length, take, Result, Ok, Err, IfOk}
use Rattle.std.specs.Result.{result_map_both}
use Rattle.cds_stamps.specs.declared.alloc_or.AllocOr.{AllocOr}
use Rattle.cds_stamps.specs.declared.alloc_or.AllocOr.TheVariants.{Fault, OutOfMemory}
use Rattle.cds_stamps.specs.Outcomes.{Answers}
use Rattle.record_fields.specs.declared.fault.Broken.{Broken}
use Rattle.record_fields.specs.declared.fault.RecordFault.{RecordFault}
use Rattle.record_fields.specs.Layouts.{Layout, Stands, Breaks}
use Rattle.record_fields.specs.LayoutReading.{read}

-- the fault of a field among so many octets, by its place
abbrev pub fault_of : ℕ → Broken → RecordFault
fault_of len b = record { rule = b.rule; place = len - b.left + 1 }

-- a reader's error among so many octets, by its place
abbrev pub error_of : ℕ → AllocOr Broken → AllocOr RecordFault
error_of len (Fault b) = Fault (fault_of len b)
error_of len OutOfMemory = OutOfMemory

-- what an error says is left is no more than there was
abbrev pub IsLeftWithin : ℕ → AllocOr Broken → Type 0
IsLeftWithin len (Fault b) = b.left ≤ len
IsLeftWithin len OutOfMemory = Unit {0}

-- the octets are this value's, and nothing follows
abbrev pub IsWhole : {A : Type 0} → Layout A → A → List ℕ → Type 0
IsWhole l value octets = Stands l octets value []

-- the first fault of octets that do not begin so: that of the first field that breaks a rule, at
-- the place of its first octet, or at the place after the last octet where the field is not whole
pub record IsFault {A : Type 0} (l : Layout A) (octets : List ℕ) (fault : RecordFault) : Type 0 where
  pub left : ℕ
  pub breaks : Breaks l octets fault.rule left
  pub at : fault.place + left ≡ length octets + 1

-- a fault that was answered is such a one
abbrev pub IfFault : {T E : Type 0} → (E → Type 0) → Result T (AllocOr E) → Type 0
IfFault P (Ok x) = Unit {0}
IfFault P (Err (Fault f)) = P f
IfFault P (Err OutOfMemory) = Unit {0}

-- the value at the front of the octets is answered with the number of its octets, and a fault
-- exactly where none is there; or out of memory
pub record Decodes {A : Type 0} (l : Layout A) (octets : List ℕ) (result : Result (A × ℕ) (AllocOr RecordFault)) : Type 0 where
  -- what is answered is at the front
  pub within : IfOk result (λ r. r.1 ≤ length octets)
  pub whole : IfOk result (λ r. IsWhole l r.0 (take r.1 octets))
  -- what is at the front is answered, whatever follows it
  pub only : (value : A) (front rest : List ℕ) → IsWhole l value front → octets ≡ front ++ rest → Answers result (Ok (value, length front))
  -- the fault is the first one, and the first one is the fault
  pub fault : IfFault (IsFault l octets) result
  pub each_fault : (fault : RecordFault) → IsFault l octets fault → Answers result (Err fault)

-- the same as a function: what reading by the layout gives, with the number of its octets, or the
-- fault by its place
abbrev pub decode_by : {A : Type 0} → Layout A → List ℕ → Result (A × ℕ) RecordFault
decode_by l octets = result_map_both (λ r. (r.0, length octets - length r.1)) (fault_of (length octets)) (read l octets)

-- this as a call answers it that wants for no memory
abbrev pub with_memory : {T E : Type 0} → Result T E → Result T (AllocOr E)
with_memory = result_map_both (λ x. x) Fault

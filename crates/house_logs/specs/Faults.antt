-- Faults of a segment: where they are, and what is said of them.
use Rattle.std.specs.Prelude.{◌≡◌, ◌≢◌, ◌⊎◌, ℕ, ◌+◌, List, [], ◌∷◌, ◌++◌, All, Option, codes, decimal, length}
use Rattle.house_entries.specs.Bodies.{IsBody, head_of}
use Rattle.house_journal.specs.JournalRecords.{images}
use Rattle.house_segments.specs.Chains.{sealed}
use Rattle.house_logs.specs.declared.fault.LogFault.{LogFault}
use Rattle.house_logs.specs.declared.fault.LogFault.TheVariants as fault
use Rattle.house_logs.specs.Logs.{AreOfHouse, HasEnded, IsLogOf, IsNew, digest_in, records_of}
use Rattle.house_logs.specs.Records.{Told}

-- ---- what is said

-- words, and a number after them
abbrev pub numbered : (words : List ℕ) → ℕ → List ℕ
numbered words n = words ++ decimal n

-- a record, by its place in a segment
abbrev pub record_said : (segment place : ℕ) → List ℕ
record_said segment place = numbered (codes "segment ") segment ++ numbered (codes " record ") place

-- an entry, where another one is due
abbrev pub due_said : (entry due : ℕ) → List ℕ
due_said entry due =
    numbered (codes " has entry ") entry ++ (numbered (codes " where ") due ++ codes " is due")

-- what is said of a fault (own)
abbrev pub fault_text : LogFault → List ℕ
fault_text (fault.OtherVersion n) = numbered (codes "segment ") n ++ codes " is of another version"
fault_text (fault.Damaged n place) = record_said n place ++ codes " is damaged"
fault_text (fault.NotNext n) =
    numbered (codes "segment ") n ++ codes " does not follow the segment before"
fault_text (fault.BadRecord n place) =
    record_said n place ++ codes " does not follow the record before"
fault_text (fault.NotDue n place entry due) = record_said n place ++ due_said entry due

-- ---- the head of a segment

-- a record begins as the head of a segment, and not as one of this version (own)
pub record IsOtherHead (head : List ℕ) : Type 0 where
  pub begins : (rest : List ℕ) × (head ≡ codes "cdshouse journal " ++ rest)
  pub other : (rest : List ℕ) → head ≢ codes "cdshouse journal 2 " ++ rest

-- a record is the head of the segment with this number, which names this digest of 32 octets
pub record IsHead (number : ℕ) (given head : List ℕ) : Type 0 where
  pub size : length given ≡ 32
  pub is : head ≡ sealed given (head_of number given)

-- the first one of these records is of another version
abbrev pub IsOfOther : (records : List (List ℕ)) → Type 0
IsOfOther [] = ⊥
IsOfOther (head ∷ records) = IsOtherHead head

-- there is none, or it is no head of the segment with this number, of no version
abbrev pub HasNoHead : (number : ℕ) → (records : List (List ℕ)) → Type 0
HasNoHead number [] = Unit {0}
HasNoHead number (head ∷ records) =
    ¬ IsOtherHead head × ((given : List ℕ) → ¬ IsHead number given head)

-- it is the head of the segment with this number, and names another digest than this one
abbrev pub NamesOther : (number : ℕ) → (before : List ℕ) → (records : List (List ℕ)) → Type 0
NamesOther number before [] = ⊥
NamesOther number before (head ∷ records) =
    (given : List ℕ) × IsHead number given head × (given ≢ before)

-- ---- the records after it

-- no record more comes after one with this digest, and octets are no whole segment: the next one
-- does not end in a digest of this one and of itself; or there is none, and the list ended later
-- once
abbrev pub BreaksOff : (digest octets : List ℕ) → (records : List (List ℕ)) → Type 0
BreaksOff digest octets [] = ¬ HasEnded digest octets
BreaksOff digest octets (next ∷ records) = (body : List ℕ) → next ≢ sealed digest body

-- octets begin with records of the segment with this number, after one with this digest: its head,
-- and those with these bodies; the others break off
pub record IsCutOff (number : ℕ) (before octets : List ℕ) (front : List (List ℕ)) : Type 0 where
  pub others : List (List ℕ)
  pub records : images octets ≡ records_of number before front ++ others
  pub breaks : BreaksOff (digest_in number before front) octets others

-- the last entry of these records has this number; 0, if no house was made
abbrev pub HasLast : (bodies : List (List ℕ)) → (number : ℕ) → Type 0
HasLast bodies number =
    (All IsNew bodies × (number ≡ 0)) ⊎ ((s : Told) × IsLogOf bodies s × (s.number ≡ number))

-- octets are the body of a record with the number of an entry; after records with these bodies the
-- number that is due is another one: the next one, or the last one, if the record is no entry
pub record HasOtherNumber (bodies : List (List ℕ)) (octets : List ℕ) (entry due : ℕ) : Type 0 where
  pub clock : ℕ
  pub text : List ℕ
  pub image : Option (List ℕ)
  pub body : IsBody octets entry clock text image
  pub last : ℕ
  pub is_last : HasLast bodies last
  pub due_is : (due ≡ last) ⊎ (due ≡ last + 1)
  pub other : entry ≢ due

-- ---- faults

-- after records of the house with these bodies one with this body has this fault, at this place in
-- the segment with this number: it cannot be the next one
abbrev pub IsOfRecord : (number place : ℕ) → (bodies : List (List ℕ)) → (body : List ℕ) → LogFault
    → Type 0
IsOfRecord number place bodies body (fault.OtherVersion n) = ⊥
IsOfRecord number place bodies body (fault.Damaged n p) = ⊥
IsOfRecord number place bodies body (fault.NotNext n) = ⊥
IsOfRecord number place bodies body (fault.BadRecord n p) =
    (n ≡ number) × (p ≡ place) × (¬ AreOfHouse (bodies ++ body ∷ []))
IsOfRecord number place bodies body (fault.NotDue n p entry due) =
    (n ≡ number) × (p ≡ place) × (¬ AreOfHouse (bodies ++ body ∷ []))
    × HasOtherNumber bodies body entry due

-- the next one of those records in octets after these good ones has this fault
pub record IsOfNext (number : ℕ) (before : List ℕ) (bodies : List (List ℕ)) (octets : List ℕ)
    (front : List (List ℕ)) (f : LogFault) : Type 0 where
  pub body : List ℕ
  pub others : List (List ℕ)
  pub records : images octets ≡ records_of number before (front ++ body ∷ []) ++ others
  pub is : IsOfRecord number (length front + 2) (bodies ++ front) body f

-- octets after records of a house with these bodies, the last one with this digest, are not the
-- whole segment with this number, or not of the house: this is the fault of the first bad record,
-- after good ones with these bodies
abbrev pub IsFaultOf : (number : ℕ) → (before : List ℕ) → (bodies : List (List ℕ))
    → (octets : List ℕ) → (front : List (List ℕ)) → LogFault → Type 0
IsFaultOf number before bodies octets front (fault.OtherVersion n) =
    (n ≡ number) × (front ≡ []) × IsOfOther (images octets)
IsFaultOf number before bodies octets front (fault.Damaged n place) =
    (n ≡ number)
    × (((place ≡ 1) × (front ≡ []) × HasNoHead number (images octets))
    ⊎ ((place ≡ length front + 2) × IsCutOff number before octets front))
IsFaultOf number before bodies octets front (fault.NotNext n) =
    (n ≡ number) × (front ≡ []) × NamesOther number before (images octets)
IsFaultOf number before bodies octets front f = IsOfNext number before bodies octets front f

-- What the octets of a segment say of its last record, and of records that were there once.
use Rattle.std.specs.Prelude.{◌≡◌, ◌⊎◌, ℕ, List, [], ◌∷◌, ◌++◌, drop, length, slice_index}
use Rattle.house_journal.specs.JournalRecords.{gate_of, images}
use Rattle.house_segments.specs.Chains.{chained, last_digest, sealed}

-- the records are a chain, whose first body is this text and the digest that the chain begins with;
-- the last one has this body, and this digest
pub record IsLast (title : List ℕ) (records : List (List ℕ)) (body digest : List ℕ) : Type 0 where
  pub before : List ℕ
  pub front : List (List ℕ)
  pub others : List (List ℕ)
  pub chain : records ≡ chained before (front ++ body ∷ [])
  pub says : digest ≡ last_digest before (front ++ body ∷ [])
  pub head : front ++ body ∷ [] ≡ (title ++ before) ∷ others

-- the octets from the gate on that ends the list (own)
abbrev pub end_of : (octets : List ℕ) → List ℕ
end_of octets = drop (gate_of octets) octets

-- if their first octet were 1, these octets would be a record that comes after this digest, and one
-- record more at least (own)
pub record HadMore (digest octets : List ℕ) : Type 0 where
  pub body : List ℕ
  pub next : List ℕ
  pub more : List (List ℕ)
  pub records : images (1 ∷ drop 1 octets) ≡ sealed digest body ∷ (next ∷ more)

-- the list ended later once, as these octets from its end on show: the gate that ends it is 1, or
-- more records were there (own)
abbrev pub EndedLater : (digest octets : List ℕ) → Type 0
EndedLater digest octets = (slice_index octets 0 ≡ 1) ⊎ HadMore digest octets

-- octets are a segment, whose first body is this text and a digest of 32 octets (own)
pub record IsSegment (title octets : List ℕ) : Type 0 where
  pub before : List ℕ
  pub others : List (List ℕ)
  pub size : length before ≡ 32
  pub chain : images octets ≡ chained before ((title ++ before) ∷ others)
  pub ends : EndedLater (last_digest before ((title ++ before) ∷ others)) (end_of octets) → ⊥

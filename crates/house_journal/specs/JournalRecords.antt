-- The list of images that the octets of a journal are.
use Rattle.std.specs.Prelude.{◌≡◌, ◌⊎◌, ℕ, zero, suc, ◌+◌, ◌^◌, ◌≤◌, ◌==◌, nat_le, Bool, ◌&&◌, if◌then◌else◌, List, [], ◌∷◌, ◌++◌, length, take, drop, slice_index, Option, None}
use Rattle.std.specs.List.{last_or}
use Rattle.std.specs.Int.{w64, from_be_bytes}

-- how many octets the image of the record at the front has
abbrev pub length_at : List ℕ → ℕ
length_at file = from_be_bytes w64 (take 8 (drop 1 file))

-- the gate at the front is open: it is 1, and a whole length, so many octets and one more follow
abbrev pub is_open : List ℕ → Bool
is_open file = (slice_index file 0 == 1) && nat_le (length_at file + 10) (length file)

-- the images of the records after so many octets, up to the first gate that is not open
unfoldable pub images_after : (skip : ℕ) → List ℕ → List (List ℕ)
images_after skip [] = []
images_after (suc skip) (b ∷ bs) = images_after skip bs
images_after zero (b ∷ bs) =
    if is_open (b ∷ bs) then take (length_at (b ∷ bs)) (drop 8 bs) ∷ images_after (length_at (b ∷ bs) + 8) bs else []

-- how many octets these records have
unfoldable pub octets_after : (skip : ℕ) → List ℕ → ℕ
octets_after skip [] = 0
octets_after (suc skip) (b ∷ bs) = octets_after skip bs
octets_after zero (b ∷ bs) =
    if is_open (b ∷ bs) then length_at (b ∷ bs) + 9 + octets_after (length_at (b ∷ bs) + 8) bs else 0

-- the images of a journal, the oldest first
abbrev pub images : List ℕ → List (List ℕ)
images = images_after 0

-- the place of the gate that ends the list
abbrev pub gate_of : List ℕ → ℕ
gate_of = octets_after 0

-- the image of the last record, if there is one
abbrev pub last_image : List ℕ → Option (List ℕ)
last_image file = last_or None (images file)

-- no octet follows a gate that is 1 and not open
abbrev pub IsClean : List ℕ → Type 0
IsClean file = slice_index file (gate_of file) ≡ 1 → length file ≤ gate_of file + 1

-- a journal of these octets can be opened: they are clean, and no more than 2 ^ 40
pub record IsOpenable (file : List ℕ) : Type 0 where
  pub clean : IsClean file
  pub small : length file ≤ 2 ^ 40

-- these octets have the images of that file, and can be opened
abbrev pub HasImagesOf : List ℕ → List ℕ → Type 0
HasImagesOf file c = (images c ≡ images file) × IsOpenable c

-- the gate that ends the list is closed, and is the last octet
pub record IsAtRest (file : List ℕ) (place : ℕ) : Type 0 where
  pub gate : place ≡ gate_of file
  pub last : length file ≡ place + 1
  pub closed : slice_index file place ≡ 0

-- the images are these, or these and one more
abbrev pub IsBeforeOrAfter : List (List ℕ) → List ℕ → List ℕ → Type 0
IsBeforeOrAfter before image c = ((images c ≡ before) ⊎ (images c ≡ before ++ image ∷ [])) × IsOpenable c

-- the octets of a record of this image, and a closed gate after it
pub record IsRecordOf (image octets : List ℕ) : Type 0 where
  pub head : List ℕ
  pub split : octets ≡ 1 ∷ (head ++ (image ++ 0 ∷ []))
  pub eight : length head ≡ 8
  pub says : from_be_bytes w64 head ≡ length image

-- The octets of a house's records.
use Rattle.std.specs.Prelude.{◌≡◌, ◌<◌, ◌^◌, ℕ, List, [], ◌∷◌, ◌++◌, length, Option, Some, None, codes, decimal}
use Rattle.std.specs.Int.{to_be_bytes, w32, w64}

-- a mark, and the image if there is one
abbrev pub mark_of : Option (List ℕ) → ℕ
mark_of None = 0
mark_of (Some image) = 1

-- the octets of an image, if there is one
abbrev pub image_in : Option (List ℕ) → List ℕ
image_in None = []
image_in (Some image) = image

-- the body of a record: the number of the entry and the clock, eight octets each; the mark; the
-- length of the text in four octets, the text, and the image
abbrev pub body_of : (number clock : ℕ) → (text : List ℕ) → (image : Option (List ℕ)) → List ℕ
body_of number clock text image =
    to_be_bytes w64 number ++ (to_be_bytes w64 clock ++ (mark_of image ∷ (to_be_bytes w32 (length text) ++ (text ++ image_in image))))

-- octets are the body of this record, whose numbers have 64 bits, and the length of whose text has
-- 32
pub record IsBody (octets : List ℕ) (number clock : ℕ) (text : List ℕ) (image : Option (List ℕ)) : Type 0 where
  pub numbered : number < 2 ^ 64
  pub timed : clock < 2 ^ 64
  pub short : length text < 2 ^ 32
  pub octets_are : octets ≡ body_of number clock text image

-- the head of a segment: a line that names it, and the digest of the last record of the segment
-- before
abbrev pub head_of : (number : ℕ) → (before : List ℕ) → List ℕ
head_of number before = codes "cdshouse journal 2 " ++ (decimal number ++ (10 ∷ before))

-- Texts of messages, and of octets in pieces.
use Rattle.std.specs.Prelude.{ℕ, zero, suc, ◌-◌, List, [], ◌∷◌, ◌++◌, length, map, take, codes, decimal}
use Rattle.hex.specs.Hex.{encode_lower}

-- the pieces of octets, of so many each, that begin after the first octets, so many: the last piece
-- may be shorter
unfoldable pub pieces_after : (size skip : ℕ) → List ℕ → List (List ℕ)
pieces_after size skip [] = []
pieces_after size (suc skip) (b ∷ bs) = pieces_after size skip bs
pieces_after size zero (b ∷ bs) = take size (b ∷ bs) ∷ pieces_after size (size - 1) bs

-- all pieces
abbrev pub pieces_of : (size : ℕ) → List ℕ → List (List ℕ)
pieces_of size octets = pieces_after size 0 octets

-- a line of octets: a word with a space, and they in hexadecimal digits
abbrev pub octets_line : (word : List ℕ) → (octets : List ℕ) → List ℕ
octets_line word octets = word ++ encode_lower octets

-- the last line of a list: how many there are
abbrev pub end_line : ℕ → List ℕ
end_line count = codes "end " ++ decimal count

-- octets in pieces of 2,000, and how many they are
abbrev pub octets_lines : List ℕ → List (List ℕ)
octets_lines octets =
    map (octets_line (codes "octets ")) (pieces_of 2000 octets) ++ end_line (length octets) ∷ []

-- a line of a message to a house: a word with a space, the house, and octets in hexadecimal digits
abbrev pub post_line : (word : List ℕ) → (to : ℕ) → (octets : List ℕ) → List ℕ
post_line word to octets = word ++ (decimal to ++ (32 ∷ encode_lower octets))

-- a message in pieces: `post` is the word of the last one
abbrev pub piece_lines : (to : ℕ) → List (List ℕ) → List (List ℕ)
piece_lines to [] = post_line (codes "post ") to [] ∷ []
piece_lines to (p ∷ []) = post_line (codes "post ") to p ∷ []
piece_lines to (p ∷ q ∷ ps) = post_line (codes "more ") to p ∷ piece_lines to (q ∷ ps)

-- Words with one space between two are the words of that line again.
use Rattle.std.proofs.Common.{◌≡◌, ℕ, Bool, true, false, List, [], ◌∷◌, ◌++◌, length, refl, ap, ◌∙◌}
use Rattle.std.specs.Prelude.{cond, filter, not, ◌==◌}
use Rattle.std.specs.List.{onto_first, slice_split}
use Rattle.cell_script.specs.Words.{words_of}
use Rattle.house_turns.specs.HouseReplies.{with_spaces}

abbrev is_space : ℕ → Bool
is_space b = b == 32

abbrev some_octets : List (List ℕ) → List (List ℕ)
some_octets = filter (λ w. not (length w == 0))

-- octets without a space
abbrev HasNoSpace : List ℕ → Type 0
HasNoSpace [] = Unit {0}
HasNoSpace (b ∷ bs) = (is_space b ≡ false) × HasNoSpace bs

-- parts of a line between its spaces
abbrev AreParts : List (List ℕ) → Type 0
AreParts [] = Unit {0}
AreParts (w ∷ ws) = HasNoSpace w × AreParts ws

-- parts that are words
abbrev AreWords : List (List ℕ) → Type 0
AreWords [] = Unit {0}
AreWords (w ∷ ws) = HasNoSpace w × ((length w == 0) ≡ false) × AreWords ws

-- ---- words, one after the other

one_part : (w : List ℕ) → HasNoSpace w → slice_split is_space w ≡ w ∷ []
one_part [] bare = refl
one_part (b ∷ bs) bare = rw bare.0 (ap (onto_first b) (one_part bs bare.1))

first_part : (w rest : List ℕ) → HasNoSpace w → slice_split is_space (w ++ (32 ∷ rest)) ≡ w ∷ slice_split is_space rest
first_part [] rest bare = refl
first_part (b ∷ bs) rest bare = rw bare.0 (ap (onto_first b) (first_part bs rest bare.1))

kept : (w : List ℕ) (ws : List (List ℕ)) → (length w == 0) ≡ false → some_octets (w ∷ ws) ≡ w ∷ some_octets ws
kept w ws some = rw some refl

joined_words : (ws : List (List ℕ)) → AreWords ws → words_of (with_spaces ws) ≡ ws
joined_words [] are = refl
joined_words (w ∷ []) are = ap some_octets (one_part w are.0) ∙ kept w [] are.1
joined_words (w ∷ v ∷ ws) are =
    ap some_octets (first_part w (with_spaces (v ∷ ws)) are.0) ∙ kept w (slice_split is_space (with_spaces (v ∷ ws))) are.1
    ∙ ap (λ (vs : List (List ℕ)). w ∷ vs) (joined_words (v ∷ ws) are.2)

-- ---- the words of a line

onto_parts : (b : ℕ) (ws : List (List ℕ)) → is_space b ≡ false → AreParts ws → AreParts (onto_first b ws)
onto_parts b [] off are = ((off, tt), tt)
onto_parts b (w ∷ ws) off are = ((off, are.0), are.1)

parts : (line : List ℕ) → AreParts (slice_split is_space line)
parts [] = (tt, tt)
parts (b ∷ bs) = by (is_space b) refl (parts bs)
  where
    by : (t : Bool) → is_space b ≡ t → AreParts (slice_split is_space bs)
        → AreParts (cond t ([] ∷ slice_split is_space bs) (onto_first b (slice_split is_space bs)))
    by true is are = (tt, are)
    by false is are = onto_parts b (slice_split is_space bs) is are

some_words : (ws : List (List ℕ)) → AreParts ws → AreWords (some_octets ws)
some_words [] are = tt
some_words (w ∷ ws) are = by (length w == 0) refl (some_words ws are.1)
  where
    by : (t : Bool) → (length w == 0) ≡ t → AreWords (some_octets ws) → AreWords (cond (not t) (w ∷ some_octets ws) (some_octets ws))
    by true is others = others
    by false is others = (are.0, is, others)

-- the words of a line are those of the line that they make with one space between two
pub words_again : (line : List ℕ) → words_of (with_spaces (words_of line)) ≡ words_of line
words_again line = joined_words (words_of line) (some_words (slice_split is_space line) (parts line))

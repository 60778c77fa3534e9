-- The text of a turn in its record.
use Rattle.std.specs.Prelude.{◌≡◌, ◌≢◌, ℕ, List, [], ◌∷◌, ◌++◌, All, Some, codes, decimal, drop}
use Rattle.std.specs.List.{AllByRecursion, flat_map}
use Rattle.hex.specs.Hex.{encode_lower}
use Rattle.cell_script.specs.Words.{house_of, octets_of, words_of}
use Rattle.house_logs.specs.declared.log.PostedOctets.{PostedOctets}

-- no line ends among octets
abbrev pub HasNoEnd : List ℕ → Type 0
HasNoEnd = All (λ b. b ≢ 10)

-- ---- messages

-- the line of a message that was posted: the house that it goes to, and its octets in hexadecimal
-- digits
abbrev pub post_line : PostedOctets → List ℕ
post_line p = codes "post " ++ (decimal p.to.0 ++ (32 ∷ encode_lower p.octets))

-- with its end
abbrev pub post_text : PostedOctets → List ℕ
post_text p = post_line p ++ 10 ∷ []

-- those of messages
abbrev pub posts_text : List PostedOctets → List ℕ
posts_text = flat_map post_text

-- two words are this message: its house, and its octets
pub record AreWordsOf (words : List (List ℕ)) (p : PostedOctets) : Type 0 where
  pub to : List ℕ
  pub digits : List ℕ
  pub two : words ≡ to ∷ (digits ∷ [])
  pub house : house_of to ≡ Some p.to
  pub octets : octets_of digits ≡ Some p.octets

-- a message is what the words of its line say after the first one, and no line ends in it
pub record IsPost (p : PostedOctets) : Type 0 where
  pub words : AreWordsOf (drop 1 (words_of (post_line p))) p
  pub no_end : HasNoEnd (post_line p)

-- ---- turns

-- the text of a turn: its line, its messages, and its answer
abbrev pub turn_text : (line : List ℕ) → List PostedOctets → (answer : List ℕ) → List ℕ
turn_text line posts answer = line ++ (10 ∷ (posts_text posts ++ (answer ++ 10 ∷ [])))

-- an answer is one line, which does not begin as that of a message
pub record IsAnswer (answer : List ℕ) : Type 0 where
  pub no_end : HasNoEnd answer
  pub other : (rest : List ℕ) → answer ≢ codes "post " ++ rest

-- these are the line, the messages and the answer of a turn
pub record AreParts (line : List ℕ) (posts : List PostedOctets) (answer : List ℕ) : Type 0 where
  pub no_end : HasNoEnd line
  pub each : AllByRecursion IsPost posts
  pub says : IsAnswer answer

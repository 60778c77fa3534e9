-- The list of an epoch in a line.
use Rattle.std.specs.Prelude.{ℕ, ◌+◌, if◌then◌else◌, List, [], ◌∷◌, length, Ok, Result}
use Rattle.cds_stamps.specs.declared.members.Member.{Member}
use Rattle.cds_stamps.specs.declared.numbers.HouseNo.{HouseNo}
use Rattle.cell_script.specs.declared.fault.ParseFault.{ParseFault}
use Rattle.cell_script.specs.Words.{house_of}
use Rattle.cell_script.specs.WordForms.{◌>>=◌, Words, each_word, next_word}
use Rattle.house_lines.specs.declared.line.EpochList.{EpochList}
use Rattle.house_lines.specs.MemberWords.{is_dash, member_of}

-- the words before the first dash that is not the last word, or all of them
abbrev pub before_dash : List (List ℕ) → List (List ℕ)
before_dash [] = []
before_dash (w ∷ []) = w ∷ []
before_dash (w ∷ v ∷ ws) = if is_dash w then [] else w ∷ before_dash (v ∷ ws)

-- the words after it, or none
abbrev pub after_dash : List (List ℕ) → List (List ℕ)
after_dash [] = []
after_dash (w ∷ []) = []
after_dash (w ∷ v ∷ ws) = if is_dash w then v ∷ ws else after_dash (v ∷ ws)

-- the first member and those before the dash: the words after the first one say these
abbrev pub members_said : (first : Member) → Words → Result (List Member) ParseFault
members_said first s = do
  others ← each_word member_of s.read (before_dash s.rest)
  Ok (first ∷ others)

-- the houses after the dash, which is a word itself
abbrev pub leaving_said : Words → Result (List HouseNo) ParseFault
leaving_said s = each_word house_of (s.read + length (before_dash s.rest) + 1) (after_dash s.rest)

-- the list of an epoch, as many words as there are: a member and more members, and after a dash the
-- houses that leave
unfoldable pub list_said : Words → Result EpochList ParseFault
list_said s = do
  first ← next_word member_of s.read s.rest
  members ← members_said first.0 first.1
  leaving ← leaving_said first.1
  Ok (record { members = members; leaving = leaving })

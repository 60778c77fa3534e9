-- What a process did, from its start on.
use Rattle.std.specs.Prelude.{◌≡◌, ◌≢◌, ◌⊎◌, ℕ, ◌+◌, ◌^◌, ◌<◌, ◌≤◌, List, [], ◌∷◌, ◌++◌, Option, length}
use Rattle.std.specs.Io.KnownBytes.{Appends, IsAtEnd}
use Rattle.cds_base.specs.SourceReading.{GrowsByReading}
use Rattle.cds_base.specs.declared.scan.LineFault.{LineFault}
use Rattle.script_answers.specs.Texts as texts
use Rattle.house_runs.specs.Folders.{AreSegments, FolderSegment, OpensFrom, folder_bodies}
use Rattle.house_segments.specs.Segments.{size_with}
use Rattle.house_serving.specs.Faults.{fault_line_text}
use Rattle.cds_base.specs.RunEnds.{Run}
use Rattle.house_serving.specs.Serving.{HasNoLine}
use Rattle.house_serving.specs.Turns.{Turn, lines_text, texts_of}
use Rattle.house_turns.specs.Openings.{HasTurn, after_start, first_lines, new_house}
use Rattle.house_turns.specs.declared.house.House.{House}
use Rattle.house_program.specs.Files.{Files, last_file, number_in}
use Rattle.house_program.specs.HouseFolders.{Found, HasFolderFront, bodies_in_file, digest_after_all}
use Rattle.house_program.specs.declared.status.Status.{Status}
use Rattle.house_program.specs.declared.status.Status.TheVariants.{BadInput, Full, Ok}

-- the lines of segments, in order (own)
abbrev pub turns_in : List FolderSegment → List Turn
turns_in [] = []
turns_in (s ∷ ss) = s.turns ++ turns_in ss

-- what a house says first (own)
abbrev pub IsSaidFirst : House → List ℕ → Type 0
IsSaidFirst h said = (turn : HasTurn h.home h.last) → said ≡ texts.lines_text 0
    (first_lines h h.home turn)

-- nothing, or the line of a fault of octets (own)
abbrev pub IsFaultLine : List ℕ → Type 0
IsFaultLine last = (last ≡ []) ⊎ ((fault : LineFault) × (last ≡ fault_line_text fault))

-- octets are a front of what is said first, of the answers of these lines, and of the line of a
-- fault after them (own)
pub record IsFrontSaid (said : List ℕ) (turns : List Turn) (text : List ℕ) : Type 0 where
  pub last : List ℕ
  pub unsaid : List ℕ
  pub fault : IsFaultLine last
  pub front : said ++ (texts_of turns ++ last) ≡ text ++ unsaid

-- A crash leaves a front of what was made, and of that all that was said: if anything was, the
-- start; and the lines that were answered, and perhaps more (own)
pub record KeepsAllSaid (kept : Files → Type 0) (found : Found) (records : List (List ℕ))
    (said text : List ℕ) (files : Files) : Type 0 where
  pub front : HasFolderFront kept found records files
  pub started : front.segments ≡ [] → text ≡ []
  pub answered : List Turn
  pub more : List Turn
  pub split : turns_in front.segments ≡ answered ++ more
  pub says : IsFrontSaid said answered text

-- all lines of the input are these, and all is answered (own)
pub record AllIsAnswered (run : Run) (said : List ℕ) (turns : List Turn)
    (text : List ℕ) : Type 0 where
  pub all : text ≡ said ++ texts_of turns
  pub read : GrowsByReading run.left run.left' [] (lines_text turns)
  pub ends : IsAtEnd run.left'

-- the line after these is none, and all is answered: them, and that it is none (own)
pub record HasBadLine (run : Run) (said : List ℕ) (turns : List Turn) (text : List ℕ) : Type 0 where
  pub last : List ℕ
  pub one : List ℕ
  pub ahead : List ℕ
  pub all : text ≡ said ++ (texts_of turns ++ last)
  pub read : GrowsByReading run.left run.left' [] (lines_text turns ++ (one ++ ahead))
  pub faulty : HasNoLine (length turns + 1) one ahead run.left' last

-- how many octets the last of segments has, which comes after those (own)
abbrev pub last_size_after : Found → (front : List FolderSegment) → FolderSegment → ℕ
last_size_after found front s = size_with (bodies_in_file (found.number + 1 + length front)
    (digest_after_all (found.number + 1) found.digest front) s)

-- segments are these and one more, with which they are what a house makes (own)
pub record EndsWith (found : Found) (segments front : List FolderSegment)
    (last : FolderSegment) : Type 0 where
  pub split : segments ≡ front ++ last ∷ []
  pub are : AreSegments found.last new_house segments

-- the line was read after those of these segments (own)
abbrev pub IsReadNext : Run → List FolderSegment → (line : List ℕ) → Type 0
IsReadNext run segments line = (ahead : List ℕ) × GrowsByReading run.left run.left' []
    (lines_text (turns_in segments) ++ ((line ++ 10 ∷ []) ++ ahead))

-- there is no room: no number for another segment; or a segment would have more than 2^40 octets,
-- with its first record, or with that of the next line (own)
pub data HasNoRoom (run : Run) (found : Found) (segments : List FolderSegment) : Type 0 where
  NoNumber : 2 ^ 64 ≤ found.number + length segments + 1 → HasNoRoom run found segments
  NoFirst : (front : List FolderSegment) (last : FolderSegment) → last.turns ≡ []
      → EndsWith found segments front last → 2 ^ 40 < last_size_after found front last
      → HasNoRoom run found segments
  NoNext : (front : List FolderSegment) (last with_it : FolderSegment) (turn : Turn)
      → segments ≡ front ++ last ∷ []
      → with_it ≡ record last { turns = last.turns ++ turn ∷ [] }
      → EndsWith found (front ++ with_it ∷ []) front with_it → IsReadNext run segments turn.line
      → 2 ^ 40 < last_size_after found front with_it → HasNoRoom run found segments

-- What a process did. It went on from the last segment, and put these records; it said this. A
-- crash at any moment left the folder of before and a front of the records; one after it leaves all
-- of which anything was said (own)
pub record Life (kept ever kept' ever' : Files → Type 0) (run : Run)
    (status : Status) : Type 0 where
  pub found : Found
  pub opened : House
  pub segments : List FolderSegment
  pub over : List (List ℕ)
  pub said : List ℕ
  pub text : List ℕ
  pub opens : OpensFrom found.last opened
  pub speaks : IsSaidFirst (after_start opened opened.home) said
  pub wrote : Appends run.written run.written' text
  pub any_moment : (files : Files) → ever' files → ever files ⊎ HasFolderFront kept found
      (folder_bodies segments ++ over) files
  pub at_the_end : (files : Files) → kept' files → KeepsAllSaid kept found
      (folder_bodies segments ++ over) said text files
  pub answers : status ≡ Ok → AllIsAnswered run said (turns_in segments) text
  pub faulty : status ≡ BadInput → HasBadLine run said (turns_in segments) text
  pub full : status ≡ Full → HasNoRoom run found segments

-- nothing was said, and nothing done that a crash may leave; the folder has no number for another
-- segment, if the status says that it is full (own)
pub record IsIdle (kept ever kept' ever' : Files → Type 0) (run : Run)
    (status : Status) : Type 0 where
  pub wrote : Appends run.written run.written' []
  pub calm : (files : Files) → ever' files → ever files
  pub fewer : (files : Files) → kept' files → kept files
  pub not_ok : status ≢ Ok
  pub not_faulty : status ≢ BadInput
  pub full : status ≡ Full → (files : Files) → kept' files
      → 2 ^ 64 ≤ number_in (last_file files) + 1

-- a process did nothing, or it lived (own)
abbrev pub Lived : (kept ever kept' ever' : Files → Type 0) → Run → Status → Type 0
Lived kept ever kept' ever' run status = IsIdle kept ever kept' ever' run status
    ⊎ Life kept ever kept' ever' run status

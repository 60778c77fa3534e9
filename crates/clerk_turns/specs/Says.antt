-- What a clerk says to a command.
use Rattle.std.specs.Prelude.{ℕ, List, [], ◌∷◌, ◌++◌, map, codes, decimal}
use Rattle.std.specs.List.{flat_map}
use Rattle.cds_stamps.specs.declared.numbers.DirId.{DirId}
use Rattle.cell_script.specs.declared.fault.ParseFault.{ParseFault}
use Rattle.cell_script.specs.declared.fault.ParseFault.TheVariants as parse
use Rattle.script_answers.specs.declared.answer.Answer.TheVariants as answer
use Rattle.script_answers.specs.Texts.{answer_line, import_end}
use Rattle.inquire_forms.specs.Inquired.{Inquired, Plain}
use Rattle.inquire_forms.specs.InquireTexts.{listed_count, listed_lines}
use Rattle.clerk_lines.specs.ClerkTexts.{say_text}

-- the line of a directory that a search did not reach
abbrev pub unreached_line : DirId → List ℕ
unreached_line dir = codes "unreached " ++ decimal dir.0

-- the lines of an answer that lists something: what it lists, the directories that were not
-- reached, and how many it lists
abbrev pub list_said : Inquired → List DirId → List (List ℕ)
list_said said unreached =
    listed_lines said ++ (map unreached_line unreached ++ import_end (listed_count said) ∷ [])

-- the lines of an answer; one that lists nothing has one
abbrev pub lines_said : Inquired → List DirId → List (List ℕ)
lines_said (Plain (answer.Bindings bs)) unreached = list_said (Plain (answer.Bindings bs)) unreached
lines_said (Plain other) unreached = answer_line other ∷ []
lines_said listed unreached = list_said listed unreached

-- the answer to a command: each of its lines is said
abbrev pub answer_said : (command : ℕ) → Inquired → List DirId → List ℕ
answer_said command said unreached = flat_map (say_text command) (lines_said said unreached)

-- ---- faults

-- the line of a fault: its name and its place
abbrev pub fault_line : (name : List ℕ) → (place : ℕ) → List ℕ
fault_line name place = codes "fault " ++ (name ++ (32 ∷ decimal place))

-- the line of a fault of words
abbrev pub parse_fault_line : ParseFault → List ℕ
parse_fault_line (parse.UnknownCommand word) = fault_line (codes "UnknownCommand") word
parse_fault_line (parse.WrongCount words) = fault_line (codes "WrongCount") words
parse_fault_line (parse.BadWord word) = fault_line (codes "BadWord") word

-- a command that is none: its fault is said
abbrev pub fault_said : (command : ℕ) → ParseFault → List ℕ
fault_said command fault = say_text command (parse_fault_line fault)

-- ---- words of private contracts

-- what a line begins with that is said to a command
abbrev pub front_said : (command : ℕ) → List ℕ
front_said command = codes "say " ++ (decimal command ++ 32 ∷ [])

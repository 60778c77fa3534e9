-- The commands that mend a directory, as lines of a script.
use Rattle.std.specs.Prelude.{ℕ, if◌then◌else◌, List, [], ◌∷◌, ◌++◌, map, codes, is_some, Option, Some, None}
use Rattle.std.specs.List.{flat_map}
use Rattle.cds_stamps.specs.Members.{master_of}
use Rattle.cell_model.specs.Cells.{Cell}
use Rattle.cell_model.specs.Commands.{Command, Epoch, Skulk, Deliver, Start}
use Rattle.cell_model.specs.Mending.{mend_commands, skulking_at}
use Rattle.cell_model.specs.Sets.{has}
use Rattle.cell_model.specs.Steps.{is_unknown}
use Rattle.cell_model.specs.Turns.{stamp_at}
use Rattle.cell_script.specs.declared.command.Command.TheVariants as script
use Rattle.cell_script.specs.declared.lists.Listed.{Listed}
use Rattle.command_lines.specs.CommandTexts as text
use Rattle.script_answers.specs.Texts.{unwords}
use Rattle.mend_model.specs.Leaving.{leaving_commands, new_master}
use Rattle.mend_replay.specs.Readiness.{is_ready}

-- ---- lines

-- a house of a list, as a script has it: it may be one of the secondary ones
abbrev pub listed_house : (ss : List ℕ) → ℕ → Listed
listed_house ss x = record { house = record { 0 = x }; secondary = has x ss }

-- the words of these four commands, as a script has them; the others mend nothing, and have none
-- here
abbrev pub command_words : Command → List (List ℕ)
command_words (Start h) = text.command_words (script.Start (record { 0 = h }))
command_words (Epoch d m rs ss) =
    text.command_words
    (script.Epoch (record { 0 = d }) (record { 0 = m }) (map (listed_house ss) rs))
command_words (Skulk h d) =
    text.command_words (script.Skulk (record { 0 = h }) (record { 0 = d }))
command_words (Deliver n) = text.command_words (script.Deliver n)
command_words _ = []

-- the line of a command, without its end
abbrev pub command_line : Command → List ℕ
command_line c = unwords (command_words c)

-- the lines of commands, each with its end
abbrev pub command_lines : List Command → List ℕ
command_lines = flat_map (λ c. command_line c ++ 10 ∷ [])

-- ---- what mends a directory

-- the commands that mend a directory of a cell: a skulk is enough where its houses are ready
abbrev pub mends : Cell → (d : ℕ) → List Command
mends g d = if is_ready g d then skulking_at g d else mend_commands g d

-- the line of a refusal
abbrev pub refusal_line : List ℕ → List ℕ
refusal_line why = codes "refused " ++ (why ++ 10 ∷ [])

-- the lines of these commands; or that its master has no stamp left, without which none is mended
abbrev pub mending_text : (d : ℕ) → Cell → List ℕ
mending_text d g =
    if is_some (stamp_at (g.house (master_of (g.present d)))) then command_lines (mends g d)
    else refusal_line (codes "StampsSpent")

-- the lines of the commands that leave houses out with the master m; or that this one has no stamp
-- left
abbrev pub led_text : (d : ℕ) → (hs : List ℕ) → Cell → (m : ℕ) → List ℕ
led_text d hs g m =
    if is_some (stamp_at (g.house m)) then command_lines (leaving_commands g d hs m)
    else refusal_line (codes "StampsSpent")

-- the same with this master; or that no house that stays can be master
abbrev pub text_led_by : (d : ℕ) → (hs : List ℕ) → Cell → Option ℕ → List ℕ
text_led_by d hs g (Some m) = led_text d hs g m
text_led_by d hs g None = refusal_line (codes "NoReplica")

-- the same with the master that such a list has
abbrev pub leaving_text : (d : ℕ) → (hs : List ℕ) → Cell → List ℕ
leaving_text d hs g = text_led_by d hs g (new_master g d hs)

-- what mends a directory, or leaves houses out of it if any are named
abbrev pub known_text : (d : ℕ) → (hs : List ℕ) → Cell → List ℕ
known_text d [] g = mending_text d g
known_text d (h ∷ hs) g = leaving_text d (h ∷ hs) g

-- the same; or that there is no such directory
abbrev pub mend_text : (d : ℕ) → (hs : List ℕ) → Cell → List ℕ
mend_text d hs g = if is_unknown g d then refusal_line (codes "NoDirectory") else known_text d hs g

-- Words of private contracts: lines that are put after others.
use Rattle.std.specs.Prelude.{◌≡◌, ℕ, ◌+◌, Bool, ◌==◌, if◌then◌else◌, List, [], ◌∷◌, ◌++◌, length, None}
use Rattle.std.specs.Fmt.{decimal}
use Rattle.cds_stamps.specs.declared.members.MemberKind.TheVariants.{Master}
use Rattle.cds_stamps.specs.Members.{Member, first_unordered, is_secondary, others_of, secondaries_of}
use Rattle.cell_model.specs.Cells.{Cell}
use Rattle.cell_model.specs.Commands.{Command, Epoch}
use Rattle.cell_model.specs.Mending.{deliver_commands, skulk_commands, start_commands}
use Rattle.mend_replay.specs.MendLines.{command_lines}

-- the lines of these commands come after a script
abbrev pub IsScriptWith : (old new : List ℕ) → List Command → Type 0
IsScriptWith old new cs = new ≡ old ++ command_lines cs

-- the house numbers ascend
abbrev pub AreOrdered : List Member → Type 0
AreOrdered ms = first_unordered 1 0 ms ≡ None

-- a member, as the master if it is this house
abbrev pub led_member : (m : ℕ) → Member → Member
led_member m y = record y { kind = if y.house == m then Master else y.kind }

-- these houses are started, get an epoch with the master m that posts so many messages, take its
-- Joins, and then a skulk completes
abbrev pub commands_without : Cell → (d m : ℕ) → List Member → (posted : ℕ) → List Command
commands_without g d m kept posted =
    let rs : List ℕ = others_of m kept in
    start_commands g kept ++ Epoch d m rs (secondaries_of kept)
    ∷ (deliver_commands (length g.bag) (length rs) ++ skulk_commands m d (length g.bag + posted)
    (length rs))

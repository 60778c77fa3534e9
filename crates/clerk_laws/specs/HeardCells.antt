-- What a clerk heard of houses, if that is what the houses of a cell show between two steps.
use Rattle.std.specs.Prelude.{◌≡◌, ℕ, Bool, if◌then◌else◌, List, Option, Some, None}
use Rattle.std.specs.FinMap.{get}
use Rattle.std.specs.Option.{option_and_then, option_map}
use Rattle.cds_stamps.specs.Numbers.{root_dir}
use Rattle.cds_stamps.specs.declared.numbers.DirId.{DirId}
use Rattle.cds_stamps.specs.declared.numbers.HouseNo.{HouseNo}
use Rattle.cell_names.specs.ChildPointers.{Pointer}
use Rattle.cell_model.specs.Cells as model
use Rattle.house_directory.specs.declared.states.DirState.{DirState}
use Rattle.cds_cell.specs.declared.cell.Cell.{Cell}
use Rattle.cds_cell.specs.declared.house.HouseState.{HouseState}
use Rattle.cds_cell.specs.declared.house.HouseState.TheVariants as state
use Rattle.cds_cell.specs.ModelCells.{Stands, house_of}
use Rattle.cds_cell.specs.Telling.{first_pointer, told_views}
use Rattle.cell_script.specs.declared.command.Question.{Question}
use Rattle.cell_script.specs.declared.command.Question.TheVariants as question
use Rattle.inquire_forms.specs.declared.inquire_line.InquireLine.{InquireLine}
use Rattle.inquire_forms.specs.declared.inquire_line.InquireLine.TheVariants as inquire
use Rattle.clerk_lines.specs.declared.hearing.Told.{Told}
use Rattle.cds_clerk.specs.declared.heard.Heard.{Heard}
use Rattle.cds_clerk.specs.declared.inquiring.Listing.{Listing}
use Rattle.cds_clerk.specs.declared.inquiring.Listing.TheVariants as listing
use Rattle.cds_clerk.specs.declared.planning.Plan.{Plan}
use Rattle.cds_clerk.specs.declared.planning.Plan.TheVariants as plan
use Rattle.cds_clerk.specs.Heards.{heard_root, told_of}
use Rattle.clerk_laws.specs.Faces.{IsHeardOf, shown_to}

-- ---- what a house has

-- what a house has of a directory, if it is up
abbrev pub had_by : HouseState → DirId → Option DirState
had_by (state.Up home) dir = get home.dirs dir
had_by (state.Down octets) dir = None

-- what the house of this number has of it: nothing, if it is down or was not made
abbrev pub had_at : Cell → (dir house : ℕ) → Option DirState
had_at c dir house =
    option_and_then (λ h. had_by h.state (record { 0 = dir })) (house_of c.houses.items house)

-- ---- what was heard of a cell

-- the root directory is where the console says; it is nowhere, if no house is up that holds it
abbrev pub IsRootIn : Cell → Option Pointer → Type 0
IsRootIn c None = (house : ℕ) → told_views c root_dir house ≡ None
IsRootIn c (Some p) = first_pointer c.directories.items ≡ Some p

-- all that was heard is what the houses of the cell show to those who ask so: a house is passed
-- over exactly if it is down, or holds no replica, or at `high` is not the master
pub record AreShownIn (c : Cell) (high : Bool) (h : Heard) : Type 0 where
  pub root : (p : Option Pointer) → heard_root h.root ≡ Some p → IsRootIn c p
  pub told : (dir house : ℕ) (name : List ℕ) (t : Told)
      → told_of h.answers dir house name ≡ Some t
      → IsHeardOf (shown_to house high name (had_at c dir house)) t

-- a clerk heard it so of a cell that commands lead to, and preferred this house; at `high` it
-- preferred none
pub record IsHeardIn (g : model.Cell) (prefer : Option ℕ) (high : Bool) (h : Heard) : Type 0 where
  pub cell : Cell
  pub stands : Stands cell g
  pub shown : AreShownIn cell high h
  pub near : option_map (λ x. x.0) h.near ≡ (if high then None else prefer)

-- ---- commands of scripts

-- the line that makes this inquiry at a house
abbrev pub inquiry_of : (house : HouseNo) → (high : Bool) → (name : List (List ℕ)) → Listing
    → InquireLine
inquiry_of house high name listing.Members = inquire.Grouplist house high name
inquiry_of house high name listing.Entry = inquire.Entrylist house high name
inquiry_of house high name (listing.Elements asked) = inquire.Proflist house high name asked

-- the line of a script that is this command of a clerk
abbrev pub line_of : Plan → Question
line_of (plan.Export name interface bindings objects) =
    question.Export name interface bindings objects
line_of (plan.Unexport name interface objects) = question.Unexport name interface objects
line_of (plan.Groupadd name member) = question.Groupadd name member
line_of (plan.Groupdel name member) = question.Groupdel name member
line_of (plan.Profadd name interface member priority note) =
    question.Profadd name interface member priority note
line_of (plan.Profdel name interface member) = question.Profdel name interface member

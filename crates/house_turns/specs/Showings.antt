-- What a house answers to the questions of a clerk: what shows of a name, how a directory is, and
-- which directories it has.
use Rattle.std.specs.Prelude.{ℕ, Bool, ◌&&◌, not, ◌==◌, if◌then◌else◌, List, [], ◌∷◌, ◌++◌, length, map, Option, Some, None, codes, decimal, is_some}
use Rattle.std.specs.FinMap.{get}
use Rattle.std.specs.Option.{option_map_or}
use Rattle.attr_sets.specs.AttributeCells.{cell_values}
use Rattle.cds_stamps.specs.Members.{master_of, members_of}
use Rattle.cds_stamps.specs.declared.numbers.DirId.{DirId}
use Rattle.cell_names.specs.ChildPointers.{Pointer, pointer_of}
use Rattle.directory.specs.Shown.{face_of, lead_of, live_count, shown_entry}
use Rattle.directory.specs.declared.entry.EntryCell.{EntryCell}
use Rattle.directory.specs.declared.entry.Kind.{Kind}
use Rattle.directory.specs.declared.entry.Kind.TheVariants.{Child, Link, Object}
use Rattle.skulk_core.specs.MasterRounds.{running_stamp}
use Rattle.script_answers.specs.Texts.{each_lines, kind_word, members_text, spaced_numbers, stamp_or}
use Rattle.script_answers.specs.declared.answer.ScriptRefusal.TheVariants as why
use Rattle.house_directory.specs.declared.states.DirState.{DirState}
use Rattle.house_directory.specs.declared.states.DirState.TheVariants as state
use Rattle.house_directory.specs.declared.states.Held.{Held}
use Rattle.cell_runs.specs.LineAnswers.{refused}
use Rattle.house_turns.specs.PostTexts.{end_line, octets_line}

-- ---- what shows of a name

-- the numbers of a child's directory and of its houses, the master first, each after a space
abbrev pub pointer_words : Option Pointer → List ℕ
pointer_words None = []
pointer_words (Some p) = spaced_numbers (p.dir ∷ p.master ∷ p.others)

-- where octets lead of an entry of this kind: a link to a name, a child to houses
abbrev pub lead_words : Kind → List ℕ → List ℕ
lead_words Object octets = []
lead_words Link octets = 32 ∷ octets
lead_words Child octets = pointer_words (pointer_of octets)

-- the kind of an entry, and where it leads
abbrev pub lead_line : EntryCell → List ℕ
lead_line e = kind_word e.kind ++ option_map_or (lead_words e.kind) (lead_of (face_of e)) []

-- the name of an attribute and its values, a line each; nothing, if it has no value
abbrev pub attr_shown : (name : List ℕ) → List (List ℕ) → List (List ℕ)
attr_shown name [] = []
attr_shown name (v ∷ vs) = (codes "attr " ++ name) ∷ map (octets_line (codes "value ")) (v ∷ vs)

-- what an entry tells: its kind and where it leads, and all attributes that have values
abbrev pub entry_shown : EntryCell → List (List ℕ)
entry_shown e =
    lead_line e ∷ (each_lines (λ name c. attr_shown name (cell_values c)) e.attrs
    ++ codes "end" ∷ [])

-- what a house says of the entry of a name: what that shows, or that none shows
abbrev pub entry_said : Option EntryCell → List (List ℕ)
entry_said None = refused why.NoSuchEntry ∷ []
entry_said (Some e) =
    if is_some (shown_entry e) then entry_shown e else refused why.NoSuchEntry ∷ []

-- what the house x says of a name; at `high` the master alone, by its own list
abbrev pub show_said : (x : ℕ) → (high : Bool) → (name : List ℕ) → Option DirState → List (List ℕ)
show_said x high name None = refused why.NoReplica ∷ []
show_said x high name (Some (state.Gone e)) = refused why.NoReplica ∷ []
show_said x high name (Some (state.Held h)) =
    if high && not (master_of (members_of h.members) == x) then refused why.NotMaster ∷ []
    else entry_said (get h.replica.table name)

-- ---- how a directory is

-- its epoch, AllUpTo, the skulk that runs, how many entries show, and its members
abbrev pub status_line : Held → List ℕ
status_line h =
    codes "ok epoch " ++ (decimal h.epoch.0
    ++ (codes " allupto " ++ (stamp_or (codes "none") h.replica.all_up_to
    ++ (codes " skulk " ++ (stamp_or (codes "none") (running_stamp h.skulk)
    ++ (codes " entries " ++ (decimal (live_count h.replica.table)
    ++ (codes " members" ++ members_text h.members))))))))

-- how a directory is, if it is held
abbrev pub status_said : Option DirState → List (List ℕ)
status_said None = refused why.NoReplica ∷ []
status_said (Some (state.Gone e)) = refused why.NoReplica ∷ []
status_said (Some (state.Held h)) = status_line h ∷ []

-- ---- which directories a house has

-- the epoch in which it holds one, or in which it left
abbrev pub state_words : DirState → List ℕ
state_words (state.Held h) = codes " held " ++ decimal h.epoch.0
state_words (state.Gone e) = codes " gone " ++ decimal e.0

-- a directory, and how the house has it
abbrev pub directory_line : DirId × DirState → List ℕ
directory_line d = codes "directory " ++ (decimal d.0.0 ++ state_words d.1)

-- all of them, ascending, and how many they are
abbrev pub directories_said : List (DirId × DirState) → List (List ℕ)
directories_said ds = map directory_line ds ++ end_line (length ds) ∷ []

-- What a command of a clerk says: the table of the first words.
use Rattle.std.specs.Prelude.{ℕ, false, if◌then◌else◌, List, [], ◌∷◌, Ok, Err, Result, codes}
use Rattle.std.specs.Str.{bytes_eq}
use Rattle.cell_script.specs.declared.fault.ParseFault.{ParseFault}
use Rattle.cell_script.specs.declared.fault.ParseFault.TheVariants.{UnknownCommand}
use Rattle.cell_script.specs.Words.{confidence_of, full_name_of, attr_name_of, octets_value_of}
use Rattle.cell_script.specs.NameService.{interface_of, element_interface_of, interface_or_none_of, bindings_of}
use Rattle.cell_script.specs.NameService.{objects_of, object_of, protocols_of, priority_of, note_of}
use Rattle.cell_script.specs.WordForms.{◌>>=◌, Form, One, Builds, Words, check_count, followed_by, take_words}
use Rattle.cell_script.specs.CommandRows.{RowOf, said_among, no_command}
use Rattle.inquire_forms.specs.InquireLines.{elements_said}
use Rattle.inquire_forms.specs.InquireWords.{most_of}
use Rattle.cds_clerk.specs.declared.inquiring.Listing.TheVariants as listing
use Rattle.cds_clerk.specs.declared.planning.NamedUpdate.{NamedUpdate}
use Rattle.cds_clerk.specs.declared.planning.NamedUpdate.TheVariants as update
use Rattle.cds_clerk.specs.declared.planning.Plan.{Plan}
use Rattle.cds_clerk.specs.declared.planning.Plan.TheVariants as plan
use Rattle.clerk_turns.specs.declared.command.Command.{Command}
use Rattle.clerk_turns.specs.declared.command.Command.TheVariants as command

-- a command: its first word, the forms of the words after it, and what they say
abbrev pub row : List ℕ → (forms : List Form) → Builds forms Command → RowOf Command
row word forms build = record { word = word; forms = forms; says = build }

-- the forms of a full name and these words, and of what names an element of a profile and these
abbrev pub after_name : List Form → List Form
after_name forms = One full_name_of ∷ forms

abbrev pub element_forms : List Form → List Form
element_forms forms = One element_interface_of ∷ One full_name_of ∷ forms

-- the forms of the words of an import
abbrev pub import_forms : List Form
import_forms =
    One confidence_of ∷ after_name (One interface_of ∷ One object_of ∷ One protocols_of ∷ [])

-- the questions
abbrev pub question_rows : List (RowOf Command)
question_rows =
    row (codes "read") (One confidence_of ∷ One full_name_of ∷ One attr_name_of ∷ []) command.Read
    ∷ row (codes "readlink") (One confidence_of ∷ One full_name_of ∷ []) command.Readlink
    ∷ row (codes "import") import_forms
    (λ c n i o p. command.Import c n (record { interface = i; object = o; tcp = p.0; udp = p.1 }))
    ∷ []

-- the forms of the words of a look-up
abbrev pub lookup_forms : List Form
lookup_forms = One confidence_of ∷ after_name
    (One interface_of ∷ One object_of ∷ One protocols_of ∷ One most_of ∷ [])

-- the members of a group, the interfaces and objects of a server, and the bindings of an import in
-- batches
abbrev pub inquiry_rows : List (RowOf Command)
inquiry_rows =
    row (codes "grouplist") (One confidence_of ∷ One full_name_of ∷ [])
    (λ c n. command.Inquire c n listing.Members)
    ∷ row (codes "entrylist") (One confidence_of ∷ One full_name_of ∷ [])
    (λ c n. command.Inquire c n listing.Entry)
    ∷ row (codes "lookup") lookup_forms
    (λ c n i o p m. command.Lookup c n
    (record { interface = i; object = o; tcp = p.0; udp = p.1 }) m)
    ∷ []

-- the elements of a profile that are asked for
unfoldable pub proflist_said : Words → Result Command ParseFault
proflist_said s = check_count false 6 s >>= λ _. (do
  c ← take_words (One confidence_of) s
  n ← take_words (One full_name_of) c.1
  i ← elements_said n.1
  Ok (command.Inquire c.0 n.0 (listing.Elements i)))

-- a command of the name service that changes an entry
abbrev pub plans : List ℕ → (forms : List Form) → Builds forms Plan → RowOf Command
plans word forms build = row word forms (followed_by command.Plan forms build)

-- these commands
abbrev pub plan_rows : List (RowOf Command)
plan_rows =
    plans (codes "export") (after_name (One interface_of ∷ One bindings_of ∷ One objects_of ∷ []))
    plan.Export
    ∷ plans (codes "unexport") (after_name (One interface_or_none_of ∷ One objects_of ∷ []))
    plan.Unexport
    ∷ plans (codes "groupadd") (after_name (One full_name_of ∷ [])) plan.Groupadd
    ∷ plans (codes "groupdel") (after_name (One full_name_of ∷ [])) plan.Groupdel
    ∷ plans (codes "profadd") (after_name (element_forms (One priority_of ∷ One note_of ∷ [])))
    plan.Profadd
    ∷ plans (codes "profdel") (after_name (element_forms [])) plan.Profdel
    ∷ []

-- an update by a full name: the name, and then what the update is of
abbrev pub updates : List ℕ → (forms : List Form) → Builds forms NamedUpdate → RowOf Command
updates word forms build =
    row word (after_name forms) (λ n. followed_by (command.Update n) forms build)

-- the updates that make and delete entries
abbrev pub entry_rows : List (RowOf Command)
entry_rows =
    updates (codes "create") [] update.Create
    ∷ updates (codes "link") (One full_name_of ∷ []) update.Link
    ∷ updates (codes "delete") [] update.Delete
    ∷ []

-- the changes of an entry's values
abbrev pub value_rows : List (RowOf Command)
value_rows =
    updates (codes "add") (One attr_name_of ∷ One octets_value_of ∷ []) update.Add
    ∷ updates (codes "remove") (One attr_name_of ∷ One octets_value_of ∷ []) update.Remove
    ∷ updates (codes "put") (One attr_name_of ∷ One octets_value_of ∷ []) update.Put
    ∷ updates (codes "clear") (One attr_name_of ∷ []) update.Clear
    ∷ []

-- what the words after a first word say, by the rows of one kind after those of another
unfoldable pub said_of_value : List ℕ → Words → Result Command ParseFault
said_of_value word s = said_among value_rows no_command word s

unfoldable pub said_of_update : List ℕ → Words → Result Command ParseFault
said_of_update word s = said_among entry_rows (said_of_value word s) word s

unfoldable pub said_of_plan : List ℕ → Words → Result Command ParseFault
said_of_plan word s = said_among plan_rows (said_of_update word s) word s

unfoldable pub said_of_inquiry : List ℕ → Words → Result Command ParseFault
said_of_inquiry word s = said_among inquiry_rows
    (if bytes_eq word (codes "proflist") then proflist_said s else said_of_plan word s) word s

unfoldable pub said_by : List ℕ → Words → Result Command ParseFault
said_by word s = said_among question_rows (said_of_inquiry word s) word s

-- what the words of a command say
unfoldable pub command_said : List (List ℕ) → Result Command ParseFault
command_said [] = Err (UnknownCommand 1)
command_said (word ∷ words) = said_by word (record { read = 1; rest = words })

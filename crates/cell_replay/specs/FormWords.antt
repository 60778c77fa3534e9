-- The words of the command line that name a form.
use Rattle.std.specs.Prelude.{ℕ, if◌then◌else◌, List, [], ◌∷◌, codes, Option, Some, None}
use Rattle.std.specs.Option.{option_map}
use Rattle.std.specs.Str.{bytes_eq}
use Rattle.cell_script.specs.Words.{number_to}
use Rattle.cell_replay.specs.declared.forms.Form.{Form}
use Rattle.cell_replay.specs.declared.forms.Form.TheVariants as form
use Rattle.cell_replay.specs.declared.limits.TheConstants.{LAST_DIR, MOST_KEPT, MOST_ROUNDS}

-- the form that a word names
abbrev pub form_named : List ℕ → Option Form
form_named word =
    if bytes_eq word (codes "run") then Some form.Run
    else (if bytes_eq word (codes "check") then Some form.Check
    else (if bytes_eq word (codes "towers") then Some form.Towers
    else (if bytes_eq word (codes "untowers") then Some form.Untowers
    else (if bytes_eq word (codes "migrate") then Some form.Migrate
    else (if bytes_eq word (codes "inquire") then Some form.Inquire
    else (if bytes_eq word (codes "journal") then Some form.Journal else None))))))

-- the form that a word and a number name, which is at least one: `load` and how many rounds,
-- `clerk` and its room, or `audit` and a directory
abbrev pub form_numbered : (word number : List ℕ) → Option Form
form_numbered word number =
    if bytes_eq word (codes "load") then option_map form.Load (number_to MOST_ROUNDS number)
    else (if bytes_eq word (codes "clerk") then option_map form.Clerk (number_to MOST_KEPT number)
    else (if bytes_eq word (codes "audit") then option_map form.Audit (number_to LAST_DIR number) else None))

-- the form that the words of the command line name
abbrev pub form_of : List (List ℕ) → Option Form
form_of (word ∷ []) = form_named word
form_of (word ∷ number ∷ []) = form_numbered word number
form_of other = None

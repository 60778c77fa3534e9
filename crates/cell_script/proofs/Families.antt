-- The commands family by family are the commands of the one table.
use Rattle.std.proofs.Common.{◌≡◌, ℕ, Bool, true, false, List, [], ◌∷◌, refl, sym, ◌∙◌, if◌then◌else◌}
use Rattle.std.specs.Prelude.{Option, Some, None, Result, Ok, Err, IfSome}
use Rattle.std.specs.Result.{result_err}
use Rattle.std.specs.Str.{bytes_eq}
use Rattle.cds_stamps.specs.declared.alloc_or.AllocOr.{AllocOr}
use Rattle.cds_stamps.specs.declared.alloc_or.AllocOr.TheVariants.{Fault, OutOfMemory}
use Rattle.cds_stamps.specs.Outcomes.{Answers}
use Rattle.cell_script.specs.declared.command.ScriptLine.{ScriptLine}
use Rattle.cell_script.specs.declared.fault.ParseFault.{ParseFault}
use Rattle.cell_script.specs.declared.fault.ParseFault.TheVariants.{UnknownCommand}
use Rattle.cell_script.specs.WordForms.{◌>>=◌, Words, check_count, is_open, least_of, read_as}
use Rattle.cell_script.specs.CommandRows.{Row, said_among, early_among, no_command, said_by, early_by, rows}
use Rattle.cell_script.specs.PrivateRows.{Says, by_service_rows, by_question_rows, befallen, by_replica_rows, by_update_rows, by_all_rows}

pub made_said : (word : List ℕ) (s : Words) → (by_all_rows word s).said ≡ said_by word s
unfolding said_by by_all_rows by_update_rows by_replica_rows befallen by_question_rows by_service_rows
made_said word s = refl

pub made_early : (word : List ℕ) (s : Words) → (by_all_rows word s).early ≡ early_by word s
unfolding early_by by_all_rows by_update_rows by_replica_rows befallen by_question_rows by_service_rows
made_early word s = refl

-- a fault of the first step is that of the whole
first_fails : {A B : Type 0} (r : Result A ParseFault) (next : A → Result B ParseFault) (fault : ParseFault)
    → result_err r ≡ Some fault → (r >>= next) ≡ Err fault
first_fails (Ok x) next fault is = cc
first_fails (Err e) next fault is = cc

-- the fault that shows early is what the line says
early_is_said : (rows : List Row) (fault : ParseFault) (word : List ℕ) (s : Words)
    → early_among rows (Some (UnknownCommand 1)) word s ≡ Some fault → said_among rows no_command word s ≡ Err fault
early_is_said [] fault word s is = cc
early_is_said (row ∷ rows) fault word s is = by_word (bytes_eq word row.word) (early_is_said rows fault word s) is
  where
    by_word : (same : Bool)
        → (early_among rows (Some (UnknownCommand 1)) word s ≡ Some fault → said_among rows no_command word s ≡ Err fault)
        → (if same then result_err (check_count (is_open row.forms) (least_of row.forms) s) else early_among rows (Some (UnknownCommand 1)) word s) ≡ Some fault
        → (if same then read_as row.forms row.says s else said_among rows no_command word s) ≡ Err fault
    by_word true others is = first_fails (check_count (is_open row.forms) (least_of row.forms) s) _ fault is
    by_word false others is = others is

-- a reader that answers what a line says
pub says_answers : (r : Result ScriptLine (AllocOr ParseFault)) (word : List ℕ) (s : Words)
    → Says r (by_all_rows word s) → Answers r (said_by word s)
says_answers (Ok line) word s says = sym (made_said word s) ∙ says
says_answers (Err (Fault fault)) word s says = sym (made_said word s) ∙ says
says_answers (Err OutOfMemory) word s says = tt

-- a reader that answers what a line says tells a fault that shows early
pub says_early : (r : Result ScriptLine (AllocOr ParseFault)) (word : List ℕ) (s : Words)
    → Says r (by_all_rows word s) → IfSome (early_by word s) (λ fault. r ≡ Err (Fault fault))
unfolding said_by early_by
says_early r word s says = by_early (early_by word s) refl
  where
    told : (fault : ParseFault) → early_by word s ≡ Some fault → said_by word s ≡ Err fault
    told fault is = early_is_said rows fault word s is

    by_answer : (r : Result ScriptLine (AllocOr ParseFault)) (fault : ParseFault) → early_by word s ≡ Some fault
        → Says r (by_all_rows word s) → r ≡ Err (Fault fault)
    by_answer (Ok line) fault is says = let e : Err fault ≡ Ok line = sym (told fault is) ∙ (sym (made_said word s) ∙ says) in cc
    by_answer (Err (Fault other)) fault is says = let e : Err fault ≡ Err other = sym (told fault is) ∙ (sym (made_said word s) ∙ says) in cc
    by_answer (Err OutOfMemory) fault is says = let e : Some fault ≡ None = sym is ∙ (sym (made_early word s) ∙ says) in cc

    by_early : (early : Option ParseFault) → early_by word s ≡ early → IfSome early (λ fault. r ≡ Err (Fault fault))
    by_early None is = tt
    by_early (Some fault) is = by_answer r fault is says

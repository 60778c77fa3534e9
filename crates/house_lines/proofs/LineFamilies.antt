-- The commands family by family are the commands of the one table.
use Rattle.std.proofs.Common.{◌≡◌, ℕ, Bool, true, false, List, [], ◌∷◌, refl, sym, ◌∙◌, if◌then◌else◌}
use Rattle.std.specs.Prelude.{Option, Some, None, Result, Ok, Err, IfSome}
use Rattle.std.specs.Result.{result_err}
use Rattle.std.specs.Str.{bytes_eq}
use Rattle.cds_stamps.specs.declared.alloc_or.AllocOr.{AllocOr}
use Rattle.cds_stamps.specs.declared.alloc_or.AllocOr.TheVariants.{Fault, OutOfMemory}
use Rattle.cds_stamps.specs.Outcomes.{Answers}
use Rattle.cell_script.specs.declared.fault.ParseFault.{ParseFault}
use Rattle.cell_script.specs.declared.fault.ParseFault.TheVariants.{UnknownCommand}
use Rattle.cell_script.specs.WordForms.{◌>>=◌, Words, check_count, is_open, least_of, read_as}
use Rattle.cell_script.specs.CommandRows.{RowOf, said_among, early_among, no_command}
use Rattle.house_lines.specs.declared.line.HouseLine.{HouseLine}
use Rattle.house_lines.specs.LineRows.{said_by, early_by, rows, is_epoch, epoch_count, epoch_said}
use Rattle.house_lines.specs.PrivateLineRows.{Saying, Says, by_question_rows, by_message_rows, by_update_rows, by_making_rows, by_epoch, saying_by}

pub made_said : (word : List ℕ) (s : Words) → (by_making_rows word s).said ≡ said_among rows no_command word s
unfolding by_making_rows by_update_rows by_message_rows by_question_rows
made_said word s = refl

pub made_early : (word : List ℕ) (s : Words) → (by_making_rows word s).early ≡ early_among rows (Some (UnknownCommand 1)) word s
unfolding by_making_rows by_update_rows by_message_rows by_question_rows
made_early word s = refl

pub all_said : (word : List ℕ) (s : Words) → (saying_by word s).said ≡ said_by word s
unfolding saying_by said_by by_epoch
all_said word s = by_word (is_epoch word)
  where
    by_word : (b : Bool) → (if b then by_epoch s else by_making_rows word s).said ≡ (if b then epoch_said s else said_among rows no_command word s)
    by_word true = refl
    by_word false = made_said word s

pub all_early : (word : List ℕ) (s : Words) → (saying_by word s).early ≡ early_by word s
unfolding saying_by early_by by_epoch
all_early word s = by_word (is_epoch word)
  where
    by_word : (b : Bool) → (if b then by_epoch s else by_making_rows word s).early
        ≡ (if b then result_err (epoch_count s) else early_among rows (Some (UnknownCommand 1)) word s)
    by_word true = refl
    by_word false = made_early word s

-- a fault of the first step is that of the whole
first_fails : {A B : Type 0} (r : Result A ParseFault) (next : A → Result B ParseFault) (fault : ParseFault)
    → result_err r ≡ Some fault → (r >>= next) ≡ Err fault
first_fails (Ok x) next fault is = cc
first_fails (Err e) next fault is = cc

-- the fault that shows early is what the line says
early_is_said : (rows : List (RowOf HouseLine)) (fault : ParseFault) (word : List ℕ) (s : Words)
    → early_among rows (Some (UnknownCommand 1)) word s ≡ Some fault → said_among rows no_command word s ≡ Err fault
early_is_said [] fault word s is = cc
early_is_said (row ∷ rows) fault word s is = by_word (bytes_eq word row.word) (early_is_said rows fault word s) is
  where
    by_word : (same : Bool)
        → (early_among rows (Some (UnknownCommand 1)) word s ≡ Some fault → said_among rows no_command word s ≡ Err fault)
        → (if same then result_err (check_count (is_open row.forms) (least_of row.forms) s) else early_among rows (Some (UnknownCommand 1)) word s) ≡ Some fault
        → (if same then read_as row.forms row.says s else said_among rows no_command word s) ≡ Err fault
    by_word true others is = first_fails (check_count (is_open row.forms) (least_of row.forms) s) _ fault is
    by_word false others is = others is

-- of an epoch too
early_said : (fault : ParseFault) (word : List ℕ) (s : Words) → early_by word s ≡ Some fault → said_by word s ≡ Err fault
unfolding early_by said_by
early_said fault word s is = by_word (is_epoch word) is
  where
    by_word : (b : Bool) → (if b then result_err (epoch_count s) else early_among rows (Some (UnknownCommand 1)) word s) ≡ Some fault
        → (if b then epoch_said s else said_among rows no_command word s) ≡ Err fault
    by_word true is = first_fails (epoch_count s) _ fault is
    by_word false is = early_is_said rows fault word s is

-- a reader that answers what a line says
pub says_answers : (r : Result HouseLine (AllocOr ParseFault)) (word : List ℕ) (s : Words)
    → Says r (saying_by word s) → Answers r (said_by word s)
says_answers (Ok line) word s says = sym (all_said word s) ∙ says
says_answers (Err (Fault fault)) word s says = sym (all_said word s) ∙ says
says_answers (Err OutOfMemory) word s says = tt

-- a reader that answers what a line says tells a fault that shows early
pub says_early : (r : Result HouseLine (AllocOr ParseFault)) (word : List ℕ) (s : Words)
    → Says r (saying_by word s) → IfSome (early_by word s) (λ fault. r ≡ Err (Fault fault))
says_early r word s says = by_early (early_by word s) refl
  where
    by_answer : (r : Result HouseLine (AllocOr ParseFault)) (fault : ParseFault) → early_by word s ≡ Some fault
        → Says r (saying_by word s) → r ≡ Err (Fault fault)
    by_answer (Ok line) fault is says = let e : Err fault ≡ Ok line = sym (early_said fault word s is) ∙ (sym (all_said word s) ∙ says) in cc
    by_answer (Err (Fault other)) fault is says = let e : Err fault ≡ Err other = sym (early_said fault word s is) ∙ (sym (all_said word s) ∙ says) in cc
    by_answer (Err OutOfMemory) fault is says = let e : Some fault ≡ None = sym is ∙ (sym (all_early word s) ∙ says) in cc

    by_early : (early : Option ParseFault) → early_by word s ≡ early → IfSome early (λ fault. r ≡ Err (Fault fault))
    by_early None is = tt
    by_early (Some fault) is = by_answer r fault is says

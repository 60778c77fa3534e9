-- Lines of the form `inquire`: faults that show early are what the lines say.
use Rattle.std.proofs.Common.{◌≡◌, ◌≤◌, ℕ, Bool, true, false, List, [], ◌∷◌, refl, sym, ap, subst, ◌∙◌, if◌then◌else◌}
use Rattle.std.specs.Prelude.{Option, Some, None, Result, Ok, Err, IfOk, IfSome, codes}
use Rattle.std.specs.Result.{result_err, result_map_both}
use Rattle.std.specs.Str.{bytes_eq}
use Rattle.cds_stamps.specs.declared.alloc_or.AllocOr.{AllocOr}
use Rattle.cds_stamps.specs.declared.alloc_or.AllocOr.TheVariants.{Fault, OutOfMemory}
use Rattle.cds_stamps.specs.Outcomes.{Answers}
use Rattle.cell_script.specs.declared.command.ScriptLine.{ScriptLine}
use Rattle.cell_script.specs.declared.fault.ParseFault.{ParseFault}
use Rattle.cell_script.specs.declared.fault.ParseFault.TheVariants.{UnknownCommand}
use Rattle.cell_script.specs.WordForms.{◌>>=◌, Words, check_count, is_open, least_of, read_as, said_at}
use Rattle.cell_script.specs.CommandRows.{RowOf, said_among, early_among, no_command, said_by, early_by, rows}
use Rattle.inquire_forms.specs.declared.inquire_line.InquireLine.{InquireLine}
use Rattle.inquire_forms.specs.declared.inquire_line.InquireLine.TheVariants as line
use Rattle.inquire_forms.specs.InquireLines.{seven, proflist_said, plain_said, inquiry_rows, inquired_by, early_inquired}
use Rattle.inquire_forms.specs.PrivateInquireLines.{Says}

-- a fault of the first step is that of the whole
first_fails : {A B : Type 0} (r : Result A ParseFault) (next : A → Result B ParseFault) (fault : ParseFault)
    → result_err r ≡ Some fault → (r >>= next) ≡ Err fault
first_fails (Ok x) next fault is = cc
first_fails (Err e) next fault is = cc

-- by rows, a fault that shows early is what the line says, if it is so of lines that no row has
among : {L : Type 0} (rows : List (RowOf L)) (other : Result L ParseFault) (early : Option ParseFault) (fault : ParseFault) (word : List ℕ) (s : Words)
    → (early ≡ Some fault → other ≡ Err fault) → early_among rows early word s ≡ Some fault → said_among rows other word s ≡ Err fault
among [] other early fault word s others is = others is
among {L} (row ∷ rows) other early fault word s others is = by_word (bytes_eq word row.word) (among rows other early fault word s others) is
  where
    by_word : (same : Bool)
        → (early_among rows early word s ≡ Some fault → said_among rows other word s ≡ Err fault)
        → (if same then result_err (check_count (is_open row.forms) (least_of row.forms) s) else early_among rows early word s) ≡ Some fault
        → (if same then read_as row.forms row.says s else said_among rows other word s) ≡ Err fault
    by_word true rest is = first_fails (check_count (is_open row.forms) (least_of row.forms) s) _ fault is
    by_word false rest is = rest is

-- of a script
script_early : (fault : ParseFault) (word : List ℕ) (s : Words) → early_by word s ≡ Some fault → said_by word s ≡ Err fault
unfolding said_by early_by
script_early fault word s is = among rows no_command (Some (UnknownCommand 1)) fault word s (λ e. cc) is

-- of the elements of a profile, and of lines of a script
other_early : (fault : ParseFault) (word : List ℕ) (s : Words)
    → (if bytes_eq word (codes "proflist") then result_err (seven s) else early_by word s) ≡ Some fault
    → (if bytes_eq word (codes "proflist") then proflist_said s else plain_said word s) ≡ Err fault
unfolding proflist_said
other_early fault word s is = by_word (bytes_eq word (codes "proflist")) is
  where
    plain : (r : Result ScriptLine ParseFault) → r ≡ Err fault → result_map_both line.Plain (λ e. e) r ≡ Err fault
    plain (Ok l) is = cc
    plain (Err e) is = cc

    by_word : (profile : Bool) → (if profile then result_err (seven s) else early_by word s) ≡ Some fault
        → (if profile then proflist_said s else plain_said word s) ≡ Err fault
    by_word true is = first_fails (seven s) _ fault is
    by_word false is = plain (said_by word s) (script_early fault word s is)

-- of any line
inquiry_early : (fault : ParseFault) (word : List ℕ) (s : Words) → early_inquired word s ≡ Some fault → inquired_by word s ≡ Err fault
unfolding inquired_by early_inquired
inquiry_early fault word s is = among inquiry_rows _ _ fault word s (other_early fault word s) is

-- a reader that says a line answers it
pub says_answers : (r : Result InquireLine (AllocOr ParseFault)) (said : Result InquireLine ParseFault) (early : Option ParseFault)
    → Says r said early → Answers r said
says_answers (Ok line) said early says = says
says_answers (Err (Fault fault)) said early says = says
says_answers (Err OutOfMemory) said early says = tt

-- and it says a fault that shows early
pub says_early : (r : Result InquireLine (AllocOr ParseFault)) (word : List ℕ) (s : Words)
    → Says r (inquired_by word s) (early_inquired word s) → IfSome (early_inquired word s) (λ fault. r ≡ Err (Fault fault))
says_early r word s says = by_early (early_inquired word s) refl
  where
    by_answer : (r : Result InquireLine (AllocOr ParseFault)) (fault : ParseFault) → early_inquired word s ≡ Some fault
        → Says r (inquired_by word s) (early_inquired word s) → r ≡ Err (Fault fault)
    by_answer (Ok line) fault is says = let e : Err fault ≡ Ok line = sym (inquiry_early fault word s is) ∙ says in cc
    by_answer (Err (Fault other)) fault is says = let e : Err fault ≡ Err other = sym (inquiry_early fault word s is) ∙ says in cc
    by_answer (Err OutOfMemory) fault is says = let e : Some fault ≡ None = sym is ∙ says in cc

    by_early : (early : Option ParseFault) → early_inquired word s ≡ early → IfSome early (λ fault. r ≡ Err (Fault fault))
    by_early None is = tt
    by_early (Some fault) is = by_answer r fault is says

-- a line of a script that is not read is no line here either
pub plain_fails : (r : Result ScriptLine (AllocOr ParseFault)) (e : AllocOr ParseFault) (said : Result ScriptLine ParseFault) (early : Option ParseFault)
    → r ≡ Err e → Answers r said → IfSome early (λ fault. r ≡ Err (Fault fault)) → Says (Err e) (result_map_both line.Plain (λ f. f) said) early
plain_fails r (Fault fault) said early is answers told =
    let same : said ≡ Err fault = subst (λ (x : Result ScriptLine (AllocOr ParseFault)). Answers x said) is answers in
    ap (result_map_both line.Plain (λ (f : ParseFault). f)) same
plain_fails r OutOfMemory said None is answers told = refl
plain_fails r OutOfMemory said (Some fault) is answers told = let both : Err OutOfMemory ≡ Err (Fault fault) = sym is ∙ told in absurd cc

-- a word that says a number from 1 on says none below it
pub said_some : (r : Result ℕ (AllocOr ParseFault)) (read : ℕ) (said : Option ℕ) → Answers r (said_at read said) → IfSome said (λ n. 1 ≤ n)
    → IfOk r (λ n. 1 ≤ n)
said_some (Ok m) read None is some = absurd (cc)
said_some (Ok m) read (Some n) is some = let same : n ≡ m = cc in subst (λ (k : ℕ). 1 ≤ k) same some
said_some (Err e) read said is some = tt

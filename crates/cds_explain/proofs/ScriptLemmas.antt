-- A script with one line more.
use Rattle.std.proofs.Common.{◌≡◌, ℕ, suc, ◌+◌, ◌≤◌, List, [], ◌∷◌, ◌++◌, length, refl, sym, ◌∙◌, ap, subst, arith, append_assoc, append-nil, length-append}
use Rattle.std.specs.Prelude.{Option, Some, None, Ok, Err, Result}
use Rattle.cds_base.specs.declared.scan.TheConstants.{MOST_LINES}
use Rattle.cell_model.specs.Cells.{empty_cell}
use Rattle.cell_model.specs.Commands as model
use Rattle.cell_script.specs.CommandRows.{said_in}
use Rattle.cell_script.specs.Words.{words_of}
use Rattle.cell_script.specs.declared.command.Command.{Command}
use Rattle.cell_script.specs.declared.command.ScriptLine.{ScriptLine}
use Rattle.cell_script.specs.declared.command.ScriptLine.TheVariants as line
use Rattle.cell_script.specs.declared.fault.ParseFault.{ParseFault}
use Rattle.cds_cell.specs.Scripted.{step_of}
use Rattle.line_forms.specs.Leaving.{text_of}
use Rattle.script_replay.specs.Replies.{Numbered}
use Rattle.script_replay.specs.Scripts.{IsScript, IsScriptOf, Says}
use Rattle.script_replay.proofs.HeadlineLaws.{commands-append}
use Rattle.entry_lines.specs.SaidLines.{SaysCommand}
use Rattle.cds_explain.specs.Explained.{Scripts}

-- one script after another
pub script_append : (number : ℕ) (xs ys : List (List ℕ)) (said more : List Numbered) → IsScript number xs said → IsScript (number + length xs) ys more
    → IsScript number (xs ++ ys) (said ++ more)
script_append number [] ys said more first second =
    subst (λ (s : List Numbered). IsScript number ys (s ++ more)) (sym first) (subst (λ (n : ℕ). IsScript n ys more) (let e : number + 0 ≡ number = omega arith in e) second)
script_append number (x ∷ xs) ys said more first second =
    (first.0, by_saying (λ said is. script_append (number + 1) xs ys said more is (subst (λ (n : ℕ). IsScript n ys more) next second)) (said_in (words_of x)) said first.1)
  where
    next : number + suc (length xs) ≡ number + 1 + length xs
    next = omega arith

    by_saying : ((said : List Numbered) → IsScript (number + 1) xs said → IsScript (number + 1) (xs ++ ys) (said ++ more))
        → (r : Result (Option ScriptLine) ParseFault) (said : List Numbered) → Says number r said (IsScriptOf said_in (number + 1) xs)
        → Says number r (said ++ more) (IsScriptOf said_in (number + 1) (xs ++ ys))
    by_saying rest (Ok None) said is = rest said is
    by_saying rest (Ok (Some l)) said is = (is.0 ++ more, ap (λ (s : List Numbered). s ++ more) is.1, rest is.0 is.2)
    by_saying rest (Err fault) said is = is

-- a line that says a command is a script
one_line : (number : ℕ) (octets : List ℕ) (c : Command) → number ≤ MOST_LINES → SaysCommand octets c
    → IsScript number (octets ∷ []) (record { number = number; says = line.Cell c } ∷ [])
one_line number octets c few is = (
  is.is_line number few,
  subst (λ (r : Result (Option ScriptLine) ParseFault). Says number r (record { number = number; says = line.Cell c } ∷ []) (IsScriptOf said_in (number + 1) []))
      (sym is.says) ([], refl, refl),
)

-- the text of lines, and of one more
text_append : (xs : List (List ℕ)) (octets : List ℕ) → text_of (xs ++ octets ∷ []) ≡ text_of xs ++ (octets ++ 10 ∷ [])
text_append [] octets = append-nil (octets ++ 10 ∷ [])
text_append (x ∷ xs) octets =
    ap (λ (t : List ℕ). (x ++ 10 ∷ []) ++ t) (text_append xs octets)
    ∙ sym (append_assoc (x ++ 10 ∷ []) (text_of xs) (octets ++ 10 ∷ []))

-- a script with one line more, and how many lines it has
pub line_added : (old new octets : List ℕ) (cs : List model.Command) (c : Command) (s : Scripts old cs) → new ≡ old ++ (octets ++ 10 ∷ [])
    → length s.lines + 1 ≤ MOST_LINES → SaysCommand octets c
    → (t : Scripts new (cs ++ step_of c ∷ [])) × (length t.lines ≡ length s.lines + 1)
line_added old new octets cs c s is few says = (
  record {
    lines = s.lines ++ octets ∷ [];
    said = s.said ++ added;
    text_is = is ∙ ap (λ (t : List ℕ). t ++ (octets ++ 10 ∷ [])) s.text_is ∙ sym (text_append s.lines octets);
    script = script_append 1 s.lines (octets ∷ []) s.said added s.script
        (one_line (1 + length s.lines) octets c (omega (arith, few)) says);
    commands =
        commands-append empty_cell s.said added
        ∙ ap (λ (ds : List model.Command). ds ++ step_of c ∷ []) s.commands;
  },
  length-append s.lines (octets ∷ []),
)
  where
    added : List Numbered
    added = record { number = 1 + length s.lines; says = line.Cell c } ∷ []

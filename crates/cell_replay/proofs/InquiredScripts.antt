-- A script of `run` is a script of `inquire`.
use Rattle.std.proofs.Common.{◌≡◌, ℕ, ◌+◌, Bool, true, false, if◌then◌else◌, List, [], ◌∷◌, refl, sym, ap, ◌∙◌, subst}
use Rattle.std.specs.Prelude.{Option, Some, None, Result, Ok, Err, nat_eq, codes}
use Rattle.std.specs.List.{starts_with}
use Rattle.cell_model.specs.Cells.{Cell}
use Rattle.cell_script.specs.Words.{words_of}
use Rattle.cell_script.specs.WordForms.{Words}
use Rattle.cell_script.specs.CommandRows.{said_by, said_in, some_line}
use Rattle.cell_script.specs.declared.command.ScriptLine.{ScriptLine}
use Rattle.cell_script.specs.declared.fault.ParseFault.{ParseFault}
use Rattle.inquire_forms.specs.declared.inquire_line.InquireLine.{InquireLine}
use Rattle.inquire_forms.specs.declared.inquire_line.InquireLine.TheVariants as line
use Rattle.inquire_forms.specs.InquireLines.{inquired_by, inquired_in}
use Rattle.inquire_replay.specs.Inquiring.{inquire_dialogue, plain_lines}
use Rattle.line_forms.specs.Dialogues.{NumberedOf, transcript_by}
use Rattle.line_forms.specs.LineRules.{dialogue_rule}
use Rattle.script_replay.specs.Replies.{Numbered, run_dialogue, transcript}
use Rattle.script_replay.specs.Scripts.{IsScript, IsScriptOf, Says}
use Rattle.script_replay.proofs.Scripts.{dialogue_demanded}
use Rattle.line_forms.specs.Demand.{line_demand, whole}
use Rattle.line_forms.specs.Leaving.{text_of}

-- words that say something say no more than that
says_some : (r : Result ScriptLine ParseFault) → some_line r ≡ Ok None → ⊥
says_some (Ok l) is = absurd (cc)
says_some (Err fault) is = absurd (cc)

-- a line that says nothing says nothing where lines may inquire
silent_in : (words : List (List ℕ)) → said_in words ≡ Ok None → inquired_in words ≡ Ok None
silent_in [] is = refl
silent_in (w ∷ ws) is = by_mark (starts_with nat_eq w (codes "#")) is
  where
    behind : Words
    behind = record { read = 1; rest = ws }

    by_mark : (b : Bool) → (if b then Ok None else some_line (said_by w behind)) ≡ Ok None → (if b then Ok None else some_line (inquired_by w behind)) ≡ Ok None
    by_mark true is = refl
    by_mark false is = absurd (says_some (said_by w behind) is)

module _ (plain : (words : List (List ℕ)) (l : ScriptLine) → said_in words ≡ Ok (Some l) → inquired_in words ≡ Ok (Some (line.Plain l))) where
  -- what a line says, and then those after it
  plain_says : (number : ℕ) (words : List (List ℕ)) (said : List Numbered) (Behind : List Numbered → Type 0) (Inquired : List (NumberedOf InquireLine) → Type 0)
      → ((rest : List Numbered) → Behind rest → Inquired (plain_lines rest)) → (r : Result (Option ScriptLine) ParseFault) → said_in words ≡ r
      → Says number r said Behind → Says number (inquired_in words) (plain_lines said) Inquired
  plain_says number words said Behind Inquired rest (Ok None) is says =
      subst (λ (r : Result (Option InquireLine) ParseFault). Says number r (plain_lines said) Inquired) (sym (silent_in words is)) (rest said says)
  plain_says number words said Behind Inquired rest (Ok (Some l)) is says =
      subst (λ (r : Result (Option InquireLine) ParseFault). Says number r (plain_lines said) Inquired) (sym (plain words l is))
      (plain_lines says.0, ap plain_lines says.1, rest says.0 says.2)
  plain_says number words said Behind Inquired rest (Err fault) is says = absurd says

  -- lines in order say the same, from line number on
  pub plain_script : (lines : List (List ℕ)) (number : ℕ) (said : List Numbered) → IsScriptOf said_in number lines said
      → IsScriptOf inquired_in number lines (plain_lines said)
  plain_script [] number said is = ap plain_lines is
  plain_script (l ∷ ls) number said is = (
    is.0,
    plain_says number (words_of l) said (IsScriptOf said_in (number + 1) ls) (IsScriptOf inquired_in (number + 1) ls)
        (λ rest is. plain_script ls (number + 1) rest is) (said_in (words_of l)) refl is.1,
  )

  -- so they demand the same
  pub demands_the_same : (answers : (g : Cell) (said : List Numbered) → transcript_by inquire_dialogue g (plain_lines said) ≡ transcript g said)
      → (g : Cell) (lines : List (List ℕ)) (said : List Numbered) → IsScript 1 lines said
      → line_demand (dialogue_rule inquire_dialogue) g (text_of lines) ≡ line_demand (dialogue_rule run_dialogue) g (text_of lines)
  demands_the_same answers g lines said is =
      dialogue_demanded inquire_dialogue g lines (plain_lines said) (plain_script lines 1 said is) ∙ ap whole (answers g said)
      ∙ sym (dialogue_demanded run_dialogue g lines said is)

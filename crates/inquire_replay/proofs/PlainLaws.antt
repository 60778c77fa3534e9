-- Lines of a script where lines may inquire.
use Rattle.std.proofs.Common.{◌≡◌, ◌∙◌, ap, refl, sym, subst, ℕ, Bool, true, false, List, [], ◌∷◌, ◌++◌, if◌then◌else◌}
use Rattle.std.specs.Prelude.{Option, Some, None, Result, Ok, Err, nat_eq, codes}
use Rattle.std.specs.List.{starts_with}
use Rattle.std.specs.Option.{option_map, option_map_or}
use Rattle.std.specs.Result.{result_map_both}
use Rattle.std.specs.Str.{bytes_eq}
use Rattle.std.proofs.lemmas.Slice.Eq.{bytes_eq-Decides}
use Rattle.cell_model.specs.Cells.{Cell}
use Rattle.cell_script.specs.declared.command.ScriptLine.{ScriptLine}
use Rattle.cell_script.specs.declared.fault.ParseFault.{ParseFault}
use Rattle.cell_script.specs.declared.fault.ParseFault.TheVariants.{UnknownCommand}
use Rattle.cell_script.specs.WordForms.{Words, read_as}
use Rattle.cell_script.specs.CommandRows.{said_by, said_in, some_line}
use Rattle.script_answers.specs.declared.answer.Answer.{Answer}
use Rattle.script_answers.specs.Texts.{answer_text}
use Rattle.line_forms.specs.Dialogues.{transcript_by}
use Rattle.script_replay.specs.Replies.{Numbered, cell_after, reply_to, reply_text, transcript}
use Rattle.inquire_forms.specs.declared.inquire_line.InquireLine.{InquireLine}
use Rattle.inquire_forms.specs.declared.inquire_line.InquireLine.TheVariants as line
use Rattle.inquire_forms.specs.InquireLines.{about_bindings, about_entry, inquired_by, inquired_in, lookup_line, plain_said, proflist_said}
use Rattle.inquire_forms.specs.InquireTexts.{inquire_text}
use Rattle.inquire_forms.specs.Inquired.{Plain}
use Rattle.inquire_replay.specs.Inquiring.{inquire_dialogue, plain_lines}

-- no command of a script has the word of an inquiry
unknown : (s : Words) → (said_by (codes "grouplist") s ≡ Err (UnknownCommand 1)) × (said_by (codes "entrylist") s ≡ Err (UnknownCommand 1))
    × (said_by (codes "proflist") s ≡ Err (UnknownCommand 1)) × (said_by (codes "lookup") s ≡ Err (UnknownCommand 1))
unfolding said_by
unknown s = (refl, refl, refl, refl)

-- so a word of a command is none of these
other : (w word : List ℕ) (s : Words) (l : ScriptLine) → said_by word s ≡ Err (UnknownCommand 1) → said_by w s ≡ Ok l → bytes_eq w word ≡ false
other w word s l none says = by_test (bytes_eq w word) refl
  where
    by_test : (b : Bool) → bytes_eq w word ≡ b → bytes_eq w word ≡ false
    by_test false is = is
    by_test true is =
        let same : w ≡ word = (bytes_eq-Decides w word).0 is in
        let both : Err (UnknownCommand 1) ≡ Ok l = sym none ∙ ap (λ (x : List ℕ). said_by x s) (sym same) ∙ says in
        absurd cc

-- the words after the first one of a command say the command
plain_by : (w : List ℕ) (s : Words) (l : ScriptLine) → said_by w s ≡ Ok l → inquired_by w s ≡ Ok (line.Plain l)
unfolding inquired_by
plain_by w s l says =
    let none = unknown s in
    by_words (bytes_eq w (codes "grouplist")) (bytes_eq w (codes "entrylist")) (bytes_eq w (codes "lookup")) (bytes_eq w (codes "proflist"))
    (other w (codes "grouplist") s l none.0 says) (other w (codes "entrylist") s l none.1 says) (other w (codes "lookup") s l none.3 says)
    (other w (codes "proflist") s l none.2 says)
  where
    by_words : (g e k p : Bool) → g ≡ false → e ≡ false → k ≡ false → p ≡ false
        → (if g then read_as about_entry line.Grouplist s else (if e then read_as about_entry line.Entrylist s
        else (if k then read_as about_bindings lookup_line s else (if p then proflist_said s else plain_said w s)))) ≡ Ok (line.Plain l)
    by_words true e k p not_g not_e not_k not_p = absurd cc
    by_words false true k p not_g not_e not_k not_p = absurd cc
    by_words false false true p not_g not_e not_k not_p = absurd cc
    by_words false false false true not_g not_e not_k not_p = absurd cc
    by_words false false false false not_g not_e not_k not_p = ap (result_map_both line.Plain (λ (e : ParseFault). e)) says

-- a line of a script says the same
pub plain_in : (words : List (List ℕ)) (l : ScriptLine) → said_in words ≡ Ok (Some l) → inquired_in words ≡ Ok (Some (line.Plain l))
plain_in [] l says = absurd cc
plain_in (w ∷ ws) l says = by_mark (starts_with nat_eq w (codes "#")) says
  where
    by_said : (r : Result ScriptLine ParseFault) → said_by w (record { read = 1; rest = ws }) ≡ r → some_line r ≡ Ok (Some l)
        → some_line (inquired_by w (record { read = 1; rest = ws })) ≡ Ok (Some (line.Plain l))
    by_said (Ok m) is says = let same : m ≡ l = cc in
        ap some_line (plain_by w (record { read = 1; rest = ws }) m is) ∙ ap (λ (x : ScriptLine). Ok (Some (line.Plain x))) same
    by_said (Err fault) is says = absurd cc

    by_mark : (b : Bool) → (if b then Ok None else some_line (said_by w (record { read = 1; rest = ws }))) ≡ Ok (Some l)
        → (if b then Ok None else some_line (inquired_by w (record { read = 1; rest = ws }))) ≡ Ok (Some (line.Plain l))
    by_mark true says = absurd cc
    by_mark false says = by_said (said_by w (record { read = 1; rest = ws })) refl says

-- the text of a reply is the same
plain_text : (number : ℕ) (o : Option Answer) → option_map_or (inquire_text number) (option_map Plain o) [] ≡ option_map_or (answer_text number) o []
plain_text number None = refl
plain_text number (Some a) = refl

-- and so is that of all
pub plain_transcript : (g : Cell) (said : List Numbered) → transcript_by inquire_dialogue g (plain_lines said) ≡ transcript g said
plain_transcript g [] = refl
plain_transcript g (l ∷ ls) =
    let rest = plain_transcript (cell_after g l.says) ls in
    ap (λ (t : List ℕ). t ++ transcript_by inquire_dialogue (cell_after g l.says) (plain_lines ls)) (plain_text l.number (reply_to g l.says))
    ∙ ap (λ (t : List ℕ). reply_text l.number g l.says ++ t) rest

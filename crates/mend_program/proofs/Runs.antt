-- What a run of `cdsmend` wrote that ended Ok.
use Rattle.std.proofs.Common.{◌≡◌, ℕ, ◌≤◌, Bool, true, false, List, [], ◌∷◌, ◌++◌, refl, sym, ◌∙◌, ap, subst, arith, if◌then◌else◌}
use Rattle.std.specs.Prelude.{Option, None, Some, ◌&&◌, nat_le, codes}
use Rattle.std.specs.Option.{option_and_then}
use Rattle.std.specs.Str.{bytes_eq}
use Rattle.std.specs.Io.KnownBytes.{Consumes, Appends}
use Rattle.std.proofs.lemmas.Bool.Decides.{nat_tests}
use Rattle.std.proofs.lemmas.Bool.{and_parts}
use Rattle.cell_model.specs.Cells.{Cell, empty_cell}
use Rattle.cell_model.specs.Steps.{replay_from}
use Rattle.cell_model.proofs.Runs.{replay-append}
use Rattle.cell_script.specs.Words.{most_directory, number_of, number_to}
use Rattle.line_forms.specs.Dialogues.{transcript_by}
use Rattle.mend_replay.specs.Quiet.{running_quietly}
use Rattle.script_replay.specs.Replies.{Numbered, steps_of}
use Rattle.line_forms.specs.Demand.{Demand, Sound, line_demand}
use Rattle.mend_program.specs.MendForm.{mend_form}
use Rattle.mend_replay.specs.MendRules.{mend_rule, mend_state}
use Rattle.script_replay.specs.Headline.{cell_after_script, commands_from}
use Rattle.cds_base.specs.RunEnds.{Run}
use Rattle.line_forms.specs.Runs.{IsWhole, Wrote}
use Rattle.script_replay.specs.Scripts.{state_after_lines}
use Rattle.script_replay.proofs.Scripts.{faultless_script, script_due, told_with}
use Rattle.command_lines.specs.SayableCommands.{IsDirectory}
use Rattle.mend_program.specs.Mended.{IsMending}
use Rattle.mend_program.specs.ProgramWords.{are_houses, directory_named}
use Rattle.mend_replay.specs.MendLines.{mend_text}
use Rattle.mend_program.proofs.Mendings.{is_mended}

quiet_transcript : (g : Cell) (said : List Numbered) → transcript_by running_quietly g said ≡ []
quiet_transcript g [] = refl
quiet_transcript g (l ∷ ls) = quiet_transcript (replay_from g (steps_of g l.says)) ls

quiet_cell : (g : Cell) (said : List Numbered) → state_after_lines running_quietly g said ≡ replay_from g (commands_from steps_of g said)
quiet_cell g [] = refl
quiet_cell g (l ∷ ls) =
    quiet_cell (replay_from g (steps_of g l.says)) ls
    ∙ sym (replay-append (steps_of g l.says) (commands_from steps_of (replay_from g (steps_of g l.says)) ls) g)

-- a number of a directory is one
directory_range : (w : List ℕ) (d : ℕ) → number_to most_directory w ≡ Some d → IsDirectory d
directory_range w d is = by_number (number_of w) is
  where
    by_test : (n : ℕ) (b : Bool) → (nat_le 1 n && nat_le n most_directory) ≡ b → (if b then Some n else None) ≡ Some d → IsDirectory d
    by_test n true within is =
        let parts = and_parts (nat_le 1 n) (nat_le n most_directory) within in
        let same : n ≡ d = cc (is) in
        let low : 1 ≤ n = grind (arith, nat_tests, parts.0) in
        let high : n ≤ most_directory = grind (arith, nat_tests, parts.1) in
        subst IsDirectory same (low, high)
    by_test n false out is = absurd (cc (is))

    by_number : (o : Option ℕ) → option_and_then (λ n. if nat_le 1 n && nat_le n most_directory then Some n else None) o ≡ Some d → IsDirectory d
    by_number None is = absurd (cc (is))
    by_number (Some n) is = by_test n (nat_le 1 n && nat_le n most_directory) refl is

pub named_directory : (ws : List (List ℕ)) (d : ℕ) → directory_named ws ≡ Some d → IsDirectory d
named_directory [] d is = absurd (cc (is))
named_directory (w ∷ []) d is = directory_range w d is
named_directory (w ∷ dash ∷ houses) d is = by_test (bytes_eq dash (codes "-") && are_houses houses) is
  where
    by_test : (b : Bool) → (if b then number_to most_directory w else None) ≡ Some d → IsDirectory d
    by_test true is = directory_range w d is
    by_test false is = absurd (cc (is))

-- what was written, of a whole input in which nothing is faulty, is what mends the directory after
-- the script that was read
pub is_mending : (d : ℕ) (hs : List ℕ) (run : Run) → IsDirectory d → Wrote (mend_form d hs) run IsWhole → IsMending d hs run
is_mending d hs run dir wrote =
    let script = faultless_script mend_rule running_quietly (mend_state d hs) (λ number g line. refl) empty_cell wrote.read
    (subst (λ (x : Demand). x.verdict ≡ Sound) (sym wrote.demands) wrote.due.0) in
    let text : List ℕ = mend_text d hs (cell_after_script script.1) in
    let is_demand : wrote.demand ≡ told_with [] text =
    sym wrote.demands ∙ ap (line_demand mend_rule (mend_state d hs empty_cell)) script.2
    ∙ script_due mend_rule running_quietly (mend_state d hs) (λ number g line. refl) empty_cell script.0 script.1 script.3
    ∙ ap (λ (body : List ℕ). told_with body (mend_text d hs (state_after_lines running_quietly empty_cell script.1))) (quiet_transcript empty_cell script.1)
    ∙ ap (λ (g : Cell). told_with [] (mend_text d hs g)) (quiet_cell empty_cell script.1) in
    record {
      lines = script.0;
      said = script.1;
      script = script.3;
      taken = subst (Consumes run.left run.left') script.2 wrote.taken;
      written = subst (Appends run.written run.written') (wrote.due.1 ∙ ap (λ (x : Demand). x.body ++ x.end) is_demand) wrote.written;
      mended = λ m t known is stamp. is_mended script.0 script.1 script.3 d dir known hs m t is stamp;
    }

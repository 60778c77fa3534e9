-- What is written after a script mends the directory.
use Rattle.std.proofs.Common.{◌≡◌, ℕ, suc, ◌+◌, ◌*◌, ◌≤◌, Bool, true, false, List, [], ◌∷◌, map, length, refl, sym, ◌∙◌, ap, subst, arith, if◌then◌else◌}
use Rattle.std.specs.Prelude.{Option, Some, is_some, ◌==◌, codes}
use Rattle.std.proofs.lemmas.Bool.Decides.{nat_tests}
use Rattle.cds_stamps.specs.declared.stamp.Stamp.{Stamp}
use Rattle.cds_stamps.specs.Members.{Member, master_of}
use Rattle.cell_model.specs.Cells.{Cell, empty_cell}
use Rattle.cell_model.specs.Commands.{Command}
use Rattle.cell_model.specs.Mending as mending
use Rattle.cell_model.specs.Mending.{skulking_at}
use Rattle.cell_model.specs.Sets.{has}
use Rattle.cell_model.specs.Steps.{is_unknown}
use Rattle.cell_model.specs.Turns.{stamp_at}
use Rattle.cell_model.proofs.Agreed.{ready_lem}
use Rattle.cell_model.proofs.Mended.{mended_lem}
use Rattle.cell_model.proofs.PresentLists.{IsProper, tidy_lem}
use Rattle.mend_replay.specs.Readiness.{is_ready}
use Rattle.cell_script.specs.Words.{most_serial}
use Rattle.script_replay.specs.Replies.{Numbered}
use Rattle.script_replay.specs.Headline.{cell_after_script, commands_of}
use Rattle.script_replay.specs.Scripts.{IsScript}
use Rattle.mend_model.specs.Leaving.{leaving_commands, new_master, smaller_list}
use Rattle.mend_model.proofs.LeftOut.{chosen_stays, leaving_lem}
use Rattle.mend_replay.specs.MendLines.{command_line, command_lines, leaving_text, mend_text, mending_text, mends, refusal_line, text_led_by}
use Rattle.command_lines.specs.SayableCommands.{IsDirectory, IsHouse}
use Rattle.mend_replay.proofs.Ready.{ready_is}
use Rattle.mend_program.specs.Mended.{IsMended, MendsBehind, members_without}
use Rattle.mend_program.proofs.Sayable.{AllSaid, leaving_mend, leaving_said, mends_mend, mends_said, skulk_few}
use Rattle.mend_program.proofs.ScriptHouses.{commands_make, run_made, script_ranged}
use Rattle.mend_program.proofs.Serials.{serials_left}
use Rattle.mend_program.proofs.Sums.{AllMend, commands_script, lines_text, numbered, script_append, settled_mends}

-- ---- a script, and what mends a directory after it

length_lines : (cs : List Command) → length (map command_line cs) ≡ length cs
length_lines [] = refl
length_lines (c ∷ cs) = ap (λ (n : ℕ). suc n) (length_lines cs)

-- commands that can be said, are few and mend are lines that do
commands_mend : (lines : List (List ℕ)) (said : List Numbered) (d : ℕ) (t : Stamp) (members : List Member) (cs : List Command) (text : List ℕ)
    → IsScript 1 lines said → text ≡ command_lines cs → length cs + 3 ≤ 6 * length members
    → (length (cell_after_script said).bag + 315 ≤ most_serial → AllSaid cs)
    → MendsBehind said d t members (numbered (1 + length lines) cs) → IsMended lines said d t members text
commands_mend lines said d t members cs text script is few can mends = record {
  more = map command_line cs;
  added = numbered (1 + length lines) cs;
  written = is ∙ lines_text cs;
  few = let size = length_lines cs in omega (arith, size, few);
  script = λ fits.
      let size = length_lines cs in
      script_append 1 lines (map command_line cs) said (numbered (1 + length lines) cs) script
      (commands_script (1 + length lines) cs (can (serials_left lines said script)) (omega (arith, size, fits)));
  mends = mends;
}

module _ (lines : List (List ℕ)) (said : List Numbered) (script : IsScript 1 lines said) (d : ℕ) (dir : IsDirectory d)
    (known : 1 ≤ (cell_after_script said).top d) where
  abbrev g : Cell
  g = cell_after_script said

  abbrev all : List Command
  all = commands_of said

  proper : IsProper (cell_after_script said).made ((cell_after_script said).top d) ((cell_after_script said).present d)
  proper = (tidy_lem all).lists d

  houses : (x : ℕ) → has x (cell_after_script said).made ≡ true → IsHouse x
  houses = run_made all empty_cell (commands_make empty_cell said (script_ranged 1 lines said script)) (λ x there. absurd (cc (there)))

  there : is_unknown (cell_after_script said) d ≡ false
  there = some (g.top d) known
    where
      some : (n : ℕ) → 1 ≤ n → (n == 0) ≡ false
      some n least = grind (arith, nat_tests, least)

  module _ (t : Stamp) (stamp : stamp_at ((cell_after_script said).house (master_of ((cell_after_script said).present d))) ≡ Some t) where
    -- the text is that of the lines
    text_is : mend_text d [] (cell_after_script said) ≡ command_lines (mends (cell_after_script said) d)
    text_is =
        let left : is_some (stamp_at (g.house (master_of (g.present d)))) ≡ true = ap (λ (o : Option Stamp). is_some o) stamp in
        ap (λ (b : Bool). if b then refusal_line (codes "NoDirectory") else mending_text d g) there
        ∙ ap (λ (b : Bool). if b then command_lines (mends g d) else refusal_line (codes "StampsSpent")) left

    -- they are few
    few : length (mends (cell_after_script said) d) + 3 ≤ 6 * length ((cell_after_script said).present d)
    few = by_test (is_ready g d)
      where
        by_test : (b : Bool) → length (if b then skulking_at g d else mending.mend_commands g d) + 3 ≤ 6 * length (g.present d)
        by_test true = skulk_few g d dir known proper houses
        by_test false = (mended_lem all d t known stamp).few

    -- and they mend
    they_mend : MendsBehind said d t ((cell_after_script said).present d) (numbered (1 + length lines) (mends (cell_after_script said) d))
    they_mend = by_test (is_ready g d) refl (mends_mend g d dir known proper houses)
      where
        by_test : (b : Bool) → is_ready g d ≡ b → AllMend (if b then skulking_at g d else mending.mend_commands g d)
            → MendsBehind said d t (g.present d) (numbered (1 + length lines) (if b then skulking_at g d else mending.mend_commands g d))
        by_test true is can = settled_mends said (1 + length lines) d (g.top d) t (g.present d) (skulking_at g d) can (ready_lem all d t (ready_is g d is) stamp)
        by_test false is can =
            settled_mends said (1 + length lines) d (g.top d + 1) t (g.present d) (mending.mend_commands g d) can (mended_lem all d t known stamp).settled

    -- so what is written mends the directory
    whole_mended : IsMended lines said d t ((cell_after_script said).present d) (mend_text d [] (cell_after_script said))
    whole_mended =
        commands_mend lines said d t (g.present d) (mends g d) (mend_text d [] g) script text_is few
        (λ serials. mends_said g d dir known proper houses serials) they_mend

  -- and so it is if houses are left out
  module _ (h : ℕ) (hs : List ℕ) (m : ℕ) (is : new_master (cell_after_script said) d (h ∷ hs) ≡ Some m) (t : Stamp)
      (stamp : stamp_at ((cell_after_script said).house m) ≡ Some t) where
    text_left : mend_text d (h ∷ hs) (cell_after_script said) ≡ command_lines (leaving_commands (cell_after_script said) d (h ∷ hs) m)
    text_left =
        let left : is_some (stamp_at (g.house m)) ≡ true = ap (λ (o : Option Stamp). is_some o) stamp in
        ap (λ (b : Bool). if b then refusal_line (codes "NoDirectory") else leaving_text d (h ∷ hs) g) there
        ∙ ap (text_led_by d (h ∷ hs) g) is
        ∙ ap (λ (b : Bool). if b then command_lines (leaving_commands g d (h ∷ hs) m) else refusal_line (codes "StampsSpent")) left

    left_mended : IsMended lines said d t (smaller_list (cell_after_script said) d (h ∷ hs) m) (mend_text d (h ∷ hs) (cell_after_script said))
    left_mended =
        let out = leaving_lem all d (h ∷ hs) m t known is stamp in
        let lead = chosen_stays all d (h ∷ hs) m known is in
        let can = leaving_mend g d dir known proper houses (h ∷ hs) m lead.0 lead.1 in
        commands_mend lines said d t (smaller_list g d (h ∷ hs) m) (leaving_commands g d (h ∷ hs) m) (mend_text d (h ∷ hs) g) script text_left out.few
        (λ serials. leaving_said g d dir known proper houses (h ∷ hs) m lead.0 lead.1 serials)
        (settled_mends said (1 + length lines) d (g.top d + 1) t (smaller_list g d (h ∷ hs) m) (leaving_commands g d (h ∷ hs) m) can out.settled)

  -- with any houses
  pub is_mended : (hs : List ℕ) (m : ℕ) (t : Stamp) → new_master (cell_after_script said) d hs ≡ Some m
      → stamp_at ((cell_after_script said).house m) ≡ Some t
      → IsMended lines said d t (members_without (cell_after_script said) d hs m) (mend_text d hs (cell_after_script said))
  is_mended [] m t is stamp =
      let same : master_of (g.present d) ≡ m = cc (is) in
      whole_mended t (subst (λ (x : ℕ). stamp_at (g.house x) ≡ Some t) (sym same) stamp)
  is_mended (h ∷ hs) m t is stamp = left_mended h hs m is t stamp

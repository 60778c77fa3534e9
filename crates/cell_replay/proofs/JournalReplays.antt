-- What a run of the form `journal` that ends Ok wrote, and the commands of the model that its lines
-- are.
use Rattle.std.proofs.Common.{◌≡◌, ◌⊎◌, inl, inr, ℕ, Bool, true, false, not, if◌then◌else◌, List, [], ◌∷◌, refl, sym, ◌∙◌}
use Rattle.std.specs.Prelude.{Option, Some, None}
use Rattle.std.specs.Option.{option_map}
use Rattle.cds_stamps.specs.declared.stamp.Stamp.{Stamp}
use Rattle.disk_journals.specs.KeptJournals.{stops_after}
use Rattle.cell_model.specs.Cells.{Cell}
use Rattle.cell_model.specs.Commands.{Command, Complete}
use Rattle.cell_model.specs.Sets.{has}
use Rattle.cell_model.specs.Steps.{outcome, replay_from}
use Rattle.cell_model.proofs.Agreeing.{converges_lem}
use Rattle.cell_model.proofs.Stamping.{raises_lem}
use Rattle.cell_model.proofs.Runs.{replay-append}
use Rattle.cell_script.specs.Words.{words_of}
use Rattle.script_answers.specs.declared.answer.Answer.{Answer}
use Rattle.script_answers.specs.declared.answer.Answer.TheVariants as plain
use Rattle.script_answers.specs.declared.answer.ScriptRefusal.TheVariants as why
use Rattle.cds_cell.specs.CommandImages.{actors, image_after, octets_at}
use Rattle.cds_cell.specs.Scripted.{answer_of, step_of}
use Rattle.journal_forms.specs.JournalLines.{said_in}
use Rattle.journal_forms.specs.declared.journal_answer.JournalAnswer.{JournalAnswer}
use Rattle.journal_forms.specs.declared.journal_answer.JournalAnswer.TheVariants as answer
use Rattle.journal_forms.specs.declared.journal_line.JournalLine.TheVariants as line
use Rattle.journal_forms.specs.declared.journal_line.JournalLine.{JournalLine}
use Rattle.reply_buffer.specs.Responses.{Fills, in_state}
use Rattle.line_forms.specs.Dialogues.{NumberedOf, reply_of}
use Rattle.line_forms.specs.Readings.{by_lines}
use Rattle.journal_replay.specs.JournalRules.{journal_rule}
use Rattle.journal_replay.specs.Journaled.{JournalSaid, is_only, journal_said, lacks_message, stop_refused, stop_unless, stopped_if}
use Rattle.journal_replay.specs.CellJournals.{JournaledCell, empty_state, journal_dialogue, lacks_room, puts_by}
use Rattle.script_replay.specs.Headline.{commands_from}
use Rattle.cell_replay.specs.JournalRuns.{IsJournalReplay, TellsCompletedIn, effective}
use Rattle.script_replay.specs.Scripts.{state_after_lines}
use Rattle.cds_base.specs.RunEnds.{Run}
use Rattle.line_forms.specs.Runs.{IsWhole, Wrote}
use Rattle.script_replay.specs.Replies.{reply_to}
use Rattle.script_replay.proofs.Completions.{complete_only, completed_alone}
use Rattle.script_replay.proofs.HeadlineLaws.{import_finds}
use Rattle.script_replay.proofs.Scripts.{is_filling_replay, same_state}

-- ---- commands

-- the cell after lines is the model's after their effective commands
cells_behind : (s : JournaledCell) (ls : List (NumberedOf JournalLine))
    → (state_after_lines journal_dialogue s ls).cell ≡ replay_from s.cell (commands_from (λ g l. (journal_said g l).steps) s.cell ls)
cells_behind s [] = refl
cells_behind s (l ∷ ls) =
    let steps : List Command = (journal_said s.cell l.says).steps in
    cells_behind (journal_dialogue.after l.number s l.says) ls
    ∙ sym (replay-append steps (commands_from (λ g l. (journal_said g l).steps) (replay_from s.cell steps) ls) s.cell)

-- ---- skulks

-- what is said completes the skulk t, if it is answered so
abbrev Completes : Cell → JournalSaid → Stamp → List ℕ → Type 0
Completes g said t ns =
    said.answer ≡ Some (answer.Plain (plain.Complete t ns))
    → (c : Command) × (said.steps ≡ c ∷ []) × ((outcome g c).answer ≡ Complete t ns)

-- an answer that is handed on is the same
plain_only : (a : Option Answer) (b : Answer) → option_map answer.Plain a ≡ Some (answer.Plain b) → a ≡ Some b
plain_only None b is = cc
plain_only (Some a) b is = cc

-- a command that is done, or stopped
done_completes : (g : Cell) (h : ℕ) (after : Bool) (c : Command) (image : Option (List ℕ)) (t : Stamp) (ns : List ℕ)
    → Completes g (stopped_if g h after c image) t ns
done_completes g h after c None t ns is =
    (c, refl, complete_only (outcome g c).answer t ns (plain_only (answer_of (outcome g c).answer) (plain.Complete t ns) is))
done_completes g h true c (Some image) t ns is = absurd (cc (is))
done_completes g h false c (Some image) t ns is = absurd (cc (is))

-- why a stop is refused completes nothing
refused_otherwise : (made lacks only : Bool) (t : Stamp) (ns : List ℕ)
    → (if not made then Some (answer.Plain (plain.Refused why.NoHouse))
    else (if lacks then Some (answer.Plain (plain.Refused why.NoMessage)) else (if only then None else Some answer.NotActing)))
    ≡ Some (answer.Plain (plain.Complete t ns))
    → ⊥
refused_otherwise false lacks only t ns is = cc (is)
refused_otherwise true true only t ns is = cc (is)
refused_otherwise true false true t ns is = cc (is)
refused_otherwise true false false t ns is = cc (is)

-- a stop, whatever it is refused for
stop_completes : (g : Cell) (h : ℕ) (after : Bool) (c : Command) (refused : Option JournalAnswer) (t : Stamp) (ns : List ℕ)
    → (refused ≡ Some (answer.Plain (plain.Complete t ns)) → ⊥) → Completes g (stop_unless g h after c refused) t ns
stop_completes g h after c None t ns other is = done_completes g h after c (image_after g h c) t ns is
stop_completes g h after c (Some refused) t ns other is = absurd (other is)

-- the octets of an image complete nothing
image_otherwise : (made : Bool) (octets : List ℕ) (t : Stamp) (ns : List ℕ)
    → Some (answer.Plain (if made then plain.Octets octets else plain.Refused why.NoHouse)) ≡ Some (answer.Plain (plain.Complete t ns)) → ⊥
image_otherwise true octets t ns is = cc (is)
image_otherwise false octets t ns is = cc (is)

-- a line that is answered so is one command, which completes the skulk
completed_in : (g : Cell) (l : JournalLine) → TellsCompletedIn g l
completed_in g (line.Plain l) t ns is = completed_alone g l t ns (plain_only (reply_to g l) (plain.Complete t ns) is)
completed_in g (line.Image h) t ns is = absurd (image_otherwise (has h.0 g.made) (octets_at g h.0) t ns is)
completed_in g (line.Stop h call leave c) t ns is =
    let k : Command = step_of c in
    stop_completes g h.0 (stops_after call leave) k (stop_refused g h.0 k) t ns
    (refused_otherwise (has h.0 g.made) (lacks_message g k) (is_only h.0 (actors g k)) t ns) is

-- ---- what was written

-- a line is answered, or finds no room
responds : (number : ℕ) (s : JournaledCell) (line : List ℕ)
    → (journal_rule.response number s line ≡ in_state (λ s. s) (reply_of journal_dialogue number s (said_in (words_of line))))
    ⊎ (journal_rule.response number s line ≡ Fills)
responds number s line = by (lacks_room s.lists (puts_by s (said_in (words_of line)))) refl
  where
    by : (b : Bool) → lacks_room s.lists (puts_by s (said_in (words_of line))) ≡ b
        → (journal_rule.response number s line ≡ in_state (λ s. s) (reply_of journal_dialogue number s (said_in (words_of line))))
        ⊎ (journal_rule.response number s line ≡ Fills)
    by true lacks = inr (rw lacks refl)
    by false has = inl (rw has (same_state (reply_of journal_dialogue number s (said_in (words_of line)))))

-- what was written, of a whole input in which nothing is faulty, is the transcript of the effective
-- commands
pub is_journal_replay : (run : Run) → Wrote (by_lines journal_rule empty_state) run IsWhole → IsJournalReplay run
is_journal_replay run wrote =
    let replay = is_filling_replay journal_rule journal_dialogue (λ s. s) responds (λ s. refl) empty_state run wrote in
    record {
      replay = replay;
      cells = λ front rest split. cells_behind empty_state front;
      settled = λ front rest split. converges_lem (effective front);
      told = completed_in;
      raised = raises_lem;
      found = λ early late l i bindings split is answers. import_finds (effective early) i bindings answers;
    }

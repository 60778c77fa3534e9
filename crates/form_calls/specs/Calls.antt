-- What a call says of its input. Own: a call is a run of the program over octets in memory.
use Rattle.std.specs.Prelude.{◌≡◌, ◌⊎◌, ℕ, ◌++◌, nat_lt, if◌then◌else◌, List, [], length, take, drop, None, Some}
use Rattle.std.specs.List.{AllByRecursion}
use Rattle.std.specs.Str.{IsUtf8}
use Rattle.cell_model.specs.Cells.{empty_cell}
use Rattle.cell_script.specs.Words.{words_of}
use Rattle.cell_replay.specs.FormWords.{form_of}
use Rattle.cell_replay.specs.Forms.{reading_of}
use Rattle.cell_replay.specs.JournalRuns.{IsJournalReplay}
use Rattle.cell_replay.specs.declared.forms.Form.{Form}
use Rattle.cell_replay.specs.declared.forms.Form.TheVariants as form
use Rattle.clerk_replay.specs.Clerking.{clerk_dialogue, start}
use Rattle.inquire_replay.specs.Inquiring.{inquire_dialogue}
use Rattle.line_forms.specs.Demand.{Demand}
use Rattle.cds_base.specs.RunEnds.{Run}
use Rattle.line_forms.specs.Runs.{Ended, IsWhole, code_of}
use Rattle.line_forms.specs.declared.endings.Status.{Status}
use Rattle.line_forms.specs.declared.endings.Status.TheVariants as ends
use Rattle.script_replay.specs.Scripts.{IsReplay, IsReplayBy}

-- the words between the spaces of these octets name no form, or one of them is no text
abbrev pub NameNoForm : (words : List ℕ) → Type 0
NameNoForm words = (form_of (words_of words) ≡ None) ⊎ ¬ (AllByRecursion IsUtf8 (words_of words))

-- the run over an input in memory, which no read fails: this is left of the input, this text was
-- kept, and so often there was no memory to keep more
abbrev pub call_run : (input rest text : List ℕ) → (refused : ℕ) → Run
call_run input rest text refused =
    record {
      left = Some input;
      left' = Some rest;
      written = Some [];
      written' = Some text;
      reads = 0;
      reads' = 0;
      writes = 0;
      writes' = refused;
    }

-- what else holds of a whole run of a form: of the forms that replay, all that is promised of a
-- replay
abbrev pub IsReplayOf : Form → Run → Type 0
IsReplayOf form.Run run = IsReplay run
IsReplayOf form.Inquire run = IsReplayBy inquire_dialogue empty_cell run
IsReplayOf (form.Clerk room) run = IsReplayBy clerk_dialogue (start room) run
IsReplayOf form.Journal run = IsJournalReplay run
IsReplayOf other run = Unit {0}

-- a form said this text of the input, and ended so, as its run does
pub record Says (form : Form) (input text : List ℕ) (status : Status) : Type 0 where
  pub rest : List ℕ
  pub refused : ℕ
  pub ended : Ended (reading_of form) (call_run input rest text refused) status
  pub replay : status ≡ ends.Ok → IsReplayOf form (call_run input rest text refused)

-- this text is all that the input demands of a form, and nothing in the input is faulty
abbrev pub IsAllOf : Form → (input text : List ℕ) → Type 0
IsAllOf form input text = (d : Demand) × (reading_of form).demands input d × IsWhole d text

-- a call with these words ends so, and said this text of the input: without a form, or without
-- memory for the words, nothing; else what the form says
pub data Ends (words input : List ℕ) : (text : List ℕ) → Status → Type 0 where
  WithoutForm : NameNoForm words → Ends words input [] ends.Usage
  WithoutWords : Ends words input [] ends.OutOfMemory
  ByForm : {text : List ℕ} → {status : Status} → (form : Form)
      → form_of (words_of words) ≡ Some form → Says form input text status
      → Ends words input text status

-- ---- what a caller gets who has room for a text

-- the number of an ending: 6 if memory ran out, for the text too; else 5 if the room is too small
-- for the text; else that of the status
abbrev pub answer_code : (room : ℕ) → (text : List ℕ) → Status → ℕ
answer_code room text ends.OutOfMemory = 6
answer_code room text ends.WriteFault = 6
answer_code room text status = if nat_lt room (length text) then 5 else code_of status

-- a text in a room: as much of its front as fits, and after it what was in the room
abbrev pub put_into : (room text : List ℕ) → List ℕ
put_into room text = take (length room) text ++ drop (length text) room

-- what a caller gets: a text with which the call ends is put into the room, and the length is that
-- of the whole text
pub record IsAnswered (words input room room' : List ℕ) (len code : ℕ) : Type 0 where
  pub text : List ℕ
  pub status : Status
  pub ends : Ends words input text status
  pub put : room' ≡ put_into room text
  pub counted : len ≡ length text
  pub coded : code ≡ answer_code (length room) text status

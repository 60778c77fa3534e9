-- A form without journals demands no ending for want of room.
use Rattle.std.proofs.Common.{◌≡◌, ◌≢◌, ℕ, ◌+◌, Bool, true, false, if◌then◌else◌, List, [], ◌∷◌, ◌++◌, subst}
use Rattle.std.specs.Prelude.{Option, Some, None, Result, Ok, Err, nat_lt, length}
use Rattle.cds_base.specs.Counts.{Rose}
use Rattle.cds_base.specs.declared.scan.LineFault.{LineFault}
use Rattle.cell_model.specs.Cells.{empty_cell}
use Rattle.cell_script.specs.Words.{words_of}
use Rattle.cell_script.specs.CommandRows.{said_in}
use Rattle.cell_script.specs.declared.command.ScriptLine.{ScriptLine}
use Rattle.cell_script.specs.declared.fault.ParseFault.{ParseFault}
use Rattle.clerk_replay.specs.Clerking.{clerk_dialogue, start}
use Rattle.inquire_replay.specs.Inquiring.{inquire_dialogue}
use Rattle.reply_buffer.specs.Responses.{ResponseOf, GoesOn, Stops, Fills, spell_response}
use Rattle.reply_buffer.specs.TowerTexts.{TowerLine, SaysNothing, SaysTower, NoTower, tower_said}
use Rattle.line_forms.specs.Dialogues.{Dialogue, reply_of}
use Rattle.line_forms.specs.LineRules.{dialogue_rule}
use Rattle.script_replay.specs.Replies.{run_dialogue}
use Rattle.tower_codec.specs.Tower.{Floor}
use Rattle.line_forms.specs.declared.endings.Status.{Status}
use Rattle.line_forms.specs.declared.endings.Status.TheVariants.{Ok as AllRead, Usage, BadInput, ReadFault, WriteFault, OutOfMemory, JournalFull}
use Rattle.line_forms.specs.Demand.{Demand, LineRule, Verdict, Sound, Faulty, CutShort, Filled, at_end, demand, faulty_with, first_fault, pieces_of}
use Rattle.line_forms.specs.Demand.{line_demand, then_rest, unless_fault}
use Rattle.cds_base.specs.RunEnds.{Run}
use Rattle.line_forms.specs.Runs.{Ended}
use Rattle.cell_replay.specs.declared.forms.Form.{Form}
use Rattle.cell_replay.specs.declared.forms.Form.TheVariants as form
use Rattle.cell_replay.specs.declared.limits.TheConstants.{MOST_WHOLE}
use Rattle.cell_replay.specs.Checking.{check_rule, counts, line_check}
use Rattle.cell_replay.specs.FormReadings.{spelling_rule}
use Rattle.cell_replay.specs.Forms.{HasNoJournals, IsCalmEnding, reading_of}
use Rattle.cell_replay.specs.TowerDemand.{Rest, Nothing, AtFault, PartOf, rest_demand, towers_demand}
use Rattle.cell_replay.specs.WholeDemand.{WholeTask, Migrating, Auditing, said_of, told_whole, too_long_text, whole_demand}

-- this is no want of room
abbrev HasRoom : Verdict → Type 0
HasRoom Sound = Unit {0}
HasRoom Faulty = Unit {0}
HasRoom CutShort = Unit {0}
HasRoom Filled = ⊥

-- there is room
abbrev GoesWithout : {S : Type 0} → ResponseOf S → Type 0
GoesWithout (GoesOn text next) = Unit {0}
GoesWithout (Stops text) = Unit {0}
GoesWithout Fills = ⊥

-- ---- one line

dialogue_goes : {S L : Type 0} (d : Dialogue S L) (number : ℕ) (s : S) (said : Result (Option L) ParseFault) → GoesWithout (reply_of d number s said)
dialogue_goes d number s (Ok None) = tt
dialogue_goes d number s (Ok (Some l)) = tt
dialogue_goes d number s (Err fault) = tt

check_goes : (number commands : ℕ) (said : Result (Option ScriptLine) ParseFault) → GoesWithout (line_check number commands said)
check_goes number commands (Ok None) = tt
check_goes number commands (Ok (Some l)) = tt
check_goes number commands (Err fault) = tt

spelling_goes : (t : TowerLine) → GoesWithout (spell_response t)
spelling_goes SaysNothing = tt
spelling_goes (SaysTower floors) = tt
spelling_goes NoTower = tt

-- ---- all lines

module _ {S : Type 0} (rule : LineRule S) (goes : (number : ℕ) (state : S) (line : List ℕ) → GoesWithout (rule.response number state line)) where
  end_has_room : (number : ℕ) (state : S) (rest : List ℕ) → HasRoom (at_end rule number state rest).verdict
  end_has_room number state [] = tt
  end_has_room number state (b ∷ bs) = tt

  unless_has_room : (fault : Option LineFault) (d : Demand) → HasRoom d.verdict → HasRoom (unless_fault rule fault d).verdict
  unless_has_room None d room = room
  unless_has_room (Some fault) d room = tt

  then_has_room : (r : ResponseOf S) (rest : S → Demand) → GoesWithout r → ((next : S) → HasRoom (rest next).verdict) → HasRoom (then_rest r rest).verdict
  then_has_room (GoesOn text next) rest goes room = room next
  then_has_room (Stops text) rest goes room = tt
  then_has_room Fills rest goes room = absurd goes

  pieces_have_room : (pieces : List (List ℕ)) (number : ℕ) (state : S) → HasRoom (demand rule number state pieces).verdict
  unfolding demand
  pieces_have_room [] number state = end_has_room number state []
  pieces_have_room (rest ∷ []) number state =
      unless_has_room (first_fault number 1 rest) (at_end rule number state rest) (end_has_room number state rest)
  pieces_have_room (line ∷ piece ∷ pieces) number state =
      let after : S → Demand = λ next. demand rule (number + 1) next (piece ∷ pieces) in
      unless_has_room (first_fault number 1 (line ++ 10 ∷ [])) (then_rest (rule.response number state line) after)
      (then_has_room (rule.response number state line) after (goes number state line) (λ next. pieces_have_room (piece ∷ pieces) (number + 1) next))

  -- so does what any input demands of such a form
  lines_have_room : (state : S) (octets : List ℕ) (d : Demand) → line_demand rule state octets ≡ d → HasRoom d.verdict
  lines_have_room state octets d demands = subst (λ (e : Demand). HasRoom e.verdict) demands (pieces_have_room (pieces_of octets) 1 state)

dialogue_has_room : {S L : Type 0} (d : Dialogue S L) (state : S) (octets : List ℕ) (e : Demand) → line_demand (dialogue_rule d) state octets ≡ e
    → HasRoom e.verdict
dialogue_has_room d = lines_have_room (dialogue_rule d) (λ number state line. dialogue_goes d number state (d.says (words_of line)))

-- ---- the other forms

rest_has_room : (number : ℕ) (rest : Rest) → HasRoom (rest_demand number rest).verdict
rest_has_room number Nothing = tt
rest_has_room number (AtFault fault) = tt
rest_has_room number (PartOf fault) = tt

towers_have_room : (number : ℕ) (towers : List (List Floor)) (rest : Rest) → HasRoom (towers_demand number towers rest).verdict
towers_have_room number [] rest = rest_has_room number rest
towers_have_room number (floors ∷ towers) rest = towers_have_room (number + 1) towers rest

told_has_room : (said : Result (List ℕ) (List ℕ)) → HasRoom (told_whole said).verdict
told_has_room (Ok text) = tt
told_has_room (Err text) = tt

either_has_room : (b : Bool) (d e : Demand) → HasRoom d.verdict → HasRoom e.verdict → HasRoom (if b then d else e).verdict
either_has_room true d e first second = first
either_has_room false d e first second = second

whole_has_room : (task : WholeTask) (octets : List ℕ) (d : Demand) → whole_demand task octets ≡ d → HasRoom d.verdict
whole_has_room task octets d demands =
    subst (λ (e : Demand). HasRoom e.verdict) demands
    (either_has_room (nat_lt MOST_WHOLE (length octets)) (faulty_with (too_long_text task)) (told_whole (said_of task octets)) tt
    (told_has_room (said_of task octets)))

-- so does what any input demands of a form without journals
has_room : (f : Form) (octets : List ℕ) (d : Demand) → HasNoJournals f → (reading_of f).demands octets d → HasRoom d.verdict
has_room form.Run octets d none demands = dialogue_has_room run_dialogue empty_cell octets d demands
has_room form.Check octets d none demands =
    lines_have_room check_rule (λ number state line. check_goes number state.commands (said_in (words_of line))) (counts 0 0) octets d demands
has_room (form.Load rounds) octets d none demands = subst (λ (e : Demand). HasRoom e.verdict) demands tt
has_room (form.Clerk room) octets d none demands = dialogue_has_room clerk_dialogue (start room) octets d demands
has_room form.Towers octets d none demands = subst (λ (e : Demand). HasRoom e.verdict) demands.3 (towers_have_room 1 demands.0 demands.1)
has_room form.Untowers octets d none demands =
    lines_have_room spelling_rule (λ number state line. spelling_goes (tower_said (words_of line))) tt octets d demands
has_room form.Migrate octets d none demands = whole_has_room Migrating octets d demands
has_room form.Inquire octets d none demands = dialogue_has_room inquire_dialogue empty_cell octets d demands
has_room (form.Audit dir) octets d none demands = whole_has_room (Auditing dir) octets d demands
has_room form.Journal octets d none demands = absurd none

-- ---- endings

not_filled : (v : Verdict) → HasRoom v → v ≢ Filled
not_filled v room is = subst HasRoom is room

pub never_filled : (f : Form) (octets : List ℕ) (d : Demand) → HasNoJournals f → (reading_of f).demands octets d → d.verdict ≢ Filled
never_filled f octets d none demands = not_filled d.verdict (has_room f octets d none demands)

-- no run of such a form ends for want of room
pub never_full : (f : Form) (run : Run) → HasNoJournals f → ¬ (Ended (reading_of f) run JournalFull)
never_full f run none ended = never_filled f ended.0.read ended.0.demand none ended.0.demands ended.0.due.0

-- and one in which no call failed ends calmly
pub ends_by_itself : (f : Form) (run : Run) (status : Status) → HasNoJournals f → Ended (reading_of f) run status → ¬ (Rose run.reads run.reads')
    → ¬ (Rose run.writes run.writes') → IsCalmEnding status
ends_by_itself f run AllRead none ended read wrote = tt
ends_by_itself f run Usage none ended read wrote = tt
ends_by_itself f run BadInput none ended read wrote = tt
ends_by_itself f run ReadFault none ended read wrote = absurd (read ended.2.0)
ends_by_itself f run WriteFault none ended read wrote = absurd (wrote ended.2.0)
ends_by_itself f run OutOfMemory none ended read wrote = tt
ends_by_itself f run JournalFull none ended read wrote = absurd (never_full f run none ended)

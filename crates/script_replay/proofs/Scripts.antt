-- What an input demands of a form that answers line by line by a dialogue: of a script its
-- transcript.
use Rattle.std.proofs.Common.{◌≡◌, ◌⊎◌, inl, inr, ℕ, ◌+◌, Bool, true, false, List, [], ◌∷◌, ◌++◌, length, refl, sym, ◌∙◌, ap, subst, arith, append_assoc, append-nil}
use Rattle.std.proofs.Common.{if◌then◌else◌}
use Rattle.std.specs.Prelude.{Option, None, Some, Ok, Err, Result, ◌==◌}
use Rattle.std.specs.Io.KnownBytes.{Consumes, Appends}
use Rattle.cds_base.specs.declared.scan.LineFault.{LineFault}
use Rattle.cds_base.specs.LineFaults.{fault_at, AreClean, IsLine}
use Rattle.cell_model.specs.Cells.{empty_cell}
use Rattle.cell_script.specs.declared.fault.ParseFault.{ParseFault}
use Rattle.cell_script.specs.Words.{words_of}
use Rattle.reply_buffer.specs.Responses.{ResponseOf, GoesOn, Stops, Fills, in_state}
use Rattle.line_forms.specs.Demand.{Demand, LineRule, Sound, line_demand, unless_fault, then_rest, with_front, whole}
use Rattle.line_forms.specs.Leaving.{text_of}
use Rattle.line_forms.specs.Readings.{by_lines}
use Rattle.cds_base.specs.RunEnds.{Run}
use Rattle.line_forms.specs.Runs.{Wrote, IsWhole}
use Rattle.line_forms.proofs.Scanning.{scanned, demanded_scanned, clean_more, is_ten, no_ten}
use Rattle.line_forms.proofs.Demands.{demand_line, demand_part}
use Rattle.line_forms.specs.Dialogues.{Dialogue, NumberedOf, reply_of, transcript_by}
use Rattle.line_forms.specs.LineRules.{dialogue_rule}
use Rattle.script_replay.specs.Replies.{run_dialogue}
use Rattle.script_replay.specs.Scripts.{Says, IsScriptOf, IsReplay, IsReplayBy, state_after_lines}
use Rattle.cell_model.proofs.Agreeing.{converges_lem}
use Rattle.cell_model.proofs.Stamping.{raises_lem}
use Rattle.script_replay.specs.Headline.{commands_of}
use Rattle.script_replay.proofs.Completions.{completed_alone}
use Rattle.script_replay.proofs.HeadlineLaws.{import_finds}

-- ---- scripts

-- a transcript, and this text at the end of the input
abbrev pub told_with : (text end : List ℕ) → Demand
told_with text end = record { body = text; end = end; verdict = Sound }

-- what a script demands of a form whose state is of one of the dialogue: its transcript, and what
-- is said at the end of its input
abbrev pub due : {S T L : Type 0} → LineRule T → Dialogue S L → (S → T) → S → List (NumberedOf L) → Demand
due rule d state_of s said = told_with (transcript_by d s said) (rule.end_text (state_of (state_after_lines d s said)))

-- a form that answers line by line, or finds no room in a journal; its state stands for a state of
-- the program
module _ {S T L : Type 0} (rule : LineRule T) (d : Dialogue S L) (state_of : S → T)
    (responds : (number : ℕ) (s : S) (line : List ℕ)
    → (rule.response number (state_of s) line ≡ in_state state_of (reply_of d number s (d.says (words_of line)))) ⊎ (rule.response number (state_of s) line ≡ Fills)) where
  -- lines that are the octets of an input, what they say, and that this is what the input demands
  abbrev Script : ℕ → S → List ℕ → Demand → Type 0
  Script number s octets e =
      (lines : List (List ℕ)) × (said : List (NumberedOf L)) × (octets ≡ text_of lines) × IsScriptOf d.says number lines said
      × (e ≡ due rule d state_of s said)

  -- so it is of what follows a line
  abbrev Follows : ℕ → List ℕ → Type 0
  Follows number bs = (s : S) → (scanned rule number (state_of s) [] bs).verdict ≡ Sound → Script number s bs (scanned rule number (state_of s) [] bs)

  -- an input of which this much of the next line has come, and in which nothing is faulty and no
  -- journal lacks room, is a script
  pub demand_script : (number : ℕ) (s : S) (line octets : List ℕ) → AreClean number 1 line
      → (scanned rule number (state_of s) line octets).verdict ≡ Sound → Script number s (line ++ octets) (scanned rule number (state_of s) line octets)
  unfolding scanned
  demand_script number s [] [] clean sound = ([], [], refl, refl, refl)
  demand_script number s (x ∷ xs) [] clean sound = absurd (cc (sound))
  demand_script number s line (b ∷ bs) clean sound =
      by_fault (λ s sound. demand_script (number + 1) s [] bs tt sound) (λ clean sound. demand_script number s (line ++ b ∷ []) bs clean sound)
      (fault_at number (length line + 1) b) refl sound
    where
      split : b ≡ 10 → (lines : List (List ℕ)) → bs ≡ text_of lines → line ++ b ∷ bs ≡ (line ++ 10 ∷ []) ++ text_of lines
      split ten lines same = ap (λ (x : ℕ). line ++ x ∷ bs) ten ∙ ap (λ (xs : List ℕ). line ++ 10 ∷ xs) same
          ∙ sym (append_assoc line (10 ∷ []) (text_of lines))

      by_saying : Follows (number + 1) bs → IsLine number line → b ≡ 10 → (r : Result (Option L) ParseFault) → d.says (words_of line) ≡ r
          → (then_rest (in_state state_of (reply_of d number s r)) (λ next. scanned rule (number + 1) next [] bs)).verdict ≡ Sound
          → Script number s (line ++ b ∷ bs) (then_rest (in_state state_of (reply_of d number s r)) (λ next. scanned rule (number + 1) next [] bs))
      by_saying behind is ten (Ok None) says sound =
          let rest = behind s sound in (
            line ∷ rest.0,
            rest.1,
            split ten rest.0 rest.2,
            (is, subst (λ r. Says number r rest.1 (IsScriptOf d.says (number + 1) rest.0)) (sym says) rest.3),
            ap (with_front []) rest.4,
          )
      by_saying behind is ten (Ok (Some x)) says sound =
          let rest = behind (d.after number s x) sound in (
            line ∷ rest.0,
            record { number = number; says = x } ∷ rest.1,
            split ten rest.0 rest.2,
            (
              is,
              subst (λ r. Says number r (record { number = number; says = x } ∷ rest.1) (IsScriptOf d.says (number + 1) rest.0)) (sym says)
                  (rest.1, refl, rest.3),
            ),
            ap (with_front (d.text number s x)) rest.4,
          )
      by_saying behind is ten (Err fault) says sound = absurd (cc (sound))

      by_response : Follows (number + 1) bs → IsLine number line → b ≡ 10 → (r : ResponseOf T)
          → (r ≡ in_state state_of (reply_of d number s (d.says (words_of line)))) ⊎ (r ≡ Fills) → (then_rest r (λ next. scanned rule (number + 1) next [] bs)).verdict ≡ Sound
          → Script number s (line ++ b ∷ bs) (then_rest r (λ next. scanned rule (number + 1) next [] bs))
      by_response behind is ten r (inl same) =
          subst (λ (r : ResponseOf T). (then_rest r (λ next. scanned rule (number + 1) next [] bs)).verdict ≡ Sound → Script number s (line ++ b ∷ bs) (then_rest r (λ next. scanned rule (number + 1) next [] bs))) (sym same)
          (by_saying behind is ten (d.says (words_of line)) refl)
      by_response behind is ten r (inr fills) =
          subst (λ (r : ResponseOf T). (then_rest r (λ next. scanned rule (number + 1) next [] bs)).verdict ≡ Sound → Script number s (line ++ b ∷ bs) (then_rest r (λ next. scanned rule (number + 1) next [] bs))) (sym fills)
          (λ sound. absurd (cc (sound)))

      by_ten : Follows (number + 1) bs
          → (AreClean number 1 (line ++ b ∷ []) → (scanned rule number (state_of s) (line ++ b ∷ []) bs).verdict ≡ Sound
          → Script number s ((line ++ b ∷ []) ++ bs) (scanned rule number (state_of s) (line ++ b ∷ []) bs))
          → fault_at number (length line + 1) b ≡ None → (c : Bool) → (b == 10) ≡ c
          → (if c then then_rest (rule.response number (state_of s) line) (λ next. scanned rule (number + 1) next [] bs) else scanned rule number (state_of s) (line ++ b ∷ []) bs).verdict ≡ Sound
          → Script number s (line ++ b ∷ bs) (if c then then_rest (rule.response number (state_of s) line) (λ next. scanned rule (number + 1) next [] bs) else scanned rule number (state_of s)
          (line ++ b ∷ []) bs)
      by_ten behind joined none true is sound =
          by_response behind (clean, subst (λ (x : ℕ). fault_at number (length line + 1) x ≡ None) (is_ten b is) none) (is_ten b is)
          (rule.response number (state_of s) line) (responds number s line) sound
      by_ten behind joined none false is sound =
          subst (λ (octets : List ℕ). Script number s octets (scanned rule number (state_of s) (line ++ b ∷ []) bs)) (append_assoc line (b ∷ []) bs) (joined
          (clean_more number 1 line b clean (no_ten b is) (subst (λ (n : ℕ). fault_at number n b ≡ None) (omega arith) none)) sound)

      by_fault : Follows (number + 1) bs
          → (AreClean number 1 (line ++ b ∷ []) → (scanned rule number (state_of s) (line ++ b ∷ []) bs).verdict ≡ Sound
          → Script number s ((line ++ b ∷ []) ++ bs) (scanned rule number (state_of s) (line ++ b ∷ []) bs))
          → (f : Option LineFault) → fault_at number (length line + 1) b ≡ f
          → (unless_fault rule f (if b == 10 then then_rest (rule.response number (state_of s) line) (λ next. scanned rule (number + 1) next [] bs)
          else scanned rule number (state_of s) (line ++ b ∷ []) bs)).verdict ≡ Sound
          → Script number s (line ++ b ∷ bs) (unless_fault rule f (if b == 10 then then_rest (rule.response number (state_of s) line) (λ next. scanned rule (number + 1) next [] bs)
          else scanned rule number (state_of s) (line ++ b ∷ []) bs))
      by_fault behind joined None is sound = by_ten behind joined is (b == 10) refl sound
      by_fault behind joined (Some fault) is sound = absurd (cc (sound))

  -- so is a whole input
  pub input_script : (s : S) (octets : List ℕ) → (line_demand rule (state_of s) octets).verdict ≡ Sound → Script 1 s octets (line_demand rule (state_of s) octets)
  input_script s octets =
      subst (λ (e : Demand). e.verdict ≡ Sound → Script 1 s octets e) (sym (demanded_scanned rule (state_of s) octets)) (demand_script 1 s [] octets tt)

  -- where nothing is said at the end of the input
  module _ (silent : (s : S) → rule.end_text (state_of s) ≡ []) where
    -- what was written, of a whole input in which nothing is faulty, is the transcript of the
    -- script that was read
    pub is_filling_replay : (s : S) (run : Run) → Wrote (by_lines rule (state_of s)) run IsWhole → IsReplayBy d s run
    is_filling_replay s run wrote =
        let script = input_script s wrote.read (subst (λ (e : Demand). e.verdict ≡ Sound) (sym wrote.demands) wrote.due.0) in
        let text = transcript_by d s script.1 in
        let is_demand : wrote.demand ≡ whole text = sym wrote.demands ∙ script.4 ∙ ap (told_with text) (silent (state_after_lines d s script.1)) in
        record {
          lines = script.0;
          said = script.1;
          script = script.3;
          taken = subst (Consumes run.left run.left') script.2 wrote.taken;
          written = subst (Appends run.written run.written') (wrote.due.1 ∙ ap (λ (e : Demand). e.body ++ e.end) is_demand ∙ append-nil text) wrote.written;
        }

-- a form that answers line by line and always has room
module _ {S T L : Type 0} (rule : LineRule T) (d : Dialogue S L) (state_of : S → T)
    (responds : (number : ℕ) (s : S) (line : List ℕ) → rule.response number (state_of s) line
    ≡ in_state state_of (reply_of d number s (d.says (words_of line)))) where
  -- a script demands what is due of it
  script_demand : (number : ℕ) (s : S) (lines : List (List ℕ)) (said : List (NumberedOf L)) → IsScriptOf d.says number lines said
      → scanned rule number (state_of s) [] (text_of lines) ≡ due rule d state_of s said
  script_demand number s [] said none = demand_part rule number (state_of s) [] tt ∙ ap (due rule d state_of s) (sym none)
  script_demand number s (l ∷ ls) said is =
      demand_line rule number (state_of s) l (text_of ls) is.0
      ∙ ap (λ (r : ResponseOf T). then_rest r (λ next. scanned rule (number + 1) next [] (text_of ls))) (responds number s l)
      ∙ by_saying (λ s said is. script_demand (number + 1) s ls said is) (d.says (words_of l)) is.1
    where
      by_saying : ((s : S) (said : List (NumberedOf L)) → IsScriptOf d.says (number + 1) ls said
          → scanned rule (number + 1) (state_of s) [] (text_of ls) ≡ due rule d state_of s said)
          → (r : Result (Option L) ParseFault) → Says number r said (IsScriptOf d.says (number + 1) ls)
          → then_rest (in_state state_of (reply_of d number s r)) (λ next. scanned rule (number + 1) next [] (text_of ls)) ≡ due rule d state_of s said
      by_saying behind (Ok None) says = ap (with_front []) (behind s said says)
      by_saying behind (Ok (Some x)) says =
          ap (with_front (d.text number s x)) (behind (d.after number s x) says.0 says.2) ∙ ap (due rule d state_of s) (sym says.1)
      by_saying behind (Err fault) says = absurd says

  -- what a whole script demands
  pub script_due : (s : S) (lines : List (List ℕ)) (said : List (NumberedOf L)) → IsScriptOf d.says 1 lines said
      → line_demand rule (state_of s) (text_of lines) ≡ due rule d state_of s said
  script_due s lines said is = demanded_scanned rule (state_of s) (text_of lines) ∙ script_demand 1 s lines said is

  -- a whole input in which nothing is faulty is a script
  pub faultless_script : (s : S) (octets : List ℕ) → (line_demand rule (state_of s) octets).verdict ≡ Sound
      → (lines : List (List ℕ)) × (said : List (NumberedOf L)) × (octets ≡ text_of lines) × IsScriptOf d.says 1 lines said
  faultless_script s octets sound =
      let script = input_script rule d state_of (λ number s line. inl (responds number s line)) s octets sound in
      (script.0, script.1, script.2, script.3)

  -- where nothing is said at the end of the input
  module _ (silent : (s : S) → rule.end_text (state_of s) ≡ []) where
    -- a whole script demands its transcript
    pub script_demanded : (s : S) (lines : List (List ℕ)) (said : List (NumberedOf L)) → IsScriptOf d.says 1 lines said
        → line_demand rule (state_of s) (text_of lines) ≡ whole (transcript_by d s said)
    script_demanded s lines said is = script_due s lines said is ∙ ap (told_with (transcript_by d s said)) (silent (state_after_lines d s said))

    -- and the other way round
    pub demanded_script : (s : S) (octets : List ℕ) → (line_demand rule (state_of s) octets).verdict ≡ Sound
        → (lines : List (List ℕ)) × (said : List (NumberedOf L)) × (octets ≡ text_of lines) × IsScriptOf d.says 1 lines said
    demanded_script s octets sound = faultless_script s octets sound

    -- what was written, of a whole input in which nothing is faulty, is the transcript of the
    -- script that was read
    pub is_replay_by : (s : S) (run : Run) → Wrote (by_lines rule (state_of s)) run IsWhole → IsReplayBy d s run
    is_replay_by = is_filling_replay rule d state_of (λ number s line. inl (responds number s line)) silent

-- ---- a form that is a dialogue

-- a state that stays is the same
pub same_state : {S : Type 0} (r : ResponseOf S) → r ≡ in_state (λ s. s) r
same_state (GoesOn text next) = refl
same_state (Stops text) = refl
same_state Fills = refl

module _ {S L : Type 0} (d : Dialogue S L) where
  -- a script demands its transcript
  pub dialogue_demanded : (s : S) (lines : List (List ℕ)) (said : List (NumberedOf L)) → IsScriptOf d.says 1 lines said
      → line_demand (dialogue_rule d) s (text_of lines) ≡ whole (transcript_by d s said)
  dialogue_demanded =
      script_demanded (dialogue_rule d) d (λ s. s) (λ number s line. same_state (reply_of d number s (d.says (words_of line)))) (λ s. refl)

  -- an input in which nothing is faulty is a script
  pub demanded_dialogue : (s : S) (octets : List ℕ) → (line_demand (dialogue_rule d) s octets).verdict ≡ Sound → (lines : List (List ℕ))
      × (said : List (NumberedOf L)) × (octets ≡ text_of lines) × IsScriptOf d.says 1 lines said
  demanded_dialogue =
      demanded_script (dialogue_rule d) d (λ s. s) (λ number s line. same_state (reply_of d number s (d.says (words_of line)))) (λ s. refl)

  -- what was written, of a whole input in which nothing is faulty, is the transcript of the script
  -- that was read
  pub is_dialogue_replay : (s : S) (run : Run) → Wrote (by_lines (dialogue_rule d) s) run IsWhole → IsReplayBy d s run
  is_dialogue_replay =
      is_replay_by (dialogue_rule d) d (λ s. s) (λ number s line. same_state (reply_of d number s (d.says (words_of line)))) (λ s. refl)

-- what `run` wrote, of a whole input in which nothing is faulty
pub is_replay : (run : Run) → Wrote (by_lines (dialogue_rule run_dialogue) empty_cell) run IsWhole → IsReplay run
is_replay run wrote =
    let replay = is_dialogue_replay run_dialogue empty_cell run wrote in
    record {
      replay = replay;
      told = completed_alone;
      settled = λ front rest split. converges_lem (commands_of front);
      raised = raises_lem;
      found = λ early late l i bindings split is answers. import_finds (commands_of early) i bindings answers;
    }

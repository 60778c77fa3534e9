-- How a call ends, by what its words and its run say.
use Rattle.std.proofs.Common.{◌≡◌, ℕ, List, [], Option, Some, None, IfSome, refl, sym, subst, ap, ◌∙◌, inl, inr}
use Rattle.std.specs.List.{AllByRecursion}
use Rattle.std.specs.Str.{IsUtf8}
use Rattle.cds_base.specs.declared.words.WordsFault.{WordsFault}
use Rattle.cds_base.specs.declared.words.WordsFault.TheVariants as fault
use Rattle.cell_model.specs.Cells.{empty_cell}
use Rattle.cell_script.specs.Words.{words_of}
use Rattle.cell_replay.specs.FormWords.{form_of}
use Rattle.cell_replay.specs.Forms.{reading_of}
use Rattle.cell_replay.specs.JournalRuns.{IsJournalReplay}
use Rattle.cell_replay.specs.declared.forms.Form.{Form}
use Rattle.cell_replay.specs.declared.forms.Form.TheVariants as form
use Rattle.clerk_replay.specs.Clerking.{clerk_dialogue, start}
use Rattle.inquire_replay.specs.Inquiring.{inquire_dialogue}
use Rattle.cds_base.specs.RunEnds.{Run}
use Rattle.line_forms.specs.Runs.{Ended}
use Rattle.line_forms.specs.declared.endings.Status.{Status}
use Rattle.line_forms.specs.declared.endings.Status.TheVariants as ends
use Rattle.script_replay.specs.Scripts.{IsReplay, IsReplayBy}
use Rattle.form_calls.specs.PrivateTexts.{KeptText}
use Rattle.form_calls.specs.Calls.{Ends, IsReplayOf, WithoutForm, WithoutWords, ByForm, call_run}

-- without words nothing is said
pub without_words : (words input text : List ℕ) (why : WordsFault) (status : Status) → text ≡ [] → (why ≡ fault.OutOfMemory → status ≡ ends.OutOfMemory)
    → (why ≡ fault.NoText → status ≡ ends.Usage) → (why ≡ fault.NoText → ¬ (AllByRecursion IsUtf8 (words_of words))) → Ends words input text status
without_words words input text fault.NoText status empty memory usage lacks =
    subst (λ t. Ends words input t status) (sym empty) (subst (λ s. Ends words input [] s) (sym (usage refl)) (WithoutForm (inr (lacks refl))))
without_words words input text fault.OutOfMemory status empty memory usage lacks =
    subst (λ t. Ends words input t status) (sym empty) (subst (λ s. Ends words input [] s) (sym (memory refl)) WithoutWords)

-- what the clauses of a run say of its form
pub record Kept (texts : List (List ℕ)) (run : Run) (status : Status) : Type 0 where
  pub ended : IfSome (form_of texts) (λ f. Ended (reading_of f) run status)
  pub transcript : form_of texts ≡ Some form.Run → status ≡ ends.Ok → IsReplay run
  pub inquired : form_of texts ≡ Some form.Inquire → status ≡ ends.Ok → IsReplayBy inquire_dialogue empty_cell run
  pub clerked : (room : ℕ) → form_of texts ≡ Some (form.Clerk room) → status ≡ ends.Ok → IsReplayBy clerk_dialogue (start room) run
  pub journaled : form_of texts ≡ Some form.Journal → status ≡ ends.Ok → IsJournalReplay run

-- what each form promises of a whole run
pub replayed : (texts : List (List ℕ)) (run : Run) (status : Status) (f : Form) → form_of texts ≡ Some f → Kept texts run status → status ≡ ends.Ok → IsReplayOf f run
replayed texts run status form.Run is k ok = k.transcript is ok
replayed texts run status form.Check is k ok = tt
replayed texts run status (form.Load rounds) is k ok = tt
replayed texts run status (form.Clerk room) is k ok = k.clerked room is ok
replayed texts run status form.Towers is k ok = tt
replayed texts run status form.Untowers is k ok = tt
replayed texts run status form.Migrate is k ok = tt
replayed texts run status form.Inquire is k ok = k.inquired is ok
replayed texts run status (form.Audit dir) is k ok = tt
replayed texts run status form.Journal is k ok = k.journaled is ok

-- a run ends as its form does, or there is none
pub ran : (words input rest text : List ℕ) (refused : ℕ) (status : Status) (o : Option Form) → form_of (words_of words) ≡ o
    → Kept (words_of words) (call_run input rest text refused) status
    → (form_of (words_of words) ≡ None → (status ≡ ends.Usage) × (text ≡ [])) → Ends words input text status
ran words input rest text refused status None is k none =
    let n = none is in subst (λ t. Ends words input t status) (sym n.1) (subst (λ s. Ends words input [] s) (sym n.0) (WithoutForm (inl is)))
ran words input rest text refused status (Some f) is k none =
    let ended = subst (λ (o : Option Form). IfSome o (λ g. Ended (reading_of g) (call_run input rest text refused) status)) is k.ended in
    ByForm f is (record { rest = rest; refused = refused; ended = ended; replay = replayed (words_of words) _ status f is k })

-- a run over an input and a text
abbrev pub run_over : (source source' : List ℕ) (sink sink' : KeptText) → Run
run_over source source' sink sink' =
    record {
      left = Some source;
      left' = Some source';
      written = Some sink.octets;
      written' = Some sink'.octets;
      reads = 0;
      reads' = 0;
      writes = sink.faults;
      writes' = sink'.faults;
    }

-- the text that nothing is kept of yet
abbrev pub fresh : KeptText
fresh = record { octets = []; faults = 0 }

-- the ending of a run over the whole input and such a text
pub run_ends : (words input : List ℕ) (texts : List (List ℕ)) (source source' : List ℕ) (sink sink' : KeptText) (status : Status) → texts ≡ words_of words
    → source ≡ input → sink ≡ fresh → Kept texts (run_over source source' sink sink') status → (form_of texts ≡ None → status ≡ ends.Usage)
    → (status ≡ ends.Usage → sink' ≡ sink) → Ends words input sink'.octets status
run_ends words input texts source source' sink sink' status same all none kept usage unused =
    let over_fresh = subst (λ (k : KeptText). Kept texts (run_over source source' k sink') status) none kept in
    let over_input = subst (λ (s : List ℕ). Kept texts (run_over s source' fresh sink') status) all over_fresh in
    let of_words = subst (λ (t : List (List ℕ)). Kept t (run_over input source' fresh sink') status) same over_input in
    ran words input source' sink'.octets sink'.faults status (form_of (words_of words)) refl of_words
    (λ is. (usage (ap form_of same ∙ is), ap (λ (k : KeptText). k.octets) (unused (usage (ap form_of same ∙ is)) ∙ none)))

-- What a call said that ended well.
use Rattle.std.proofs.Common.{◌≡◌, ◌++◌, ℕ, List, [], Some, sym, ap, ◌∙◌, subst}
use mathlib.Core.List.{append-nil}
use Rattle.cell_script.specs.Words.{words_of}
use Rattle.cell_replay.specs.FormWords.{form_of}
use Rattle.cell_replay.specs.Forms.{reading_of}
use Rattle.cell_replay.specs.declared.forms.Form.{Form}
use Rattle.cell_replay.specs.declared.forms.Form.TheVariants as form
use Rattle.line_forms.specs.Demand.{Demand}
use Rattle.line_forms.specs.Readings.{Reading}
use Rattle.line_forms.specs.Runs.{Ended, IsWhole, Wrote}
use Rattle.line_forms.specs.declared.endings.Status.TheVariants as ends
use Rattle.form_calls.specs.Calls.{Ends, IsAllOf, ByForm, call_run}

-- where nothing is left, the text is that of the whole input
pub of_whole : (reading : Reading) (input rest text : List ℕ) (refused : ℕ) → rest ≡ [] → Wrote reading (call_run input rest text refused) IsWhole
    → (d : Demand) × reading.demands input d × IsWhole d text
of_whole reading input rest text refused none w =
    let all : w.read ≡ input = sym (w.taken ∙ ap (λ (r : List ℕ). w.read ++ r) none ∙ append-nil w.read) in
    (w.demand, subst (λ (o : List ℕ). reading.demands o w.demand) all w.demands, subst (λ (t : List ℕ). IsWhole w.demand t) (sym w.written) w.due)

-- a run of a form that ended well
pub all_said : (f : Form) (input rest text : List ℕ) (refused : ℕ) → Ended (reading_of f) (call_run input rest text refused) ends.Ok → IsAllOf f input text
all_said form.Run input rest text refused e = of_whole _ input rest text refused e.0 e.1
all_said form.Check input rest text refused e = of_whole _ input rest text refused e.0 e.1
all_said (form.Load rounds) input rest text refused e =
    let w = e.1 in (w.demand, w.demands, subst (λ (t : List ℕ). IsWhole w.demand t) (sym w.written) w.due)
all_said (form.Clerk room) input rest text refused e = of_whole _ input rest text refused e.0 e.1
all_said form.Towers input rest text refused e = of_whole _ input rest text refused e.0 e.1
all_said form.Untowers input rest text refused e = of_whole _ input rest text refused e.0 e.1
all_said form.Migrate input rest text refused e = of_whole _ input rest text refused e.0 e.1
all_said form.Inquire input rest text refused e = of_whole _ input rest text refused e.0 e.1
all_said (form.Audit dir) input rest text refused e = of_whole _ input rest text refused e.0 e.1
all_said form.Journal input rest text refused e = of_whole _ input rest text refused e.0 e.1

-- a call that ended well
pub ends_well : (words input text : List ℕ) → Ends words input text ends.Ok → (f : Form) × (form_of (words_of words) ≡ Some f) × IsAllOf f input text
ends_well words input text (ByForm f is says) = (f, is, all_said f input says.rest text says.refused says.ended)

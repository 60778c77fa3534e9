use Rattle.std.proofs.Common.{◌≡◌, ◌∙◌, ℕ, List, ap, sym, subst, true, option_copied}
use Rattle.std.specs.Prelude.{Result, Ok}
use Rattle.std.specs.Result.{result_map_both}
use Rattle.cds_stamps.specs.Outcomes.{Answers}
use Rattle.resolver.specs.declared.seen.Found.{Found}
use Rattle.resolver.specs.WalkEnds.{walk_end}
use Rattle.script_answers.specs.declared.answer.ScriptRefusal.{ScriptRefusal}
use Rattle.server_entries.specs.Exports.{object_attribute, tower_attribute, unexport_changes}
use Rattle.ns_commands.specs.Asks.{Asks, changes_in, object_in, of_entry, unless_none}
use Rattle.ns_commands.proofs.exports.unexport.Goals as goal

pub returns : goal.returns
returns g c =
    let reader = g.R.EntryReader.tells c.args.reader.now in
    let lose : Found → (towers held : List (List ℕ)) → Asks = λ entry towers held.
    unless_none entry (unexport_changes entry.name towers held (option_copied c.args.interface) c.args.objects.now) in
    let ask : Found → Asks = λ entry. lose entry (reader.values entry tower_attribute) (reader.values entry object_attribute) in
    let entry : Found = c.in_ok-entry.entry in
    let towers : List (List ℕ) = c.deref.result.now in
    let held : List (List ℕ) = c.deref-2.result.now in
    let is : lose entry towers held ≡ of_entry (object_in (walk_end reader true c.args.name.now)) ask =
    ap (λ (vs : List (List ℕ)). lose entry vs held) (c.deref.ensures.value ∙ c.in_ok-towers.ensures)
    ∙ ap (λ (vs : List (List ℕ)). lose entry (reader.values entry tower_attribute) vs) (c.deref-2.ensures.value ∙ c.in_ok-held.ensures)
    ∙ sym (ap (λ (o : Result Found ScriptRefusal). of_entry o ask) c.in_ok-entry.ensures) in
    subst (Answers (result_map_both changes_in (λ e. e) c.losses.result)) is c.losses.ensures

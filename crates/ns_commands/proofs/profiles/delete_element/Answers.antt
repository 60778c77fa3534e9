use Rattle.std.proofs.Common.{◌≡◌, ◌∙◌, ap, sym, subst, true, option_copied}
use Rattle.std.specs.Prelude.{Result, Ok}
use Rattle.std.specs.Result.{result_map_both}
use Rattle.cds_stamps.specs.Outcomes.{Answers}
use Rattle.resolver.specs.declared.seen.Found.{Found}
use Rattle.resolver.specs.WalkEnds.{walk_end}
use Rattle.script_answers.specs.declared.answer.ScriptRefusal.{ScriptRefusal}
use Rattle.ns_profiles.specs.Profiles.{profile}
use Rattle.ns_commands.specs.Asks.{Asks, changes_in, deleted_from, object_in, of_entry}
use Rattle.ns_commands.proofs.profiles.delete_element.Goals as goal

pub returns : goal.returns
returns g c =
    let reader = g.R.EntryReader.tells c.args.reader.now in
    let delete = deleted_from (option_copied c.args.interface) c.args.member.now in
    let ask : Found → Asks = λ entry. delete entry (reader.values entry profile) in
    let entry : Found = c.in_ok-entry.entry in
    let is : delete entry c.deref.result.now ≡ of_entry (object_in (walk_end reader true c.args.name.now)) ask =
    ap (delete entry) (c.deref.ensures.value ∙ c.in_ok-values.ensures) ∙ sym (ap (λ (o : Result Found ScriptRefusal). of_entry o ask) c.in_ok-entry.ensures) in
    subst (Answers (result_map_both changes_in (λ e. e) c.deletions.result)) is c.deletions.ensures

use Rattle.std.proofs.Common.{◌∙◌, refl, sym}
use Rattle.std.proofs.lemmas.Result.{on_ok_weaker}
use Rattle.directory.specs.OwnUpdateWords.{own_made, own_refusal}
use Rattle.directory.specs.Updates.{changed_name, change_of}
use Rattle.directory.specs.Shown.{shown_in, marks_of}
use Rattle.directory.proofs.Applying.{takes_shown, takes_fragment}
use Rattle.directory.proofs.FragmentLaws.{shows}
use Rattle.directory.proofs.entry_map.EntryMap.apply.Goals as goal

pub returns-in-Some-clause-ok : goal.returns-in-Some-clause-ok
returns-in-Some-clause-ok c =
    let u = change_of c.args.update.now in
    let shown = shown_in c.args.self.now (changed_name u) in
    let is = c.in-Some.ensures.own in
    let applied = rw c.name.ensures at c.apply_own.ensures in
    on_ok_weaker c.apply_own.result
    (takes_shown c.args.self.now c.apply_own.new.self (changed_name u) (λ e. own_made c.in-Some.own e c.args.stamp) (λ e. marks_of e u c.args.stamp)
    (λ e. is.entry e c.args.stamp) (shows shown (λ e. own_refusal e c.in-Some.own) refl (sym (is.refusal shown) ∙ c.requires))) applied.ok

pub returns-clause-ok : goal.returns-clause-ok
returns-clause-ok c =
    let u = change_of c.args.update.now in
    on_ok_weaker c.take_in.result
    (takes_fragment c.args.self.now c.take_in.new.self (changed_name u) (marks_of (shown_in c.args.self.now (changed_name u)) u c.args.stamp)
    c.in_ok-fragment.fragment c.in_ok-fragment.ensures.name c.in_ok-fragment.ensures.entry) c.take_in.ensures.ok

use Rattle.std.proofs.Common.{ap, subst, sym, ◌∙◌}
use Rattle.std.specs.Result.{result_err}
use Rattle.directory.specs.Applied.{LeavesOthers}
use Rattle.directory.specs.Updates.{changed_name, change_of}
use Rattle.directory.specs.Shown.{shown_in, marks_of}
use Rattle.directory.proofs.Applying.{takes_fragment}
use Rattle.directory.proofs.Telling.{refusal_told}
use Rattle.directory.proofs.entry_map.EntryMap.remake_told.Goals as goal

pub returns : goal.returns
returns c =
    let u = change_of c.args.update.now in
    let named = c.in_ok-fragment.ensures.name in
    record {
      answer = ap result_err (sym c.in_default.is) ∙ refusal_told c.check.result _ c.check.ensures;
      ok = takes_fragment c.args.self.now c.join_entry.new.self (changed_name u) (marks_of (shown_in c.args.self.now (changed_name u)) u c.args.stamp)
          c.in_ok-fragment.fragment named c.in_ok-fragment.ensures.entry c.in_ok-join_entry.ensures.ok;
      name = named;
      entry = c.in_ok-fragment.ensures.entry;
      others = subst (LeavesOthers c.args.self.now c.join_entry.new.self) named c.in_ok-join_entry.ensures.others;
      refused = tt;
      err = tt;
    }

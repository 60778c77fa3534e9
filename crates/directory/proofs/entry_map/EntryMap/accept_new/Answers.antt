use Rattle.std.proofs.Common.{◌∙◌, ap, sym}
use Rattle.std.specs.FinMap as map
use Rattle.std.specs.Option.{option_and_then}
use Rattle.std.specs.Cmp.Lexicographic.{nat_list_cmp_total}
use Rattle.cds_stamps.specs.Octets.{octets_exact}
use Rattle.cds_stamps.specs.Outcomes.{ok_unless}
use Rattle.directory.specs.Updates.{changed_name, change_of}
use Rattle.directory.specs.Shown.{shown_in, shown_entry, new_refusal, marks_of}
use Rattle.directory.proofs.Untouched.{inserted_apart}
use Rattle.directory.proofs.Applying.{takes_new, found_none}
use Rattle.directory.proofs.entry_map.EntryMap.accept_new.Goals as goal

pub returns : goal.returns
returns c =
    let m = c.args.self.now in
    let u = change_of c.args.update.now in
    let named = c.in_ok-fragment.ensures.name in
    let none = ap (map.get m) (sym c.name.ensures) ∙ found_none c.get.result _ (sym c.is_some.ensures ∙ c.if-is_some.false) c.get.ensures in
    record {
      answer = ap (λ e. ok_unless e tt) (sym (c.requires (shown_in m (changed_name u)) ∙ ap (λ e. new_refusal (option_and_then shown_entry e)) none));
      ok = takes_new m c.insert.new.self (changed_name u) (marks_of (shown_in m (changed_name u)) u c.args.stamp)
          c.in_ok-fragment.fragment named c.in_ok-fragment.ensures.entry (ap (map.get m) named ∙ none) c.in_ok-insert.ensures.ok;
      others = inserted_apart nat_list_cmp_total octets_exact m c.insert.new.self (changed_name u) c.in_ok-fragment.fragment.entry
          (c.in_ok-insert.ensures.ok ∙ ap (λ k. map.insert m k c.in_ok-fragment.fragment.entry) named);
      refused = tt;
      err = tt;
    }

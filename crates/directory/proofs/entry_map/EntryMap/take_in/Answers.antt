use Rattle.std.proofs.Common.{ap, ◌∙◌}
use Rattle.std.specs.FinMap as map
use Rattle.std.specs.Cmp.Lexicographic.{nat_list_cmp_total}
use Rattle.cds_stamps.specs.Octets.{octets_exact}
use Rattle.cds_stamps.proofs.Undoing.{joined_new}
use Rattle.directory.specs.Entries.{join_entries}
use Rattle.directory.proofs.Untouched.{inserted_apart}
use Rattle.directory.proofs.entry_map.EntryMap.take_in.Goals as goal

pub returns-clause-ok : goal.returns-clause-ok
returns-clause-ok c =
    λ _ _. let absent = rw c.if-here.false at c.in_ok-here.ensures.ok in
    joined_new nat_list_cmp_total octets_exact join_entries c.args.self.now c.insert.new.self c.args.fragment.name c.args.fragment.entry absent.0
    (c.in_ok-insert.ensures.ok ∙ ap (λ m. map.insert m c.args.fragment.name c.args.fragment.entry) absent.1)

pub returns-clause-others : goal.returns-clause-others
returns-clause-others c =
    let absent = rw c.if-here.false at c.in_ok-here.ensures.ok in
    inserted_apart nat_list_cmp_total octets_exact c.args.self.now c.insert.new.self c.args.fragment.name c.args.fragment.entry
    (c.in_ok-insert.ensures.ok ∙ ap (λ m. map.insert m c.args.fragment.name c.args.fragment.entry) absent.1)

use Rattle.std.proofs.Common.{◌≡◌, ◌∙◌, Option, Some, None, ap, sym, refl, arith}
use Rattle.std.specs.FinMap as map
use Rattle.std.specs.Option.{option_and_then}
use Rattle.std.specs.Cmp.Lexicographic.{nat_list_cmp_total}
use Rattle.cds_stamps.specs.Octets.{octets_exact, octets_cmp}
use Rattle.cds_stamps.proofs.TreeViews.{get-view}
use Rattle.cds_stamps.proofs.TreeViews.{view-remove}
use Rattle.directory.specs.declared.entry.EntryCell.{EntryCell}
use Rattle.directory.specs.declared.deletions.What.TheVariants.{Death}
use Rattle.directory.specs.Deletions.{entry_without}
use Rattle.directory.specs.Held.{held_in}
use Rattle.directory.proofs.Dropping.{removed_here, remove-none}
use Rattle.directory.proofs.HeldLaws.{held_death}
use Rattle.directory.proofs.entry_map.EntryMap.drop_entry.Goals.{in-Some, in-None}
use Rattle.directory.proofs.entry_map.EntryMap.drop_entry.Goals as goal

all_gone : (e : Option EntryCell) → option_and_then (entry_without Death) e ≡ None
all_gone None = refl
all_gone (Some e) = refl

pub returns-clause-entry : goal.returns-clause-entry
returns-clause-entry c =
    removed_here c.args.self.now c.self.inside.entries.entries c.args.name.now (entry_without Death) c.self.view_is c.remove.new.self.entries
    c.remove.ensures.updates.0 (all_gone (map.get c.args.self.now c.args.name.now))

pub returns-clause-count : goal.returns-clause-count
returns-clause-count c =
    let gone : map.from_entries {R = octets_cmp} c.remove.new.self.entries ≡ map.remove c.args.self.now c.args.name.now =
    view-remove nat_list_cmp_total octets_exact c.self.inside.entries.entries c.remove.new.self.entries c.args.name.now c.remove.ensures.updates.0
    ∙ ap (λ m. map.remove m c.args.name.now) c.self.view_is in
    let own : map.get c.args.self.now c.args.name.now ≡ c.remove.result =
    ap (λ m. map.get m c.args.name.now) (sym c.self.view_is) ∙ get-view nat_list_cmp_total c.self.inside.entries.entries c.args.name.now
    ∙ sym c.remove.ensures.value in
    rw gone (elim c.match-remove.branch [
      | in-Some w ↦
          (let held = held_death c.args.self.now c.args.name.now w.in-Some.entry (own ∙ w.in-Some.is) in
          let counted = w.result-is ∙ w.held.ensures in
          omega (arith, held, counted))
      | in-None w ↦
          (let same = ap held_in (remove-none c.args.self.now c.args.name.now (own ∙ w.in-None.is)) in
          let counted = w.result-is in
          omega (arith, same, counted))
    ])

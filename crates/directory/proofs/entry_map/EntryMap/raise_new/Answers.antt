use Rattle.std.proofs.Common.{◌∙◌, [], ◌∷◌, None, refl, ap}
use Rattle.std.specs.FinMap as map
use Rattle.std.specs.Cmp.Lexicographic.{nat_list_cmp_total}
use Rattle.cds_stamps.specs.Octets.{octets_exact}
use Rattle.cds_stamps.specs.Undos.{RaisesAt, TakesBack}
use Rattle.cds_stamps.proofs.Undoing.{logged, raised_new}
use Rattle.directory.specs.Entries.{join_entries}
use Rattle.directory.specs.EntryUndoWords.{undo_entry}
use Rattle.directory.proofs.entry_map.EntryMap.raise_new.Goals as goal

both : (c : goal.After-unwrap) → RaisesAt join_entries c.args.self.now c.insert.new.self c.args.name.now c.args.entry.now
    × TakesBack undo_entry c.args.self.now c.insert.new.self ((c.args.name.now, None) ∷ [])
both c = raised_new nat_list_cmp_total octets_exact join_entries undo_entry c.args.self.now c.insert.new.self c.args.name.now c.args.entry.now c.requires
    (c.in_ok-insert.ensures.ok ∙ ap (λ k. map.insert c.args.self.now k c.in_ok-value.value) c.in_ok-key.ensures
    ∙ ap (map.insert c.args.self.now c.args.name.now) c.in_ok-value.ensures)

pub returns-clause-ok : goal.returns-clause-ok
returns-clause-ok c = λ _ _. (both c).0

pub returns-clause-back : goal.returns-clause-back
returns-clause-back c =
    logged undo_entry c.args.self.now c.insert.new.self c.args.log.now.items c.push.new.self.items (c.args.name.now, None)
    (rw (c.push.ensures.items, c.unwrap.ensures, c.reserve.ensures.items, c.in_ok-logged.ensures) refl) (both c).1

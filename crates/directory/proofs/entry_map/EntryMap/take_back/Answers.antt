use Rattle.std.proofs.Common.{ap, sym, ◌∙◌}
use Rattle.std.specs.FinMap as map
use Rattle.cds_stamps.specs.Octets.{octets_cmp}
use Rattle.cds_stamps.specs.Undos.{back_at}
use Rattle.directory.specs.EntryUndoWords.{undo_entry}
use Rattle.cds_stamps.proofs.Undoing.{back_at-push}
use Rattle.directory.proofs.entry_map.EntryMap.take_back.Goals as goal

pub loop-name-preserved : goal.loop-name-preserved
loop-name-preserved c = λ q.
    ap (back_at octets_cmp undo_entry c.pop.new.self.items q) (c.mend.ensures q)
    ∙ sym (ap (λ log. back_at octets_cmp undo_entry log q
    (map.get c.loop-name.self q)) c.in-Some.ensures.items ∙ back_at-push octets_cmp undo_entry c.pop.new.self.items
    (c.in-Some.name, c.in-Some.undo) q (map.get c.loop-name.self q))
    ∙ c.loop-name.invariant q

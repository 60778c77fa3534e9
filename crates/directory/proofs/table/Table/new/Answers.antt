use Rattle.directory.proofs.IndexLaws.{empty_index}
use Rattle.directory.proofs.table.Table.new.Goals as goal

pub invariant_of-result : goal.invariant_of-result
invariant_of-result c = empty_index c.new-2.result c.new.result c.new.ensures c.new-2.ensures.none c.new-2.ensures.empty

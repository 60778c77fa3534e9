use Rattle.std.proofs.Common.{drop}
use Rattle.std.specs.Rc.{rc_slice_items}
use Rattle.cds_cell.proofs.Bags.{PostsLetters}
use Rattle.cds_cell.proofs.bag.Bag.post.Given as goal

abbrev pub invariant-loop-to : goal.invariant-loop-to
invariant-loop-to l =
    PostsLetters l.fn.self l.self l.fn.serials l.serials (rc_slice_items l.shared) l.fn.letters.receivers.items (drop l.to-index l.fn.letters.receivers.items)

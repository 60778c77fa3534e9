use Rattle.std.proofs.Common.{◌≡◌, ◌++◌, take, length, reverse}
use Rattle.house_journal.specs.Unwindings.{TearFrom, all_torn, torn_in}
use Rattle.house_journal.proofs.restart.torn.Given as goal

abbrev pub invariant-tears : goal.invariant-tears
invariant-tears l = record {
  torn : all_torn l.tears.items (take l.low l.fn.octets ++ l.end.items) ≡ torn_in (reverse l.steps) l.fn.octets;
  tears_from : TearFrom l.low l.tears.items;
}

abbrev pub decreases-tears : goal.decreases-tears
decreases-tears l = length l.tears.items

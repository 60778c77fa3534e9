use Rattle.std.specs.Cmp.Lexicographic.{nat_list_cmp_total}
use Rattle.cds_stamps.specs.Octets.{octets_exact}
use Rattle.directory.proofs.Collected.{collected}
use Rattle.directory.proofs.entry_map.EntryMap.from_pairs.Goals as goal

pub returns : goal.returns
returns c = collected nat_list_cmp_total octets_exact c.args.pairs.items c.in_ok-entries.entries c.in_ok-entries.ensures

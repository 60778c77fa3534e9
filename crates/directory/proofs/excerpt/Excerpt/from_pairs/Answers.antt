use Rattle.std.proofs.Common.{sym, subst}
use Rattle.std.specs.FinMap.{empty, get-empty}
use Rattle.std.specs.Prelude.{IfSome}
use Rattle.cds_stamps.specs.Octets.{octets_cmp}
use Rattle.directory.specs.Entries.{Entries, IsValidEntry, IsValidTable}
use Rattle.directory.proofs.IndexLaws.{folded_valid}
use Rattle.directory.proofs.excerpt.Excerpt.from_pairs.Goals as goal

none : Entries
none = empty

none_valid : IsValidTable empty
none_valid q = subst (λ e. IfSome e IsValidEntry) (sym (get-empty octets_cmp q)) tt

pub invariant_of-result : goal.invariant_of-result
invariant_of-result c = subst IsValidTable (sym c.in_ok-entries.ensures) (folded_valid empty c.args.pairs.items none_valid c.requires)

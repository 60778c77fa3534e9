use Rattle.std.proofs.Common.{◌≡◌, ℕ, Bool, true, false, List, [], ◌∷◌, nat_eq, sym, subst}
use Rattle.std.specs.Prelude.{if◌then◌else◌}
use Rattle.std.specs.Cmp.Lexicographic.{pointwise}
use Rattle.std.specs.List.Sorted.{IsStrictlySortedBy}
use Rattle.std.proofs.lemmas.Result.{IfOk-weaker}
use Rattle.cds_stamps.specs.Octets.{octets_cmp}
use Rattle.server_entries.specs.Exports.{tower_attribute}
use Rattle.ns_groups.specs.Groups.{group}
use Rattle.service_tests.specs.PairReaders.{value_of}
use Rattle.service_tests.proofs.imports.PairEntryReader.values.Goals as goal

one_ascends : (b c : Bool) (v w : List ℕ) → IsStrictlySortedBy octets_cmp (if b then v ∷ [] else (if c then w ∷ [] else []))
unfolding IsStrictlySortedBy
one_ascends true c v w = (tt, tt)
one_ascends false true v w = (tt, tt)
one_ascends false false v w = tt

pub returns-clause-ascending : goal.returns-clause-ascending
returns-clause-ascending c =
    let tower = c.args.self.now.tower in
    let member = c.args.self.now.member in
    let attr = c.args.attr.now in
    IfOk-weaker c.held.result (λ found. found.items ≡ value_of tower member attr) (λ found. IsStrictlySortedBy octets_cmp found.items)
    (λ found is. subst (IsStrictlySortedBy octets_cmp) (sym is)
    (one_ascends (pointwise nat_eq attr tower_attribute) (pointwise nat_eq attr group) tower member))
    c.held.ensures

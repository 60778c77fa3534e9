use Rattle.std.proofs.Common.{◌≡◌, ℕ, List, [], ◌∷◌, subst, sym}
use Rattle.std.specs.List.Sorted.{IsStrictlySortedBy}
use Rattle.std.proofs.lemmas.Result.{IfOk-weaker}
use Rattle.cds_stamps.specs.Octets.{octets_cmp}
use Rattle.service_tests.proofs.clerks.ShelfEntryReader.values.Goals as goal

one_ascends : (v : List ℕ) → IsStrictlySortedBy octets_cmp (v ∷ [])
unfolding IsStrictlySortedBy
one_ascends v = (tt, tt)

pub returns-clause-ascending : goal.returns-clause-ascending
returns-clause-ascending c =
    let value = c.args.self.now.value in
    IfOk-weaker c.held.result (λ found. found.items ≡ value ∷ []) (λ found. IsStrictlySortedBy octets_cmp found.items)
    (λ found is. subst (IsStrictlySortedBy octets_cmp) (sym is) (one_ascends value)) c.held.ensures

-- The order of directories, by their numbers.
use Rattle.std.specs.Prelude.{ℕ}
use Rattle.std.proofs.Common.{ap}
use Rattle.std.specs.declared.cmp.Ordering.{Ordering}
use Rattle.std.specs.Ordering.{nat_cmp}
use Rattle.std.specs.Cmp.{IsTotalOrder, nat_cmp_total}
use Rattle.std.specs.FinMap.{IsAntisymmetric}
use Rattle.std.proofs.lemmas.Cmp.{on_total}
use Rattle.std.proofs.lemmas.Map.Lookups.{exact_unsigned}
use Rattle.cds_stamps.specs.declared.numbers.DirId.{DirId}

-- directories in the order of their numbers
abbrev pub dir_cmp : DirId → DirId → Ordering
dir_cmp a b = nat_cmp a.0 b.0

-- this order is total (proof)
pub dir_total : IsTotalOrder dir_cmp
dir_total = on_total (λ (d : DirId). d.0) nat_cmp_total

-- equal in it are only the same (proof)
pub dir_exact : IsAntisymmetric dir_cmp
dir_exact a b e = ap (λ (n : ℕ). record { 0 = n }) (exact_unsigned a.0 b.0 e)

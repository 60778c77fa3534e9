-- Stamps and their order (own, after C705, timestamps of updates).
use Rattle.std.specs.Prelude.{ℕ, ◌+◌, max, ◌==◌, Bool, not, Option, Some, None, if◌then◌else◌, refl}
use Rattle.std.proofs.Common.{ap, sym}
use Rattle.std.specs.declared.cmp.Ordering.{Ordering}
use Rattle.std.specs.Ordering.{nat_cmp, ordering_then, is_lt, eq_by_cmp, flip_args}
use Rattle.std.specs.Cmp.{IsTotalOrder, nat_cmp_total}
use Rattle.std.specs.Coded.{Coded, code_by, coded×, coded_ℕ}
use Rattle.std.specs.FinMap.{IsAntisymmetric}
use Rattle.std.proofs.lemmas.Cmp.{on_total, then_total, back_total}
use Rattle.std.proofs.lemmas.Map.Lookups.{exact_pairs, exact_unsigned}
use Rattle.cds_stamps.specs.declared.stamp.Stamp.{Stamp}
use Rattle.cds_stamps.specs.Semilattice.{IsSemilattice, greater, greater_semilattice}

-- by time, and then by node (own, after C705 timestamps)
abbrev pub stamp_cmp : Stamp → Stamp → Ordering
stamp_cmp a b = ordering_then (nat_cmp a.time b.time) (nat_cmp a.node b.node)

-- the order of stamps is total
pub stamp_total : IsTotalOrder stamp_cmp
stamp_total = then_total (on_total (λ s. s.time) nat_cmp_total) (on_total (λ s. s.node) nat_cmp_total)

-- stamps that tie are one
pub stamp_exact : IsAntisymmetric stamp_cmp
stamp_exact a b h =
    ap (λ (p : ℕ × ℕ). record { time = p.0; node = p.1 }) (exact_pairs nat_cmp nat_cmp exact_unsigned exact_unsigned (a.time, a.node) (b.time, b.node) h)

-- a is earlier than b (own)
abbrev pub is_earlier : Stamp → Stamp → Bool
is_earlier a b = is_lt (stamp_cmp a b)

-- s is stamped at most t (own)
abbrev pub is_up_to : Stamp → Stamp → Bool
is_up_to t s = not (is_earlier t s)

-- the two stamps are one (own)
abbrev pub is_stamp : Stamp → Stamp → Bool
is_stamp = eq_by_cmp stamp_cmp

-- the later of two stamps (own)
abbrev pub later_stamp : Stamp → Stamp → Stamp
later_stamp = greater stamp_cmp

-- the earlier of two stamps (own)
abbrev pub earlier_stamp : Stamp → Stamp → Stamp
earlier_stamp = greater (flip_args stamp_cmp)

-- later stamps join: neither the order nor repeats count
pub later_stamp_laws : IsSemilattice later_stamp
later_stamp_laws = greater_semilattice stamp_total stamp_exact

-- earlier stamps join likewise
pub earlier_stamp_laws : IsSemilattice earlier_stamp
earlier_stamp_laws = greater_semilattice (back_total stamp_total) (λ a b e. sym (stamp_exact b a e))

-- a stamp as a code of two numbers
abbrev pub stamp_code : Coded Stamp
stamp_code = code_by (ℕ × ℕ) (coded× coded_ℕ coded_ℕ) (λ s. (s.time, s.node)) (λ p. record { time = p.0; node = p.1 }) (λ _. refl)

-- the greatest time of 64 bits (own)
abbrev pub last_time : ℕ
last_time = 18446744073709551615

-- the stamp that a house issues next: later than its floor and not before its clock; none after the
-- last time (own)
abbrev pub next_stamp : ℕ → ℕ → ℕ → Option Stamp
next_stamp clock floor node = if floor == last_time then None else Some (record { time = max clock (floor + 1); node = node })

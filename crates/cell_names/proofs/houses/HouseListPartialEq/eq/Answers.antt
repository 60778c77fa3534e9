use Rattle.std.proofs.Common.{nat_eq}
use Rattle.std.specs.Cmp.Derive.Mapped.{pointwise-map}
use Rattle.cds_stamps.specs.declared.numbers.HouseNo.{HouseNo}
use Rattle.cell_names.proofs.houses.HouseListPartialEq.eq.Goals as goal

pub returns-then-eq : goal.returns-then-eq
returns-then-eq c =
    let mapped = pointwise-map (λ (h : HouseNo). h.0) nat_eq c.self.inside.others.items c.other.inside.others.items in
    let masters = c.if-eq.ensures in
    rw (← c.self.view_is, ← c.other.view_is, ← masters, mapped) (rw (c.as_slice.ensures.value, c.as_slice-then-eq.ensures.value) at c.eq-then-eq.ensures)

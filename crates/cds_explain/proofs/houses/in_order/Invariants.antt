use Rattle.std.proofs.Common.{◌≡◌, ◌<◌, ℕ, Some}
use Rattle.std.specs.Prelude.{slice_get}
use Rattle.cell_model.specs.Sets.{In}
use Rattle.house_logs.specs.declared.log.HouseLog.{HouseLog}
use Rattle.cds_explain.proofs.houses.in_order.Given as goal

abbrev pub invariant-loop-number : goal.invariant-loop-number
invariant-loop-number l = record {
  found : (i : ℕ) (log : HouseLog) → slice_get l.logs i ≡ Some log → log.house.0 < l.number → In i l.places.items;
  fits : (i : ℕ) (log : HouseLog) → slice_get l.logs i ≡ Some log → 0 < l.number → log.house.0 < 256;
}

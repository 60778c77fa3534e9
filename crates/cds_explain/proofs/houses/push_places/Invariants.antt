use Rattle.std.proofs.Common.{◌≡◌, ◌<◌, ℕ, Some}
use Rattle.std.specs.Prelude.{slice_get}
use Rattle.cell_model.specs.Sets.{In}
use Rattle.house_logs.specs.declared.log.HouseLog.{HouseLog}
use Rattle.cds_explain.proofs.houses.push_places.Given as goal

abbrev pub invariant-loop-place : goal.invariant-loop-place
invariant-loop-place l = record {
  kept : (i : ℕ) → In i l.fn.places.items → In i l.places.items;
  found : (i : ℕ) (log : HouseLog) → i < l.place → slice_get l.logs i ≡ Some log → log.house.0 ≡ l.number → In i l.places.items;
  fits : (i : ℕ) (log : HouseLog) → i < l.place → slice_get l.logs i ≡ Some log → log.house.0 < 256;
}

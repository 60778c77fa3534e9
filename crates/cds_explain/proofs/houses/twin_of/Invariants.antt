use Rattle.std.proofs.Common.{◌≡◌, ◌≢◌, ◌<◌, ℕ, Some}
use Rattle.std.specs.Prelude.{slice_get}
use Rattle.house_logs.specs.declared.log.HouseLog.{HouseLog}
use Rattle.cds_explain.proofs.houses.twin_of.Given as goal

abbrev pub invariant-loop-at : goal.invariant-loop-at
invariant-loop-at l = record {
  houses : (i : ℕ) (a : HouseLog) → i < l.at → slice_get l.logs i ≡ Some a → a.house.0 ≢ l.log.house.0;
  nodes : (i : ℕ) (a : HouseLog) → i < l.at → slice_get l.logs i ≡ Some a → a.node ≢ l.log.node;
}

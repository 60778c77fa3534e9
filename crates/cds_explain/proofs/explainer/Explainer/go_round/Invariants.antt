use Rattle.std.proofs.Common.{◌≡◌, ℕ, false, None, take}
use Rattle.std.specs.Prelude.{IfSome}
use Rattle.cell_model.specs.Sets.{In}
use Rattle.cds_explain.specs.PrivateExplainers.{HasExplained, IsAllDone, IsNextAt}
use Rattle.cds_explain.proofs.explainer.Explainer.go_round.Given as goal

abbrev pub invariant-loop-place : goal.invariant-loop-place
invariant-loop-place l = record {
  explained : HasExplained l.self l.logs;
  whole : l.going.stopped ≡ None → (i : ℕ) → In i (take l.place-index l.order) → IsAllDone l.logs l.self.done.items i;
  next : l.going.went ≡ false → IfSome l.going.stopped (IsNextAt l.logs l.self.done.items);
}

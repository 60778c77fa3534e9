use Rattle.std.proofs.Common.{◌≡◌}
use Rattle.std.specs.Prelude.{slice_index}
use Rattle.cds_explain.specs.PrivateExplainers.{HasExplained, SameBut}
use Rattle.cds_explain.proofs.explainer.Explainer.go_on.Given as goal

abbrev pub invariant-loop-at : goal.invariant-loop-at
invariant-loop-at l = record {
  explained : HasExplained l.self l.logs;
  at : slice_index l.self.done.items l.place ≡ l.at;
  others : SameBut l.place l.fn.self.done.items l.self.done.items;
}

use Rattle.cds_explain.specs.PrivateExplainers.{HasExplained}
use Rattle.cds_explain.proofs.explainer.Explainer.go_rounds.Given as goal

abbrev pub invariant-rounds : goal.invariant-rounds
invariant-rounds l = HasExplained l.self l.logs

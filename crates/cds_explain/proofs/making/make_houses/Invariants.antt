use Rattle.std.proofs.Common.{take}
use Rattle.cds_explain.specs.PrivateExplainers.{HasMade}
use Rattle.cds_explain.proofs.making.make_houses.Given as goal

abbrev pub invariant-loop-place : goal.invariant-loop-place
invariant-loop-place l = HasMade l.replay l.logs (take l.place-index l.order)

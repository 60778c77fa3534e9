use Rattle.std.proofs.Common.{◌≡◌, ◌++◌, map, take}
use Rattle.cds_explain.specs.ReasonLines.{visible}
use Rattle.cds_explain.proofs.cause.push_shown.Given as goal

abbrev pub invariant-loop-octet : goal.invariant-loop-octet
invariant-loop-octet l = l.text.items ≡ l.fn.text.items ++ map visible (take l.octet-index l.octets)

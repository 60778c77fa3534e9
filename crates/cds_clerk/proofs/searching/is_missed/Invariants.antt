use Rattle.std.proofs.Common.{◌≡◌, drop}
use Rattle.std.specs.List.{list_any}
use Rattle.cds_clerk.specs.Searches.{same_lack}
use Rattle.cds_clerk.proofs.searching.is_missed.Given as goal

-- none of the questions so far is this one
abbrev pub invariant-loop-other : goal.invariant-loop-other
invariant-loop-other l = list_any (λ q. same_lack q l.lack) l.lacks ≡ list_any (λ q. same_lack q l.lack) (drop l.other-index l.lacks)

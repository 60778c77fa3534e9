use Rattle.std.proofs.Common.{◌≡◌}
use Rattle.std.specs.FinMap.{get, entries}
use Rattle.cds_stamps.specs.Firsts.{first_some}
use Rattle.image_audit.specs.PrivateOpen.{open_entry}
use Rattle.image_audit.proofs.open_facts.first_open.Given as goal

abbrev pub invariant-loop-name : goal.invariant-loop-name
invariant-loop-name l =
    first_some (λ e. open_entry l.t e.0 e.1 (get l.other e.0)) (entries l.own)
    ≡ first_some (λ e. open_entry l.t e.0 e.1 (get l.other e.0)) l.name-iterator

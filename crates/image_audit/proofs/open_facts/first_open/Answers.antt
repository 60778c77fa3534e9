use Rattle.std.proofs.Common.{◌∙◌, sym, ap, arith, rules}
use Rattle.std.specs.FinMap.{get}
use Rattle.std.proofs.lemmas.Grind.{common_steps}
use Rattle.cds_stamps.specs.Firsts.{first_some}
use Rattle.image_audit.specs.PrivateOpen.{open_entry}
use Rattle.image_audit.proofs.OpenFacts.{first_told}
use Rattle.image_audit.proofs.open_facts.first_open.Goals as goal

pub returns-then-is_some : goal.returns-then-is_some
returns-then-is_some c = rw (first_told c.args.t c.args.own.now c.args.other.now) (first_of (search rules, grind (arith, common_steps)))

pub returns : goal.returns
returns c =
    sym (first_told c.args.t c.args.own.now c.args.other.now ∙ c.loop-name.invariant
    ∙ ap (first_some (λ e. open_entry c.args.t e.0 e.1 (get c.args.other.now e.0))) c.in-None.ensures.steps.0)

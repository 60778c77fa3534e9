use Rattle.std.proofs.Common.{◌-◌, ℕ, ap, ◌∙◌, take, drop, arith}
use Rattle.cell_names.specs.FullNames.{name_fault}
use Rattle.ns_profiles.proofs.ElementLaws.{whole_from}
use Rattle.ns_profiles.proofs.element.member_of.Goals as goal

pub slice_bounds-result-end : goal.slice_bounds-result-end
slice_bounds-result-end c = omega arith

pub returns-clause-lawful : goal.returns-clause-lawful
returns-clause-lawful c =
    ap (λ (end : ℕ). name_fault (take (end - 23) (drop 23 c.args.octets.now))) c.name_end.ensures.value ∙ (whole_from c.args.octets.now c.requires).member

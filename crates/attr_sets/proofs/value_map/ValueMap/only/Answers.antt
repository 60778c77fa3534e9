use Rattle.std.proofs.Common.{◌∙◌, sym}
use Rattle.std.specs.Cmp.Lexicographic.{nat_list_cmp_total}
use Rattle.std.proofs.lemmas.Option.{IfSome_then}
use Rattle.cds_stamps.specs.Octets.{octets_exact}
use Rattle.cds_stamps.proofs.Undoing.{only_one, has_only}
use Rattle.attr_sets.proofs.value_map.ValueMap.only.Goals as goal

pub returns-then-len-eq1 : goal.returns-then-len-eq1
returns-then-len-eq1 c = IfSome_then c.first_key_value.result c.first_key_value.ensures.first (λ p first.
    has_only nat_list_cmp_total octets_exact c.args.self.now c.self.inside.marks p.0.now p.1.now c.self.view_is
    (only_one c.self.inside.marks (p.0.now, p.1.now) (sym c.len.ensures.len ∙ c.if-len-eq1.true) first))

use Rattle.std.proofs.Common.{◌≡◌, None, List, ℕ, sym, subst, ◌∙◌}
use Rattle.attr_sets.specs.Values.{value_fault}
use Rattle.server_entries.proofs.ExportLaws.{tower_value_fits}
use Rattle.server_entries.proofs.exports.tower_value.Goals as goal

pub known-requires : goal.known-requires
known-requires c =
    subst (λ (x : List ℕ). value_fault x ≡ None) (sym (c.deref.ensures.value ∙ c.in_ok-octets.ensures.spelled))
    (tower_value_fits c.tower_at-tower.result c.tower_at-tower.ensures.four)

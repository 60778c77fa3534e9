use Rattle.std.proofs.Common.{ap, ◌∙◌}
use Rattle.std.specs.FinMap as map
use Rattle.std.specs.Cmp.Lexicographic.{nat_list_cmp_total}
use Rattle.cds_stamps.specs.Octets.{octets_exact}
use Rattle.attr_sets.specs.Marks.{later}
use Rattle.cds_stamps.specs.Undos.{put_back}
use Rattle.cds_stamps.proofs.Undoing.{raised_new}
use Rattle.attr_sets.proofs.value_map.ValueMap.raise.Goals as goal

pub returns-clause-ok : goal.returns-clause-ok
returns-clause-ok c =
    (raised_new nat_list_cmp_total octets_exact later put_back c.args.self.now c.insert.new.self c.args.value.now c.args.mark c.in_default.ensures.0
    (c.in_ok-insert.ensures.ok ∙ ap (λ k. map.insert c.raise_here.new.self k c.args.mark) c.in_ok-key.ensures
    ∙ ap (λ m. map.insert m c.args.value.now c.args.mark) c.in_default.ensures.1)).0

pub returns-clause-back : goal.returns-clause-back
returns-clause-back c =
    (raised_new nat_list_cmp_total octets_exact later put_back c.args.self.now c.insert.new.self c.args.value.now c.args.mark c.in_default.ensures.0
    (c.in_ok-insert.ensures.ok ∙ ap (λ k. map.insert c.raise_here.new.self k c.args.mark) c.in_ok-key.ensures
    ∙ ap (λ m. map.insert m c.args.value.now c.args.mark) c.in_default.ensures.1)).1

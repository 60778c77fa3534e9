use Rattle.std.proofs.Common.{ap, sym, ◌∙◌}
use Rattle.std.specs.FinMap as map
use Rattle.cds_stamps.specs.Octets.{octets_cmp}
use Rattle.cds_stamps.specs.Undos.{put_back, back_at}
use Rattle.cds_stamps.proofs.Undoing.{back_at-push}
use Rattle.attr_sets.proofs.value_map.ValueMap.take_changes_back.Goals as goal

pub loop-value-preserved : goal.loop-value-preserved
loop-value-preserved c = λ q.
    ap (back_at octets_cmp put_back c.pop.new.self.items q) (c.mend.ensures q)
    ∙ sym (ap (λ log. back_at octets_cmp put_back log q
    (map.get c.loop-value.self q)) c.in-Some.ensures.items ∙ back_at-push octets_cmp put_back c.pop.new.self.items
    (c.in-Some.value, c.in-Some.before) q (map.get c.loop-value.self q))
    ∙ c.loop-value.invariant q

use Rattle.std.proofs.Common.{ap, sym, ◌∙◌}
use Rattle.std.specs.FinMap as map
use Rattle.cds_stamps.specs.Semilattice.{maybe}
use Rattle.attr_sets.specs.Marks.{later, mark_after_clear}
use Rattle.attr_sets.proofs.value_map.ValueMap.join.Goals as goal

pub returns-in-Some-clause-ok : goal.returns-in-Some-clause-ok
returns-in-Some-clause-ok c = λ q.
    c.in_ok-raise_uncovered.ensures.ok q ∙ ap (λ x. maybe later (map.get c.args.self.now q) (mark_after_clear c.args.clear.now x)) (sym (c.in-Some.ensures q))

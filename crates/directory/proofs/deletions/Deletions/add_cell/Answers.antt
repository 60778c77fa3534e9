use Rattle.std.proofs.Common.{ap, sym, subst, ◌∙◌}
use Rattle.cds_stamps.specs.Octets.{octets_exact}
use Rattle.directory.specs.declared.deletions.What.TheVariants.{Clear}
use Rattle.directory.specs.declared.deletions.Deletions.{Deletions}
use Rattle.directory.specs.IndexWords.{AddsAt, KnowsAt, KnowsMark}
use Rattle.directory.proofs.DeletionSets.{adds_none, adds_both, known_at, none_at, all_to_come, one_met, more_at, more_of_mark}
use Rattle.directory.proofs.deletions.Deletions.add_cell.Goals as goal
use Rattle.directory.proofs.deletions.Deletions.add_cell.Goals.{in-Some+in_ok-copy+in_ok-add_what, in_default}

pub loop-value-init : goal.loop-value-init
loop-value-init c = (
  elim c.match-cell.branch [
    | in-Some+in_ok-copy+in_ok-add_what w ↦ subst (λ x. AddsAt c.args.name.now c.args.self.now x) (sym w.self-is) w.add_what.ensures.adds
    | in_default w ↦ subst (λ x. AddsAt c.args.name.now c.args.self.now x) (sym w.self-is) (adds_none c.args.name.now c.args.self.now)
  ],
  elim c.match-cell.branch [
    | in-Some+in_ok-copy+in_ok-add_what w ↦
        subst (λ x. KnowsAt x c.args.name.now (Clear c.args.attr.now) c.args.cell.now.cleared) (sym w.self-is)
        (known_at w.add_what.new.self c.args.name.now _ (Clear c.args.attr.now) c.args.cell.now.cleared w.in-Some.clear w.in-Some.is
        (ap Clear w.in_ok-copy.ensures) w.in_ok-add_what.ensures.ok)
    | in_default w ↦ none_at c.match-cell.self c.args.name.now (Clear c.args.attr.now) c.args.cell.now.cleared w.in_default.is
  ],
  all_to_come c.args.cell.now.values (KnowsMark c.match-cell.self c.args.name.now c.args.attr.now) c.into_iter-value-iterator.result
      (c.into_iter-value-iterator.ensures.into_iter_gives ∙ c.iter-value-items.ensures),
  elim c.match-cell.branch [
    | in-Some+in_ok-copy+in_ok-add_what w ↦ ap (λ (x : Deletions). x.most) w.self-is ∙ w.add_what.ensures.room
    | in_default w ↦ ap (λ (x : Deletions). x.most) w.self-is
  ],
)

pub loop-value-preserved : goal.loop-value-preserved
loop-value-preserved c = (
  adds_both c.args.name.now c.args.self.now c.loop-value.self c.add_value.new.self c.loop-value.invariant.0 c.add_value.ensures.adds,
  more_at c.loop-value.self c.add_value.new.self c.add_value.ensures.adds.0 c.args.name.now (Clear c.args.attr.now) c.args.cell.now.cleared
      c.loop-value.invariant.1,
  one_met octets_exact c.args.cell.now.values (KnowsMark c.loop-value.self c.args.name.now c.args.attr.now)
      (KnowsMark c.add_value.new.self c.args.name.now c.args.attr.now) c.in-Some-2.value.now c.in-Some-2.mark.now c.loop-value.value-iterator c.next.new.self
      c.in-Some-2.ensures.steps (more_of_mark c.loop-value.self c.add_value.new.self c.add_value.ensures.adds.0 c.args.name.now c.args.attr.now)
      c.in_ok-add_value.ensures.ok c.loop-value.invariant.2,
  c.add_value.ensures.room ∙ c.loop-value.invariant.3,
)

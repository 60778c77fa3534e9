use Rattle.std.proofs.Common.{refl, sym, ap, subst, ◌∙◌}
use Rattle.cds_stamps.specs.Octets.{octets_exact}
use Rattle.directory.specs.declared.deletions.What.TheVariants.{Death}
use Rattle.directory.specs.declared.deletions.Deletions.{Deletions}
use Rattle.directory.specs.IndexWords.{AddsAt, KnowsAt, KnowsCell}
use Rattle.directory.proofs.DeletionSets.{adds_none, adds_both, known_at, none_at, all_to_come, one_met, more_at, more_of_cell}
use Rattle.directory.proofs.deletions.Deletions.add_entry.Goals as goal
use Rattle.directory.proofs.deletions.Deletions.add_entry.Goals.{in-Some+in_ok-add_what, in_default}

pub loop-attr-init : goal.loop-attr-init
loop-attr-init c = (
  elim c.match-entry.branch [
    | in-Some+in_ok-add_what w ↦ subst (λ x. AddsAt c.args.name.now c.args.self.now x) (sym w.self-is) w.add_what.ensures.adds
    | in_default w ↦ subst (λ x. AddsAt c.args.name.now c.args.self.now x) (sym w.self-is) (adds_none c.args.name.now c.args.self.now)
  ],
  elim c.match-entry.branch [
    | in-Some+in_ok-add_what w ↦
        subst (λ x. KnowsAt x c.args.name.now Death c.args.entry.now.death) (sym w.self-is)
        (known_at w.add_what.new.self c.args.name.now Death Death c.args.entry.now.death w.in-Some.death w.in-Some.is refl w.in_ok-add_what.ensures.ok)
    | in_default w ↦ none_at c.match-entry.self c.args.name.now Death c.args.entry.now.death w.in_default.is
  ],
  all_to_come c.args.entry.now.attrs (KnowsCell c.match-entry.self c.args.name.now) c.into_iter-attr-iterator.result
      (c.into_iter-attr-iterator.ensures.into_iter_gives ∙ c.iter-attr-items.ensures),
  elim c.match-entry.branch [
    | in-Some+in_ok-add_what w ↦ ap (λ (x : Deletions). x.most) w.self-is ∙ w.add_what.ensures.room
    | in_default w ↦ ap (λ (x : Deletions). x.most) w.self-is
  ],
)

pub loop-attr-preserved : goal.loop-attr-preserved
loop-attr-preserved c = (
  adds_both c.args.name.now c.args.self.now c.loop-attr.self c.add_cell.new.self c.loop-attr.invariant.0 c.add_cell.ensures.adds,
  more_at c.loop-attr.self c.add_cell.new.self c.add_cell.ensures.adds.0 c.args.name.now Death c.args.entry.now.death c.loop-attr.invariant.1,
  one_met octets_exact c.args.entry.now.attrs (KnowsCell c.loop-attr.self c.args.name.now) (KnowsCell c.add_cell.new.self c.args.name.now)
      c.in-Some-2.attr.now c.in-Some-2.cell.now c.loop-attr.attr-iterator c.next.new.self c.in-Some-2.ensures.steps
      (more_of_cell c.loop-attr.self c.add_cell.new.self c.add_cell.ensures.adds.0 c.args.name.now) c.in_ok-add_cell.ensures.ok c.loop-attr.invariant.2,
  c.add_cell.ensures.room ∙ c.loop-attr.invariant.3,
)

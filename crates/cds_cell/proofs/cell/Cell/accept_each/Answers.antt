use Rattle.std.proofs.Common.{arith, refl, ◌∙◌, ap, drop, length, ◌+◌}
use Rattle.std.proofs.Math.ListN.{length-set}
use Rattle.directory.specs.EntryChanges.{changes}
use Rattle.directory.specs.Updates.{change_of}
use Rattle.cell_model.specs.Cells as model
use Rattle.cds_cell.proofs.ManyUpdates.{next_midway, one_done, one_refused}
use Rattle.cds_cell.proofs.cell.Cell.accept_each.Goals as goal

pub returns-in-Err-clause-all : goal.returns-in-Err-clause-all
returns-in-Err-clause-all c g x s place up =
    let n = c.loop-count.count in
    let us = c.args.updates.now in
    let u = c.index-updates-count.result in
    let m = next_midway c.loop-count.self g x c.args.at c.args.dir.0 n c.loop-count.posted (changes us) us u c.loop-count-test.true c.index-updates-count.is
    (c.loop-count.invariant.midway g x s place up) in
    one_refused c.loop-count.self c.accept_at.new.self g x c.args.at c.args.dir.0 n c.loop-count.posted c.accept_at.new.serials (changes us) (change_of u)
    (changes (drop (n + 1) us)) c.in_ok-refusal.field-0 m (c.in_ok-refusal.ensures.acts (m.cell.house x)) c.in-Err.refusal _ c.in-Err.is refl refl refl

pub loop-count-preserved : goal.loop-count-preserved
loop-count-preserved c =
    let n = c.loop-count.count in
    let us = c.args.updates.now in
    let u = c.index-updates-count.result in
    let old = c.loop-count.invariant in
    let some = c.in_ok-refusal.ensures.acts model.no_house in
    record {
      places = ap (λ hs. length hs) some.changes.houses ∙ length-set c.loop-count.self.houses.items c.args.at some.is ∙ old.places;
      kept = record {
        directories = c.in_ok-refusal.ensures.rest.directories ∙ old.kept.directories;
        spent = c.in_ok-refusal.ensures.rest.spent ∙ old.kept.spent;
      };
      few = omega (arith, old.few, c.in_ok-refusal.ensures.few);
      first = λ zero. absurd (omega (arith, zero));
      midway = λ g x s place up.
          let m = next_midway c.loop-count.self g x c.args.at c.args.dir.0 n c.loop-count.posted (changes us) us u c.loop-count-test.true
          c.index-updates-count.is (old.midway g x s place up) in
          one_done c.loop-count.self c.accept_at.new.self g x c.args.at c.args.dir.0 n c.loop-count.posted c.accept_at.new.serials (changes us) (change_of u)
          (changes (drop (n + 1) us)) c.in_ok-refusal.field-0 m (c.in_ok-refusal.ensures.acts (m.cell.house x)) c.in_default.field-0 c.in_default.is;
    }

use Rattle.std.proofs.Common.{◌≡◌, suc, ◌+◌, ◌-◌, Ok, Err, refl, sym, ◌∙◌, arith}
use Rattle.std.proofs.lemmas.Result.{err_from_is_err_and}
use Rattle.tower_codec.specs.TowerReading.{after_floors}
use Rattle.tower_codec.specs.FloorView.{floor_of}
use Rattle.tower_codec.proofs.TowersRead.{floor_at_shorter}
use Rattle.tower_codec.proofs.view.skip_floors.Goals as goal

pub returns-in_err-after-clause-rest : goal.returns-in_err-after-clause-rest
unfolding after_floors
returns-in_err-after-clause-rest c =
    let p = err_from_is_err_and c.from_residual.result c.from_residual.ensures.1 in
    let k : c.args.count - c.loop.counter ≡ suc (c.args.count - (c.loop.counter + 1)) = omega arith in
    let fails : after_floors c.args.past (c.args.count - c.loop.counter) c.loop.rest.now ≡ Err c.in_err-after.field-0.0 = rw (k, c.in_err-after.ensures) refl in
    rw (p.1, p.2) (sym c.loop.invariant.same ∙ fails)

pub loop-preserved : goal.loop-preserved
unfolding after_floors
loop-preserved c =
    let k : c.args.count - c.loop.counter ≡ suc (c.args.count - (c.loop.counter + 1)) = omega arith in
    let later : after_floors c.args.past (c.args.count - c.loop.counter) c.loop.rest.now ≡ after_floors c.args.past
    (c.args.count - (c.loop.counter + 1)) c.in_ok-after.after.now = rw (k, c.in_ok-after.ensures) refl in
    record {
      shorter = omega (arith, floor_at_shorter c.args.past c.loop.rest.now (floor_of c.in_ok-after.field-0-0) c.in_ok-after.after.now c.in_ok-after.ensures);
      same = sym later ∙ c.loop.invariant.same;
    }

pub returns-clause-rest : goal.returns-clause-rest
unfolding after_floors
returns-clause-rest c =
    let k : c.args.count - c.loop.counter ≡ 0 = omega arith in
    let done : after_floors c.args.past (c.args.count - c.loop.counter) c.loop.rest.now ≡ Ok c.loop.rest.now = rw k refl in
    sym c.loop.invariant.same ∙ done

use Rattle.std.proofs.Common.{refl}
use Rattle.cds_stamps.specs.Undos.{put_back}
use Rattle.cds_stamps.proofs.Undoing.{logged}
use Rattle.attr_sets.proofs.CellUndoing.{raised_none}
use Rattle.attr_sets.proofs.value_map.ValueMap.raise_logged.Goals as goal

pub returns-then-outdates-clause-ok : goal.returns-then-outdates-clause-ok
returns-then-outdates-clause-ok c = raised_none c.args.self.now c.args.value.now c.args.mark (c.outdates.ensures c.if-outdates.true)

pub returns-clause-back : goal.returns-clause-back
returns-clause-back c =
    logged put_back c.args.self.now c.raise.new.self c.args.log.now.items c.push.new.self.items (c.args.value.now, c.in_ok-before.before)
    (rw (c.push.ensures.items, c.unwrap.ensures, c.reserve.ensures.items, c.in_ok-key.ensures) refl) c.in_ok-before.ensures.back

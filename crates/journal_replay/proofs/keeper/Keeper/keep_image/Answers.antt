use Rattle.std.proofs.Common.{◌<◌, length, arith}
use Rattle.std.specs.Prelude.{slice_set}
use Rattle.journal_replay.proofs.OneHouse.{get_is, house_lacks, house_puts, set_here, set_other}
use Rattle.journal_replay.proofs.StopHouse.{kept_then}
use Rattle.journal_replay.proofs.Usable.{set_usable}
use Rattle.journal_replay.proofs.keeper.Keeper.keep_image.Goals as goal

pub returns-clause-stay : goal.returns-clause-stay
returns-clause-stay c = (
  kept_then c.keep-put.result c.args.self.now.houses.items c.args.self.now.disks.items c.args.at c.keep-put.new.house c.keep-put.new.disk
      c.requires.kept c.requires.place c.keep-put.ensures.kept,
  λ usable. set_usable c.args.self.now.disks.items c.args.at c.keep-put.new.disk c.requires.place c.keep-put.ensures.never usable,
)

pub returns-clause-puts : goal.returns-clause-puts
returns-clause-puts c g lists is made hold =
    let old = c.args.self.now.disks.items in
    let at = c.args.at in
    let within : at < length old = omega (arith, c.requires.place, c.requires.kept.all_disks) in
    let before = c.index_mut-2.result.now in
    let after = c.keep-put.new.disk in
    house_puts g c.args.house.0 at c.requires.house c.args.image.items is made old _ before after
    (get_is old at before within c.index_mut-2.ensures.value) (set_here old at after within) (λ i other. set_other old at after i other) lists hold
    c.keep-put.result c.keep-put.new.house c.keep-put.ensures.kept c.keep-put.ensures.images c.keep-put.ensures.crash c.keep-put.ensures.room
    c.keep-put.ensures.full

pub returns-clause-lacking : goal.returns-clause-lacking
returns-clause-lacking c g lists is made hold lacks =
    let old = c.args.self.now.disks.items in
    let at = c.args.at in
    let within : at < length old = omega (arith, c.requires.place, c.requires.kept.all_disks) in
    let before = c.index_mut-2.result.now in
    let after = c.keep-put.new.disk in
    house_lacks g c.args.house.0 at c.requires.house c.args.image.items is made old (slice_set old at after) before after
    (get_is old at before within c.index_mut-2.ensures.value) (set_here old at after within) (λ i other. set_other old at after i other) lists hold
    c.keep-put.result c.keep-put.new.house c.keep-put.ensures.kept c.keep-put.ensures.images c.keep-put.ensures.crash c.keep-put.ensures.room
    c.keep-put.ensures.full c.keep-put.ensures.lacking lacks

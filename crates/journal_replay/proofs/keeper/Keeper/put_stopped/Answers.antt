use Rattle.std.proofs.Common.{◌<◌, Some, length, ◌∙◌, ap, arith}
use Rattle.std.specs.Prelude.{slice_set}
use Rattle.disk_journals.specs.KeptJournals.{stops_after}
use Rattle.journal_replay.proofs.OneHouse.{get_is, set_here, set_other}
use Rattle.journal_replay.proofs.StopHouse.{house_stops, kept_then, none_kept, stop_lacks}
use Rattle.journal_replay.proofs.Usable.{set_usable}
use Rattle.journal_replay.proofs.DiskUses.{stopped_use}
use Rattle.journal_replay.proofs.Reopening.{open_there}
use Rattle.journal_replay.proofs.keeper.Keeper.put_stopped.Goals as goal

pub returns-in-Some-index_mut-clause-puts : goal.returns-in-Some-index_mut-clause-puts
returns-in-Some-index_mut-clause-puts c lists hold other some =
    let old = c.args.self.now.disks.items in
    let at = c.in-Some.at in
    let place = c.in-Some.ensures.some in
    let within : at < length old = omega (arith, place.1, c.requires.kept.all_disks) in
    let before = c.index_mut-in-Some-index_mut.result.now in
    let after = c.stop_kept-stopped.new.disk in
    let kept = c.stop_kept-stopped.ensures in
    house_stops c.args.house.0 at place.0 c.args.image.items old _ before after
    (get_is old at before within c.index_mut-in-Some-index_mut.ensures.value) (set_here old at after within) (λ i other. set_other old at after i other) lists hold
    kept.crash (stops_after c.args.call c.args.leave) c.stop_kept-stopped.new.kept c.stop_kept-stopped.result other kept.kept kept.word kept.images kept.room kept.full

pub returns-in-Some-index_mut-clause-stay : goal.returns-in-Some-index_mut-clause-stay
returns-in-Some-index_mut-clause-stay c = (
  kept_then c.stop_kept-stopped.result c.args.self.now.houses.items c.args.self.now.disks.items c.in-Some.at (Some c.stop_kept-stopped.new.kept) c.stop_kept-stopped.new.disk
      c.requires.kept c.in-Some.ensures.some.1 c.stop_kept-stopped.ensures.kept,
  λ usable. set_usable c.args.self.now.disks.items c.in-Some.at c.stop_kept-stopped.new.disk c.in-Some.ensures.some.1 c.stop_kept-stopped.ensures.never usable,
)

pub returns-in-Some-index_mut-clause-lacking : goal.returns-in-Some-index_mut-clause-lacking
returns-in-Some-index_mut-clause-lacking c lists hold other some none =
    let old = c.args.self.now.disks.items in
    let at = c.in-Some.at in
    let place = c.in-Some.ensures.some in
    let within : at < length old = omega (arith, place.1, c.requires.kept.all_disks) in
    let before = c.index_mut-in-Some-index_mut.result.now in
    let after = c.stop_kept-stopped.new.disk in
    stop_lacks c.args.house.0 at place.0 c.args.image.items old (slice_set old at after) before after
    (get_is old at before within c.index_mut-in-Some-index_mut.ensures.value) (set_here old at after within) (λ i other. set_other old at after i other) lists hold
    c.stop_kept-stopped.ensures.crash c.stop_kept-stopped.result c.stop_kept-stopped.ensures.lacking none

pub returns-in-None-clause-lacking : goal.returns-in-None-clause-lacking
returns-in-None-clause-lacking c lists hold other some none =
    let houses = c.args.self.now.houses.items in
    let at = c.in-Some.at in
    let place = c.in-Some.ensures.some in
    let within : at < length houses = omega (arith, place.1, c.requires.kept.all_houses) in
    absurd (some (ap lists place.0 ∙ none_kept houses c.args.self.now.disks.items at lists c.requires.kept place.1
    (get_is houses at c.index_mut.result.now within c.index_mut.ensures.value ∙ ap Some c.in-None.is) hold))

pub returns-in-None-clause-puts : goal.returns-in-None-clause-puts
returns-in-None-clause-puts c lists hold other some =
    let houses = c.args.self.now.houses.items in
    let at = c.in-Some.at in
    let place = c.in-Some.ensures.some in
    let within : at < length houses = omega (arith, place.1, c.requires.kept.all_houses) in
    absurd (some (ap lists place.0 ∙ none_kept houses c.args.self.now.disks.items at lists c.requires.kept place.1
    (get_is houses at c.index_mut.result.now within c.index_mut.ensures.value ∙ ap Some c.in-None.is) hold))

-- ---- the calls of the disk

pub returns-in-Some-index_mut-clause-calls : goal.returns-in-Some-index_mut-clause-calls
returns-in-Some-index_mut-clause-calls c lists hold some =
    let place = c.in-Some.ensures.some in
    let was =
    open_there c.args.self.now.houses.items c.args.self.now.disks.items c.in-Some.at c.index_mut.result.now c.in-Some-index_mut.kept
    c.index_mut-in-Some-index_mut.result.now c.requires.kept place.1 c.index_mut.ensures.value c.in-Some-index_mut.is
    c.index_mut-in-Some-index_mut.ensures.value in
    stopped_use c.stop_kept-stopped.result c.args.image.items c.args.call c.args.leave c.args.house.0 c.in-Some.at c.args.self.now.disks.items
    c.in-Some-index_mut.kept c.index_mut-in-Some-index_mut.result.now c.stop_kept-stopped.new.disk place.0 c.requires.kept.all_disks place.1
    c.index_mut-in-Some-index_mut.ensures.value was c.stop_kept-stopped.ensures.stops

pub returns-in-None-clause-calls : goal.returns-in-None-clause-calls
returns-in-None-clause-calls c lists hold some =
    let houses = c.args.self.now.houses.items in
    let at = c.in-Some.at in
    let place = c.in-Some.ensures.some in
    let within : at < length houses = omega (arith, place.1, c.requires.kept.all_houses) in
    absurd (some (ap lists place.0 ∙ none_kept houses c.args.self.now.disks.items at lists c.requires.kept place.1
    (get_is houses at c.index_mut.result.now within c.index_mut.ensures.value ∙ ap Some c.in-None.is) hold))

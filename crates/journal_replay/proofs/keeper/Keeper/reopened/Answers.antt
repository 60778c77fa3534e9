use Rattle.std.proofs.Common.{Some, None, arith, ap, refl, sym, ◌∙◌}
use Rattle.std.specs.List.{last_or}
use Rattle.disk_journals.specs.KeptJournals.{IsKept}
use Rattle.journal_replay.proofs.Reopening.{given, new_there, none_there, open_can, open_there, opened_hold, opened_kept}
use Rattle.journal_replay.proofs.FullTold.{off_ok, tells_opened}
use Rattle.journal_replay.proofs.DiskUses.{used_there}
use Rattle.journal_replay.proofs.Usable.{set_usable}
use Rattle.journal_replay.proofs.keeper.Keeper.reopened.Goals as goal

pub returns-in_default-clause-given : goal.returns-in_default-clause-given
returns-in_default-clause-given c s stands = λ first. absurd (omega (arith, first, c.in_default.ensures.none))

-- the journal is open
abbrev opened : (c : goal.After-index_mut-in-Some-index_mut) → IsKept (Some c.in-Some-index_mut.kept) c.index_mut-in-Some-index_mut.result.now
opened c =
    open_there c.args.self.now.houses.items c.args.self.now.disks.items c.in-Some.at c.index_mut.result.now c.in-Some-index_mut.kept
    c.index_mut-in-Some-index_mut.result.now c.requires.kept c.in-Some.ensures.some.1 c.index_mut.ensures.value c.in-Some-index_mut.is
    c.index_mut-in-Some-index_mut.ensures.value

pub open-requires-clause-size : goal.open-requires-clause-size
open-requires-clause-size c = (opened c).0.small

pub open-requires-clause-opens : goal.open-requires-clause-opens
open-requires-clause-opens c = open_can c.in-Some-index_mut.kept.journal c.index_mut-in-Some-index_mut.result.now (opened c).0

pub open-requires-clause-never : goal.open-requires-clause-never
open-requires-clause-never c = (opened c).0.never

pub returns-in_err-journal-in-Some-index_mut-clause-disks : goal.returns-in_err-journal-in-Some-index_mut-clause-disks
returns-in_err-journal-in-Some-index_mut-clause-disks c lists hold =
    opened_hold c.args.self.now.disks.items c.in-Some.at c.index_mut-in-Some-index_mut.result.now c.open.new.disk c.requires.kept.all_disks
    c.in-Some.ensures.some.1 c.index_mut-in-Some-index_mut.ensures.value c.in_err-journal-in-Some-index_mut.ensures.crash lists hold

pub returns-in_ok-journal-in-Some-index_mut-clause-disks : goal.returns-in_ok-journal-in-Some-index_mut-clause-disks
returns-in_ok-journal-in-Some-index_mut-clause-disks c lists hold =
    opened_hold c.args.self.now.disks.items c.in-Some.at c.index_mut-in-Some-index_mut.result.now c.open.new.disk c.requires.kept.all_disks
    c.in-Some.ensures.some.1 c.index_mut-in-Some-index_mut.ensures.value c.in_ok-journal-in-Some-index_mut.ensures.crash lists hold

pub returns-in_ok-journal-in-Some-index_mut-clause-given : goal.returns-in_ok-journal-in-Some-index_mut-clause-given
returns-in_ok-journal-in-Some-index_mut-clause-given c s stands =
    let place = c.in-Some.ensures.some in
    given s c.args.house.0 c.in-Some.at c.args.self.now.disks.items c.index_mut-in-Some-index_mut.result.now _ place.0 c.requires.kept.all_disks place.1
    c.index_mut-in-Some-index_mut.ensures.value stands.disks stands.gives c.in_ok-journal-in-Some-index_mut.ensures.last

pub returns-in-None-clause-given : goal.returns-in-None-clause-given
returns-in-None-clause-given c s stands =
    let place = c.in-Some.ensures.some in
    let new =
    new_there c.args.self.now.houses.items c.args.self.now.disks.items c.in-Some.at c.index_mut.result.now c.requires.kept place.1
    c.index_mut.ensures.value c.in-None.is in
    given s c.args.house.0 c.in-Some.at c.args.self.now.disks.items new.0 None place.0 c.requires.kept.all_disks place.1 new.1 stands.disks stands.gives
    (none_there new.0 new.2)

-- ---- the calls of the disk

pub returns-in_default-clause-calls : goal.returns-in_default-clause-calls
returns-in_default-clause-calls c s stands made at house = absurd (omega (arith, house, c.in_default.ensures.none))

pub returns-in_ok-journal-in-Some-index_mut-clause-calls : goal.returns-in_ok-journal-in-Some-index_mut-clause-calls
returns-in_ok-journal-in-Some-index_mut-clause-calls c s stands made =
    let place = c.in-Some.ensures.some in
    used_there _ c.args.house.0 c.in-Some.at c.args.self.now.disks.items c.index_mut-in-Some-index_mut.result.now c.open.new.disk place.0
    c.requires.kept.all_disks place.1 c.index_mut-in-Some-index_mut.ensures.value c.in_ok-journal-in-Some-index_mut.ensures.told

pub returns-in-None-clause-calls : goal.returns-in-None-clause-calls
returns-in-None-clause-calls c s stands made at house =
    let place = c.in-Some.ensures.some in
    let new =
    new_there c.args.self.now.houses.items c.args.self.now.disks.items c.in-Some.at c.index_mut.result.now c.requires.kept place.1
    c.index_mut.ensures.value c.in-None.is in
    let none =
    given s c.args.house.0 c.in-Some.at c.args.self.now.disks.items new.0 None place.0 c.requires.kept.all_disks place.1 new.1 stands.disks stands.gives
    (none_there new.0 new.2) in
    absurd (let unmade = sym made ∙ none (omega (arith, house)) in cc)

-- ---- the disks

pub returns-in_err-journal-in-Some-index_mut-clause-stay : goal.returns-in_err-journal-in-Some-index_mut-clause-stay
returns-in_err-journal-in-Some-index_mut-clause-stay c = (
  off_ok c.from_residual.result c.in_err-journal-in-Some-index_mut.field-0.0 _ c.from_residual.ensures.1,
  λ usable.
      set_usable c.args.self.now.disks.items c.in-Some.at c.open.new.disk c.in-Some.ensures.some.1 c.in_err-journal-in-Some-index_mut.ensures.never usable,
)

pub returns-in_ok-journal-in-Some-index_mut-clause-stay : goal.returns-in_ok-journal-in-Some-index_mut-clause-stay
returns-in_ok-journal-in-Some-index_mut-clause-stay c =
    let was =
    open_there c.args.self.now.houses.items c.args.self.now.disks.items c.in-Some.at c.index_mut.result.now c.in-Some-index_mut.kept
    c.index_mut-in-Some-index_mut.result.now c.requires.kept c.in-Some.ensures.some.1 c.index_mut.ensures.value c.in-Some-index_mut.is
    c.index_mut-in-Some-index_mut.ensures.value in (
      opened_kept c.args.self.now.houses.items c.args.self.now.disks.items c.in-Some.at
          (Some (record { journal = c.in_ok-journal-in-Some-index_mut.journal; image = c.in-Some-index_mut.kept.image })) c.open.new.disk c.requires.kept
          c.in-Some.ensures.some.1
          (c.in_ok-journal-in-Some-index_mut.ensures.open, ap (last_or None) c.in_ok-journal-in-Some-index_mut.ensures.images ∙ was.1),
      λ usable.
          set_usable c.args.self.now.disks.items c.in-Some.at c.open.new.disk c.in-Some.ensures.some.1 c.in_ok-journal-in-Some-index_mut.ensures.never usable,
    )

pub returns-in_err-journal-in-Some-index_mut-clause-full : goal.returns-in_err-journal-in-Some-index_mut-clause-full
returns-in_err-journal-in-Some-index_mut-clause-full c =
    tells_opened _ c.from_residual.result c.in_err-journal-in-Some-index_mut.field-0.0 _ _ c.from_residual.ensures.1
    c.in_err-journal-in-Some-index_mut.ensures.memory refl

use Rattle.std.proofs.Common.{refl, sym, subst}
use Rattle.journal_replay.specs.CellDisks.{AreNew}
use Rattle.journal_replay.proofs.Reopening.{new_kept, new_stand}
use Rattle.journal_replay.proofs.Usable.{new_usable}
use Rattle.journal_replay.proofs.keeper.Keeper.new.Goals as goal

pub returns-clause-kept : goal.returns-clause-kept
returns-clause-kept c =
    new_kept 255 c.in_ok-houses.houses.items c.replace.result.items refl c.in_ok-houses.ensures
    (subst (λ v. AreNew v.items) (sym c.replace.ensures.value) c.requires)

pub returns-clause-stands : goal.returns-clause-stands
returns-clause-stands c =
    new_stand _ c.new.ensures.cell (subst (λ v. AreNew v.items) (sym c.replace.ensures.value) c.requires)

pub returns-clause-usable : goal.returns-clause-usable
returns-clause-usable c = new_usable _ (subst (λ v. AreNew v.items) (sym c.replace.ensures.value) c.requires)

-- Words of private contracts: where an iterator over the script of `load` is.
use Rattle.std.specs.Prelude.{◌≡◌, ℕ, zero, suc, ◌+◌, ◌-◌, List, [], ◌∷◌, ◌++◌, map, Option, Some, None}
use Rattle.std.specs.List.{range_with_len}
use Rattle.cell_script.specs.declared.command.Command.{Command}
use Rattle.cell_script.specs.declared.command.Command.TheVariants as command
use Rattle.cell_script.specs.declared.work.Work.{Work}
use Rattle.cell_script.specs.declared.work.Work.TheVariants as part
use Rattle.cell_script.specs.declared.fates.Fates.{Fates}
use Rattle.cell_script.specs.declared.place.Place.{Place}
use Rattle.cell_script.specs.Generated.{Part, entry, entry_deleted, entry_made, house_made, laid_out, root_made, rounds_behind, skulk_if, skulk_made}
use Rattle.cell_script.specs.Generated.{value_added, value_removed}

-- the commands that are still to come of a part, before its messages are delivered and lost
abbrev pub commands_of : Work → List Command
commands_of (part.Houses h) = map house_made (range_with_len h (4 - h)) ++ root_made ∷ []
commands_of (part.Create k) = entry_made k ∷ []
commands_of (part.Add k v) = value_added k v ∷ []
commands_of (part.Remove k v) = value_removed k v ∷ []
commands_of (part.Renew k) = entry_deleted k ∷ entry_made k ∷ []
commands_of part.Skulk = skulk_made ∷ []
commands_of part.Nothing = []

-- so many numbers from a on, by steps of d
abbrev pub numbers_by_steps : (a d count : ℕ) → List ℕ
numbers_by_steps a d zero = []
numbers_by_steps a d (suc count) = a ∷ numbers_by_steps (a + d) d count

-- messages that are still to be delivered, and then those that are still to be lost
abbrev pub fates_of : Fates → List Command
fates_of f = map command.Deliver (numbers_by_steps f.deliver f.step f.deliveries) ++ map command.Lose (range_with_len f.lose f.losses)

-- the parts that are still to come: entries, a skulk if one is due, and rounds
abbrev pub parts_left : Place → List Part
parts_left p =
    map entry (range_with_len p.entries (16 - p.entries)) ++ (skulk_if p.skulk_is_due ++ rounds_behind p.rounds p.round p.draw (p.rounds - p.round))

-- what is after the part that was begun
abbrev pub behind : Place → List Command
behind p = laid_out p.serial (parts_left p)

-- all commands that are still to come
abbrev pub left_at : Place → List Command
left_at p = commands_of p.work ++ (fates_of p.fates ++ behind p)

-- the part that was begun is over
pub record IsOver (p : Place) : Type 0 where
  pub work : commands_of p.work ≡ []
  pub fates : fates_of p.fates ≡ []

-- the part that was begun has a command left, or none is after it either
abbrev pub IsBegun : Place → Type 0
IsBegun p = IsOver p → behind p ≡ []

-- the first command of a list was taken off, and none exactly where there is none
abbrev pub IsFirst : (old new : List Command) → Option Command → Type 0
IsFirst [] new first = (first ≡ None) × (new ≡ [])
IsFirst (c ∷ cs) new first = (first ≡ Some c) × (new ≡ cs)

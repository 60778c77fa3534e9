-- What becomes of the directories of a house where what is held of one of them was changed.
use Rattle.std.specs.Prelude.{Option}
use Rattle.std.specs.Borrow.{LendsIf, Fml, MutBor}
use Rattle.std.specs.FinMap.{FinMap, insert}
use Rattle.cds_stamps.specs.declared.numbers.DirId.{DirId}
use Rattle.cds_messages.specs.Dirs.{dir_cmp}
use Rattle.house_directory.specs.declared.states.Held.{Held}
use Rattle.house_directory.specs.declared.states.DirState.{DirState}
use Rattle.house_directory.specs.declared.states.DirState.TheVariants as state
use Rattle.house_directory.specs.contracts.states.Held.{the_row as held_row}
use Rattle.house_directory.specs.contracts.states.DirState.{the_row as state_row}
use Rattle.house_directory.specs.contracts.states.DirStates.{the_row as states_row}

-- what a house has of a directory ends as the last that was held after the result
abbrev pub LendsHeld : MutBor DirState → Option (MutBor Held) → Fml
LendsHeld s r = LendsIf state_row held_row s r state.Held s.now

-- its directories end with that at this one
abbrev pub LendsHeldIn : MutBor (FinMap dir_cmp DirState) → DirId → Option (MutBor Held) → Fml
LendsHeldIn s dir r = LendsIf states_row held_row s r (λ w. insert s.now dir (state.Held w)) s.now

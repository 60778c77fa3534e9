-- Words of private contracts: the numbers that a form may have.
use Rattle.std.specs.Prelude.{◌≤◌}
use Rattle.cell_replay.specs.declared.forms.Form.{Form}
use Rattle.cell_replay.specs.declared.forms.Form.TheVariants as form
use Rattle.cell_replay.specs.declared.limits.TheConstants.{MOST_KEPT, MOST_ROUNDS}

-- a script has from 1 round to MOST_ROUNDS, and a clerk room for 1 answer to MOST_KEPT
abbrev pub IsForm : Form → Type 0
IsForm (form.Load rounds) = (1 ≤ rounds) × (rounds ≤ MOST_ROUNDS)
IsForm (form.Clerk room) = (1 ≤ room) × (room ≤ MOST_KEPT)
IsForm _ = Unit {0}

-- Words of private functions alone: which house is asked, and what it shows of an object.
use Rattle.std.specs.Prelude.{◌≡◌, ℕ, List, Option}
use Rattle.directory.specs.Shown.{Shown}
use Rattle.resolver.specs.Readers.{Object}
use Rattle.cds_cell.specs.Readings.{shown_sight, values_of}
use Rattle.cds_cell.specs.declared.reader.Holder.{Holder}
use Rattle.cds_cell.specs.Asking.{Asked}
use Rattle.cds_cell.specs.Telling.{held_view}

-- a house, and what it shows of what it holds
abbrev pub asked_of : Holder → Asked
asked_of h = record { house = h.house.0; view = held_view h.held.now }

-- what a house shows of an entry, if that is an object, has these values of attributes
abbrev pub ShowsValues : (house : ℕ) → Option Shown → (List ℕ → List (List ℕ)) → Type 0
ShowsValues house shown values = (x : ℕ) → shown_sight house shown ≡ Object x → (attr : List ℕ) → values attr ≡ values_of attr shown

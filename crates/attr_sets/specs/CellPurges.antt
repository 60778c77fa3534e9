-- What is left of a cell when deletions up to a stamp are dropped, and what of it is later than the
-- stamp (own, after C705, skulks and AllUpTo).
use Rattle.std.specs.Prelude.{Bool, true, not, ◌&&◌, ◌||◌, ◌==◌, Option, Some, None, is_none, IfSome, if◌then◌else◌, ◌≡◌}
use Rattle.std.specs.FinMap.{len}
use Rattle.std.specs.Option.{option_and_then}
use Rattle.cds_stamps.specs.declared.stamp.Stamp.{Stamp}
use Rattle.cds_stamps.specs.Joins.{EachValue}
use Rattle.cds_stamps.specs.Keyed.{map_some}
use Rattle.cds_stamps.specs.Stamps.{is_earlier, is_up_to}
use Rattle.attr_sets.specs.declared.mark.ValueMark.{ValueMark}
use Rattle.attr_sets.specs.declared.cell.AttrCell.{AttrCell}

-- whether a stamp is later than another, if there is one
abbrev pub is_above : Option Stamp → Stamp → Bool
is_above None s = true
is_above (Some t) s = is_earlier t s

-- an absent mark up to t is dropped (own)
abbrev pub mark_left : Stamp → ValueMark → Option ValueMark
mark_left t m = if m.present || not (is_up_to t m.stamp) then Some m else None

-- a clear up to t is dropped (own)
abbrev pub clear_left : Stamp → Stamp → Option Stamp
clear_left t s = if is_up_to t s then None else Some s

-- a cell without its clear, if that is up to t, and without its absent marks up to t (own)
abbrev pub purged_cell : Stamp → AttrCell → AttrCell
purged_cell t a = record { cleared = option_and_then (clear_left t) a.cleared; values = map_some (mark_left t) a.values }

-- whether a cell has neither a clear nor a value, as the empty cell alone (own)
abbrev pub is_empty_cell : AttrCell → Bool
is_empty_cell a = is_none a.cleared && (len a.values == 0)

-- a cell, if it has a clear or a value (own)
abbrev pub some_cell : AttrCell → Option AttrCell
some_cell a = if is_empty_cell a then None else Some a

-- what is left of a cell, if anything (own)
abbrev pub cell_left : Stamp → AttrCell → Option AttrCell
cell_left t a = some_cell (purged_cell t a)

-- a mark, if it is later than t (own)
abbrev pub mark_after : Stamp → ValueMark → Option ValueMark
mark_after t m = if is_up_to t m.stamp then None else Some m

-- what of a cell is later than t: its clear, and its marks, present or absent (own)
abbrev pub after_cell : Stamp → AttrCell → AttrCell
after_cell t a = record { cleared = option_and_then (clear_left t) a.cleared; values = map_some (mark_after t) a.values }

-- what of a cell is later than t, if anything (own)
abbrev pub cell_after : Stamp → AttrCell → Option AttrCell
cell_after t a = some_cell (after_cell t a)

-- the clear of a cell and its marks, present or absent, are later than a stamp, if there is one
pub record IsAboveCell (above : Option Stamp) (a : AttrCell) : Type 0 where
  pub cleared : IfSome a.cleared (λ s. is_above above s ≡ true)
  pub values : EachValue (λ m. is_above above m.stamp ≡ true) a.values

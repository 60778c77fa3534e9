-- How much is in a table: the records of it.
use Rattle.std.specs.Prelude.{ℕ, ◌+◌, sum_by, Option, Some, None}
use Rattle.std.specs.FinMap.{entries, len}
use Rattle.attr_sets.specs.declared.cell.AttrCell.{AttrCell}
use Rattle.directory.specs.declared.entry.EntryCell.{EntryCell}
use Rattle.directory.specs.Entries.{Entries}

-- the greatest number of 64 bits
abbrev pub most_held : ℕ
most_held = 18446744073709551615

-- 1 for what is there, 0 for nothing
abbrev pub one_if_some : {A : Type 0} → Option A → ℕ
one_if_some None = 0
one_if_some (Some x) = 1

-- the clear and the marks of an attribute
abbrev pub held_in_cell : AttrCell → ℕ
held_in_cell c = len c.values + one_if_some c.cleared

-- an entry, its death, and what is in its attributes
abbrev pub held_in_entry : EntryCell → ℕ
held_in_entry e = 1 + one_if_some e.death + sum_by (λ a. held_in_cell a.1) (entries e.attrs)

-- the entries of a table and what is in them
abbrev pub held_in : Entries → ℕ
held_in t = sum_by (λ e. held_in_entry e.1) (entries t)

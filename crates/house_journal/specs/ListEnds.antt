-- A part of a file.
use Rattle.std.specs.Prelude.{ℕ, ◌+◌, ◌≤◌, List, length, take, drop}
use Rattle.house_journal.specs.declared.list_end.Span.{Span}

-- it is a part of these octets
abbrev pub IsWithin : List ℕ → Span → Type 0
IsWithin file span = span.at + span.len ≤ length file

-- its octets
abbrev pub octets_of : List ℕ → Span → List ℕ
octets_of file span = take span.len (drop span.at file)

-- Words of private contracts alone: names that wait in a search. Own.
use Rattle.std.specs.Prelude.{ℕ, List}
use Rattle.ns_import.specs.declared.waiting.Name.{Name}
use Rattle.ns_import.specs.declared.waiting.Name.TheVariants.{Lent, Own}

-- the name, wherever its octets are
abbrev pub name_said : Name → List (List ℕ)
name_said (Lent name) = name
name_said (Own name) = name

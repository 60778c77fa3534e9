-- What a house says of an entry, line by line, and which entries can be said so.
use Rattle.std.specs.Prelude.{◌≡◌, ℕ, ◌≤◌, List, [], ◌∷◌, ◌++◌, map, None, codes}
use Rattle.std.specs.List.{All, flat_map}
use Rattle.std.specs.List.Sorted.{IsStrictlySortedBy}
use Rattle.hex.specs.Hex.{IsBytes, encode_lower}
use Rattle.cds_stamps.specs.Names.{attr_fault}
use Rattle.cds_stamps.specs.Octets.{octets_cmp}
use Rattle.attr_sets.specs.Values.{value_fault}
use Rattle.cell_names.specs.FullNames.{IsComponentList, full_name_octets}
use Rattle.cell_names.specs.Houses.{IsHouses}
use Rattle.cell_names.specs.declared.pointer.ChildPointer.{ChildPointer}
use Rattle.cell_script.specs.Words.{most_directory, most_house}
use Rattle.script_answers.specs.Texts.{spaced_numbers}
use Rattle.clerk_lines.specs.declared.shown.Lead.{Lead}
use Rattle.clerk_lines.specs.declared.shown.Lead.TheVariants as lead
use Rattle.clerk_lines.specs.declared.shown.ShownAttr.{ShownAttr}
use Rattle.clerk_lines.specs.declared.shown.ShownEntry.{ShownEntry}

-- ---- lines

-- the kind of an entry, and where it leads
abbrev pub lead_text : Lead → List ℕ
lead_text lead.Object = codes "object"
lead_text (lead.Link target) = codes "link " ++ full_name_octets target
lead_text (lead.Child p) =
    codes "child" ++ spaced_numbers (p.dir.0 ∷ p.houses.master ∷ p.houses.others)

-- a value
abbrev pub value_text : List ℕ → List ℕ
value_text v = codes "value " ++ encode_lower v

-- an attribute, and its values
abbrev pub attr_texts : ShownAttr → List (List ℕ)
attr_texts a = (codes "attr " ++ a.name) ∷ map value_text a.values

-- an entry: its kind, its attributes, and the end
abbrev pub entry_texts : ShownEntry → List (List ℕ)
entry_texts e = lead_text e.lead ∷ (flat_map attr_texts e.attrs ++ codes "end" ∷ [])

-- ---- which can be said

-- the number of a house that a line can have
abbrev pub IsHouseNumber : ℕ → Type 0
IsHouseNumber n = (1 ≤ n) × (n ≤ most_house)

-- numbers that a line can have, and houses of a child
pub record IsSayableChild (p : ChildPointer) : Type 0 where
  pub made : 1 ≤ p.dir.0
  pub few : p.dir.0 ≤ most_directory
  pub master : IsHouseNumber p.houses.master
  pub others : All IsHouseNumber p.houses.others
  pub houses : IsHouses p.houses

-- where an entry can lead
abbrev pub IsSayableLead : Lead → Type 0
IsSayableLead lead.Object = Unit {0}
IsSayableLead (lead.Link target) = IsComponentList target
IsSayableLead (lead.Child p) = IsSayableChild p

-- octets that are a value
pub record IsValue (v : List ℕ) : Type 0 where
  pub sized : value_fault v ≡ None
  pub octets : IsBytes v

-- an attribute of a name, and values that ascend
pub record IsSayableAttr (a : ShownAttr) : Type 0 where
  pub named : attr_fault a.name ≡ None
  pub ascending : IsStrictlySortedBy octets_cmp a.values
  pub values : All IsValue a.values

-- an entry that a house can say
pub record IsSayable (e : ShownEntry) : Type 0 where
  pub lead : IsSayableLead e.lead
  pub attrs : All IsSayableAttr e.attrs

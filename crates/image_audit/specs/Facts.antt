-- What a table says up to a stamp, and whether another table answers for it (own, after C705,
-- skulks and AllUpTo).
use Rattle.std.specs.Prelude.{ℕ, Bool, false, not, ◌&&◌, ◌||◌, List, [], ◌∷◌, ◌++◌, Option, Some, None, if◌then◌else◌}
use Rattle.std.specs.List.{flat_map}
use Rattle.std.specs.Option.{option_map_or}
use Rattle.std.specs.FinMap.{entries, get}
use Rattle.std.specs.declared.cmp.Ordering.{Ordering}
use Rattle.std.specs.declared.cmp.Ordering.TheVariants.{Less, Greater}
use Rattle.std.specs.Ordering.{ordering_then}
use Rattle.cds_stamps.specs.declared.stamp.Stamp.{Stamp}
use Rattle.cds_stamps.specs.Stamps.{is_earlier, is_up_to, is_stamp}
use Rattle.cds_stamps.specs.Octets.{octets_cmp}
use Rattle.attr_sets.specs.declared.mark.ValueMark.{ValueMark}
use Rattle.attr_sets.specs.declared.cell.AttrCell.{AttrCell}
use Rattle.directory.specs.declared.entry.Kind.{Kind}
use Rattle.directory.specs.declared.entry.EntryCell.{EntryCell}
use Rattle.directory.specs.Entries.{Entries}
use Rattle.directory.specs.Kinds.{is_kind}
use Rattle.image_audit.specs.declared.fact.Fact.{Fact}
use Rattle.image_audit.specs.declared.fact.Fact.TheVariants.{Birth, Value}

-- the birth of an entry, if it is up to t (own)
abbrev pub birth_fact : Stamp → (name : List ℕ) → EntryCell → List Fact
birth_fact t n e = if is_up_to t e.birth then Birth n e.kind e.birth ∷ [] else []

-- a value of an attribute of (n, c), if it is present by a mark up to t (own)
abbrev pub value_fact : Stamp → (name : List ℕ) → (birth : Stamp) → (attr : List ℕ) → List ℕ × ValueMark → List Fact
value_fact t n c a v = if v.1.present && is_up_to t v.1.stamp then Value n c a v.0 v.1.stamp ∷ [] else []

-- the values of an attribute of (n, c) (own)
abbrev pub attr_facts : Stamp → (name : List ℕ) → (birth : Stamp) → List ℕ × AttrCell → List Fact
attr_facts t n c a = flat_map (value_fact t n c a.0) (entries a.1.values)

-- the birth of an entry, live or not, and its values (own)
abbrev pub entry_facts : Stamp → List ℕ × EntryCell → List Fact
entry_facts t e = birth_fact t e.0 e.1 ++ flat_map (attr_facts t e.0 e.1.birth) (entries e.1.attrs)

-- the births of the entries of a table and their present values, stamped at most t; none where
-- there is no t (own, after C705, skulks and AllUpTo)
abbrev pub facts : Option Stamp → Entries → List Fact
facts None table = []
facts (Some t) table = flat_map (entry_facts t) (entries table)

-- the name of the entry that a fact is about (own)
abbrev pub fact_name : Fact → List ℕ
fact_name (Birth n k c) = n
fact_name (Value n c a v s) = n

-- an entry answers for a birth: it has a later one, or that birth and kind (own)
abbrev pub answers_birth : Kind → (birth : Stamp) → EntryCell → Bool
answers_birth k c e = is_earlier c e.birth || (is_stamp e.birth c && is_kind e.kind k)

-- a mark answers for its value present at s: it is later, or it is that (own)
abbrev pub answers_mark : Stamp → ValueMark → Bool
answers_mark s m = is_earlier s m.stamp || (m.present && is_stamp m.stamp s)

-- an attribute answers for a value present at s: its clear is later than s, or its mark of the
-- value answers (own)
abbrev pub answers_cell : (value : List ℕ) → Stamp → AttrCell → Bool
answers_cell v s a = option_map_or (is_earlier s) a.cleared false || option_map_or (answers_mark s) (get a.values v) false

-- an entry answers for a value of an entry born at c: its birth is later, or it is that birth and
-- the attribute answers (own)
abbrev pub answers_value : (birth : Stamp) → (attr value : List ℕ) → Stamp → EntryCell → Bool
answers_value c a v s e = is_earlier c e.birth || (is_stamp e.birth c && option_map_or (answers_cell v s) (get e.attrs a) false)

-- an entry of the fact's name answers for it (own)
abbrev pub answers_fact : Fact → EntryCell → Bool
answers_fact (Birth n k c) = answers_birth k c
answers_fact (Value n c a v s) = answers_value c a v s

-- a table does not answer for a fact: it has no entry of the name, or none that answers (own)
abbrev pub is_open : Entries → Fact → Bool
is_open table f = not (option_map_or (answers_fact f) (get table (fact_name f)) false)

-- facts by name, of one name the birth before the values, and these by attribute and value (own)
abbrev pub fact_cmp : Fact → Fact → Ordering
fact_cmp (Birth n k c) (Birth m l d) = octets_cmp n m
fact_cmp (Birth n k c) (Value m d b w u) = ordering_then (octets_cmp n m) Less
fact_cmp (Value n c a v s) (Birth m l d) = ordering_then (octets_cmp n m) Greater
fact_cmp (Value n c a v s) (Value m d b w u) = ordering_then (octets_cmp n m) (ordering_then (octets_cmp a b) (octets_cmp v w))

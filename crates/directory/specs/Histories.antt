-- Marks, histories, and the table of a history (own, after C705, updates, timestamps and replicas).
use Rattle.std.specs.Prelude.{◌≡◌, ℕ, Bool, true, false, ◌&&◌, ◌↔◌, List, [], ◌∷◌, ◌++◌, map, filter, Option, Some, None, if◌then◌else◌}
use Rattle.std.specs.FinMap.{FinMap}
use Rattle.std.specs.List.{filter_map, list_any, AllByRecursion, Contains}
use Rattle.std.specs.Option.{option_map}
use Rattle.std.specs.Bool.{IsTrue}
use Rattle.std.specs.declared.cmp.Ordering.{Ordering}
use Rattle.std.specs.Ordering.{ordering_then}
use Rattle.cds_stamps.specs.declared.stamp.Stamp.{Stamp}
use Rattle.cds_stamps.specs.Semilattice.{join_of, greater}
use Rattle.cds_stamps.specs.Keyed.{of_keys}
use Rattle.cds_stamps.specs.Stamps.{stamp_cmp, is_stamp, is_earlier, is_up_to, earlier_stamp}
use Rattle.cds_stamps.specs.Octets.{octets_cmp, is_octets}
use Rattle.attr_sets.specs.declared.cell.AttrCell.{AttrCell}
use Rattle.attr_sets.specs.AttributeCells.{AttrMark, attr_stamp, cell_of}
use Rattle.directory.specs.declared.entry.Kind.{Kind}
use Rattle.directory.specs.declared.entry.EntryCell.{EntryCell}
use Rattle.directory.specs.Entries.{Entries}
use Rattle.directory.specs.Kinds.{kind_cmp}

-- A stamped fact about the entry n that was born at c: its birth with its kind, its death at s, or
-- a mark of its attribute a, which is a clear or a value that is present or absent (own)
pub data Mark : Type 0 where
  Birth : (n : List ℕ) → (kind : Kind) → (c : Stamp) → Mark
  Death : (n : List ℕ) → (c s : Stamp) → Mark
  Attr : (n : List ℕ) → (c : Stamp) → (a : List ℕ) → AttrMark → Mark

-- the name of the entry that a mark is about (own)
abbrev pub name_in : Mark → List ℕ
name_in (Birth n kind c) = n
name_in (Death n c s) = n
name_in (Attr n c a x) = n

-- the birth of the entry that a mark is about (own)
abbrev pub born_in : Mark → Stamp
born_in (Birth n kind c) = c
born_in (Death n c s) = c
born_in (Attr n c a x) = c

-- the stamp of a mark (own)
abbrev pub stamp_in : Mark → Stamp
stamp_in (Birth n kind c) = c
stamp_in (Death n c s) = s
stamp_in (Attr n c a x) = attr_stamp x

-- a birth of a name, with the kind of the entry (own)
pub record Born : Type 0 where
  pub at : Stamp
  pub kind : Kind

-- what a mark says of the births of n (own)
abbrev pub birth_in : List ℕ → Mark → Option Born
birth_in n (Birth m kind c) = if is_octets n m then Some (record { at = c; kind = kind }) else None
birth_in n (Death m c s) = None
birth_in n (Attr m c a x) = None

-- what a mark says of the deaths of (n, c) (own)
abbrev pub death_in : List ℕ → Stamp → Mark → Option Stamp
death_in n c (Birth m kind d) = None
death_in n c (Death m d s) = if is_octets n m && is_stamp c d then Some s else None
death_in n c (Attr m d a x) = None

-- what a mark says of the attribute a of (n, c) (own)
abbrev pub attr_mark_in : List ℕ → Stamp → List ℕ → Mark → Option AttrMark
attr_mark_in n c a (Birth m kind d) = None
attr_mark_in n c a (Death m d s) = None
attr_mark_in n c a (Attr m d b x) = if is_octets n m && is_stamp c d && is_octets a b then Some x else None

-- the attribute that a mark is about (own)
abbrev pub attr_in : Mark → Option (List ℕ)
attr_in (Birth n kind c) = None
attr_in (Death n c s) = None
attr_in (Attr n c a x) = Some a

-- births by stamp, and then by kind, where one birth should have two (own)
abbrev pub birth_cmp : Born → Born → Ordering
birth_cmp a b = ordering_then (stamp_cmp a.at b.at) (kind_cmp a.kind b.kind)

-- the greatest birth of n in a history (own)
abbrev pub birth_of : List Mark → List ℕ → Option Born
birth_of h n = join_of (greater birth_cmp) (birth_in n) h

-- the least death of (n, c) in a history (own)
abbrev pub death_of : List Mark → List ℕ → Stamp → Option Stamp
death_of h n c = join_of earlier_stamp (death_in n c) h

-- the marks of the attribute a of (n, c) in a history (own)
abbrev pub attr_history : List Mark → List ℕ → Stamp → List ℕ → List AttrMark
attr_history h n c a = filter_map (attr_mark_in n c a) h

-- the cell of an attribute of which something is known (own)
abbrev pub cell_of_some : List AttrMark → Option AttrCell
cell_of_some [] = None
cell_of_some (x ∷ h) = Some (cell_of (x ∷ h))

-- the cells of the attributes of (n, c) in a history (own)
abbrev pub attrs_of : List Mark → List ℕ → Stamp → FinMap octets_cmp AttrCell
attrs_of h n c = of_keys (filter_map attr_in h) (λ a. cell_of_some (attr_history h n c a))

-- the entry of a birth of a name (own)
abbrev pub entry_at : List Mark → List ℕ → Born → EntryCell
entry_at h n b = record { birth = b.at; kind = b.kind; death = death_of h n b.at; attrs = attrs_of h n b.at }

-- the entry of a name in a history (own)
abbrev pub entry_of : List Mark → List ℕ → Option EntryCell
entry_of h n = option_map (entry_at h n) (birth_of h n)

-- the table of a history: of each name the greatest birth, its least death, and of each attribute
-- the greatest clear and the greatest marks that it keeps (own)
abbrev pub table_of : List Mark → Entries
table_of h = of_keys (map name_in h) (entry_of h)

-- the marks of a history that are stamped at most t, and none where there is no t (own)
abbrev pub up_to : List Mark → Option Stamp → List Mark
up_to h None = []
up_to h (Some t) = filter (λ m. is_up_to t (stamp_in m)) h

-- the mark is the birth of (n, c) (own)
abbrev pub is_birth : List ℕ → Stamp → Mark → Bool
is_birth n c (Birth m kind d) = is_octets n m && is_stamp c d
is_birth n c (Death m d s) = false
is_birth n c (Attr m d a x) = false

-- each mark about (n, c) has its birth in the history (own)
abbrev pub HasBirths : List Mark → Type 0
HasBirths h = AllByRecursion (λ m. list_any (is_birth (name_in m) (born_in m)) h ≡ true) h

-- no mark about (n, c) is earlier than c (own)
abbrev pub IsAfterBirth : List Mark → Type 0
IsAfterBirth h = AllByRecursion (λ m. IsTrue (is_up_to (stamp_in m) (born_in m))) h

-- one (n, c) has one kind (own)
abbrev pub HasOneKind : List Mark → Type 0
HasOneKind h = (n : List ℕ) (c : Stamp) (j k : Kind) → Contains h (Birth n j c) → Contains h (Birth n k c) → j ≡ k

-- marks that belong together (own)
pub record IsHistory (h : List Mark) : Type 0 where
  pub births : HasBirths h
  pub ordered : IsAfterBirth h
  pub kinds : HasOneKind h

-- each mark of the history is earlier than the stamp (own, after C705, timestamps of updates)
abbrev pub IsBefore : List Mark → Stamp → Type 0
IsBefore h s = (m : Mark) → Contains h m → is_earlier (stamp_in m) s ≡ true

-- the two lists have the same marks, in any order and any number of times (own)
abbrev pub SameMarks : List Mark → List Mark → Type 0
SameMarks g h = (m : Mark) → Contains g m ↔ Contains h m

-- these marks can be merged into this history: what they have up to t it has, and both and their
-- union are histories (own)
pub record CanMerge (history marks : List Mark) (t : Option Stamp) : Type 0 where
  pub covered : (m : Mark) → Contains (up_to marks t) m → Contains history m
  pub mine : IsHistory history
  pub theirs : IsHistory marks
  pub both : IsHistory (history ++ marks)

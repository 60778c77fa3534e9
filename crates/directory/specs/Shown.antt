-- What a reader sees of a history or of a table, and what an update means there (own, after C705,
-- reading and updating a replica).
use Rattle.std.specs.Prelude.{◌≡◌, ◌≢◌, ◌↔◌, ℕ, Bool, true, false, ◌&&◌, ◌||◌, not, ◌==◌}
use Rattle.std.specs.Prelude.{List, [], ◌∷◌, length, filter, count_by, Option, Some, None, is_none, is_some, if◌then◌else◌}
use Rattle.std.specs.FinMap.{get, entries}
use Rattle.std.specs.List.{Contains}
use Rattle.std.specs.Option.{option_and_then, option_map_or}
use Rattle.cds_stamps.specs.declared.stamp.Stamp.{Stamp}
use Rattle.cds_stamps.specs.Octets.{is_octets}
use Rattle.cell_names.specs.FullNames.{is_full_name, full_name_octets}
use Rattle.cell_names.specs.ChildPointers.{Pointer, is_child_pointer, pointer_of, pointer_octets}
use Rattle.attr_sets.specs.AttributeCells.{Cleared, Marked, shown_values, cell_values}
use Rattle.directory.specs.declared.entry.Kind.{Kind}
use Rattle.directory.specs.declared.entry.Kind.TheVariants.{Object, Link, Child}
use Rattle.directory.specs.declared.entry.EntryCell.{EntryCell}
use Rattle.directory.specs.Entries.{Entries}
use Rattle.directory.specs.declared.update.UpdateRefusal.{UpdateRefusal}
use Rattle.directory.specs.declared.update.UpdateRefusal.TheVariants.{NoSuchEntry, EntryExists, WrongKind}
use Rattle.directory.specs.Kinds.{is_child, link_target, replicas}
use Rattle.directory.specs.Updates.{Change, Create, MakeLink, MakeChild, Delete, Add, Remove, Put, Clear, Repoint}
use Rattle.directory.specs.Histories.{Mark, Birth, Death, Attr, Born, birth_of, death_of, attr_history}

-- what a live entry shows: its birth, its kind, and the values of each attribute, ascending (own)
pub record Shown : Type 0 where
  pub birth : Stamp
  pub kind : Kind
  pub values : List ℕ → List (List ℕ)

-- those of the values that read as the name of a link's target (own)
abbrev pub targets : List (List ℕ) → List (List ℕ)
targets = filter is_full_name

-- those of the values that read as child pointers (own)
abbrev pub pointers : List (List ℕ) → List (List ℕ)
pointers = filter is_child_pointer

-- the octets say where an entry of this kind leads: a link by a full name, a child by a child
-- pointer (own)
abbrev pub is_readable : Kind → List ℕ → Bool
is_readable Object = λ _. false
is_readable Link = is_full_name
is_readable Child = is_child_pointer

-- an object needs no value; a link and a child need exactly one readable value of their attribute
-- (own)
abbrev pub leads : Kind → (List ℕ → List (List ℕ)) → Bool
leads Object values = true
leads Link values = length (targets (values link_target)) == 1
leads Child values = length (pointers (values replicas)) == 1

-- the item of a list that has one (own)
abbrev pub only_one : {X : Type 0} → List X → Option X
only_one [] = None
only_one (x ∷ []) = Some x
only_one (x ∷ y ∷ xs) = None

-- where a link or a child leads: its one readable value; none, where there is not exactly one, and
-- for an object (own)
abbrev pub lead_of : Shown → Option (List ℕ)
lead_of e = lead_by e.kind e.values
  where
    lead_by : Kind → (List ℕ → List (List ℕ)) → Option (List ℕ)
    lead_by Object values = None
    lead_by Link values = only_one (targets (values link_target))
    lead_by Child values = only_one (pointers (values replicas))

-- an entry shows where no death of it is known and it leads on (own)
abbrev pub shown_if_live : Option Stamp → Shown → Option Shown
shown_if_live death e = if is_none death && leads e.kind e.values then Some e else None

-- what a history shows of a name: the entry of the greatest birth, where it is live (own)
abbrev pub shown_born : List Mark → List ℕ → Born → Option Shown
shown_born h n b = shown_if_live (death_of h n b.at) (record { birth = b.at; kind = b.kind; values = λ a. shown_values (attr_history h n b.at a) })

-- what a history shows of a name (own)
abbrev pub shown_of_name : List Mark → List ℕ → Option Shown
shown_of_name h n = option_and_then (shown_born h n) (birth_of h n)

-- the values of an attribute in an entry of a table (own)
abbrev pub entry_values : EntryCell → List ℕ → List (List ℕ)
entry_values e a = option_map_or cell_values (get e.attrs a) []

-- what an entry of a table would show, were it live (own)
abbrev pub face_of : EntryCell → Shown
face_of e = record { birth = e.birth; kind = e.kind; values = entry_values e }

-- what an entry of a table shows (own)
abbrev pub shown_entry : EntryCell → Option Shown
shown_entry e = shown_if_live e.death (face_of e)

-- what a table shows of a name (own)
abbrev pub shown_in : Entries → List ℕ → Option Shown
shown_in t n = option_and_then shown_entry (get t n)

-- f shows what e does, except that of the attribute a it shows exactly the values for which P holds
-- (own)
pub record ChangesValues (e : Shown) (a : List ℕ) (P : List ℕ → Type 0) (f : Shown) : Type 0 where
  pub birth : f.birth ≡ e.birth
  pub kind : f.kind ≡ e.kind
  pub others : (b : List ℕ) → b ≢ a → f.values b ≡ e.values b
  pub changed : (w : List ℕ) → Contains (f.values a) w ↔ P w

-- how many entries of a table show (own)
abbrev pub live_count : Entries → ℕ
live_count t = count_by (λ e. is_some (shown_entry e.1)) (entries t)

-- an attribute that changes only by the updates that make or repoint links and children (own)
abbrev pub is_reserved : List ℕ → Bool
is_reserved a = is_octets a link_target || is_octets a replicas

-- why the making of an entry is refused, by what shows of its name; None where it is accepted (own)
abbrev pub new_refusal : Option Shown → Option UpdateRefusal
new_refusal None = None
new_refusal (Some e) = Some EntryExists

-- why an update of an entry that shows is refused, where a kind is wrong (own)
abbrev pub live_refusal : Bool → Option UpdateRefusal
live_refusal wrong = if wrong then Some WrongKind else None

-- why an update is refused by what shows of its name; None where it is accepted (own)
abbrev pub refusal_of : Option Shown → Change → Option UpdateRefusal
refusal_of e (Create n) = new_refusal e
refusal_of e (MakeLink n target) = new_refusal e
refusal_of e (MakeChild n pointer) = new_refusal e
refusal_of None u = Some NoSuchEntry
refusal_of (Some e) (Delete n) = live_refusal (is_child e.kind)
refusal_of (Some e) (Add n a v) = live_refusal (is_reserved a)
refusal_of (Some e) (Remove n a v) = live_refusal (is_reserved a)
refusal_of (Some e) (Put n a v) = live_refusal (is_reserved a)
refusal_of (Some e) (Clear n a) = live_refusal (is_reserved a)
refusal_of (Some e) (Repoint n master others) = live_refusal (not (is_child e.kind))

-- a present or an absent value of an attribute of (n, c) at s (own)
abbrev pub value_mark : List ℕ → Stamp → List ℕ → List ℕ → Bool → Stamp → Mark
value_mark n c a v present s = Attr n c a (Marked v (record { present = present; stamp = s }))

-- a clear and a present value with one stamp (own)
abbrev pub put_marks : List ℕ → Stamp → List ℕ → List ℕ → Stamp → List Mark
put_marks n c a v s = Attr n c a (Cleared s) ∷ value_mark n c a v true s ∷ []

-- the marks of an update of a live entry, with its birth (own)
abbrev pub with_birth : List ℕ → Option Shown → (Shown → List Mark) → List Mark
with_birth n None marks = []
with_birth n (Some e) marks = Birth n e.kind e.birth ∷ marks e

-- the directory of the pointer that shows (own)
abbrev pub shown_dir : Shown → ℕ
shown_dir e = option_map_or (λ p. p.dir) (option_and_then pointer_of (lead_of e)) 0

-- where a child that shows leads once it is repointed: to the same directory, at these houses (own)
abbrev pub new_pointer : Shown → ℕ → List ℕ → Pointer
new_pointer e master others = record { dir = shown_dir e; master = master; others = others }

-- the marks of an update with stamp s, by what shows of its name (own)
abbrev pub marks_of : Option Shown → Change → Stamp → List Mark
marks_of e (Create n) s = Birth n Object s ∷ []
marks_of e (MakeLink n target) s = Birth n Link s ∷ value_mark n s link_target (full_name_octets target) true s ∷ []
marks_of e (MakeChild n pointer) s = Birth n Child s ∷ value_mark n s replicas (pointer_octets pointer) true s ∷ []
marks_of e (Delete n) s = with_birth n e (λ x. Death n x.birth s ∷ [])
marks_of e (Add n a v) s = with_birth n e (λ x. value_mark n x.birth a v true s ∷ [])
marks_of e (Remove n a v) s = with_birth n e (λ x. value_mark n x.birth a v false s ∷ [])
marks_of e (Put n a v) s = with_birth n e (λ x. put_marks n x.birth a v s)
marks_of e (Clear n a) s = with_birth n e (λ x. Attr n x.birth a (Cleared s) ∷ [])
marks_of e (Repoint n master others) s =
    with_birth n e (λ x. put_marks n x.birth replicas (pointer_octets (new_pointer x master others)) s)

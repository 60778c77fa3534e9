-- Clerks that keep answers (after C705, caches of clerks).
use Rattle.std.specs.Prelude.{◌≡◌, ℕ, Bool, ◌&&◌, ◌==◌, List, [], nat_eq, Option, Some, None}
use Rattle.std.specs.Cmp.Lexicographic.{pointwise}
use Rattle.std.specs.Map.{lookup}
use Rattle.std.specs.Option.{option_and_then, option_map, option_eq}
use Rattle.lru.specs.LruCache.{promoted, put_entries}
use Rattle.cds_stamps.specs.declared.numbers.HouseNo.{HouseNo}
use Rattle.cell_names.specs.ChildPointers.{Pointer}
use Rattle.cell_names.specs.Houses.{is_houses}
use Rattle.cell_names.specs.declared.pointer.ChildPointer.{ChildPointer}
use Rattle.directory.specs.declared.entry.Kind.{Kind}
use Rattle.directory.specs.declared.entry.Kind.TheVariants as kind
use Rattle.resolver.specs.declared.seen.Found.{Found}
use Rattle.resolver.specs.declared.seen.Seen.{Seen}
use Rattle.resolver.specs.declared.seen.Seen.TheVariants as seen
use Rattle.resolver.specs.ChangingReaders.{ChangingReader}
use Rattle.resolver.specs.Readers.{Reader, Sight, Unreachable, Absent, Object, Link, Child, sight_of}
use Rattle.clerk_cache.specs.declared.clerk.Clerk.{Clerk}
use Rattle.clerk_cache.specs.declared.query.Query.{Query}
use Rattle.clerk_cache.specs.declared.query.Told.{Told}
use Rattle.clerk_cache.specs.declared.query.Told.TheVariants as told

-- a clerk with no answer, of so much room
abbrev pub new_clerk : (room : ℕ) → HouseNo → Clerk
new_clerk room prefer = record { prefer = prefer; kept = record { entries = []; cap = room } }

-- ---- questions

-- a pointer, as a question has it
abbrev pub pointer_asked : Pointer → ChildPointer
pointer_asked p = record { dir = record { 0 = p.dir }; houses = record { master = p.master; others = p.others } }

-- a question of this clerk: what is seen of a name in a directory, or which values an attribute of
-- it has
abbrev pub query_of : Clerk → Pointer → List ℕ → (attr : Option (List ℕ)) → Query
query_of c at name attr = record { prefer = c.prefer; at = pointer_asked at; name = name; attr = attr }

-- two pointers are the same
abbrev pub is_pointer : ChildPointer → ChildPointer → Bool
is_pointer p q = p.dir.0 == q.dir.0 && is_houses p.houses q.houses

-- two questions are the same: in the house that is preferred, the pointer, the name and the
-- attribute
abbrev pub is_query : Query → Query → Bool
is_query q r =
    q.prefer.0 == r.prefer.0
    && (is_pointer q.at r.at && (pointwise nat_eq q.name r.name && option_eq (pointwise nat_eq) q.attr r.attr))

-- ---- the list

-- what is seen, as an answer has it
abbrev pub seen_told : Sight → Seen
seen_told Unreachable = seen.Unreachable
seen_told (Absent house) = seen.Absent (record { 0 = house })
seen_told (Object house) = seen.Object (record { 0 = house })
seen_told (Link house target) = seen.Link (record { 0 = house }) target
seen_told (Child house child) = seen.Child (record { 0 = house }) (pointer_asked child)

-- what an answer says that is seen, if it is an answer to that
abbrev pub sight_told : Told → Option Sight
sight_told (told.Sight s) = Some (sight_of s)
sight_told (told.Values vs) = None

-- which values an answer has, if it is an answer to that
abbrev pub values_told : Told → Option (List (List ℕ))
values_told (told.Sight s) = None
values_told (told.Values vs) = Some vs

-- what the list says that is seen, if it has the question
abbrev pub kept_sight : Query → Clerk → Option Sight
kept_sight q c = option_and_then (λ k. sight_told k.told) (lookup (is_query q) c.kept.entries)

-- which values the list has, if it has the question
abbrev pub kept_values : Query → Clerk → Option (List (List ℕ))
kept_values q c = option_and_then (λ k. values_told k.told) (lookup (is_query q) c.kept.entries)

-- the answer to a question moves to the front
abbrev pub to_front : Query → Clerk → Clerk
to_front q c = record c { kept = record c.kept { entries = promoted (is_query q) c.kept.entries } }

-- a new answer goes to the front, with the line at which it was given; of a full list the last one
-- is dropped
abbrev pub note : Query → Told → (now : ℕ) → Clerk → Clerk
note q told now c = record c { kept = record c.kept { entries = put_entries is_query c.kept q (record { told = told; line = now }) } }

-- what is seen is a new answer, unless no house answered
abbrev pub note_sight : Query → Sight → (now : ℕ) → Clerk → Clerk
note_sight q Unreachable now c = c
note_sight q (Absent house) now c = note q (told.Sight (seen_told (Absent house))) now c
note_sight q (Object house) now c = note q (told.Sight (seen_told (Object house))) now c
note_sight q (Link house target) now c = note q (told.Sight (seen_told (Link house target))) now c
note_sight q (Child house child) now c = note q (told.Sight (seen_told (Child house child))) now c

-- ---- what is seen of a name

-- what the list says, or else what the reader sees; and the clerk then
abbrev pub sight_by : (kept : Option Sight) → Query → (now : ℕ) → (fresh : Sight) → Clerk → Sight × Clerk
sight_by (Some s) q now fresh c = (s, to_front q c)
sight_by None q now fresh c = (fresh, note_sight q fresh now c)

-- what a clerk answers that is seen of a name, at low confidence; and the clerk then (after C705,
-- caches of clerks)
abbrev pub sight_answer : (now : ℕ) → Reader → Pointer → List ℕ → Clerk → Sight × Clerk
sight_answer now reader at name c = let q = query_of c at name None in sight_by (kept_sight q c) q now (reader.sees at name) c

-- a reader that is asked through a clerk what is seen
abbrev pub clerk_reader : (now : ℕ) → Reader → ChangingReader Clerk
clerk_reader now reader = record {
  tells = λ c. record reader { sees = λ at name. (sight_answer now reader at name c).0 };
  after = λ c at name. (sight_answer now reader at name c).1;
}

-- ---- the values of an attribute

-- an entry of a directory, at the house that shows it
abbrev pub entry_at : Pointer → (house : ℕ) → List ℕ → Kind → Found
entry_at at house name k = record { dir = record { 0 = at.dir }; house = record { 0 = house }; name = name; kind = k }

-- the entry that is seen, if one is
abbrev pub entry_in : Pointer → List ℕ → Sight → Option Found
entry_in at name Unreachable = None
entry_in at name (Absent house) = None
entry_in at name (Object house) = Some (entry_at at house name kind.Object)
entry_in at name (Link house target) = Some (entry_at at house name kind.Link)
entry_in at name (Child house child) = Some (entry_at at house name kind.Child)

-- the values that the entry of a name shows, if the reader sees one
abbrev pub shown_values : Reader → Pointer → (name attr : List ℕ) → Option (List (List ℕ))
shown_values reader at name attr = option_map (λ e. reader.values e attr) (entry_in at name (reader.sees at name))

-- the values that the list has, or else those that the reader shows; and the clerk then
abbrev pub values_by : (kept : Option (List (List ℕ))) → Query → (now : ℕ) → (fresh : Option (List (List ℕ))) → Clerk
    → Option (List (List ℕ)) × Clerk
values_by (Some vs) q now fresh c = (Some vs, to_front q c)
values_by None q now None c = (None, c)
values_by None q now (Some vs) c = (Some vs, note q (told.Values vs) now c)

-- the values that a clerk answers, at low confidence; and the clerk then (after C705, caches of
-- clerks)
abbrev pub values_answer : (now : ℕ) → Reader → Pointer → (name attr : List ℕ) → Clerk → Option (List (List ℕ)) × Clerk
values_answer now reader at name attr c =
    let q = query_of c at name (Some attr) in values_by (kept_values q c) q now (shown_values reader at name attr) c

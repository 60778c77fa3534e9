-- The definitions at single marks, by computing.
use Rattle.std.proofs.Common.{◌≡◌, ℕ, true, false, List, [], ◌∷◌, refl, ap}
use Rattle.std.specs.Prelude.{Option, Some, None, codes, ◌==◌}
use Rattle.std.specs.FinMap.{empty, len-empty}
use Rattle.cds_stamps.specs.declared.stamp.Stamp.{Stamp}
use Rattle.cds_stamps.specs.Octets.{octets_cmp}
use Rattle.attr_sets.specs.declared.cell.AttrCell.{AttrCell}
use Rattle.attr_sets.specs.AttributeCells.{Cleared}
use Rattle.directory.specs.declared.entry.Kind.{Kind}
use Rattle.directory.specs.declared.entry.Kind.TheVariants.{Object, Link, Child}
use Rattle.directory.specs.declared.entry.EntryCell.{EntryCell}
use Rattle.directory.specs.declared.update.UpdateRefusal.TheVariants.{NoSuchEntry, EntryExists, WrongKind}
use Rattle.directory.specs.Kinds.{is_kind, link_target}
use Rattle.directory.specs.Entries.{join_entries}
use Rattle.directory.specs.Updates.{Create, Delete, Add, Put, Repoint}
use Rattle.directory.specs.Histories.{Mark, Birth, Death, Attr, birth_of, death_of, up_to}
use Rattle.directory.specs.Shown.{Shown, leads, refusal_of, value_mark, marks_of}
use Rattle.directory.specs.Purges.{entry_left, after_entry, is_bare, delta_entry}

-- the stamp of this time at one node
abbrev at : ℕ → Stamp
at t = record { time = t; node = 10 }

abbrev e : List ℕ
e = codes "e"

abbrev f : List ℕ
f = codes "f"

abbrev a : List ℕ
a = codes "A"

-- an entry of this kind, born at 1, that shows no value
abbrev live : Kind → Shown
live k = record { birth = at 1; kind = k; values = λ _. [] }

-- ---- updates

created_anew : refusal_of None (Create e) ≡ None
created_anew = refl

created_twice : refusal_of (Some (live Object)) (Create e) ≡ Some EntryExists
created_twice = refl

added_to_nothing : refusal_of None (Add e link_target (1 ∷ [])) ≡ Some NoSuchEntry
added_to_nothing = refl

added_to_a_target : refusal_of (Some (live Link)) (Add e link_target (1 ∷ [])) ≡ Some WrongKind
added_to_a_target = refl

added_to_an_object : refusal_of (Some (live Object)) (Add e a (1 ∷ [])) ≡ None
added_to_an_object = refl

child_deleted : refusal_of (Some (live Child)) (Delete e) ≡ Some WrongKind
child_deleted = refl

object_repointed : refusal_of (Some (live Object)) (Repoint e 1 []) ≡ Some WrongKind
object_repointed = refl

-- an added value has the birth of the entry beside it, and a put one a clear besides
marks_of_an_addition : marks_of (Some (live Object)) (Add e a (1 ∷ [])) (at 2) ≡ Birth e Object (at 1) ∷ value_mark e (at 1) a (1 ∷ []) true (at 2) ∷ []
marks_of_an_addition = refl

marks_of_a_put : marks_of (Some (live Object)) (Put e a (1 ∷ [])) (at 2)
    ≡ Birth e Object (at 1) ∷ Attr e (at 1) a (Cleared (at 2)) ∷ value_mark e (at 1) a (1 ∷ []) true (at 2) ∷ []
marks_of_a_put = refl

-- ---- histories

-- the greatest birth of a name, and the least death of that birth
abbrev twice_born : List Mark
twice_born = Birth e Object (at 1) ∷ Death e (at 1) (at 3) ∷ Birth e Object (at 4) ∷ Birth f Link (at 5) ∷ Death e (at 1) (at 2) ∷ []

born_last : birth_of twice_born e ≡ Some (record { at = at 4; kind = Object })
born_last = refl

dead_first : death_of twice_born e (at 1) ≡ Some (at 2)
dead_first = refl

not_dead : death_of twice_born e (at 4) ≡ None
not_dead = refl

up_to_two : up_to twice_born (Some (at 2)) ≡ Birth e Object (at 1) ∷ Death e (at 1) (at 2) ∷ []
up_to_two = refl

-- ---- entries

-- an entry without attributes
abbrev bare : ℕ → Kind → Option Stamp → EntryCell
bare t k death = record { birth = at t; kind = k; death = death; attrs = empty }

later_birth_wins : join_entries (bare 1 Child (Some (at 2))) (bare 3 Object None) ≡ bare 3 Object None
later_birth_wins = refl

-- at one birth the greater kind and the least death
kind_of_tied : (join_entries (bare 1 Object (Some (at 5))) (bare 1 Link (Some (at 4)))).kind ≡ Link
kind_of_tied = refl

death_of_tied : (join_entries (bare 1 Object (Some (at 5))) (bare 1 Link (Some (at 4)))).death ≡ Some (at 4)
death_of_tied = refl

-- a link leads on by exactly one value that reads as a full name
no_target : leads Link (λ _. []) ≡ false
no_target = refl

one_target : leads Link (λ _. codes "/.:/x" ∷ codes "x" ∷ []) ≡ true
one_target = refl

two_targets : leads Link (λ _. codes "/.:/x" ∷ codes "/.:/y" ∷ []) ≡ false
two_targets = refl

one_pointer : leads Child (λ _. (0 ∷ 0 ∷ 0 ∷ 2 ∷ 1 ∷ 1 ∷ []) ∷ []) ≡ true
one_pointer = refl

one_kind : is_kind Link Link ≡ true
one_kind = refl

other_kind : is_kind Link Child ≡ false
other_kind = refl

-- a death up to the stamp takes the entry away
left_after_its_death : entry_left (at 3) (bare 1 Object (Some (at 3))) ≡ None
left_after_its_death = refl

birth_alone : is_bare (bare 1 Object None) ≡ true
birth_alone = ap (λ n. n == 0) (len-empty octets_cmp AttrCell)

-- an old birth is sent where something later is there, and a later birth always
old_birth_that_died : delta_entry (at 3) (bare 1 Object (Some (at 4))) ≡ Some (after_entry (at 3) (bare 1 Object (Some (at 4))))
old_birth_that_died = refl

late_birth_alone : delta_entry (at 3) (bare 4 Object None) ≡ Some (after_entry (at 3) (bare 4 Object None))
late_birth_alone = refl

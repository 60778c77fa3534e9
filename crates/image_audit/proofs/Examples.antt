-- The definitions at single stamps, marks and facts, by computing.
use Rattle.std.proofs.Common.{◌≡◌, ℕ, true, false, List, [], ◌∷◌, refl}
use Rattle.std.specs.Prelude.{Some, None, codes}
use Rattle.std.specs.FinMap.{empty}
use Rattle.std.specs.declared.cmp.Ordering.TheVariants.{Less, Greater}
use Rattle.cds_stamps.specs.declared.stamp.Stamp.{Stamp}
use Rattle.attr_sets.specs.Marks.{present_at, absent_at}
use Rattle.directory.specs.declared.entry.Kind.{Kind}
use Rattle.directory.specs.declared.entry.Kind.TheVariants.{Object, Link}
use Rattle.directory.specs.declared.entry.EntryCell.{EntryCell}
use Rattle.image_audit.specs.declared.fact.Fact.TheVariants.{Birth, Value}
use Rattle.image_audit.specs.declared.verdict.Verdict.TheVariants.{NoReplica, Agree, Differ}
use Rattle.image_audit.specs.Facts.{birth_fact, value_fact, answers_birth, answers_mark, fact_cmp}
use Rattle.image_audit.specs.Verdicts.{smaller, is_up_to_same, first_of, tell_verdict, verdict_of}

-- the stamp of this time at one node
abbrev at : ℕ → Stamp
at t = record { time = t; node = 10 }

abbrev e : List ℕ
e = codes "e"

abbrev f : List ℕ
f = codes "f"

abbrev a : List ℕ
a = codes "A"

abbrev b : List ℕ
b = codes "B"

-- an entry of this kind, born then, without attributes
abbrev born : Kind → ℕ → EntryCell
born k t = record { birth = at t; kind = k; death = None; attrs = empty }

-- ---- AllUpTo

smaller_none : smaller None (Some (at 5)) ≡ None
smaller_none = refl

smaller_some : smaller (Some (at 5)) (Some (at 2)) ≡ Some (at 2)
smaller_some = refl

asked_at_it : is_up_to_same (Some (at 2)) (Some (at 2)) ≡ true
asked_at_it = refl

not_asked_above : is_up_to_same (Some (at 2)) (Some (at 5)) ≡ false
not_asked_above = refl

-- ---- facts

birth_up_to : birth_fact (at 3) e (born Object 3) ≡ Birth e Object (at 3) ∷ []
birth_up_to = refl

birth_after : birth_fact (at 2) e (born Object 3) ≡ []
birth_after = refl

-- a dead entry was born
birth_of_dead : birth_fact (at 5) e (record (born Object 3) { death = Some (at 4) }) ≡ Birth e Object (at 3) ∷ []
birth_of_dead = refl

value_up_to : value_fact (at 5) e (at 1) a (1 ∷ [], present_at (at 5)) ≡ Value e (at 1) a (1 ∷ []) (at 5) ∷ []
value_up_to = refl

value_after : value_fact (at 5) e (at 1) a (1 ∷ [], present_at (at 6)) ≡ []
value_after = refl

absent_value : value_fact (at 5) e (at 1) a (1 ∷ [], absent_at (at 2)) ≡ []
absent_value = refl

-- ---- answers

same_birth : answers_birth Object (at 3) (born Object 3) ≡ true
same_birth = refl

other_kind : answers_birth Object (at 3) (born Link 3) ≡ false
other_kind = refl

later_birth : answers_birth Object (at 3) (born Link 4) ≡ true
later_birth = refl

earlier_birth : answers_birth Object (at 3) (born Object 2) ≡ false
earlier_birth = refl

same_mark : answers_mark (at 3) (present_at (at 3)) ≡ true
same_mark = refl

absent_then : answers_mark (at 3) (absent_at (at 3)) ≡ false
absent_then = refl

absent_later : answers_mark (at 3) (absent_at (at 4)) ≡ true
absent_later = refl

-- ---- the order of facts

names_first : fact_cmp (Value e (at 1) b (1 ∷ []) (at 2)) (Birth f Object (at 1)) ≡ Less
names_first = refl

births_first : fact_cmp (Value e (at 1) a (1 ∷ []) (at 2)) (Birth e Object (at 1)) ≡ Greater
births_first = refl

attributes_then : fact_cmp (Value e (at 1) a (2 ∷ []) (at 2)) (Value e (at 1) b (1 ∷ []) (at 2)) ≡ Less
attributes_then = refl

values_last : fact_cmp (Value e (at 1) a (2 ∷ []) (at 2)) (Value e (at 1) a (1 ∷ []) (at 2)) ≡ Greater
values_last = refl

-- ---- verdicts

first_image : first_of (Some (Birth e Object (at 1))) (Some (Birth e Link (at 1))) ≡ Some (1, Birth e Object (at 1))
first_image = refl

lesser_fact : first_of (Some (Birth f Object (at 1))) (Some (Birth e Object (at 2))) ≡ Some (2, Birth e Object (at 2))
lesser_fact = refl

one_alone : tell_verdict (Some (at 5)) (first_of None (Some (Birth e Object (at 3)))) ≡ Differ 2 (Birth e Object (at 3))
one_alone = refl

none_open : tell_verdict None (first_of None None) ≡ Agree None
none_open = refl

none_held : verdict_of None None ≡ NoReplica 1
none_held = refl

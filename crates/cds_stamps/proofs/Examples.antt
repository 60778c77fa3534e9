-- The definitions at single values, by computing.
use Rattle.std.proofs.Common.{◌≡◌, true, false, List, [], ◌∷◌, map, refl}
use Rattle.std.specs.Prelude.{ℕ, Some, None, Err, codes, replicate, ◌+◌}
use Rattle.std.specs.Ordering.{nat_cmp}
use Rattle.std.specs.declared.cmp.Ordering.TheVariants.{Less, Greater}
use Rattle.cds_stamps.specs.declared.alloc_or.AllocOr.TheVariants.{Fault, OutOfMemory}
use Rattle.cds_stamps.specs.declared.names.NameFault.TheVariants.{Empty, BadOctet, ComponentTooLong}
use Rattle.cds_stamps.specs.declared.names.AttrFault.TheVariants.{BadAttr}
use Rattle.cds_stamps.specs.declared.stamp.Stamp.{Stamp}
use Rattle.cds_stamps.specs.Semilattice.{greater, maybe, join_of}
use Rattle.cds_stamps.specs.Joins.{by_key}
use Rattle.cds_stamps.specs.Stamps.{stamp_cmp, is_earlier, is_up_to, later_stamp, earlier_stamp, next_stamp, last_time}
use Rattle.cds_stamps.specs.Octets.{octets_cmp, is_octets}
use Rattle.cds_stamps.specs.Names.{simple_name_fault, attr_fault}
use Rattle.cds_stamps.specs.Outcomes.{ok_unless, Answers}
use Rattle.cds_stamps.specs.Undos.{back_at, put_back}
use Rattle.cds_stamps.specs.declared.members.MemberKind.{MemberKind}
use Rattle.cds_stamps.specs.declared.members.MemberKind.TheVariants.{Master, ReadOnly, Secondary}
use Rattle.cds_stamps.specs.declared.members.MembersFault.TheVariants.{BadCount, NotAscending, BadMaster}
use Rattle.cds_stamps.specs.Members.{Member, is_accepting, master_of, members_fault, place_of, secondaries_of}

-- the stamp of a time and a node
abbrev at : ℕ → ℕ → Stamp
at t n = record { time = t; node = n }

-- the greater of two, of which either may be missing, and of what a list has
greater_of_two : greater nat_cmp 3 5 ≡ 5
greater_of_two = refl

one_missing : maybe (greater nat_cmp) (Some 3) None ≡ Some 3
one_missing = refl

greatest_of_list : join_of (greater nat_cmp) (λ x. Some x) (3 ∷ 5 ∷ 4 ∷ []) ≡ Some 5
greatest_of_list = refl

-- what is joined by its key: the pair of the greater key whole, and pairs of one key by their sum
by_keys : by_key {E = ℕ × ℕ} (λ p. p.0) nat_cmp (λ p q. (p.0, p.1 + q.1)) (1, 7) (2, 3) ≡ (2, 3)
by_keys = refl

by_one_key : by_key {E = ℕ × ℕ} (λ p. p.0) nat_cmp (λ p q. (p.0, p.1 + q.1)) (2, 7) (2, 3) ≡ (2, 10)
by_one_key = refl

-- time goes before node
time_first : stamp_cmp (at 1 9) (at 2 3) ≡ Less
time_first = refl

node_second : stamp_cmp (at 2 9) (at 2 3) ≡ Greater
node_second = refl

later : later_stamp (at 1 9) (at 2 3) ≡ at 2 3
later = refl

earlier : earlier_stamp (at 1 9) (at 2 3) ≡ at 1 9
earlier = refl

up_to_itself : is_up_to (at 2 3) (at 2 3) ≡ true
up_to_itself = refl

not_before_itself : is_earlier (at 2 3) (at 2 3) ≡ false
not_before_itself = refl

-- the clock where it is ahead, the floor and one more where it is not, and nothing after the last
-- time
by_clock : next_stamp 100 7 3 ≡ Some (at 100 3)
by_clock = refl

by_floor : next_stamp 100 100 3 ≡ Some (at 101 3)
by_floor = refl

spent : next_stamp 0 last_time 3 ≡ None
spent = refl

-- a proper prefix comes first
prefix_first : octets_cmp (codes "lp") (codes "lpr") ≡ Less
prefix_first = refl

other_octet : is_octets (codes "lpr") (codes "lpq") ≡ false
other_octet = refl

no_name : simple_name_fault [] ≡ Some (Empty 1)
no_name = refl

slash_in_name : simple_name_fault (codes "a/b") ≡ Some (BadOctet 2)
slash_in_name = refl

longest_name : simple_name_fault (replicate 254 97) ≡ None
longest_name = refl

longer_name : simple_name_fault (replicate 255 97) ≡ Some (ComponentTooLong 255)
longer_name = refl

no_attribute : attr_fault [] ≡ Some (BadAttr 1)
no_attribute = refl

dash_in_attribute : attr_fault (codes "A-b") ≡ Some (BadAttr 2)
dash_in_attribute = refl

longer_attribute : attr_fault (replicate 32 65) ≡ Some (BadAttr 32)
longer_attribute = refl

-- a fault answers what was expected, and out of memory anything
fault_answers : Answers {T = ℕ} {E = ℕ} (Err (Fault 7)) (ok_unless (Some 7) 1)
fault_answers = refl

no_memory_answers : Answers {T = ℕ} {E = ℕ} (Err OutOfMemory) (ok_unless None 1)
no_memory_answers = tt

-- a log that put 8 in the place of 5 at key 2, and then made key 3 new
replaced : back_at {U = ℕ} nat_cmp put_back ((2, Some 5) ∷ (3, None) ∷ []) 2 (Some 8) ≡ Some 5
replaced = refl

made_new : back_at {U = ℕ} nat_cmp put_back ((2, Some 5) ∷ (3, None) ∷ []) 3 (Some 9) ≡ None
made_new = refl

untouched : back_at {U = ℕ} nat_cmp put_back ((2, Some 5) ∷ (3, None) ∷ []) 4 (Some 9) ≡ Some 9
untouched = refl

-- a member of this number, and lists by their faults
abbrev listed : ℕ → MemberKind → Member
listed house kind = record { house = house; since = 1; kind = kind }

lawful_members : members_fault (listed 1 ReadOnly ∷ listed 2 Master ∷ []) ≡ None
lawful_members = refl

no_members : members_fault [] ≡ Some BadCount
no_members = refl

house_twice : members_fault (listed 1 Master ∷ listed 1 Master ∷ []) ≡ Some (NotAscending 2)
house_twice = refl

two_masters : members_fault (listed 1 Master ∷ listed 2 Master ∷ []) ≡ Some BadMaster
two_masters = refl

-- one list of each kind: who is its master, who is secondary, and who accepts updates
abbrev each_kind : List Member
each_kind = listed 1 Secondary ∷ listed 2 ReadOnly ∷ listed 3 Master ∷ listed 4 Secondary ∷ []

lawful_kinds : members_fault each_kind ≡ None
lawful_kinds = refl

secondaries_alone : members_fault (listed 1 Secondary ∷ listed 2 Secondary ∷ []) ≡ Some BadMaster
secondaries_alone = refl

master_among : master_of each_kind ≡ 3
master_among = refl

secondaries_among : secondaries_of each_kind ≡ 1 ∷ 4 ∷ []
secondaries_among = refl

accepting_among : map (λ x. is_accepting x each_kind) (1 ∷ 2 ∷ 3 ∷ 4 ∷ 5 ∷ []) ≡ true ∷ false ∷ true ∷ true ∷ false ∷ []
accepting_among = refl

second_place : place_of 2 (listed 1 ReadOnly ∷ listed 2 Master ∷ []) ≡ Some 1
second_place = refl

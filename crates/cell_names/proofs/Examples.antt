-- The definitions at single octets, by computing.
use Rattle.std.proofs.Common.{◌≡◌, true, [], ◌∷◌, refl}
use Rattle.std.specs.Prelude.{Some, None, codes, replicate, ◌++◌}
use Rattle.cds_stamps.specs.declared.names.NameFault.TheVariants.{Empty, BadOctet, ComponentTooLong, NotLocal}
use Rattle.cell_names.specs.declared.pointer.ChildFault.TheVariants.{BadChild}
use Rattle.std.specs.List.{range_with_len}
use Rattle.cell_names.specs.declared.full_name.SpliceFault.TheVariants.{NameTooLong as SplicedTooLong}
use Rattle.cell_names.specs.declared.houses.HousesFault.TheVariants.{BadHouses}
use Rattle.cell_names.specs.FullNames.{full_name_octets, components_of, name_fault, splice_fault, is_full_name}
use Rattle.cell_names.specs.Houses.{count_in_order, list_fault}
use Rattle.cell_names.specs.ChildPointers.{pointer_octets, pointer_fault, pointer_of}

-- a name of two components, and the root
spelled : full_name_octets (codes "sub" ∷ codes "e" ∷ []) ≡ codes "/.:/sub/e"
spelled = refl

parted : components_of (codes "/.:/sub/e") ≡ codes "sub" ∷ codes "e" ∷ []
parted = refl

root_of_cell : is_full_name (codes "/.:") ≡ true
root_of_cell = refl

-- a component ends before it begins
empty_component : name_fault (codes "/.:/a//b") ≡ Some (Empty 7)
empty_component = refl

-- a slash and nothing after it
nothing_behind : name_fault (codes "/.:/") ≡ Some (Empty 5)
nothing_behind = refl

blank_octet : name_fault (codes "/.:/a b") ≡ Some (BadOctet 6)
blank_octet = refl

other_cell : name_fault (codes "/.:x") ≡ Some NotLocal
other_cell = refl

long_component : name_fault (codes "/.:/" ++ replicate 255 97) ≡ Some (ComponentTooLong 259)
long_component = refl

-- directory 258 at houses 3 (the master), 1 and 2
three_houses : pointer_octets (record { dir = 258; master = 3; others = 1 ∷ 2 ∷ [] }) ≡ 0 ∷ 0 ∷ 1 ∷ 2 ∷ 3 ∷ 3 ∷ 1 ∷ 2 ∷ []
three_houses = refl

three_houses_read : pointer_of (0 ∷ 0 ∷ 1 ∷ 2 ∷ 3 ∷ 3 ∷ 1 ∷ 2 ∷ []) ≡ Some (record { dir = 258; master = 3; others = 1 ∷ 2 ∷ [] })
three_houses_read = refl

-- after the master 2, houses 1 and 3 are in order
two_in_order : count_in_order 2 0 (1 ∷ 3 ∷ 2 ∷ 4 ∷ []) ≡ 2
two_in_order = refl

-- too early an end, a second mention of the master, houses that do not ascend, an octet too many
cut_off : pointer_fault (0 ∷ 0 ∷ 0 ∷ 1 ∷ 2 ∷ 1 ∷ []) ≡ Some (BadChild 7)
cut_off = refl

master_twice : pointer_fault (0 ∷ 0 ∷ 0 ∷ 1 ∷ 3 ∷ 2 ∷ 1 ∷ 2 ∷ []) ≡ Some (BadChild 8)
master_twice = refl

not_ascending : pointer_fault (0 ∷ 0 ∷ 0 ∷ 1 ∷ 3 ∷ 9 ∷ 2 ∷ 2 ∷ []) ≡ Some (BadChild 8)
not_ascending = refl

one_too_many : pointer_fault (0 ∷ 0 ∷ 0 ∷ 1 ∷ 1 ∷ 9 ∷ 2 ∷ []) ≡ Some (BadChild 7)
one_too_many = refl

no_house : pointer_fault (0 ∷ 0 ∷ 0 ∷ 1 ∷ 0 ∷ []) ≡ Some (BadChild 5)
no_house = refl

-- four components of 254 octets and their slashes are 1,023 octets with the root, and one octet
-- more is too many
longest_spliced : splice_fault (replicate 254 97 ∷ replicate 254 97 ∷ replicate 254 97 ∷ replicate 254 97 ∷ []) ≡ None
longest_spliced = refl

longer_spliced : splice_fault (codes "b" ∷ replicate 254 97 ∷ replicate 254 97 ∷ replicate 254 97 ∷ replicate 254 97 ∷ []) ≡ Some SplicedTooLong
longer_spliced = refl

-- a second mention of the master, houses that do not ascend, and the 64th beside the master
master_among_others : list_fault 4 (1 ∷ 3 ∷ 4 ∷ 5 ∷ []) ≡ Some (BadHouses 3)
master_among_others = refl

others_not_ascending : list_fault 9 (3 ∷ 1 ∷ []) ≡ Some (BadHouses 2)
others_not_ascending = refl

most_others : list_fault 200 (range_with_len 1 63) ≡ None
most_others = refl

one_house_more : list_fault 200 (range_with_len 1 64) ≡ Some (BadHouses 64)
one_house_more = refl

-- The members of a replica set, as the line of an epoch lists them.
use Rattle.std.specs.Prelude.{◌==◌, if◌then◌else◌, List, [], ◌∷◌}
use Rattle.cds_stamps.specs.Members.{is_secondary}
use Rattle.cds_stamps.specs.declared.members.Member.{Member}
use Rattle.cds_stamps.specs.declared.numbers.HouseNo.{HouseNo}
use Rattle.cell_script.specs.declared.lists.Listed.{Listed}

-- a member
abbrev pub listed_member : Member → Listed
listed_member m = record { house = m.house; secondary = is_secondary m.kind }

-- the members but the master, in their order
abbrev pub listed_others : (master : HouseNo) → List Member → List Listed
listed_others master [] = []
listed_others master (m ∷ ms) =
    if m.house.0 == master.0 then listed_others master ms
    else listed_member m ∷ listed_others master ms

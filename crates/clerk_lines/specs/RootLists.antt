-- Where the root directory is, by what a house answers to `status`.
use Rattle.std.specs.Prelude.{ℕ, not, ◌&&◌, if◌then◌else◌, List, [], ◌∷◌, find, filter, map, Option, Some, None, codes}
use Rattle.std.specs.Option.{option_and_then, option_map}
use Rattle.std.specs.Str.{bytes_eq}
use Rattle.cds_stamps.specs.declared.numbers.HouseNo.{HouseNo}
use Rattle.cell_names.specs.Houses.{Houses, list_fault}
use Rattle.cell_names.specs.declared.houses.HousesFault.{HousesFault}
use Rattle.cell_script.specs.Words.{house_of, serial_of}
use Rattle.tower_codec.specs.BindingReading.{cut_at_mark}
use Rattle.clerk_lines.specs.declared.status.RootList.{RootList}
use Rattle.clerk_lines.specs.declared.status.RootMember.{RootMember}

-- a member: its house, `:`, the epoch since which it is one, `:`, and `m` if it is the master
unfoldable pub member_said : List ℕ → Option RootMember
member_said w = option_and_then (λ p. option_and_then (λ q. option_map
    (λ h. record { house = h; is_master = bytes_eq q.1 (codes "m") }) (house_of p.0))
    (cut_at_mark 58 p.1)) (cut_at_mark 58 w)

-- members, a word each
unfoldable pub members_said : List (List ℕ) → Option (List RootMember)
members_said [] = Some []
members_said (w ∷ ws) =
    option_and_then (λ m. option_map (λ ms. m ∷ ms) (members_said ws)) (member_said w)

-- a directory is at these houses, unless they are none of a directory
abbrev pub houses_unless : Option HousesFault → Houses → Option Houses
houses_unless None houses = Some houses
houses_unless (Some fault) houses = None

-- the house of the first member that is the master
abbrev pub master_in : List RootMember → Option HouseNo
master_in ms = option_map (λ m. m.house) (find (λ m. m.is_master) ms)

-- the houses of the members that are not
abbrev pub others_in : List RootMember → List ℕ
others_in ms = map (λ o. o.house.0) (filter (λ o. not o.is_master) ms)

-- the houses of members, of which one has to be the master
abbrev pub houses_of : List RootMember → Option Houses
houses_of ms = option_and_then (λ m.
    houses_unless (list_fault m.0 (others_in ms))
    (record { master = m.0; others = others_in ms })) (master_in ms)

-- the epoch of a status, and the words of its members
abbrev pub front_said : List (List ℕ) → Option (ℕ × List (List ℕ))
front_said (ok ∷ epoch ∷ e ∷ allupto ∷ t ∷ skulk ∷ u ∷ entries ∷ n ∷ members ∷ ws) =
    if bytes_eq ok (codes "ok")
    && (bytes_eq epoch (codes "epoch") && bytes_eq members (codes "members"))
    then option_map (λ number. (number, ws)) (serial_of e) else None
front_said words = None

-- the epoch and the houses of the root directory, by the words of a status
unfoldable pub root_said : List (List ℕ) → Option RootList
root_said words = option_and_then (λ f. option_and_then (λ ms. option_map
    (λ hs. record { epoch = record { 0 = f.0 }; houses = hs }) (houses_of ms)) (members_said f.1))
    (front_said words)

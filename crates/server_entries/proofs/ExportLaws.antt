-- What is exported is read again, found and unexported.
use Rattle.std.proofs.Common.{◌≡◌, ℕ, Bool, true, false, eqb, List, [], ◌∷◌, length, Option, Some, None, refl, sym, ap, subst, ◌∙◌, lit<, arith, ⊎_elim}
use Rattle.std.specs.Prelude.{◌&&◌, if◌then◌else◌}
use Rattle.std.specs.List.{Contains, filter_map, cons_option}
use Rattle.std.specs.Option.{option_map_or}
use Rattle.std.specs.Str.{bytes_eq}
use Rattle.std.proofs.lemmas.Bool.{eq-eqb}
use Rattle.std.proofs.lemmas.Cmp.{nat_list_eq_equiv}
use Rattle.std.proofs.lemmas.Option.{same_Some}
use Rattle.tower_codec.specs.declared.binding.StringBinding.{StringBinding}
use Rattle.tower_codec.specs.declared.rpc.Interface.{Interface}
use Rattle.tower_codec.specs.declared.rpc.RpcTower.{RpcTower}
use Rattle.tower_codec.specs.Binding.{FitsBinding}
use Rattle.tower_codec.specs.Rpc.{rpc_protocol, port_protocol, port_octets, interface_floor, rpc_floors, rpc_octets, IsInterface, FitsRpc}
use Rattle.tower_codec.specs.Serving.{serves}
use Rattle.tower_codec.specs.Spelling.{FloorFits, HasSpelling}
use Rattle.tower_codec.proofs.SpellingLaws.{tower_again}
use Rattle.attr_sets.specs.Values.{value_fault}
use Rattle.cds_stamps.proofs.ListMembers.{Contains-head, Contains-tail, Contains-none, Contains-cases}
use Rattle.server_entries.specs.declared.client.Wanted.{Wanted}
use Rattle.cds_stamps.specs.Ascending.{in_ascending_order}
use Rattle.server_entries.specs.ServerTowers.{IsServerTower, rpc_tower_of}
use Rattle.server_entries.specs.Clients.{wants, is_compatible, compatible_binding, binding_to, binding_in, object_to_carry, entry_bindings, IsBindingOf}
use Rattle.server_entries.specs.Exports.{exported_tower, offers, tower_goes}
use Rattle.cds_stamps.proofs.AscendingLaws.{ascending-has, ascending-had}
use Rattle.server_entries.proofs.ServerReading.{server_again}

-- ---- the octets of an RPC tower

four_octets : (tower : RpcTower) (address : List ℕ) → length address ≡ 4 → value_fault (rpc_octets (record tower { address = address })) ≡ None
four_octets tower [] four = absurd (omega arith)
four_octets tower (a ∷ []) four = absurd (omega arith)
four_octets tower (a ∷ b ∷ []) four = absurd (omega arith)
four_octets tower (a ∷ b ∷ c ∷ []) four = absurd (omega arith)
four_octets tower (a ∷ b ∷ c ∷ d ∷ []) four = refl
four_octets tower (a ∷ b ∷ c ∷ d ∷ e ∷ address) four = absurd (omega arith)

-- they are a value
pub tower_value_fits : (tower : RpcTower) → length tower.address ≡ 4 → value_fault (rpc_octets tower) ≡ None
tower_value_fits tower four = four_octets tower tower.address four

spelling : (tower : RpcTower) → length tower.address ≡ 4 → HasSpelling (rpc_floors tower (0 ∷ 0 ∷ []))
spelling tower four =
    let first : FloorFits (interface_floor tower.interface) = record { some = lit< tt; left = lit< tt; right = lit< tt } in
    let second : FloorFits (interface_floor tower.transfer) = record { some = lit< tt; left = lit< tt; right = lit< tt } in
    let third : FloorFits (record { left = rpc_protocol tower.protseq ∷ []; right = 0 ∷ 0 ∷ [] }) =
    record { some = lit< tt; left = lit< tt; right = lit< tt } in
    let fourth : FloorFits (record { left = port_protocol tower.protseq ∷ []; right = port_octets tower.port }) =
    record { some = lit< tt; left = lit< tt; right = lit< tt } in
    let fifth : FloorFits (record { left = 9 ∷ []; right = tower.address }) = record { some = lit< tt; left = lit< tt; right = omega arith } in
    (lit< tt, (first, (second, (third, (fourth, (fifth, tt))))))

-- they are the tower
pub written_server : (tower : RpcTower) → FitsRpc tower → IsServerTower (rpc_octets tower) tower
written_server tower fits =
    let floors = rpc_floors tower (0 ∷ 0 ∷ []) in
    (floors, tower_again floors (spelling tower fits.address), (fits, (0 ∷ 0 ∷ [], refl)))

exported_fits : (interface : Interface) (binding : StringBinding) → IsInterface interface → FitsBinding binding → FitsRpc (exported_tower interface binding)
exported_fits interface binding fits bound = record {
  interface = fits;
  transfer = record { uuid = refl; major = lit< tt; minor = lit< tt };
  port = bound.port;
  address = bound.four;
}

pub exported_read : (interface : Interface) (binding : StringBinding) → IsInterface interface → FitsBinding binding
    → rpc_tower_of (rpc_octets (exported_tower interface binding)) ≡ Some (exported_tower interface binding)
exported_read interface binding fits bound =
    let tower = exported_tower interface binding in
    server_again (rpc_octets tower) tower (written_server tower (exported_fits interface binding fits bound))

-- ---- what values give

given : {X Y : Type 0} (h : X → Option Y) (xs : List X) (x : X) (y : Y) → Contains xs x → h x ≡ Some y → Contains (filter_map h xs) y
given h [] x y c is = absurd (Contains-none x c)
given {X} {Y} h (z ∷ xs) x y c is = by_case (h z) refl (given h xs x y)
  where
    by_case : (o : Option Y) → h z ≡ o → (Contains xs x → h x ≡ Some y → Contains (filter_map h xs) y) → Contains (cons_option o (filter_map h xs)) y
    by_case None at later = ⊎_elim (λ same. let never : ◌≡◌ {A = Option Y} None (Some y) = sym at ∙ ap h same ∙ is in cc) (λ there. later there is)
        (Contains-cases z xs x c)
    by_case (Some w) at later =
        ⊎_elim (λ same. let first : w ≡ y = same_Some w y (sym at ∙ ap h same ∙ is) in
        subst (Contains (w ∷ filter_map h xs)) first (Contains-head w (filter_map h xs)))
        (λ there. Contains-tail w (filter_map h xs) y (later there is)) (Contains-cases z xs x c)

-- what gave it
pub record Giver {X Y : Type 0} (h : X → Option Y) (xs : List X) (y : Y) : Type 0 where
  pub giver : X
  pub among : Contains xs giver
  pub gives : h giver ≡ Some y

giver_of : {X Y : Type 0} (h : X → Option Y) (xs : List X) (y : Y) → Contains (filter_map h xs) y → Giver h xs y
giver_of h [] y c = absurd (Contains-none y c)
giver_of {X} {Y} h (x ∷ xs) y c = by_case (h x) refl (giver_of h xs y) c
  where
    further : Giver h xs y → Giver h (x ∷ xs) y
    further g = record { giver = g.giver; among = Contains-tail x xs g.giver g.among; gives = g.gives }

    by_case : (o : Option Y) → h x ≡ o → (Contains (filter_map h xs) y → Giver h xs y) → Contains (cons_option o (filter_map h xs)) y → Giver h (x ∷ xs) y
    by_case None at later there = further (later there)
    by_case (Some w) at later there =
        ⊎_elim (λ same. record { giver = x; among = Contains-head x xs; gives = at ∙ ap (λ z. Some z) same }) (λ in_rest. further (later in_rest))
        (Contains-cases w (filter_map h xs) y there)

-- ---- bindings

passing : (wanted : Wanted) (object : List ℕ) (tower : RpcTower) → is_compatible wanted tower ≡ true
    → compatible_binding wanted object (Some tower) ≡ Some (binding_to object tower)
passing wanted object tower pass = ap (λ (b : Bool). if b then Some (binding_to object tower) else None) pass

-- a binding to a compatible server is one of the bindings of the entry
pub binding_among : (wanted : Wanted) (towers held : List (List ℕ)) (binding : StringBinding) → IsBindingOf wanted towers held binding
    → Contains (entry_bindings wanted towers held) binding
binding_among wanted towers held binding b =
    let h = binding_in wanted binding.object in
    let gives : h b.octets ≡ Some binding = ap (compatible_binding wanted binding.object) b.read ∙ passing wanted binding.object b.tower b.compatible
    ∙ ap (λ (x : StringBinding). Some x) (sym b.made) in
    let has : Contains (filter_map h (in_ascending_order towers)) binding = given h (in_ascending_order towers) b.octets binding (ascending-has towers b.octets b.among) gives in
    subst (λ (o : Option (List ℕ)). Contains (option_map_or (λ object. filter_map (binding_in wanted object) (in_ascending_order towers)) o []) binding)
    (sym b.carries) has

-- what a value gave is a binding of a compatible server
giver_serves : (wanted : Wanted) (towers held : List (List ℕ)) (binding : StringBinding) (object octets : List ℕ) → Contains towers octets
    → object_to_carry wanted.object held ≡ Some object
    → binding_in wanted object octets ≡ Some binding → IsBindingOf wanted towers held binding
giver_serves wanted towers held binding object octets among carries gives = by_tower (rpc_tower_of octets) refl gives
  where
    by_test : (tower : RpcTower) → rpc_tower_of octets ≡ Some tower → (b : Bool) → is_compatible wanted tower ≡ b
        → (if b then Some (binding_to object tower) else None) ≡ Some binding → IsBindingOf wanted towers held binding
    by_test tower read true pass found =
        let made : binding_to object tower ≡ binding = same_Some (binding_to object tower) binding found in
        let carried_is : object ≡ binding.object = ap (λ (x : StringBinding). x.object) made in
        record {
          octets = octets;
          tower = tower;
          among = among;
          read = read;
          compatible = pass;
          carries = carries ∙ ap (λ (x : List ℕ). Some x) carried_is;
          made = sym made ∙ ap (λ (x : List ℕ). binding_to x tower) carried_is;
        }
    by_test tower read false pass found = absurd cc

    by_tower : (o : Option RpcTower) → rpc_tower_of octets ≡ o → compatible_binding wanted object o ≡ Some binding → IsBindingOf wanted towers held binding
    by_tower None read found = absurd cc
    by_tower (Some tower) read found = by_test tower read (is_compatible wanted tower) refl found

-- and each binding of the entry is one to a compatible server
pub binding_serves : (wanted : Wanted) (towers held : List (List ℕ)) (binding : StringBinding) → Contains (entry_bindings wanted towers held) binding
    → IsBindingOf wanted towers held binding
binding_serves wanted towers held binding c = by_object (object_to_carry wanted.object held) refl c
  where
    by_object : (o : Option (List ℕ)) → object_to_carry wanted.object held ≡ o
        → Contains (option_map_or (λ object. filter_map (binding_in wanted object) (in_ascending_order towers)) o []) binding → IsBindingOf wanted towers held binding
    by_object None carries there = absurd (Contains-none binding there)
    by_object (Some object) carries there =
        let g = giver_of (binding_in wanted object) (in_ascending_order towers) binding there in
        giver_serves wanted towers held binding object g.giver (ascending-had towers g.giver g.among) carries g.gives

both_hold : (a b : Bool) → a ≡ true → b ≡ true → ((a && true) && b) ≡ true
both_hold a b e f = ap (λ (x : Bool). (x && true) && b) e ∙ f

-- an exported server is found by each client that it serves
pub exported_found : (wanted : Wanted) (interface : Interface) (binding : StringBinding) (object : List ℕ) (towers held : List (List ℕ))
    → IsInterface interface → FitsBinding binding
    → Contains towers (rpc_octets (exported_tower interface binding)) → serves interface wanted.interface ≡ true → wants wanted binding.protseq ≡ true
    → object_to_carry wanted.object held ≡ Some object → Contains (entry_bindings wanted towers held) (record binding { object = object })
exported_found wanted interface binding object towers held fits bound among serving wanting carries =
    let tower = exported_tower interface binding in
    binding_among wanted towers held (record binding { object = object }) (record {
      octets = rpc_octets tower;
      tower = tower;
      among = among;
      read = exported_read interface binding fits bound;
      compatible = both_hold (serves interface wanted.interface) (wants wanted binding.protseq) serving wanting;
      carries = carries;
      made = refl;
    })

-- ---- interfaces

-- an exported tower goes with its interface
pub goes : (interface : Interface) (binding : StringBinding) → IsInterface interface → FitsBinding binding
    → tower_goes (Some interface) (rpc_octets (exported_tower interface binding)) ≡ true
goes interface binding fits bound =
    let uuid : bytes_eq interface.uuid interface.uuid ≡ true = nat_list_eq_equiv.refl interface.uuid in
    let major : eqb interface.major interface.major ≡ true = eq-eqb interface.major interface.major refl in
    let minor : eqb interface.minor interface.minor ≡ true = eq-eqb interface.minor interface.minor refl in
    ap (offers (Some interface)) (exported_read interface binding fits bound) ∙ rw (uuid, major, minor) refl

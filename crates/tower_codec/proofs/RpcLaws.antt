-- What is read of an RPC tower is spelled so, and what is spelled so is read.
use Rattle.std.proofs.Common.{◌≡◌, ℕ, ◌+◌, ◌*◌, ◌/◌, ◌%◌, ◌<◌, ◌^◌, true, eqb, ◌&&◌, List, [], ◌∷◌, ◌++◌, length, get_or, take, drop, Option, Some, None}
use Rattle.std.proofs.Common.{refl, sym, ap, subst, ◌∙◌, arith, lit<}
use Rattle.std.specs.Prelude.{IfSome, slice_get}
use Rattle.std.specs.Int.{w16, to_le_bytes, to_be_bytes}
use Rattle.std.proofs.lemmas.Bool.{eqb-true, eq-eqb, and_parts}
use Rattle.std.proofs.lemmas.Option.{cond_some, same_Some}
use Rattle.std.proofs.lemmas.List.{take-append-drop, get_or-drop, length-take, length-drop}
use Rattle.uuid.specs.Parts.{swap_fields}
use Rattle.uuid.proofs.RoundTrips.{swap_twice}
use Rattle.tower_codec.specs.declared.rpc.Interface.{Interface}
use Rattle.tower_codec.specs.declared.rpc.Protseq.{Protseq}
use Rattle.tower_codec.specs.declared.rpc.Protseq.TheVariants.{Tcp, Udp}
use Rattle.tower_codec.specs.declared.rpc.RpcTower.{RpcTower}
use Rattle.tower_codec.specs.Tower.{Floor, IsTower}
use Rattle.tower_codec.specs.Spelling.{number_octets, FloorFits, HasSpelling}
use Rattle.tower_codec.specs.Rpc.{rpc_protocol, port_protocol, port_octets, interface_floor, rpc_floors, IsInterface, IsInterfaceFloor, IsPortFloor}
use Rattle.tower_codec.specs.Rpc.{FitsRpc, IsRpcTower}
use Rattle.tower_codec.specs.RpcReading.{is_interface, interface_at, protseq_at, port_at, address_at, rpc_at}
use Rattle.tower_codec.proofs.Grammar.{IsBytes, same_floor}
use Rattle.tower_codec.proofs.SpellingLaws.{towers_apart}

-- ---- Interfaces.

number_of_two : (low high : ℕ) → low < 256 → number_octets (low + 256 * high) ≡ low ∷ high ∷ []
number_of_two low high fits =
    let low_is : (low + 256 * high) % 256 ≡ low = omega arith in
    let high_is : (low + 256 * high) / 256 ≡ high = omega arith in
    rw (low_is, high_is) refl

two_of : (x : List ℕ) → length x ≡ 2 → x ≡ get_or x 0 0 ∷ get_or x 1 0 ∷ []
two_of [] len = absurd (omega arith)
two_of (a ∷ []) len = absurd (omega arith)
two_of (a ∷ b ∷ []) len = refl
two_of (a ∷ b ∷ c ∷ x) len = absurd (omega arith)

eighteen_of : (x : List ℕ) → length x ≡ 18 → x ≡ take 16 x ++ (get_or x 16 0 ∷ get_or x 17 0 ∷ [])
eighteen_of x len =
    let last : drop 16 x ≡ get_or x 16 0 ∷ get_or x 17 0 ∷ [] =
    two_of (drop 16 x) (omega (arith, length-drop 16 x)) ∙ rw (get_or-drop, get_or-drop) refl in
    sym (take-append-drop 16 x) ∙ ap (λ (y : List ℕ). take 16 x ++ y) last

-- The left part of an interface's floor, by its length and its first octet.
nineteen_of : (x : List ℕ) → length x ≡ 19 → get_or x 0 0 ≡ 13 → x ≡ 13 ∷ (take 16 (drop 1 x) ++ (get_or x 17 0 ∷ get_or x 18 0 ∷ []))
nineteen_of [] len first = absurd (omega arith)
nineteen_of (a ∷ x) len first = rw first (ap (λ (y : List ℕ). 13 ∷ y) (eighteen_of x (omega arith)))

-- What is read of the parts of a floor.
abbrev fields_of : List ℕ → List ℕ → Interface
fields_of left right = record {
  uuid = swap_fields (take 16 (drop 1 left));
  major = get_or left 17 0 + 256 * get_or left 18 0;
  minor = get_or right 0 0 + 256 * get_or right 1 0;
}

fields_found : (left right : List ℕ) → IsBytes left → IsBytes right → length left ≡ 19 → get_or left 0 0 ≡ 13 → length right ≡ 2
    → IsInterfaceFloor left right (fields_of left right)
fields_found left right left_bytes right_bytes left_len first right_len =
    let uuid = take 16 (drop 1 left) in
    let uuid_len : length uuid ≡ 16 = omega (arith, length-take 16 (drop 1 left), length-drop 1 left) in
    let major = get_or left 17 0 ∷ get_or left 18 0 ∷ [] in (
      record { uuid = refl; major = omega (arith, left_bytes 17, left_bytes 18); minor = omega (arith, right_bytes 0, right_bytes 1) },
      nineteen_of left left_len first
          ∙ ap (λ (u : List ℕ). 13 ∷ (u ++ major)) (sym (swap_twice uuid uuid_len))
          ∙ ap (λ (n : List ℕ). 13 ∷ (swap_fields (swap_fields uuid) ++ n)) (sym (number_of_two (get_or left 17 0) (get_or left 18 0) (left_bytes 17))),
      two_of right right_len ∙ sym (number_of_two (get_or right 0 0) (get_or right 1 0) (right_bytes 0)),
    )

-- A floor that is read as an interface is the floor of it.
pub interface_found : (r : Option Interface) (left right : List ℕ) → IsBytes left → IsBytes right → r ≡ interface_at left right
    → IfSome r (IsInterfaceFloor left right)
unfolding interface_at
interface_found None left right left_bytes right_bytes e = tt
interface_found (Some i) left right left_bytes right_bytes e =
    let g = cond_some (is_interface left right) (fields_of left right) i (sym e) in
    let both = and_parts (eqb (length left) 19 && eqb (get_or left 0 0) 13) (eqb (length right) 2) g.0 in
    let front = and_parts (eqb (length left) 19) (eqb (get_or left 0 0) 13) both.0 in
    subst (IsInterfaceFloor left right) g.1 (fields_found left right left_bytes right_bytes
    (eqb-true (length left) 19 front.0) (eqb-true (get_or left 0 0) 13 front.1) (eqb-true (length right) 2 both.1))

of_number : (n : ℕ) → n % 256 + 256 * (n / 256) ≡ n
of_number n = omega arith

same_interface : (a b : Interface) → a.uuid ≡ b.uuid → a.major ≡ b.major → a.minor ≡ b.minor → a ≡ b
same_interface a b uuid major minor = λ i. record { uuid = uuid i; major = major i; minor = minor i }

interface_again : (i : Interface) → IsInterface i → interface_at (interface_floor i).left (interface_floor i).right ≡ Some i
unfolding interface_at
interface_again i fits =
    let uuid : swap_fields (swap_fields i.uuid) ≡ i.uuid = swap_twice i.uuid fits.uuid in
    let major = of_number i.major in
    let minor = of_number i.minor in
    ap Some (same_interface (fields_of (interface_floor i).left (interface_floor i).right) i uuid major minor)

-- ---- Ports.

-- A floor that is read as a port is the floor of it.
pub port_found : (protseq : Protseq) (protocol high low : ℕ) → high < 256 → low < 256 → protocol ≡ port_protocol protseq
    → IsPortFloor protseq (protocol ∷ []) (high ∷ low ∷ []) (256 * high + low)
port_found protseq protocol high low high_fits low_fits e =
    let high_is : (256 * high + low) / 256 ≡ high = omega arith in
    let low_is : (256 * high + low) % 256 ≡ low = omega arith in
    (omega arith, rw e refl, rw (high_is, low_is) refl)

port_again : (protseq : Protseq) (port : ℕ) → port_at protseq (port_protocol protseq ∷ []) (port_octets port) ≡ Some port
unfolding port_at
port_again protseq port =
    let same : eqb (port_protocol protseq) (port_protocol protseq) ≡ true = eq-eqb (port_protocol protseq) (port_protocol protseq) refl in
    let port_is : 256 * (port / 256) + port % 256 ≡ port = omega arith in
    rw (same, port_is) refl

-- ---- Towers.

protseq_again : (protseq : Protseq) → protseq_at (rpc_protocol protseq ∷ []) ≡ Some protseq
unfolding protseq_at
protseq_again Tcp = refl
protseq_again Udp = refl

address_again : (address : List ℕ) → length address ≡ 4 → address_at (9 ∷ []) address ≡ Some address
unfolding address_at
address_again [] len = absurd (omega arith)
address_again (a ∷ []) len = absurd (omega arith)
address_again (a ∷ b ∷ []) len = absurd (omega arith)
address_again (a ∷ b ∷ c ∷ []) len = absurd (omega arith)
address_again (a ∷ b ∷ c ∷ d ∷ []) len = refl
address_again (a ∷ b ∷ c ∷ d ∷ e ∷ address) len = absurd (omega arith)

floors_again : (tower : RpcTower) (any : List ℕ) → IsInterface tower.interface → IsInterface tower.transfer → length tower.address ≡ 4
    → rpc_at (rpc_floors tower any) ≡ Some tower
unfolding rpc_at
floors_again tower any interface transfer address =
    rw (
      interface_again tower.interface interface,
      interface_again tower.transfer transfer,
      protseq_again tower.protseq,
      port_again tower.protseq
          tower.port,
      address_again tower.address address,
    ) refl

-- The floors of an RPC tower are read as it.
pub rpc_again : (floors : List Floor) (tower : RpcTower) → IsRpcTower floors tower → rpc_at floors ≡ Some tower
rpc_again floors tower h = ap rpc_at h.1.1 ∙ floors_again tower h.1.0 h.0.interface h.0.transfer h.0.address

-- Five floors, by their places.
pub five_floors : (floors : List Floor) (a b c d e : Floor) → length floors ≡ 5 → slice_get floors 0 ≡ Some a → slice_get floors 1 ≡ Some b
    → slice_get floors 2 ≡ Some c → slice_get floors 3 ≡ Some d → slice_get floors 4 ≡ Some e → floors ≡ a ∷ b ∷ c ∷ d ∷ e ∷ []
five_floors [] a b c d e len g h i j k = absurd (omega arith)
five_floors (v ∷ []) a b c d e len g h i j k = absurd (omega arith)
five_floors (v ∷ w ∷ []) a b c d e len g h i j k = absurd (omega arith)
five_floors (v ∷ w ∷ x ∷ []) a b c d e len g h i j k = absurd (omega arith)
five_floors (v ∷ w ∷ x ∷ y ∷ []) a b c d e len g h i j k = absurd (omega arith)
five_floors (v ∷ w ∷ x ∷ y ∷ z ∷ []) a b c d e len g h i j k = cc
five_floors (v ∷ w ∷ x ∷ y ∷ z ∷ more ∷ floors) a b c d e len g h i j k = absurd (omega arith)

-- ---- Numbers as std writes them.

-- A number of two octets, the lower one first, in two words.
pub le_octets : (n : ℕ) → n < 2 ^ 16 → to_le_bytes w16 n ≡ number_octets n
le_octets n fits = let high : n / 256 % 256 ≡ n / 256 = omega arith in rw high refl

-- A number of two octets, the higher one first, in two words.
pub be_octets : (n : ℕ) → n < 2 ^ 16 → to_be_bytes w16 n ≡ port_octets n
be_octets n fits = let high : n / 256 % 256 ≡ n / 256 = omega arith in rw high refl

-- Five floors that are the floors of one tower.
pub tower_of_floors : (floors : List Floor) (a b c d e : Floor) (tower : RpcTower) → floors ≡ a ∷ b ∷ c ∷ d ∷ e ∷ []
    → IsInterfaceFloor a.left a.right tower.interface → IsInterfaceFloor b.left b.right tower.transfer → c.left ≡ rpc_protocol tower.protseq ∷ []
    → IsPortFloor tower.protseq d.left d.right tower.port → (e.left ≡ 9 ∷ []) × (e.right ≡ tower.address) × (length tower.address ≡ 4)
    → IsRpcTower floors tower
tower_of_floors floors a b c d e tower five first second third fourth fifth =
    let a_is : a ≡ interface_floor tower.interface = same_floor a (interface_floor tower.interface) first.1 first.2 in
    let b_is : b ≡ interface_floor tower.transfer = same_floor b (interface_floor tower.transfer) second.1 second.2 in
    let c_is : c ≡ record { left = rpc_protocol tower.protseq ∷ []; right = c.right } = same_floor c
    (record { left = rpc_protocol tower.protseq ∷ []; right = c.right }) third refl in
    let d_is : d ≡ record { left = port_protocol tower.protseq ∷ []; right = port_octets tower.port } = same_floor d
    (record { left = port_protocol tower.protseq ∷ []; right = port_octets tower.port }) fourth.1 fourth.2 in
    let e_is : e ≡ record { left = 9 ∷ []; right = tower.address } = same_floor e (record { left = 9 ∷ []; right = tower.address }) fifth.0 fifth.1 in
    let all : a ∷ b ∷ c ∷ d ∷ e ∷ [] ≡ rpc_floors tower c.right = λ i. a_is i ∷ b_is i ∷ c_is i ∷ d_is i ∷ e_is i ∷ [] in
    (record { interface = first.0; transfer = second.0; port = fourth.0; address = fifth.2 }, (c.right, five ∙ all))

-- Floors are those of one RPC tower at most.
pub one_rpc_tower : (floors : List Floor) (tower other : RpcTower) → IsRpcTower floors tower → IsRpcTower floors other → tower ≡ other
one_rpc_tower floors tower other g h = same_Some tower other (sym (rpc_again floors tower g) ∙ rpc_again floors other h)

-- What is read of the octets of an RPC tower is that tower.
pub rpc_reads_back : (tower : RpcTower) (any octets : List ℕ) (floors : List Floor) → FitsRpc tower → IsTower (rpc_floors tower any) octets
    → IsTower floors octets → IsRpcTower floors tower
rpc_reads_back tower any octets floors fits written read =
    (fits, (any, (towers_apart floors (rpc_floors tower any) octets octets [] [] read written refl).0))

-- ---- Spellings.

interface_fits : (i : Interface) → FloorFits (interface_floor i)
interface_fits i = record { some = lit< tt; left = lit< tt; right = lit< tt }

-- The floors of an RPC tower have a spelling.
pub rpc_fits : (tower : RpcTower) → length tower.address ≡ 4 → HasSpelling (rpc_floors tower (0 ∷ 0 ∷ []))
rpc_fits tower four =
    let protocol : FloorFits (record { left = rpc_protocol tower.protseq ∷ []; right = 0 ∷ 0 ∷ [] }) =
    record { some = lit< tt; left = lit< tt; right = lit< tt } in
    let port : FloorFits (record { left = port_protocol tower.protseq ∷ []; right = port_octets tower.port }) =
    record { some = lit< tt; left = lit< tt; right = lit< tt } in
    let address : FloorFits (record { left = 9 ∷ []; right = tower.address }) = record { some = lit< tt; left = lit< tt; right = omega (arith, four) } in
    (lit< tt, (interface_fits tower.interface, (interface_fits tower.transfer, (protocol, (port, (address, tt))))))

-- What is read of five floors is the RPC tower of their parts.
use Rattle.std.proofs.Common.{◌≡◌, ℕ, zero, suc, ◌+◌, ◌*◌, Bool, true, false, cond, eqb, List, [], ◌∷◌, ◌++◌, length, Option, Some, None, refl, sym}
use Rattle.std.proofs.Common.{ap, subst, ◌∙◌, lit<}
use Rattle.std.specs.Prelude.{slice_get}
use Rattle.std.specs.List.{AllByRecursion}
use Rattle.std.specs.Option.{option_and_then}
use Rattle.std.proofs.lemmas.Bool.{eqb-true}
use Rattle.std.proofs.lemmas.Option.{same_Some}
use Rattle.tower_codec.specs.declared.rpc.Interface.{Interface}
use Rattle.tower_codec.specs.declared.rpc.Protseq.{Protseq}
use Rattle.tower_codec.specs.declared.rpc.Protseq.TheVariants.{Tcp, Udp}
use Rattle.tower_codec.specs.declared.rpc.RpcTower.{RpcTower}
use Rattle.tower_codec.specs.Tower.{Floor, IsNumber, IsFloor, AreFloors, IsTower}
use Rattle.tower_codec.specs.Rpc.{rpc_protocol, port_protocol, IsInterfaceFloor, IsPortFloor, IsRpcTower}
use Rattle.tower_codec.specs.RpcReading.{interface_at, protseq_at, port_at, address_at, rpc_at}
use Rattle.tower_codec.proofs.Grammar.{IsBytes, IsBytes-rest, IsBytes-tail}
use Rattle.tower_codec.proofs.RpcLaws.{interface_found, port_found, five_floors, tower_of_floors}

-- ---- steps that found something

-- what a test lets through passed it
pub guard_some : {A : Type 0} (b : Bool) (x : Option A) (y : A) → cond b x None ≡ Some y → (b ≡ true) × (x ≡ Some y)
guard_some true x y e = (refl, e)
guard_some false x y e = absurd cc

-- what a second step gave was given something by the first
pub step_some : {A B : Type 0} (o : Option A) (f : A → Option B) (y : B) → option_and_then f o ≡ Some y → (x : A) × (o ≡ Some x) × (f x ≡ Some y)
step_some None f y e = absurd cc
step_some (Some x) f y e = (x, refl, e)

-- ---- the octets of parts

IsBytes-front : (front rest : List ℕ) → IsBytes (front ++ rest) → IsBytes front
IsBytes-front [] rest bytes i = lit< tt
IsBytes-front (b ∷ front) rest bytes zero = bytes 0
IsBytes-front (b ∷ front) rest bytes (suc i) = IsBytes-front front rest (IsBytes-tail b (front ++ rest) bytes) i

number_bytes : (x : List ℕ) (n : ℕ) (rest : List ℕ) → IsBytes x → IsNumber x n rest → IsBytes rest
number_bytes [] n rest bytes h = absurd h
number_bytes (a ∷ []) n rest bytes h = absurd h
number_bytes (low ∷ high ∷ x) n rest bytes h = subst IsBytes h.3 (IsBytes-tail high x (IsBytes-tail low (high ∷ x) bytes))

-- the octets of both parts
pub record HasBytes (floor : Floor) : Type 0 where
  pub left : IsBytes floor.left
  pub right : IsBytes floor.right

floor_bytes : (x : List ℕ) (floor : Floor) (rest : List ℕ) → IsBytes x → IsFloor x floor rest → HasBytes floor × IsBytes rest
floor_bytes x floor rest bytes h =
    let left : IsBytes (floor.left ++ h.1.0) = number_bytes x (length floor.left) (floor.left ++ h.1.0) bytes h.1.1 in
    let right : IsBytes (floor.right ++ rest) = number_bytes h.1.0 (length floor.right) (floor.right ++ rest) (IsBytes-rest floor.left h.1.0 left) h.1.2 in
    (record { left = IsBytes-front floor.left h.1.0 left; right = IsBytes-front floor.right rest right }, IsBytes-rest floor.right rest right)

floors_bytes : (x : List ℕ) (floors : List Floor) (rest : List ℕ) → IsBytes x → AreFloors x floors rest → AllByRecursion HasBytes floors
floors_bytes x [] rest bytes h = tt
floors_bytes x (floor ∷ floors) rest bytes h =
    let first = floor_bytes x floor h.0 bytes h.1 in
    (first.0, floors_bytes h.0 floors rest first.1 h.2)

-- the parts of the floors of a tower of octets are octets
pub tower_bytes : (floors : List Floor) (octets : List ℕ) → IsBytes octets → IsTower floors octets → AllByRecursion HasBytes floors
tower_bytes floors octets bytes h = floors_bytes h.0 floors [] (number_bytes octets (length floors) h.0 bytes h.1) h.2

bytes_at : (floors : List Floor) (k : ℕ) (floor : Floor) → AllByRecursion HasBytes floors → slice_get floors k ≡ Some floor → HasBytes floor
bytes_at [] k floor all e = absurd cc
bytes_at (f ∷ floors) zero floor all e = let same : f ≡ floor = cc in subst HasBytes same all.0
bytes_at (f ∷ floors) (suc k) floor all e = bytes_at floors k floor all.1 e

-- ---- the parts of the five floors

protseq_is : (left : List ℕ) (protseq : Protseq) → protseq_at left ≡ Some protseq → left ≡ rpc_protocol protseq ∷ []
unfolding protseq_at
protseq_is [] protseq e = absurd cc
protseq_is (n ∷ []) protseq e = by_tests (eqb n 11) refl (eqb n 10) refl e
  where
    by_tests : (a : Bool) → eqb n 11 ≡ a → (b : Bool) → eqb n 10 ≡ b → cond a (Some Tcp) (cond b (Some Udp) None) ≡ Some protseq
        → n ∷ [] ≡ rpc_protocol protseq ∷ []
    by_tests true is b other found = let same : Tcp ≡ protseq = cc in ap (λ (k : ℕ). k ∷ []) (eqb-true n 11 is) ∙ ap (λ (p : Protseq). rpc_protocol p ∷ []) same
    by_tests false is true other found = let same : Udp ≡ protseq = cc in ap (λ (k : ℕ). k ∷ []) (eqb-true n 10 other)
        ∙ ap (λ (p : Protseq). rpc_protocol p ∷ []) same
    by_tests false is false other found = absurd cc
protseq_is (a ∷ b ∷ left) protseq e = absurd cc

port_is : (protseq : Protseq) (left right : List ℕ) (port : ℕ) → IsBytes right → port_at protseq left right ≡ Some port → IsPortFloor protseq left right port
unfolding port_at
port_is protseq [] right port bytes e = absurd cc
port_is protseq (n ∷ []) [] port bytes e = absurd cc
port_is protseq (n ∷ []) (high ∷ []) port bytes e = absurd cc
port_is protseq (n ∷ []) (high ∷ low ∷ []) port bytes e =
    let g = guard_some (eqb n (port_protocol protseq)) (Some (256 * high + low)) port e in
    let same : 256 * high + low ≡ port = let is = g.1 in cc in
    subst (IsPortFloor protseq (n ∷ []) (high ∷ low ∷ [])) same (port_found protseq n high low (bytes 0) (bytes 1) (eqb-true n (port_protocol protseq) g.0))
port_is protseq (n ∷ []) (high ∷ low ∷ more ∷ right) port bytes e = absurd cc
port_is protseq (a ∷ b ∷ left) right port bytes e = absurd cc

address_is : (left right address : List ℕ) → address_at left right ≡ Some address → (left ≡ 9 ∷ []) × (right ≡ address) × (length address ≡ 4)
unfolding address_at
address_is [] right address e = absurd cc
address_is (n ∷ []) [] address e = absurd cc
address_is (n ∷ []) (a ∷ []) address e = absurd cc
address_is (n ∷ []) (a ∷ b ∷ []) address e = absurd cc
address_is (n ∷ []) (a ∷ b ∷ c ∷ []) address e = absurd cc
address_is (n ∷ []) (a ∷ b ∷ c ∷ d ∷ []) address e =
    let g = guard_some (eqb n 9) (Some (a ∷ b ∷ c ∷ d ∷ [])) address e in
    let same : a ∷ b ∷ c ∷ d ∷ [] ≡ address = let is = g.1 in cc in
    (ap (λ (k : ℕ). k ∷ []) (eqb-true n 9 g.0), same, ap length (sym same))
address_is (n ∷ []) (a ∷ b ∷ c ∷ d ∷ more ∷ right) address e = absurd cc
address_is (m ∷ n ∷ left) right address e = absurd cc

interface_is : (left right : List ℕ) (interface : Interface) → IsBytes left → IsBytes right → interface_at left right ≡ Some interface
    → IsInterfaceFloor left right interface
interface_is left right interface left_bytes right_bytes e = interface_found (Some interface) left right left_bytes right_bytes (sym e)

-- floors that are read as an RPC tower are its floors
pub rpc_read : (floors : List Floor) (tower : RpcTower) → AllByRecursion HasBytes floors → rpc_at floors ≡ Some tower → IsRpcTower floors tower
unfolding rpc_at
rpc_read floors tower bytes e =
    let count = guard_some (eqb (length floors) 5) _ tower e in
    let first = step_some (slice_get floors 0) _ tower count.1 in
    let interface = step_some (interface_at first.0.left first.0.right) _ tower first.2 in
    let second = step_some (slice_get floors 1) _ tower interface.2 in
    let transfer = step_some (interface_at second.0.left second.0.right) _ tower second.2 in
    let third = step_some (slice_get floors 2) _ tower transfer.2 in
    let protseq = step_some (protseq_at third.0.left) _ tower third.2 in
    let fourth = step_some (slice_get floors 3) _ tower protseq.2 in
    let port = step_some (port_at protseq.0 fourth.0.left fourth.0.right) _ tower fourth.2 in
    let fifth = step_some (slice_get floors 4) _ tower port.2 in
    let address = step_some (address_at fifth.0.left fifth.0.right) _ tower fifth.2 in
    let made : RpcTower = record { interface = interface.0; transfer = transfer.0; protseq = protseq.0; port = port.0; address = address.0 } in
    let same : made ≡ tower = same_Some made tower address.2 in
    let five = five_floors floors first.0 second.0 third.0 fourth.0 fifth.0 (eqb-true (length floors) 5 count.0) first.1 second.1 third.1 fourth.1 fifth.1 in
    let one = bytes_at floors 0 first.0 bytes first.1 in
    let two = bytes_at floors 1 second.0 bytes second.1 in
    let four = bytes_at floors 3 fourth.0 bytes fourth.1 in
    subst (IsRpcTower floors) same (tower_of_floors floors first.0 second.0 third.0 fourth.0 fifth.0 made five
    (interface_is first.0.left first.0.right interface.0 one.left one.right interface.1)
    (interface_is second.0.left second.0.right transfer.0 two.left two.right transfer.1)
    (protseq_is third.0.left protseq.0 protseq.1)
    (port_is protseq.0 fourth.0.left fourth.0.right port.0 four.right port.1)
    (address_is fifth.0.left fifth.0.right address.0 address.1))

-- Reading an RPC tower floor by floor, as the private readers do (own, after C706, protocol
-- towers).
use Rattle.std.specs.Prelude.{ℕ, ◌+◌, ◌*◌, List, [], ◌∷◌, length, take, drop, slice_index, slice_get, Bool, Option, Some, None, option_and_then, ◌==◌}
use Rattle.std.specs.Prelude.{◌&&◌, if◌then◌else◌}
use Rattle.uuid.specs.Parts.{swap_fields}
use Rattle.tower_codec.specs.declared.rpc.Interface.{Interface}
use Rattle.tower_codec.specs.declared.rpc.Protseq.{Protseq}
use Rattle.tower_codec.specs.declared.rpc.Protseq.TheVariants.{Tcp, Udp}
use Rattle.tower_codec.specs.declared.rpc.RpcTower.{RpcTower}
use Rattle.tower_codec.specs.Tower.{Floor}
use Rattle.tower_codec.specs.Rpc.{port_protocol}

infixl 10 ◌>>=◌
-- The next step of a reading that has found something.
abbrev pub ◌>>=◌ : {A B : Type 0} → Option A → (A → Option B) → Option B
o >>= f = option_and_then f o

-- Whether the parts of a floor have the lengths of an interface's, and the left one its first
-- octet.
abbrev pub is_interface : List ℕ → List ℕ → Bool
is_interface left right = (length left == 19) && (slice_index left 0 == 13) && (length right == 2)

-- What the parts of a floor are read as.
unfoldable pub interface_at : List ℕ → List ℕ → Option Interface
interface_at left right =
    if is_interface left right then Some (record {
      uuid = swap_fields (take 16 (drop 1 left));
      major = slice_index left 17 + 256 * slice_index left 18;
      minor = slice_index right 0 + 256 * slice_index right 1;
    }) else None

-- The protocol sequence of the floor of the RPC protocol (own).
unfoldable pub protseq_at : List ℕ → Option Protseq
protseq_at [] = None
protseq_at (protocol ∷ []) = if protocol == 11 then Some Tcp else if protocol == 10 then Some Udp else None
protseq_at (a ∷ b ∷ left) = None

-- The port of a floor whose protocol goes with the sequence (own).
unfoldable pub port_at : Protseq → List ℕ → List ℕ → Option ℕ
port_at protseq (protocol ∷ []) (high ∷ low ∷ []) = if protocol == port_protocol protseq then Some (256 * high + low) else None
port_at protseq left right = None

-- The address of a floor (own).
unfoldable pub address_at : List ℕ → List ℕ → Option (List ℕ)
address_at (protocol ∷ []) (a ∷ b ∷ c ∷ d ∷ []) = if protocol == 9 then Some (a ∷ b ∷ c ∷ d ∷ []) else None
address_at left right = None

-- The RPC tower of five floors.
unfoldable pub rpc_at : List Floor → Option RpcTower
rpc_at floors = if length floors == 5 then (do
  first ← slice_get floors 0
  interface ← interface_at first.left first.right
  second ← slice_get floors 1
  transfer ← interface_at second.left second.right
  third ← slice_get floors 2
  protseq ← protseq_at third.left
  fourth ← slice_get floors 3
  port ← port_at protseq fourth.left fourth.right
  fifth ← slice_get floors 4
  address ← address_at fifth.left fifth.right
  Some (record { interface = interface; transfer = transfer; protseq = protseq; port = port; address = address }))
    else None

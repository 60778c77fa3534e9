-- What the definitions say of small octets and texts.
use Rattle.std.proofs.Common.{◌≡◌, [], ◌∷◌, Err, refl, lit<, inl}
use Rattle.std.specs.Prelude.{codes}
use Rattle.tower_codec.specs.declared.fault.TowerFault.TheVariants.{ShortCount, ShortLength, ShortPart, EmptyLeft}
use Rattle.tower_codec.specs.declared.fault.BindingFault.TheVariants.{BadObject, BadProtseq, BadAddress, BadEndpoint}
use Rattle.tower_codec.specs.declared.rpc.Protseq.TheVariants.{Tcp, Udp}
use Rattle.tower_codec.specs.declared.rpc.RpcTower.{RpcTower}
use Rattle.tower_codec.specs.Tower.{IsTower, IsFault}
use Rattle.tower_codec.specs.Spelling.{tower_octets}
use Rattle.tower_codec.specs.Rpc.{rpc_floors}
use Rattle.tower_codec.specs.Binding.{binding_text}
use Rattle.tower_codec.specs.BindingReading.{binding_of, object_at, protseq_at, protseq_named, endpoint_parts, address_of, octet_at, number_of, digits_of}
use Rattle.tower_codec.specs.BindingReading.{port_of, cut_at_mark}
use Rattle.std.specs.Fmt.{digits}
use Rattle.uuid.specs.Parts.{zero_bytes}
use Rattle.uuid.proofs.OnLiterals.{uuid_on_literals}

-- ---- Towers.

-- No floors: the two octets 00 00.
no_floors : IsTower [] (0 ∷ 0 ∷ [])
no_floors = ([], (lit< tt, lit< tt, refl, refl), refl)

-- One floor, 0B on the left and nothing on the right.
one_floor : IsTower (record { left = 11 ∷ []; right = [] } ∷ []) (1 ∷ 0 ∷ 1 ∷ 0 ∷ 11 ∷ 0 ∷ 0 ∷ [])
one_floor = (
  1 ∷ 0 ∷ 11 ∷ 0 ∷ 0 ∷ [],
  (lit< tt, lit< tt, refl, refl),
  ([], (lit< tt, (0 ∷ 0 ∷ [], (lit< tt, lit< tt, refl, refl), (lit< tt, lit< tt, refl, refl))), refl),
)

-- The same, as the function of the floors.
one_spelled : tower_octets (record { left = 11 ∷ []; right = [] } ∷ []) ≡ 1 ∷ 0 ∷ 1 ∷ 0 ∷ 11 ∷ 0 ∷ 0 ∷ []
one_spelled = refl

-- One octet of the count: the second is missing, at place 2.
short_count : IsFault (1 ∷ []) (ShortCount 2)
short_count = refl

-- A floor is to come, and one octet of its left length is there: the next is missing, at place 4.
short_length : IsFault (1 ∷ 0 ∷ 1 ∷ []) (ShortLength 4)
short_length = (refl, (1 ∷ [], inl ([], lit< tt, refl), lit< tt))

-- A left part of two octets is to come, and one is there.
short_part : IsFault (1 ∷ 0 ∷ 2 ∷ 0 ∷ 11 ∷ []) (ShortPart 6)
short_part = (refl, (2, 11 ∷ [], (2 ∷ 0 ∷ 11 ∷ [], (lit< tt, lit< tt, refl, refl), inl (lit< tt, ([], lit< tt, refl))), lit< tt))

-- A left length 0 is at places 3 and 4.
empty_left : IsFault (1 ∷ 0 ∷ 0 ∷ 0 ∷ []) (EmptyLeft 3)
empty_left = ([], ([], lit< tt, refl), refl)

-- ---- RPC towers.

mapper : RpcTower
mapper = record {
  interface = record {
    uuid = 0xe1 ∷ 0xaf ∷ 0x83 ∷ 0x08 ∷ 0x5d ∷ 0x1f ∷ 0x11 ∷ 0xc9 ∷ 0x91 ∷ 0xa4 ∷ 0x08 ∷ 0x00 ∷ 0x2b ∷ 0x14 ∷ 0xa0 ∷ 0xfa ∷ [];
    major = 3;
    minor = 0;
  };
  transfer = record {
    uuid = 0x8a ∷ 0x88 ∷ 0x5d ∷ 0x04 ∷ 0x1c ∷ 0xeb ∷ 0x11 ∷ 0xc9 ∷ 0x9f ∷ 0xe8 ∷ 0x08 ∷ 0x00 ∷ 0x2b ∷ 0x10 ∷ 0x48 ∷ 0x60 ∷ [];
    major = 2;
    minor = 0;
  };
  protseq = Tcp;
  port = 135;
  address = 0 ∷ 0 ∷ 0 ∷ 0 ∷ [];
}

-- The tower of the endpoint mapper, as C706 shows such towers.
mapper_octets : tower_octets (rpc_floors mapper (0 ∷ 0 ∷ [])) ≡
    0x05 ∷ 0x00 ∷ 0x13 ∷ 0x00 ∷ 0x0d ∷ 0x08 ∷ 0x83 ∷ 0xaf ∷ 0xe1 ∷ 0x1f ∷ 0x5d ∷ 0xc9 ∷ 0x11 ∷ 0x91 ∷ 0xa4 ∷ 0x08 ∷ 0x00 ∷ 0x2b ∷ 0x14 ∷ 0xa0 ∷ 0xfa
    ∷ 0x03 ∷ 0x00 ∷ 0x02 ∷ 0x00 ∷ 0x00 ∷ 0x00
    ∷ 0x13 ∷ 0x00 ∷ 0x0d ∷ 0x04 ∷ 0x5d ∷ 0x88 ∷ 0x8a ∷ 0xeb ∷ 0x1c ∷ 0xc9 ∷ 0x11 ∷ 0x9f ∷ 0xe8 ∷ 0x08 ∷ 0x00 ∷ 0x2b ∷ 0x10 ∷ 0x48 ∷ 0x60 ∷ 0x02 ∷ 0x00
    ∷ 0x02 ∷ 0x00 ∷ 0x00 ∷ 0x00
    ∷ 0x01 ∷ 0x00 ∷ 0x0b ∷ 0x02 ∷ 0x00 ∷ 0x00 ∷ 0x00 ∷ 0x01 ∷ 0x00 ∷ 0x07 ∷ 0x02 ∷ 0x00 ∷ 0x00 ∷ 0x87 ∷ 0x01 ∷ 0x00 ∷ 0x09 ∷ 0x04 ∷ 0x00 ∷ 0x00 ∷ 0x00
    ∷ 0x00 ∷ 0x00 ∷ []
unfolding mapper
mapper_octets = refl

-- ---- String bindings.

-- A nil object and port 0 have no part.
bare_printed : binding_text (record { object = zero_bytes; protseq = Tcp; address = 10 ∷ 0 ∷ 0 ∷ 3 ∷ []; port = 0 }) ≡ codes "ncacn_ip_tcp:10.0.0.3"
unfolding digits
bare_printed = refl

-- The endpoint is in brackets.
port_printed : binding_text (record { object = zero_bytes; protseq = Udp; address = 10 ∷ 0 ∷ 0 ∷ 1 ∷ []; port = 1026 }) ≡ codes "ncadg_ip_udp:10.0.0.1[1026]"
unfolding digits
port_printed = refl

-- The faults, from the left.
faults :
    (binding_of (codes "1@ncacn_ip_tcp:1.2.3.4") ≡ Err BadObject)
    × (binding_of (codes "ncacn_np:1.2.3.4") ≡ Err BadProtseq)
    × (binding_of (codes "ncacn_ip_tcp:1.2.3.04") ≡ Err BadAddress)
    × (binding_of (codes "ncacn_ip_tcp:1.2.3.4[5]x") ≡ Err BadEndpoint)
unfolding binding_of object_at protseq_at protseq_named endpoint_parts address_of octet_at number_of digits_of port_of cut_at_mark uuid_on_literals
faults = (refl, refl, refl, refl)

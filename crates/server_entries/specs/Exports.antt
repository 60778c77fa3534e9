-- Which updates export a server and unexport it.
use Rattle.std.specs.Prelude.{ℕ, Bool, ◌&&◌, ◌==◌, false, List, ◌++◌, map, length, filter, Option, Some, None, codes, if◌then◌else◌}
use Rattle.std.specs.List.{list_any}
use Rattle.std.specs.Str.{bytes_eq}
use Rattle.cds_stamps.specs.Ascending.{in_ascending_order}
use Rattle.tower_codec.specs.declared.binding.StringBinding.{StringBinding}
use Rattle.tower_codec.specs.declared.rpc.Interface.{Interface}
use Rattle.tower_codec.specs.declared.rpc.RpcTower.{RpcTower}
use Rattle.tower_codec.specs.Rpc.{rpc_octets}
use Rattle.tower_codec.specs.Serving.{same_interface}
use Rattle.directory.specs.Updates.{Change, Add, Remove}
use Rattle.directory.specs.EntryChanges.{creation}
use Rattle.server_entries.specs.declared.exports.ExportFault.{ExportFault}
use Rattle.server_entries.specs.declared.exports.ExportFault.TheVariants.{NothingToExport, NothingToUnexport}
use Rattle.server_entries.specs.ServerTowers.{rpc_tower_of}
use Rattle.server_entries.specs.Clients.{ndr_syntax}

-- The attributes of a server's towers and objects (C706, name service attributes).
abbrev pub tower_attribute : List ℕ
tower_attribute = codes "CDS_Towers"

-- The attribute of a server's objects (C706, name service attributes).
abbrev pub object_attribute : List ℕ
object_attribute = codes "RPC_ObjectUUIDs"

-- The tower of a server of the interface at a binding: its transfer syntax is NDR (C706, exporting
-- servers).
abbrev pub exported_tower : Interface → StringBinding → RpcTower
exported_tower interface binding =
    record { interface = interface; transfer = ndr_syntax; protseq = binding.protseq; port = binding.port; address = binding.address }

-- The entry of this name gets the tower of a server of the interface at a binding (C706, exporting
-- servers).
abbrev pub tower_added : List ℕ → Interface → StringBinding → Change
tower_added name interface binding = Add name tower_attribute (rpc_octets (exported_tower interface binding))

-- The entry of this name gets an object (C706, exporting servers).
abbrev pub object_added : List ℕ → List ℕ → Change
object_added name object = Add name object_attribute object

-- An export: the entry is made where it is absent, and gets the towers and then the objects (own,
-- after C706, exporting servers).
abbrev pub export_changes : List ℕ → Bool → Interface → List StringBinding → List (List ℕ) → List Change
export_changes name absent interface bindings objects =
    creation name absent ++ map (tower_added name interface) bindings ++ map (object_added name) objects

-- With no binding and no object there is nothing to export.
abbrev pub export_fault : List StringBinding → List (List ℕ) → Option ExportFault
export_fault bindings objects = if (length bindings == 0) && (length objects == 0) then Some NothingToExport else None

-- The tower, if it is that of an RPC server, offers the interface, if there is one.
abbrev pub offers : Option Interface → Option RpcTower → Bool
offers None tower = false
offers (Some interface) None = false
offers (Some interface) (Some tower) = same_interface tower.interface interface

-- A value of `CDS_Towers` goes with the interface, and one of `RPC_ObjectUUIDs` with the objects
-- (C706, unexporting servers).
abbrev pub tower_goes : Option Interface → List ℕ → Bool
tower_goes interface octets = offers interface (rpc_tower_of octets)

-- A value of `RPC_ObjectUUIDs` goes if it is one of the objects (C706, unexporting servers).
abbrev pub object_goes : List (List ℕ) → List ℕ → Bool
object_goes objects octets = list_any (λ object. bytes_eq object octets) objects

-- An unexport: the values that go are removed, the towers first, each in ascending order and once
-- (own, after C706, unexporting servers).
abbrev pub unexport_changes : List ℕ → (towers held : List (List ℕ)) → Option Interface → List (List ℕ) → List Change
unexport_changes name towers held interface objects =
    map (Remove name tower_attribute) (in_ascending_order (filter (tower_goes interface) towers))
    ++ map (Remove name object_attribute) (in_ascending_order (filter (object_goes objects) held))

-- Where no value goes there is nothing to unexport.
abbrev pub unexport_fault : List Change → Option ExportFault
unexport_fault changes = if length changes == 0 then Some NothingToUnexport else None

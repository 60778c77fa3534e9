-- Which interfaces are the same, and which serve which.
use Rattle.std.specs.Prelude.{Bool, ◌&&◌, nat_le, ◌==◌}
use Rattle.std.specs.Str.{bytes_eq}
use Rattle.tower_codec.specs.declared.rpc.Interface.{Interface}

-- The same interface, in both parts of its version (C706, interface identifiers).
abbrev pub same_interface : Interface → Interface → Bool
same_interface a b = bytes_eq a.uuid b.uuid && (a.major == b.major) && (a.minor == b.minor)

-- What is offered serves what is wanted: the same interface and major version, and the same minor
-- version or a later one (C706, compatible interfaces).
abbrev pub serves : (offered wanted : Interface) → Bool
serves offered wanted = bytes_eq offered.uuid wanted.uuid && (offered.major == wanted.major) && nat_le wanted.minor offered.minor

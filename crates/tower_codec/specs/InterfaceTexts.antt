-- The text of an interface.
use Rattle.std.specs.Prelude.{ℕ, List, ◌∷◌, ◌++◌}
use Rattle.std.specs.Fmt.{decimal}
use Rattle.uuid.specs.Text.{hyphenated_text, lower}
use Rattle.tower_codec.specs.declared.rpc.Interface.{Interface}

-- The UUID in lower case, `:`, the major version, `.` and the minor version.
abbrev pub interface_text : Interface → List ℕ
interface_text interface =
    hyphenated_text lower interface.uuid ++ (58 ∷ (decimal interface.major ++ (46 ∷ decimal interface.minor)))

-- What a word of the list of an epoch says.
use Rattle.std.specs.Prelude.{ℕ, Bool, if◌then◌else◌, List, [], ◌∷◌, Some, None, Option, codes}
use Rattle.std.specs.Str.{bytes_eq}
use Rattle.cds_stamps.specs.declared.members.Member.{Member}
use Rattle.cds_stamps.specs.declared.members.MemberKind.{MemberKind}
use Rattle.cds_stamps.specs.declared.members.MemberKind.TheVariants.{Master, ReadOnly, Secondary}
use Rattle.tower_codec.specs.BindingReading.{cut_at_mark}
use Rattle.cell_script.specs.Words.{house_of, serial_of}
use Rattle.cell_script.specs.NameService.{◌>>=◌}

-- the kind of a member by its letter
unfoldable pub kind_of : List ℕ → Option MemberKind
kind_of w =
    if bytes_eq w (codes "m") then Some Master
    else (if bytes_eq w (codes "s") then Some Secondary
    else (if bytes_eq w (codes "r") then Some ReadOnly else None))

-- a member: its house, `:`, the epoch since which it is one, `:` and its kind
unfoldable pub member_of : List ℕ → Option Member
member_of w = do
  parts ← cut_at_mark 58 w
  later ← cut_at_mark 58 parts.1
  house ← house_of parts.0
  since ← serial_of later.0
  kind ← kind_of later.1
  Some (record { house = house; since = record { 0 = since }; kind = kind })

-- the word between the members and the houses that leave
abbrev pub is_dash : List ℕ → Bool
is_dash w = bytes_eq w (codes "-")

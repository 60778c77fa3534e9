-- The numbers of members' kinds: a master is 1, a read-only house 2, a secondary one 3.
use Rattle.std.specs.Prelude.{◌≡◌, ℕ, ◌==◌, if◌then◌else◌, refl}
use Rattle.cds_stamps.specs.declared.members.MemberKind.{MemberKind}
use Rattle.cds_stamps.specs.declared.members.MemberKind.TheVariants.{Master, ReadOnly, Secondary}

-- the kind of a number
abbrev pub kind_in : ℕ → MemberKind
kind_in kind = if kind == 1 then Master else (if kind == 2 then ReadOnly else Secondary)

-- the number of a kind
abbrev pub kind_number : MemberKind → ℕ
kind_number Master = 1
kind_number ReadOnly = 2
kind_number Secondary = 3

-- the kind of its number (proof)
pub kind_back : (k : MemberKind) → kind_in (kind_number k) ≡ k
kind_back Master = refl
kind_back ReadOnly = refl
kind_back Secondary = refl

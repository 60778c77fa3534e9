-- What a single word of an inquiry says, where no command of a script has such words.
use Rattle.std.specs.Prelude.{ℕ, if◌then◌else◌, List, Option, Some, None, codes}
use Rattle.std.specs.Str.{bytes_eq}
use Rattle.cell_script.specs.Words.{number_to}
use Rattle.ns_inquire.specs.declared.version.Version.{Version}
use Rattle.ns_inquire.specs.declared.version.Version.TheVariants as version
use Rattle.inquire_forms.specs.declared.inquire_words.ListKind.{ListKind}
use Rattle.inquire_forms.specs.declared.inquire_words.ListKind.TheVariants as kind

-- which elements are listed: all, the default ones, or those by an interface, by a member or by
-- both (own, after C706, inquiry of profile elements)
abbrev pub kind_of : List ℕ → Option ListKind
kind_of w =
    if bytes_eq w (codes "all") then Some kind.All
    else (if bytes_eq w (codes "default") then Some kind.Default
    else (if bytes_eq w (codes "byif") then Some kind.ByIf
    else (if bytes_eq w (codes "bymbr") then Some kind.ByMbr
    else (if bytes_eq w (codes "byboth") then Some kind.ByBoth else None))))

-- the versions that are meant (own, after C706, versions of an inquiry)
abbrev pub version_of : List ℕ → Option Version
version_of w =
    if bytes_eq w (codes "all") then Some version.All
    else (if bytes_eq w (codes "compatible") then Some version.Compatible
    else (if bytes_eq w (codes "exact") then Some version.Exact
    else (if bytes_eq w (codes "major_only") then Some version.MajorOnly
    else (if bytes_eq w (codes "upto") then Some version.Upto else None))))

-- the greatest number of bindings that a batch can have, which has 16 bits
abbrev pub most_bindings : ℕ
most_bindings = 65535

-- how many bindings a batch has at most
abbrev pub most_of : List ℕ → Option ℕ
most_of = number_to most_bindings

-- a word that has to be this one, and says nothing else
abbrev pub only_of : (wanted word : List ℕ) → Option (Unit {0})
only_of wanted word = if bytes_eq word wanted then Some tt else None

-- the word for no interface or no member
abbrev pub none_of : List ℕ → Option (Unit {0})
none_of = only_of (codes "-")

-- the word for versions where no interface is given
abbrev pub all_of : List ℕ → Option (Unit {0})
all_of = only_of (codes "all")

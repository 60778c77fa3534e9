-- What a line of the form `inquire` says: a line of a script, or one of four inquiries.
use Rattle.std.specs.Prelude.{ℕ, ◌≤◌, false, if◌then◌else◌, List, [], ◌∷◌, Option, Result, Ok, codes}
use Rattle.std.specs.Result.{result_err, result_map_both}
use Rattle.std.specs.Str.{bytes_eq}
use Rattle.cell_script.specs.declared.fault.ParseFault.{ParseFault}
use Rattle.cell_script.specs.Words.{confidence_of, full_name_of, house_of}
use Rattle.cell_script.specs.NameService.{interface_of, object_of, protocols_of}
use Rattle.cell_script.specs.WordForms.{◌>>=◌, Builds, Form, One, Words, build_words, check_count, take_words}
use Rattle.cell_script.specs.CommandRows.{RowOf, said_among, early_among, line_in, fault_in, said_by, early_by}
use Rattle.ns_inquire.specs.declared.inquiry.Inquiry.{Inquiry}
use Rattle.ns_inquire.specs.declared.inquiry.Inquiry.TheVariants as inquiry
use Rattle.inquire_forms.specs.declared.inquire_words.ListKind.{ListKind}
use Rattle.inquire_forms.specs.declared.inquire_words.ListKind.TheVariants as kind
use Rattle.inquire_forms.specs.declared.inquire_line.InquireLine.{InquireLine}
use Rattle.inquire_forms.specs.declared.inquire_line.InquireLine.TheVariants as line
use Rattle.inquire_forms.specs.InquireWords.{kind_of, version_of, most_of, none_of, all_of}

-- ---- inquiries word by word

-- which elements are asked for, by their kind: an interface, its versions and a member, each where
-- the kind has it (own, after C706, inquiry of profile elements)
abbrev pub inquiry_said : ListKind → Words → Result Inquiry ParseFault
inquiry_said kind.All = build_words (One none_of ∷ One all_of ∷ One none_of ∷ []) (λ i v m. inquiry.AllElements)
inquiry_said kind.Default = build_words (One none_of ∷ One all_of ∷ One none_of ∷ []) (λ i v m. inquiry.Default)
inquiry_said kind.ByIf = build_words (One interface_of ∷ One version_of ∷ One none_of ∷ []) (λ i v m. inquiry.ByInterface i v)
inquiry_said kind.ByMbr = build_words (One none_of ∷ One all_of ∷ One full_name_of ∷ []) (λ i v m. inquiry.ByMember m)
inquiry_said kind.ByBoth = build_words (One interface_of ∷ One version_of ∷ One full_name_of ∷ []) inquiry.ByBoth

-- which elements are asked for, by four words: their kind, and what follows it
unfoldable pub elements_said : Words → Result Inquiry ParseFault
elements_said s = take_words (One kind_of) s >>= λ k. inquiry_said k.0 k.1

-- there are seven words after the first one
abbrev pub seven : Words → Result (Unit {0}) ParseFault
seven = check_count false 7

-- the elements of a profile that are asked for (own, after C706, inquiry of profile elements)
unfoldable pub proflist_said : Words → Result InquireLine ParseFault
proflist_said s = seven s >>= λ _. (do
  h ← take_words (One house_of) s
  c ← take_words (One confidence_of) h.1
  n ← take_words (One full_name_of) c.1
  i ← elements_said n.1
  Ok (line.Proflist h.0 c.0 n.0 i))

-- ---- lines

-- a house, a confidence and the name of an entry
abbrev pub about_entry : List Form
about_entry = One house_of ∷ One confidence_of ∷ One full_name_of ∷ []

-- what a look-up asks for, and its line (own, after C706, lookup of bindings)
abbrev pub about_bindings : List Form
about_bindings = One house_of ∷ One confidence_of ∷ One full_name_of ∷ One interface_of ∷ One object_of ∷ One protocols_of ∷ One most_of ∷ []

-- the line of a look-up, by what its words say
abbrev pub lookup_line : Builds about_bindings InquireLine
lookup_line h c n i o p m = line.Lookup h c n i o p.0 p.1 m

-- the members of a group, the interfaces and objects of a server, and the bindings of an import in
-- batches (own, after C706, groups and name service entries)
abbrev pub inquiry_rows : List (RowOf InquireLine)
inquiry_rows =
    record { word = codes "grouplist"; forms = about_entry; says = line.Grouplist }
    ∷ record { word = codes "entrylist"; forms = about_entry; says = line.Entrylist }
    ∷ record { word = codes "lookup"; forms = about_bindings; says = lookup_line }
    ∷ []

-- a line of a script
abbrev pub plain_said : List ℕ → Words → Result InquireLine ParseFault
plain_said w s = result_map_both line.Plain (λ e. e) (said_by w s)

-- what the words after a first word say
unfoldable pub inquired_by : List ℕ → Words → Result InquireLine ParseFault
inquired_by w s = said_among inquiry_rows (if bytes_eq w (codes "proflist") then proflist_said s else plain_said w s) w s

-- the fault of a first word that no line has, or else of a wrong number of words after it
unfoldable pub early_inquired : List ℕ → Words → Option ParseFault
early_inquired w s = early_among inquiry_rows (if bytes_eq w (codes "proflist") then result_err (seven s) else early_by w s) w s

-- a look-up asks for batches of one binding at least
abbrev pub WantsSome : InquireLine → Type 0
WantsSome (line.Lookup h high name interface object tcp udp most) = 1 ≤ most
WantsSome other = Unit {0}

-- what a line says
abbrev pub inquired_in : List (List ℕ) → Result (Option InquireLine) ParseFault
inquired_in = line_in inquired_by

-- the fault of a line that shows before any word but the first one is read
abbrev pub early_inquire_fault : List (List ℕ) → Option ParseFault
early_inquire_fault = fault_in early_inquired

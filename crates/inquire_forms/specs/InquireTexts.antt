-- The text of what inquiries are answered, a line each or several.
use Rattle.std.specs.Prelude.{ℕ, ◌+◌, if◌then◌else◌, List, [], ◌∷◌, ◌++◌, length, map, codes}
use Rattle.std.specs.List.{flat_map}
use Rattle.std.specs.Fmt.{decimal}
use Rattle.hex.specs.Hex.{encode_lower}
use Rattle.uuid.specs.Text.{hyphenated_text, lower}
use Rattle.cell_names.specs.FullNames.{full_name_octets}
use Rattle.tower_codec.specs.declared.binding.StringBinding.{StringBinding}
use Rattle.tower_codec.specs.declared.rpc.Interface.{Interface}
use Rattle.tower_codec.specs.InterfaceTexts.{interface_text}
use Rattle.ns_profiles.specs.declared.element.Element.{Element}
use Rattle.ns_inquire.specs.Inquiries.{is_default}
use Rattle.script_answers.specs.declared.answer.Answer.TheVariants as answer
use Rattle.script_answers.specs.Texts.{answer_lines, binding_line, import_end, lines_text}
use Rattle.inquire_forms.specs.Inquired.{Inquired, Plain, Members, Entries, Elements, Batches}

-- a member of a group
abbrev pub member_line : List (List ℕ) → List ℕ
member_line name = codes "member " ++ full_name_octets name

-- an interface, and an object (own, after C706, string UUIDs)
abbrev pub interface_line : Interface → List ℕ
interface_line i = codes "interface " ++ interface_text i

-- an object of a server (own, after C706, string UUIDs)
abbrev pub object_line : List ℕ → List ℕ
object_line object = codes "object " ++ hyphenated_text lower object

-- the interface of an element, or the word of default elements
abbrev pub element_interface : Element → List ℕ
element_interface e = if is_default e then codes "default" else interface_text e.interface

-- an annotation in hexadecimal digits, or the word for none
abbrev pub note_text : List ℕ → List ℕ
note_text [] = codes "-"
note_text (b ∷ bs) = encode_lower (b ∷ bs)

-- an element: its priority, its interface, its member and its annotation
abbrev pub element_said : Element → List ℕ
element_said e = decimal e.priority ++ (32 ∷ (element_interface e ++ (32 ∷ (full_name_octets e.member ++ (32 ∷ note_text e.annotation)))))

abbrev pub element_line : Element → List ℕ
element_line e = codes "element " ++ element_said e

-- a batch: how many bindings it has, and each of them
abbrev pub batch_lines : List StringBinding → List (List ℕ)
batch_lines bs = (codes "batch " ++ decimal (length bs)) ∷ map binding_line bs

-- how many bindings batches have together
abbrev pub total : List (List StringBinding) → ℕ
total [] = 0
total (bs ∷ more) = length bs + total more

-- the lines of what an answer lists, without the last one, which counts
abbrev pub listed_lines : Inquired → List (List ℕ)
listed_lines (Plain (answer.Bindings bindings)) = map binding_line bindings
listed_lines (Plain other) = []
listed_lines (Members names) = map member_line names
listed_lines (Entries interfaces objects) =
    map interface_line interfaces ++ map object_line objects
listed_lines (Elements elements) = map element_line elements
listed_lines (Batches batches) = flat_map batch_lines batches

-- how many an answer lists, all together
abbrev pub listed_count : Inquired → ℕ
listed_count (Plain (answer.Bindings bindings)) = length bindings
listed_count (Plain other) = 0
listed_count (Members names) = length names
listed_count (Entries interfaces objects) = length interfaces + length objects
listed_count (Elements elements) = length elements
listed_count (Batches batches) = total batches

-- the lines of a list, and last how many there are
abbrev pub whole_list : Inquired → List (List ℕ)
whole_list said = listed_lines said ++ import_end (listed_count said) ∷ []

-- the lines of an answer: those of a line of a script, or a list
abbrev pub inquire_lines : Inquired → List (List ℕ)
inquire_lines (Plain answer) = answer_lines answer
inquire_lines listed = whole_list listed

-- the text of the answer to the line of this number
abbrev pub inquire_text : ℕ → Inquired → List ℕ
inquire_text number said = lines_text number (inquire_lines said)

-- ---- words of any front

-- a line after a front, and several of them
abbrev pub line_after : (front said : List ℕ) → List ℕ
line_after front said = front ++ (said ++ 10 ∷ [])

abbrev pub lines_after : (front : List ℕ) → List (List ℕ) → List ℕ
lines_after front = flat_map (line_after front)

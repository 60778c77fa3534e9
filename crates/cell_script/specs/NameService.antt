-- What a single word of the commands of the name service says.
use Rattle.std.specs.Prelude.{ℕ, Bool, true, false, nat_le, ◌==◌, if◌then◌else◌, List, [], ◌∷◌, Some, None, Option, codes}
use Rattle.std.specs.List.{list_any, slice_split}
use Rattle.std.specs.Str.{bytes_eq}
use Rattle.std.specs.Option.{option_and_then, option_map}
use Rattle.std.specs.Result.{result_ok}
use Rattle.uuid.specs.Parts.{zero_bytes, is_nil_bytes}
use Rattle.uuid.specs.Text.{parsed_hyphenated}
use Rattle.tower_codec.specs.declared.rpc.Interface.{Interface}
use Rattle.tower_codec.specs.declared.binding.StringBinding.{StringBinding}
use Rattle.tower_codec.specs.BindingReading.{cut_at_mark, binding_of}
use Rattle.cell_script.specs.Words.{number_of}
use Rattle.cell_script.specs.Notes.{note_in}

-- a step of a word, and then the next one
infixl 10 ◌>>=◌
-- the next step of a word that said something so far
abbrev pub ◌>>=◌ : {A B : Type 0} → Option A → (A → Option B) → Option B
o >>= f = option_and_then f o

-- a number up to this most
abbrev pub number_within : ℕ → List ℕ → Option ℕ
number_within most w = option_and_then (λ n. if nat_le n most then Some n else None) (number_of w)

-- the word that stands for none
abbrev pub is_none_word : List ℕ → Bool
is_none_word w = bytes_eq w (codes "-")

-- ---- interfaces

-- the greatest version, which has 16 bits (own, after C706, interface versions)
abbrev pub most_version : ℕ
most_version = 65535

-- an interface: its UUID, `:`, its major version, `.` and its minor version (own, after C706,
-- interface identifiers)
unfoldable pub interface_of : List ℕ → Option Interface
interface_of w = do
  parts ← cut_at_mark 58 w
  versions ← cut_at_mark 46 parts.1
  uuid ← parsed_hyphenated parts.0
  major ← number_within most_version versions.0
  minor ← number_within most_version versions.1
  Some (record { uuid = uuid; major = major; minor = minor })

-- an interface, or this word for none of them
abbrev pub interface_unless : List ℕ → List ℕ → Option (Option Interface)
interface_unless none w = if bytes_eq w none then Some None else option_map Some (interface_of w)

-- the interface of an element, or the word of default elements
unfoldable pub element_interface_of : List ℕ → Option (Option Interface)
element_interface_of = interface_unless (codes "default")

-- an interface, or none
unfoldable pub interface_or_none_of : List ℕ → Option (Option Interface)
interface_or_none_of = interface_unless (codes "-")

-- ---- lists

-- what each text says, where all of them say something
unfoldable pub all_said : {A : Type 0} → (List ℕ → Option A) → List (List ℕ) → Option (List A)
all_said says [] = Some []
all_said says (w ∷ ws) = do
  x ← says w
  xs ← all_said says ws
  Some (x ∷ xs)

-- the texts of a word, between its commas
abbrev pub texts_of : List ℕ → List (List ℕ)
texts_of w = slice_split (λ b. b == 44) w

-- one or more texts with commas between, or the word for none
abbrev pub list_of : {A : Type 0} → (List ℕ → Option A) → List ℕ → Option (List A)
list_of says w = if is_none_word w then Some [] else all_said says (texts_of w)

-- a string binding without an object part, so that it has no `@` (own, after C706, string bindings)
unfoldable pub binding_said : List ℕ → Option StringBinding
binding_said w = if list_any (λ b. b == 64) w then None else result_ok (binding_of w)

-- an object: a UUID other than nil (own, after C706, object UUIDs)
unfoldable pub object_said : List ℕ → Option (List ℕ)
object_said w = do
  uuid ← parsed_hyphenated w
  if is_nil_bytes uuid then None else Some uuid

-- bindings, and objects
unfoldable pub bindings_of : List ℕ → Option (List StringBinding)
bindings_of = list_of binding_said

-- one or more objects with commas between, or the word for none
unfoldable pub objects_of : List ℕ → Option (List (List ℕ))
objects_of = list_of object_said

-- ---- imports

-- the object that is looked for: a UUID, or the word for none, which stands for nil
unfoldable pub object_of : List ℕ → Option (List ℕ)
object_of w = if is_none_word w then Some zero_bytes else parsed_hyphenated w

-- the protocol sequences that are looked for: whether TCP, and whether UDP. They are one of them,
-- or both in any order, so these are all such words (own, after C706, protocol sequences)
unfoldable pub protocols_of : List ℕ → Option (Bool × Bool)
protocols_of w =
    if bytes_eq w (codes "ncacn_ip_tcp") then Some (true, false)
    else (if bytes_eq w (codes "ncadg_ip_udp") then Some (false, true)
    else (if bytes_eq w (codes "ncacn_ip_tcp,ncadg_ip_udp") then Some (true, true)
    else (if bytes_eq w (codes "ncadg_ip_udp,ncacn_ip_tcp") then Some (true, true) else None)))

-- ---- elements

-- the greatest priority that can be written, which has an octet
abbrev pub most_priority : ℕ
most_priority = 255

-- a priority: a decimal number of at most the greatest
unfoldable pub priority_of : List ℕ → Option ℕ
priority_of = number_within most_priority

-- an annotation of one word, or the word for the empty one
unfoldable pub note_of : List ℕ → Option (List ℕ)
note_of w = if is_none_word w then Some [] else note_in w

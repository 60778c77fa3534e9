-- The lines of a plan, and what comes of their answers (own).
use Rattle.std.specs.Prelude.{◌≡◌, ℕ, ◌-◌, Bool, true, false, ◌||◌, nat_eq, if◌then◌else◌, List, [], ◌∷◌, ◌++◌, length, take, Option, Some, None, slice_get, codes, decimal}
use Rattle.std.specs.List.{starts_with}
use Rattle.std.specs.Option.{option_map}
use Rattle.std.specs.Str.{bytes_eq}
use Rattle.hex.specs.Hex.{encode_lower}
use Rattle.cds_base.specs.Counts.{next_count}
use Rattle.cds_stamps.specs.declared.numbers.HouseNo.{HouseNo}
use Rattle.cell_names.specs.FullNames.{full_name_octets}
use Rattle.directory.specs.Updates.{Change, Create, MakeLink, MakeChild, Delete, Add, Remove, Put, Clear, Repoint, change_of}
use Rattle.clerk_lines.specs.ClerkTexts.{say_text}
use Rattle.clerk_lines.specs.Hearings.{word_of}
use Rattle.ns_commands.specs.declared.updates.Updates.{Updates}
use Rattle.cds_clerk.specs.declared.heard.Heard.{Heard}
use Rattle.cds_clerk.specs.declared.heard.Root.TheVariants as root
use Rattle.clerk_turns.specs.declared.clerk.Clerk.{Clerk}
use Rattle.clerk_turns.specs.declared.clerk.Job.{Job}
use Rattle.clerk_turns.specs.declared.clerk.Sending.{Sending}
use Rattle.clerk_turns.specs.declared.clerk.Topic.TheVariants as topic
use Rattle.clerk_turns.specs.declared.sending.Fate.{Fate}
use Rattle.clerk_turns.specs.declared.sending.Fate.TheVariants as fate
use Rattle.clerk_turns.specs.Asking.{Asks}

-- ---- the line of an update

-- a word, a directory and a name
abbrev pub front_text : (word : List ℕ) → (dir : ℕ) → (name : List ℕ) → List ℕ
front_text word dir name = word ++ (32 ∷ (decimal dir ++ (32 ∷ name)))

-- an attribute and a value, in hexadecimal digits
abbrev pub value_text : (attr value : List ℕ) → List ℕ
value_text attr value = 32 ∷ (attr ++ (32 ∷ encode_lower value))

-- the line of a house that makes an update; no plan has a child
abbrev pub update_text : (dir : ℕ) → Change → List ℕ
update_text dir (Create n) = front_text (codes "create") dir n
update_text dir (MakeLink n target) =
    front_text (codes "link") dir n ++ (32 ∷ full_name_octets target)
update_text dir (Delete n) = front_text (codes "delete") dir n
update_text dir (Add n a v) = front_text (codes "add") dir n ++ value_text a v
update_text dir (Remove n a v) = front_text (codes "remove") dir n ++ value_text a v
update_text dir (Put n a v) = front_text (codes "put") dir n ++ value_text a v
update_text dir (Clear n a) = front_text (codes "clear") dir n ++ (32 ∷ a)
update_text dir (MakeChild n pointer) = []
update_text dir (Repoint n master others) = []

-- ---- doubt

-- a text whose last line has the word `doubt` at its end, if a line was sent of which nobody knows
-- whether it was done
abbrev pub in_doubt : (doubt : Bool) → List ℕ → List ℕ
in_doubt false text = text
in_doubt true text = take (length text - 1) text ++ (codes " doubt" ++ 10 ∷ [])

-- the last line of a command's answer
abbrev pub last_said : Job → List ℕ → List ℕ
last_said job line = in_doubt job.sending.doubt (say_text job.number line)

-- a command ends with this text
abbrev pub Ends : Clerk → (text said : List ℕ) → Clerk → Type 0
Ends c text said c' = (said ≡ text) × (c' ≡ c)

-- ---- the lines

-- no line was sent
pub record IsUnsent (s : Sending) : Type 0 where
  pub done : s.done ≡ 0
  pub list : s.list.items ≡ []
  pub tries : s.tries ≡ 0
  pub doubt : s.doubt ≡ false

-- a plan is begun: none of its lines is done
abbrev pub with_plan : Job → Updates → Job
with_plan job u = record job { sending = record job.sending { done = 0; list = u.list; dir = u.dir } }

-- the first line that is not done, if there is one
abbrev pub next_line : Sending → Option (List ℕ)
next_line s = option_map (λ u. update_text s.dir.0 (change_of u)) (slice_get s.list.items s.done)

-- that line is sent; if all are done, the answer says how many
abbrev pub SendsLine : Option (List ℕ) → Clerk → Job → HouseNo → (said : List ℕ) → Clerk → Type 0
SendsLine None c job house said c' =
    Ends c (say_text job.number (codes "ok " ++ decimal job.sending.done)) said c'
SendsLine (Some line) c job house said c' =
    Asks c job (record { house = house; line = line; topic = topic.Step house }) said c'

abbrev pub Sends : Clerk → Job → HouseNo → (said : List ℕ) → Clerk → Type 0
Sends c job house said c' = SendsLine (next_line job.sending) c job house said c'

-- ---- what a house answers to a line

-- of an update by a full name: it is done, or refused for good; or the plan is worked out again
abbrev pub fate_of_update : (last : List ℕ) → Fate
fate_of_update last =
    if starts_with nat_eq last (codes "ok") then fate.Done
    else (if bytes_eq last (codes "refused EntryExists")
    || (bytes_eq last (codes "refused NoSuchEntry")
    || (bytes_eq last (codes "refused WrongKind") || bytes_eq last (codes "refused StampsSpent")))
    then fate.Refused else fate.Again)

-- of another line: the next one is sent, or no stamp is left; or the plan is worked out again
abbrev pub fate_of_line : (last : List ℕ) → Fate
fate_of_line last =
    if starts_with nat_eq last (codes "ok") then fate.Next
    else (if bytes_eq last (codes "refused StampsSpent") then fate.Spent else fate.Again)

-- what the last line of an answer means; what is forbidden is not tried again
abbrev pub fate_of : (is_update : Bool) → (last : List ℕ) → Fate
fate_of is_update last =
    if bytes_eq last (codes "refused Forbidden") then fate.Refused
    else (if is_update then fate_of_update last else fate_of_line last)

-- why a house did not do a line, as a client hears it: what it says, if that is a refusal
abbrev pub refusal_in : (last : List ℕ) → List ℕ
refusal_in last = if bytes_eq (word_of last) (codes "refused") then last else codes "refused Down"

-- one line more is done
abbrev pub one_line_on : Job → Job
one_line_on job = record job { sending = record job.sending { done = next_count job.sending.done } }

-- nobody knows whether a line was done
abbrev pub with_doubt : Job → Job
with_doubt job = record job { sending = record job.sending { doubt = true } }

-- ---- a plan that is worked out again

-- so often a plan is worked out
abbrev pub most_tries : ℕ
most_tries = 8

-- nothing was heard
abbrev pub unheard : Heard
unheard = record { near = None; root = root.Unheard; answers = [] }

-- a command of which nothing was heard, and that is tried once more
abbrev pub again : Job → Job
again job =
    let more = record job.sending { tries = next_count job.sending.tries } in
    record job { heard = unheard; latest = None; sending = more }

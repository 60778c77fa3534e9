-- Words of contracts of the walk's parts: one component, and a walk between two of its look-ups.
use Rattle.std.specs.Prelude.{◌≡◌, ◌≢◌, ℕ, ◌+◌, ◌-◌, ◌*◌, ◌<◌, ◌≤◌, Bool, List, [], ◌∷◌, ◌++◌, length, slice_get, Option, Some, None, unwrap_or, IfSome}
use Rattle.std.specs.Option.{option_and_then}
use Rattle.cell_names.specs.ChildPointers.{Pointer, pointer_in}
use Rattle.cell_names.specs.declared.pointer.ChildPointer.{ChildPointer}
use Rattle.resolver.specs.declared.refusal.Refusal.{Refusal}
use Rattle.resolver.specs.declared.walk.End.{End}
use Rattle.resolver.specs.declared.walk.End.TheVariants as ends
use Rattle.resolver.specs.declared.walk.Move.{Move}
use Rattle.resolver.specs.declared.walk.Move.TheVariants as move
use Rattle.resolver.specs.declared.walk.Walk.{Walk}
use Rattle.resolver.specs.Readers.{Reader, Sight}
use Rattle.resolver.specs.Walks.{Walker, Step, Goes, Stops, EndsFrom, follow, most_links}
use Rattle.resolver.specs.ChangingReaders.{look_of}

-- the step that a component leads to, with this rest of the name after it
abbrev pub step_of : Reader → Walker → (rest : List (List ℕ)) → Move → Step
step_of reader w rest (move.Enter child) = Goes (record w { at = Some (pointer_in child); done = w.done + 1 })
step_of reader w rest (move.Follow target) = follow reader w.links w.came_up (target ++ rest)
step_of reader w rest (move.Stop e) = Stops e

-- what a step comes to leads to this end
abbrev pub EndsBy : Reader → (last : Bool) → Step → End → Type 0
EndsBy reader last (Goes next) e = EndsFrom reader last next e
EndsBy reader last (Stops end) e = end ≡ e

-- the last of the full names that came up
abbrev pub present_name : (first : List (List ℕ)) → (later : List (List (List ℕ))) → List (List ℕ)
present_name first later = unwrap_or (slice_get later (length later - 1)) first

-- the directory that was entered last, or else the root directory
abbrev pub current_dir : Option ChildPointer → ChildPointer → ChildPointer
current_dir entered root = unwrap_or entered root

-- the last of some octets (own)
abbrev pub last_of_octets : List ℕ → Option ℕ
last_of_octets octets = slice_get octets (length octets - 1)

-- the octet at the end of a name: the last one of its last component (own)
abbrev pub last_octet : List (List ℕ) → Option ℕ
last_octet name = option_and_then last_of_octets (slice_get name (length name - 1))

-- where a walk is
abbrev pub walker_of : Walk → Walker
walker_of w = record {
  name = present_name w.first.now w.later.items;
  at = Some (pointer_in (current_dir w.entered w.root));
  done = w.done;
  came_up = w.first.now ∷ w.later.items;
  links = length w.later.items;
}

-- where the walk of a name begins
abbrev pub first_walker : (root : Pointer) → List (List ℕ) → Walker
first_walker root name = record { name = name; at = Some root; done = 0; came_up = name ∷ []; links = 0 }

-- a component of the present name is left
abbrev pub IsAtComponent : Walk → Type 0
IsAtComponent w = w.done < length (present_name w.first.now w.later.items)

-- none is
abbrev pub IsBehindAll : Walk → Type 0
IsBehindAll w = length (present_name w.first.now w.later.items) ≤ w.done

-- this is seen of what the walk looks up next
abbrev pub Saw : Reader → Walker → Sight → Type 0
Saw reader w seen = IfSome (look_of w) (λ q. reader.sees q.0 q.1 ≡ seen)

-- a step comes to this end, or else to where the walk is then
abbrev pub come_to : Option End → Walker → Step
come_to None next = Goes next
come_to (Some e) next = Stops e

-- the step refuses nothing: the walk goes on, or finds or misses an entry
abbrev pub IsNoRefusal : Step → Type 0
IsNoRefusal t = (why : Refusal) → t ≢ Stops (ends.Refused why)

-- the walk has at most so many steps before it: 1,024 for each link that it may still follow, and
-- as many less its components that are done
abbrev pub steps_ahead : Walk → ℕ
steps_ahead w = (most_links - length w.later.items) * 1024 + (1024 - w.done)

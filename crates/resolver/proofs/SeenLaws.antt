-- What the end of a walk says of the reader.
use Rattle.std.proofs.Common.{◌≡◌, ℕ, Bool, true, false, List, [], ◌∷◌, ◌++◌, drop, refl, ap, subst}
use Rattle.std.specs.Prelude.{Option, Some, None}
use Rattle.cell_names.specs.ChildPointers.{Pointer}
use Rattle.resolver.specs.declared.refusal.Refusal.{Refusal}
use Rattle.resolver.specs.declared.walk.End.{End}
use Rattle.resolver.specs.Readers.{Reader, Sight, Unreachable, Absent, Object, Link, Child}
use Rattle.resolver.specs.Walks.{Walker, Step, Goes, Stops, link_refusal, follow_unless, at_last, at_inner, step_from, EndsFrom, stops, goes}
use Rattle.resolver.specs.SeenEnds.{entry_seen, IsSeenEnd}

-- where a step stops, what it says is what the reader tells
abbrev StopsSeen : Reader → Bool → Step → Type 0
StopsSeen reader last (Goes next) = Unit {0}
StopsSeen reader last (Stops e) = IsSeenEnd reader last e

follow_seen : (reader : Reader) (last : Bool) (o : Option Refusal) (links : ℕ) (came_up : List (List (List ℕ))) (name : List (List ℕ))
    → StopsSeen reader last (follow_unless o reader links came_up name)
follow_seen reader last (Some why) links came_up name = tt
follow_seen reader last None links came_up name = tt

last_seen : (reader : Reader) (last : Bool) (w : Walker) (p : Pointer) (c : List ℕ) (seen : Sight) → reader.sees p c ≡ seen
    → StopsSeen reader last (at_last reader last w p.dir c seen)
last_seen reader last w p c Unreachable h = tt
last_seen reader last w p c (Absent house) h = record { at = p; dir = refl; absent = h; kind = refl }
last_seen reader last w p c (Object house) h = record { at = p; dir = refl; seen = ap entry_seen h; followed = λ followed is_link. cc }
last_seen reader last w p c (Child house child) h = record { at = p; dir = refl; seen = ap entry_seen h; followed = λ followed is_link. cc }
last_seen reader true w p c (Link house target) h = follow_seen reader true (link_refusal w.links w.came_up target) w.links w.came_up target
last_seen reader false w p c (Link house target) h = record { at = p; dir = refl; seen = ap entry_seen h; followed = λ followed is_link. cc }

inner_seen : (reader : Reader) (last : Bool) (w : Walker) (dir : ℕ) (rest : List (List ℕ)) (seen : Sight)
    → StopsSeen reader last (at_inner reader w dir rest seen)
inner_seen reader last w dir rest Unreachable = tt
inner_seen reader last w dir rest (Absent house) = tt
inner_seen reader last w dir rest (Object house) = tt
inner_seen reader last w dir rest (Child house child) = tt
inner_seen reader last w dir rest (Link house target) =
    follow_seen reader last (link_refusal w.links w.came_up (target ++ rest)) w.links w.came_up (target ++ rest)

step_seen : (reader : Reader) (last : Bool) (w : Walker) (left : List (List ℕ)) (at : Option Pointer) → StopsSeen reader last (step_from reader last w left at)
step_seen reader last w [] at = tt
step_seen reader last w (c ∷ rest) None = tt
step_seen reader last w (c ∷ []) (Some p) = last_seen reader last w p c (reader.sees p c) refl
step_seen reader last w (c ∷ d ∷ rest) (Some p) = inner_seen reader last w p.dir (d ∷ rest) (reader.sees p c)

-- an end of a walk says what the reader tells
pub ends_seen : {reader : Reader} {last : Bool} {w : Walker} {e : End} → EndsFrom reader last w e → IsSeenEnd reader last e
ends_seen {reader} {last} {w} (stops h) = subst (λ (s : Step). StopsSeen reader last s) h (step_seen reader last w (drop w.done w.name) w.at)
ends_seen (goes next h r) = ends_seen r

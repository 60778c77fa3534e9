-- Proofs alone: each walk comes to an end, and to one.
use Rattle.std.specs.Prelude.{◌≡◌, ℕ, zero, suc, ◌+◌, ◌<◌, ◌≤◌, Bool, true, false, List, [], ◌∷◌, ◌++◌, length, drop, Option, Some, None, refl}
use Rattle.std.proofs.Common.{ap, sym, ◌∙◌, subst, arith, length-drop}
use Rattle.std.proofs.lemmas.List.{drop_more}
use Rattle.cell_names.specs.ChildPointers.{Pointer}
use Rattle.resolver.specs.declared.refusal.Refusal.{Refusal}
use Rattle.resolver.specs.declared.walk.End.{End}
use Rattle.resolver.specs.Readers.{Reader, Sight, Unreachable, Absent, Object, Link, Child}
use Rattle.resolver.specs.Walks.{Walker, Step, Goes, Stops, start, most_links, link_refusal, follow_unless, follow, at_last, at_inner, step_from}
use Rattle.resolver.specs.Walks.{step, EndsFrom, stops, goes, Ends}
use Rattle.resolver.specs.PassWords.{EndsBy}

-- ---- one step

apart : (w : Walker) (e : End) → Goes w ≡ Stops e → ⊥
apart w e h = cc

-- likewise, where it is known what the step comes to
pub from_step_at : {reader : Reader} {last : Bool} (w : Walker) {e : End} (s : Step) → step reader last w ≡ s → EndsBy reader last s e
    → EndsFrom reader last w e
from_step_at w (Goes next) h r = goes next h r
from_step_at w (Stops end) h r = stops (h ∙ ap Stops r)

-- wherever the step from w leads to, the walk from w comes to
pub from_step : {reader : Reader} {last : Bool} (w : Walker) {e : End} → EndsBy reader last (step reader last w) e → EndsFrom reader last w e
from_step {reader} {last} w r = from_step_at w (step reader last w) refl r

-- a walk that comes to an end comes there by its step
pub to_step : {reader : Reader} {last : Bool} {w : Walker} {e : End} (s : Step) → step reader last w ≡ s → EndsFrom reader last w e → EndsBy reader last s e
to_step (Stops end) h (stops k) = cc
to_step (Stops end) h (goes next k r) = absurd (apart next end (sym k ∙ h))
to_step {e = e} (Goes next) h (stops k) = absurd (apart next e (sym h ∙ k))
to_step {reader} {last} {w} {e} (Goes next) h (goes n k r) = let same : n ≡ next = cc in subst (λ v. EndsFrom reader last v e) same r

-- ---- one end

-- a walk has one end
pub one_end : {reader : Reader} {last : Bool} {w : Walker} {e e' : End} → EndsFrom reader last w e → EndsFrom reader last w e' → e ≡ e'
one_end {e = e} (stops h) r = to_step (Stops e) h r
one_end (goes next h q) r = one_end q (to_step (Goes next) h r)

-- ---- some end

-- a step that leads to some end
abbrev SomeEndBy : Reader → Bool → Step → Type 0
SomeEndBy reader last s = (e : End) × EndsBy reader last s e

-- a walker whose walk comes to some end
abbrev SomeEndFrom : Reader → Bool → Walker → Type 0
SomeEndFrom reader last w = (e : End) × EndsFrom reader last w e

-- what is left after the next component
pub behind : (name : List (List ℕ)) (done : ℕ) (c : List ℕ) (rest : List (List ℕ)) → drop done name ≡ c ∷ rest → drop (done + 1) name ≡ rest
behind name done c rest h =
    let within : done < length name = omega (arith, length-drop done name, ap length h) in
    let next = drop_more name done c within in
    cc

-- wherever a name is walked from the root directory with one more link followed, the walk comes to
-- an end
abbrev GoesOn : Reader → Bool → Walker → Type 0
GoesOn reader last w = (next : Walker) → w.links < most_links → next.links ≡ w.links + 1 → SomeEndFrom reader last next

-- a link that is followed was not the last that may be
pub link_is_allowed : (links : ℕ) (came_up : List (List (List ℕ))) (name : List (List ℕ)) → link_refusal links came_up name ≡ None → links < most_links
link_is_allowed links came_up name h = grind (arith, h)

follow_ends : {reader : Reader} {last : Bool} (w : Walker) → GoesOn reader last w → (name : List (List ℕ))
    → SomeEndBy reader last (follow reader w.links w.came_up name)
follow_ends {reader} {last} w on name = by_refusal (link_refusal w.links w.came_up name) refl
  where
    by_refusal : (o : Option Refusal) → link_refusal w.links w.came_up name ≡ o → SomeEndBy reader last (follow_unless o reader w.links w.came_up name)
    by_refusal (Some why) h = (_, refl)
    by_refusal None h = on _ (link_is_allowed w.links w.came_up name h) refl

last_ends : {reader : Reader} (last : Bool) (w : Walker) → GoesOn reader last w → (dir : ℕ) (c : List ℕ) (seen : Sight)
    → SomeEndBy reader last (at_last reader last w dir c seen)
last_ends last w on dir c Unreachable = (_, refl)
last_ends last w on dir c (Absent house) = (_, refl)
last_ends last w on dir c (Object house) = (_, refl)
last_ends last w on dir c (Child house child) = (_, refl)
last_ends true w on dir c (Link house target) = follow_ends w on target
last_ends false w on dir c (Link house target) = (_, refl)

inner_ends : {reader : Reader} {last : Bool} (w : Walker) → GoesOn reader last w → (dir : ℕ) (rest : List (List ℕ))
    → ((child : Pointer) → SomeEndFrom reader last (record w { at = Some child; done = w.done + 1 })) → (seen : Sight)
    → SomeEndBy reader last (at_inner reader w dir rest seen)
inner_ends w on dir rest enter Unreachable = (_, refl)
inner_ends w on dir rest enter (Absent house) = (_, refl)
inner_ends w on dir rest enter (Object house) = (_, refl)
inner_ends w on dir rest enter (Child house child) = enter child
inner_ends w on dir rest enter (Link house target) = follow_ends w on (target ++ rest)

-- a walker with this left of its name, in this directory, whose next links lead to ends
left_ends : {reader : Reader} {last : Bool} (left name : List (List ℕ)) (at : Option Pointer) (done : ℕ) (came_up : List (List (List ℕ))) (links : ℕ)
    → ((at' : Option Pointer) (done' : ℕ) → GoesOn reader last (record { name = name; at = at'; done = done'; came_up = came_up; links = links }))
    → drop done name ≡ left
    → SomeEndBy reader last (step_from reader last (record { name = name; at = at; done = done; came_up = came_up; links = links }) left at)
left_ends [] name at done came_up links on h = (_, refl)
left_ends (c ∷ rest) name None done came_up links on h = (_, refl)
left_ends {reader} {last} (c ∷ []) name (Some p) done came_up links on h =
    last_ends last (record { name = name; at = Some p; done = done; came_up = came_up; links = links }) (on (Some p) done) p.dir c (reader.sees p c)
left_ends {reader} {last} (c ∷ d ∷ rest) name (Some p) done came_up links on h =
    inner_ends (record { name = name; at = Some p; done = done; came_up = came_up; links = links }) (on (Some p) done) p.dir (d ∷ rest)
    (λ child. entered child (behind name done c (d ∷ rest) h)
    (left_ends (d ∷ rest) name (Some child) (done + 1) came_up links on (behind name done c (d ∷ rest) h))) (reader.sees p c)
  where
    entered : (child : Pointer) → drop (done + 1) name ≡ d ∷ rest
        → SomeEndBy reader last
        (step_from reader last (record { name = name; at = Some child; done = done + 1; came_up = came_up; links = links }) (d ∷ rest) (Some child))
        → SomeEndFrom reader last (record { name = name; at = Some child; done = done + 1; came_up = came_up; links = links })
    entered child k (e, r) =
        let here : Walker = record { name = name; at = Some child; done = done + 1; came_up = came_up; links = links } in
        (e, from_step here (subst (λ (l : List (List ℕ)). EndsBy reader last (step_from reader last here l (Some child)) e) (sym k) r))

-- where so many links may still be followed, the walk comes to an end
within_ends : {reader : Reader} {last : Bool} (k : ℕ) (w : Walker) → most_links ≤ w.links + k → SomeEndFrom reader last w
within_ends {reader} {last} zero w few =
    let found = left_ends (drop w.done w.name) w.name w.at w.done w.came_up w.links (λ at done next more n. absurd (none more)) refl in
    (found.0, from_step w found.1)
  where
    none : w.links < most_links → ⊥
    none more = omega (arith, few)
within_ends {reader} {last} (suc k) w few =
    let found = left_ends (drop w.done w.name) w.name w.at w.done w.came_up w.links (λ at done next more n. within_ends k next (enough next n)) refl in
    (found.0, from_step w found.1)
  where
    enough : (next : Walker) → next.links ≡ w.links + 1 → most_links ≤ next.links + k
    enough next n = omega (arith, few, n)

-- each walk comes to an end
pub some_end : (reader : Reader) (last : Bool) (name : List (List ℕ)) → (e : End) × Ends reader last name e
some_end reader last name = within_ends most_links (start reader name) (omega arith)

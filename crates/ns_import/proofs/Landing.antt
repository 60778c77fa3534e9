-- What names lead to are objects that the reader shows.
use Rattle.std.proofs.Common.{◌≡◌, ℕ, true, List, [], ◌∷◌, ◌++◌, drop, Contains, refl, subst}
use Rattle.std.specs.Prelude.{Option, Some, None}
use Rattle.std.specs.List.{filter_map}
use Rattle.std.specs.Result.{result_ok}
use Rattle.tower_codec.specs.declared.rpc.Interface.{Interface}
use Rattle.cell_names.specs.ChildPointers.{Pointer}
use Rattle.resolver.specs.declared.refusal.Refusal.{Refusal}
use Rattle.resolver.specs.declared.seen.Found.{Found}
use Rattle.resolver.specs.Readers.{Reader, Sight, Unreachable, Absent, Object, Link, Child, object_found, ShowsOnly}
use Rattle.resolver.specs.Walks.{Walker, Step, Goes, Stops, link_refusal, follow_unless, at_last, at_inner, step_from, EndsFrom, stops, goes}
use Rattle.resolver.specs.Walks.{found_of}
use Rattle.resolver.specs.WalkEnds.{end_of}
use Rattle.resolver.specs.WalkEndProofs.{some_end}
use Rattle.ns_import.specs.Imports.{same_entry, object_walked, object_of, edges, names_of}
use Rattle.ns_import.proofs.Firsts.{Within, has_from, within_found}
use Rattle.ns_import.proofs.SameEntries.{same_entry-itself, same_entry-exact}

-- each name that leads to an object leads to one of these
abbrev pub Leads : Reader → List Found → Type 0
Leads reader objects = (name : List (List ℕ)) (e : Found) → object_of reader name ≡ Some e → Contains objects e

module _ (reader : Reader) (objects : List Found) (shows : ShowsOnly reader objects) where
  -- where a step stops at an object, it is among the objects
  abbrev StopsAmong : Step → Type 0
  StopsAmong (Goes next) = Unit {0}
  StopsAmong (Stops end) = (e : Found) → result_ok (object_walked (found_of end)) ≡ Some e → Contains objects e

  follow_among : (o : Option Refusal) (links : ℕ) (came_up : List (List (List ℕ))) (name : List (List ℕ))
      → StopsAmong (follow_unless o reader links came_up name)
  follow_among (Some why) links came_up name = λ e d. absurd cc
  follow_among None links came_up name = tt

  last_among : (w : Walker) (p : Pointer) (c : List ℕ) (seen : Sight) → reader.sees p c ≡ seen → StopsAmong (at_last reader true w p.dir c seen)
  last_among w p c Unreachable h = λ e d. absurd cc
  last_among w p c (Absent house) h = λ e d. absurd cc
  last_among w p c (Object house) h = λ e d. let is : object_found p.dir house c ≡ e = cc in subst (Contains objects) is (shows p house c h)
  last_among w p c (Child house child) h = λ e d. absurd cc
  last_among w p c (Link house target) h = follow_among (link_refusal w.links w.came_up target) w.links w.came_up target

  inner_among : (w : Walker) (dir : ℕ) (rest : List (List ℕ)) (seen : Sight) → StopsAmong (at_inner reader w dir rest seen)
  inner_among w dir rest Unreachable = λ e d. absurd cc
  inner_among w dir rest (Absent house) = λ e d. absurd cc
  inner_among w dir rest (Object house) = λ e d. absurd cc
  inner_among w dir rest (Child house child) = tt
  inner_among w dir rest (Link house target) = follow_among (link_refusal w.links w.came_up (target ++ rest)) w.links w.came_up (target ++ rest)

  step_among : (w : Walker) (left : List (List ℕ)) (at : Option Pointer) → StopsAmong (step_from reader true w left at)
  step_among w [] at = λ e d. absurd cc
  step_among w (c ∷ rest) None = λ e d. absurd cc
  step_among w (c ∷ []) (Some p) = last_among w p c (reader.sees p c) refl
  step_among w (c ∷ d ∷ rest) (Some p) = inner_among w p.dir (d ∷ rest) (reader.sees p c)

  ends_among : {w : Walker} {end : _} → EndsFrom reader true w end → StopsAmong (Stops end)
  ends_among {w} (stops h) = subst (λ (s : Step). StopsAmong s) h (step_among w (drop w.done w.name) w.at)
  ends_among (goes next h on) = ends_among on

  -- a name leads to no object but those that the reader shows
  pub shown_lead : Leads reader objects
  unfolding end_of
  shown_lead name e d = ends_among (some_end reader true name).1 e d

module _ (reader : Reader) (objects : List Found) (leads : Leads reader objects) where
  -- what names lead to is among the objects
  pub names_within : (names : List (List (List ℕ))) → Within same_entry objects (filter_map (object_of reader) names)
  names_within names =
      within_found same_entry same_entry-exact (object_of reader) names objects (λ name e d. has_from same_entry same_entry-itself e objects (leads name e d))

  -- and so are the entries at which a search goes on
  pub edges_within : (wanted : Interface) (e : Found) → Within same_entry objects (edges reader wanted e)
  edges_within wanted e = names_within (names_of reader wanted e)

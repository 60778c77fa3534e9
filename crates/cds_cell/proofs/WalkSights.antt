-- What holds of each house at which something is seen holds of the house at which a walk ends.
use Rattle.std.proofs.Common.{◌≡◌, ℕ, Bool, true, false, List, [], ◌∷◌, ◌++◌, drop, refl, ap, subst}
use Rattle.std.specs.Prelude.{Option, Some, None, Ok}
use Rattle.cell_names.specs.ChildPointers.{Pointer}
use Rattle.directory.specs.declared.entry.Kind.{Kind}
use Rattle.directory.specs.declared.entry.Kind.TheVariants as kind
use Rattle.resolver.specs.declared.refusal.Refusal.{Refusal}
use Rattle.resolver.specs.declared.seen.Found.{Found}
use Rattle.resolver.specs.declared.seen.Place.{Place}
use Rattle.resolver.specs.Readers.{Absent, Child, Link, Object, Reader, Sight, Unreachable}
use Rattle.resolver.specs.Walks.{EndsFrom, Goes, Step, Stops, Walker, at_inner, at_last, follow_unless, find_step, found_of, goes, link_refusal, missing_step}
use Rattle.resolver.specs.Walks.{place_of, step_from, stops}

-- the house of a sight, and the kind of the entry there, if there is one
abbrev pub seen_there : Sight → Option (ℕ × Option Kind)
seen_there Unreachable = None
seen_there (Absent house) = Some (house, None)
seen_there (Object house) = Some (house, Some kind.Object)
seen_there (Link house target) = Some (house, Some kind.Link)
seen_there (Child house child) = Some (house, Some kind.Child)

-- Q says something of a house, a directory, a name and the kind of its entry, if there is one; it
-- holds where that is seen
module _ (reader : Reader) (Q : ℕ → ℕ → List ℕ → Option Kind → Type 0)
    (each : (at : Pointer) (n : List ℕ) (h : ℕ) (k : Option Kind) → seen_there (reader.sees at n) ≡ Some (h, k) → Q h at.dir n k) where
  -- it holds of what is found, and of the place of what is missing
  abbrev pub StopsWhere : Step → Type 0
  StopsWhere (Goes next) = Unit {0}
  StopsWhere (Stops e) =
      ((f : Found) → found_of e ≡ Ok f → Q f.house.0 f.dir.0 f.name (Some f.kind)) × ((p : Place) → place_of e ≡ Ok p → Q p.house.0 p.dir.0 p.name p.kind)

  found_stops : (d h : ℕ) (n : List ℕ) (k : Kind) → Q h d n (Some k) → StopsWhere (find_step d h n k)
  found_stops d h n k holds = (
    λ f is. let same : record { dir = record { 0 = d }; house = record { 0 = h }; name = n; kind = k } ≡ f = cc in
        subst (λ (z : Found). Q z.house.0 z.dir.0 z.name (Some z.kind)) same holds,
    λ p is. let same : record { dir = record { 0 = d }; house = record { 0 = h }; name = n; kind = Some k } ≡ p = cc in
        subst (λ (z : Place). Q z.house.0 z.dir.0 z.name z.kind) same holds,
  )

  missing_stops : (d h : ℕ) (n : List ℕ) (done : ℕ) → Q h d n None → StopsWhere (missing_step d h n done)
  missing_stops d h n done holds = (
    λ f is. absurd (cc),
    λ p is. let same : record { dir = record { 0 = d }; house = record { 0 = h }; name = n; kind = None } ≡ p = cc in
        subst (λ (z : Place). Q z.house.0 z.dir.0 z.name z.kind) same holds,
  )

  follow_stops : (o : Option Refusal) (links : ℕ) (came_up : List (List (List ℕ))) (name : List (List ℕ))
      → StopsWhere (follow_unless o reader links came_up name)
  follow_stops None links came_up name = tt
  follow_stops (Some why) links came_up name = (λ f is. absurd (cc), λ p is. absurd (cc))

  last_stops : (last : Bool) (w : Walker) (at : Pointer) (n : List ℕ) (s : Sight) → reader.sees at n ≡ s → StopsWhere (at_last reader last w at.dir n s)
  last_stops last w at n Unreachable is = (λ f is. absurd (cc), λ p is. absurd (cc))
  last_stops last w at n (Absent house) is = missing_stops at.dir house n w.done (each at n house None (ap seen_there is))
  last_stops last w at n (Object house) is = found_stops at.dir house n kind.Object (each at n house (Some kind.Object) (ap seen_there is))
  last_stops last w at n (Child house child) is = found_stops at.dir house n kind.Child (each at n house (Some kind.Child) (ap seen_there is))
  last_stops true w at n (Link house target) is = follow_stops (link_refusal w.links w.came_up target) w.links w.came_up target
  last_stops false w at n (Link house target) is = found_stops at.dir house n kind.Link (each at n house (Some kind.Link) (ap seen_there is))

  inner_stops : (w : Walker) (d : ℕ) (rest : List (List ℕ)) (s : Sight) → StopsWhere (at_inner reader w d rest s)
  inner_stops w d rest Unreachable = (λ f is. absurd (cc), λ p is. absurd (cc))
  inner_stops w d rest (Absent house) = (λ f is. absurd (cc), λ p is. absurd (cc))
  inner_stops w d rest (Object house) = (λ f is. absurd (cc), λ p is. absurd (cc))
  inner_stops w d rest (Child house child) = tt
  inner_stops w d rest (Link house target) = follow_stops (link_refusal w.links w.came_up (target ++ rest)) w.links w.came_up (target ++ rest)

  step_stops : (last : Bool) (w : Walker) (left : List (List ℕ)) (at : Option Pointer) → StopsWhere (step_from reader last w left at)
  step_stops last w [] at = (λ f is. absurd (cc), λ p is. absurd (cc))
  step_stops last w (n ∷ rest) None = (λ f is. absurd (cc), λ p is. absurd (cc))
  step_stops last w (n ∷ []) (Some p) = last_stops last w p n (reader.sees p n) refl
  step_stops last w (n ∷ m ∷ rest) (Some p) = inner_stops w p.dir (m ∷ rest) (reader.sees p n)

  -- so it holds at each end of a walk
  pub ends_where : {last : Bool} {w : Walker} {e : _} → EndsFrom reader last w e → StopsWhere (Stops e)
  ends_where {last} {w} (stops h) = subst StopsWhere h (step_stops last w (drop w.done w.name) w.at)
  ends_where (goes next h rest) = ends_where rest

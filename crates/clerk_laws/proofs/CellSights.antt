-- What a cell tells a reader is what its houses show to a clerk.
use Rattle.std.proofs.Common.{◌≡◌, ℕ, Bool, true, false, List, [], ◌∷◌, refl, sym, ap, subst, ◌∙◌, arith}
use Rattle.std.proofs.lemmas.Bool.Decides.{nat_tests}
use Rattle.std.specs.Prelude.{Option, Some, None, IfSome, is_some, is_none, not, ◌&&◌, ◌||◌, ◌==◌, if◌then◌else◌}
use Rattle.std.specs.FinMap.{get}
use Rattle.std.specs.List.{AllByRecursion, list_any}
use Rattle.std.specs.Option.{option_and_then, option_map, option_or}
use Rattle.cds_stamps.specs.Firsts.{first_some}
use Rattle.cds_stamps.specs.Members.{master_of, members_of}
use Rattle.cds_stamps.specs.declared.stamp.Stamp.{Stamp}
use Rattle.cell_model.specs.Sets.{has}
use Rattle.cell_names.specs.ChildPointers.{Pointer, pointer_of}
use Rattle.cell_names.specs.FullNames.{components_of, is_full_name}
use Rattle.directory.specs.Kinds.{link_target, replicas}
use Rattle.directory.specs.Shown.{Shown, entry_values, face_of, lead_of, leads, only_one, pointers, shown_entry, targets}
use Rattle.directory.specs.declared.entry.EntryCell.{EntryCell}
use Rattle.directory.specs.declared.entry.Kind.{Kind}
use Rattle.directory.specs.declared.entry.Kind.TheVariants as kind
use Rattle.house_directory.specs.declared.states.DirState.{DirState}
use Rattle.house_directory.specs.declared.states.DirState.TheVariants as state
use Rattle.house_directory.specs.declared.states.Held.{Held}
use Rattle.resolver.specs.declared.seen.Found.{Found}
use Rattle.resolver.specs.Readers.{Sight, Unreachable, Absent, Object, Link, Child}
use Rattle.cds_cell.specs.declared.cell.Cell.{Cell}
use Rattle.cds_cell.specs.declared.house.CellHouse.{CellHouse}
use Rattle.cds_cell.specs.declared.house.HouseState.{HouseState}
use Rattle.cds_cell.specs.declared.house.HouseState.TheVariants as kept
use Rattle.cds_cell.specs.Asking.{Asked, View, Views, answer_of_house, answers_with, house_to_ask, in_turn, preferred_first}
use Rattle.cds_cell.specs.ModelCells.{house_of}
use Rattle.cds_cell.specs.Readings.{child_sight, led_sight, reader_of, shown_sight, sight_at, values_at, values_of}
use Rattle.cds_cell.specs.Telling.{dir_view, held_view, state_view, told_views}
use Rattle.clerk_lines.specs.declared.hearing.Told.{Told}
use Rattle.clerk_lines.specs.declared.hearing.Told.TheVariants as told
use Rattle.clerk_lines.specs.declared.shown.Lead.{Lead}
use Rattle.clerk_lines.specs.declared.shown.Lead.TheVariants as lead
use Rattle.clerk_lines.specs.declared.shown.ShownEntry.{ShownEntry}
use Rattle.clerk_lines.specs.ShownEntries.{attr_values}
use Rattle.cds_clerk.specs.declared.heard.Heard.{Heard}
use Rattle.cds_clerk.specs.Agreements.{Agrees}
use Rattle.cds_clerk.specs.Heards.{heard_root, heard_sight, heard_values, lead_sight, near_of, seen_among, seen_by, seen_first, told_of, values_told}
use Rattle.clerk_laws.specs.Faces.{IsFace, IsHeardOf, child_at, lead_at, live, shown_to}
use Rattle.clerk_laws.specs.HeardCells.{AreShownIn, had_at, had_by}
use Rattle.clerk_laws.proofs.FaceLeads.{all_pass}

-- ---- where an entry leads

only_passes : (P : List ℕ → Type 0) (xs : List (List ℕ)) → AllByRecursion P xs → IfSome (only_one xs) P
only_passes P [] all = tt
only_passes P (x ∷ []) all = all.0
only_passes P (x ∷ y ∷ xs) all = tt

module _ (x : ℕ) where
  link_led : (o : Option (List ℕ)) (to : Lead) → IfSome o (λ v. is_full_name v ≡ true) → lead_at kind.Link o ≡ Some to
      → led_sight kind.Link x o ≡ lead_sight x to
  link_led None to full is = absurd (cc)
  link_led (Some v) to full is =
      let same : lead.Link (components_of v) ≡ to = cc in
      ap (λ (t : Bool). if t then Link x (components_of v) else Absent x) full ∙ ap (lead_sight x) same

  child_led : (o : Option (List ℕ)) (to : Lead) → lead_at kind.Child o ≡ Some to → led_sight kind.Child x o ≡ lead_sight x to
  child_led None to is = absurd (cc)
  child_led (Some v) to is = by_pointer (pointer_of v) refl is
    where
      by_pointer : (o : Option Pointer) → pointer_of v ≡ o → option_map (λ p. lead.Child (child_at p)) o ≡ Some to → led_sight kind.Child x (Some v) ≡ lead_sight x to
      by_pointer None at is = absurd (cc)
      by_pointer (Some p) at is =
          let same : lead.Child (child_at p) ≡ to = cc in
          ap (child_sight x) at ∙ ap (lead_sight x) same

  leads_there : (b : Stamp) (k : Kind) (values : List ℕ → List (List ℕ)) (to : Lead) → let e : Shown = record { birth = b; kind = k; values = values } in
      lead_at k (lead_of e) ≡ Some to → led_sight k x (lead_of e) ≡ lead_sight x to
  leads_there b kind.Object values to is = let same : lead.Object ≡ to = cc in ap (lead_sight x) same
  leads_there b kind.Link values to is =
      link_led (only_one (targets (values link_target))) to
      (only_passes (λ v. is_full_name v ≡ true) (targets (values link_target)) (all_pass is_full_name (values link_target))) is
  leads_there b kind.Child values to is = child_led (only_one (pointers (values replicas))) to is

-- ---- what is asked of a house

-- the house answers with this
record IsAsked (high : Bool) (x : ℕ) (name : List ℕ) (w : Option View) (shows : Option Shown) : Type 0 where
  view : View
  views : w ≡ Some view
  answers : option_and_then (answers_with high x) w ≡ Some (record { house = x; view = view })
  shown : view.shows name ≡ shows

-- what a house shows to a clerk is what it answers to a reader
abbrev IsTold : (high : Bool) → (x : ℕ) → (name : List ℕ) → Option (Option EntryCell) → Option View → Type 0
IsTold high x name None w = option_and_then (answers_with high x) w ≡ None
IsTold high x name (Some None) w = IsAsked high x name w None
IsTold high x name (Some (Some e)) w = IsAsked high x name w (Some (face_of e))

module _ (x : ℕ) (name : List ℕ) where
  -- the house answers with what it shows
  abbrev Answers : (high : Bool) → View → Type 0
  Answers high v = answers_with high x v ≡ Some (record { house = x; view = v })

  entry_told : (high : Bool) (e : EntryCell) (t : Bool) (v : View) → v.shows name ≡ (if t then Some (face_of e) else None) → Answers high v
      → IsTold high x name (Some (if is_some (if t then Some (face_of e) else None) then Some e else None)) (Some v)
  entry_told high e true v shows answers = record { view = v; views = refl; answers = answers; shown = shows }
  entry_told high e false v shows answers = record { view = v; views = refl; answers = answers; shown = shows }

  name_told : (high : Bool) (o : Option EntryCell) (v : View) → v.shows name ≡ option_and_then shown_entry o → Answers high v
      → IsTold high x name (Some (live o)) (Some v)
  name_told high None v shows answers = record { view = v; views = refl; answers = answers; shown = shows }
  name_told high (Some e) v shows answers = entry_told high e (is_none e.death && leads e.kind (entry_values e)) v shows answers

  held_told : (high : Bool) (h : Held) → IsTold high x name (shown_to x high name (Some (state.Held h))) (Some (held_view h))
  held_told false h = name_told false (get h.replica.table name) (held_view h) refl refl
  held_told true h = by_master (master_of (members_of h.members) == x) refl
    where
      by_master : (t : Bool) → (master_of (members_of h.members) == x) ≡ t
          → IsTold true x name (if not t then None else Some (live (get h.replica.table name))) (Some (held_view h))
      by_master true is =
          name_told true (get h.replica.table name) (held_view h) refl
          (ap (λ (t : Bool). if t then Some (record { house = x; view = held_view h }) else None) is)
      by_master false is = ap (λ (t : Bool). if t then Some (record { house = x; view = held_view h }) else None) is

  dir_told : (high : Bool) (o : Option DirState) → IsTold high x name (shown_to x high name o) (dir_view o)
  dir_told high None = refl
  dir_told high (Some (state.Gone e)) = refl
  dir_told high (Some (state.Held h)) = held_told high h

-- what a house shows is by what it has of the directory
views_had : (c : Cell) (d x : ℕ) → dir_view (had_at c d x) ≡ told_views c d x
views_had c d x = by_house (house_of c.houses.items x)
  where
    by_state : (s : HouseState) → dir_view (had_by s (record { 0 = d })) ≡ state_view (record { 0 = d }) s
    by_state (kept.Up home) = refl
    by_state (kept.Down octets) = refl

    by_house : (o : Option CellHouse) → dir_view (option_and_then (λ h. had_by h.state (record { 0 = d })) o)
        ≡ option_and_then (state_view (record { 0 = d })) (option_map (λ h. h.state) o)
    by_house None = refl
    by_house (Some h) = by_state h.state

house_told : (c : Cell) (high : Bool) (d x : ℕ) (name : List ℕ) → IsTold high x name (shown_to x high name (had_at c d x)) (told_views c d x)
house_told c high d x name = subst (IsTold high x name (shown_to x high name (had_at c d x))) (views_had c d x) (dir_told x name high (had_at c d x))

-- ---- one house after the other

-- what was heard of a house is what it answers: it is passed over, or shows no entry, or this one
data IsAnswered (high : Bool) (x : ℕ) (name : List ℕ) (w : Option View) : Told → Type 0 where
  passes : option_and_then (answers_with high x) w ≡ None → IsAnswered high x name w told.Passed
  absent : IsAsked high x name w None → IsAnswered high x name w told.Absent
  shows : (e : EntryCell) (s : ShownEntry) → IsFace e s → IsAsked high x name w (Some (face_of e)) → IsAnswered high x name w (told.Shows s)

answered : (high : Bool) (x : ℕ) (name : List ℕ) (w : Option View) (o : Option (Option EntryCell)) (t : Told)
    → IsTold high x name o w → IsHeardOf o t → IsAnswered high x name w t
answered high x name w None t is heard = subst (IsAnswered high x name w) (sym heard) (passes is)
answered high x name w (Some None) t is heard = subst (IsAnswered high x name w) (sym heard) (absent is)
answered high x name w (Some (Some e)) t is heard = subst (IsAnswered high x name w) (sym heard.1) (shows e heard.0 heard.2 is)

module _ (c : Cell) (high : Bool) (h : Heard) (so : AreShownIn c high h) where
  abbrev views : Views
  views = told_views c

  house_answered : (d x : ℕ) (name : List ℕ) (t : Told) → told_of h.answers d x name ≡ Some t → IsAnswered high x name (views d x) t
  house_answered d x name t is =
      answered high x name (views d x) (shown_to x high name (had_at c d x)) t (house_told c high d x name) (so.told d x name t is)

  module _ (d : ℕ) (name : List ℕ) where
    -- the first of these that answers
    abbrev first_of : List ℕ → Option Asked
    first_of xs = first_some (answer_of_house views high d) xs

    -- what is seen so far by what was heard is seen
    abbrev Sees : Option Sight → Option Asked → Type 0
    Sees o a = (s : Sight) → o ≡ Some s → sight_at name a ≡ s

    by_answer : (x : ℕ) (o : Option Told) (later : Option Sight) (rest : Option Asked) → ((t : Told) → o ≡ Some t → IsAnswered high x name (views d x) t)
        → Sees later rest → Sees (seen_by o x later) (option_or (answer_of_house views high d x) rest)
    by_answer x None later rest is on s seen = absurd (cc)
    by_answer x (Some t) later rest is on s seen = by_told t (is t refl) seen
      where
        by_told : (t : Told) → IsAnswered high x name (views d x) t → seen_by (Some t) x later ≡ Some s → sight_at name (option_or (answer_of_house views high d x) rest) ≡ s
        by_told told.Passed (passes none) seen = ap (λ (o : Option Asked). sight_at name (option_or o rest)) none ∙ on s seen
        by_told told.Absent (absent a) seen =
            let same : Absent x ≡ s = cc in
            ap (λ (o : Option Asked). sight_at name (option_or o rest)) a.answers ∙ ap (shown_sight x) a.shown ∙ same
        by_told (told.Shows e) (shows cell _ face a) seen =
            let same : lead_sight x e.lead ≡ s = cc in
            ap (λ (o : Option Asked). sight_at name (option_or o rest)) a.answers
            ∙ ap (shown_sight x) a.shown
            ∙ leads_there x cell.birth cell.kind (entry_values cell) e.lead face.leads
            ∙ same

    among : (xs : List ℕ) → Sees (seen_among h.answers d name xs (Some Unreachable)) (first_of xs)
    unfolding seen_among
    among [] s seen = cc
    among (x ∷ xs) s seen =
        by_answer x (told_of h.answers d x name) (seen_among h.answers d name xs (Some Unreachable)) (first_of xs)
        (house_answered d x name) (among xs) s seen

    -- the house that is near comes first, if it is listed
    first : (near : Option ℕ) (xs : List ℕ)
        → Sees (seen_first h.answers d name (near_of near xs) (seen_among h.answers d name xs (Some Unreachable))) (first_of (preferred_first near xs))
    first None xs = among xs
    first (Some x) xs =
        subst (λ (t : Bool). Sees (seen_first h.answers d name (if t then Some x else None) (seen_among h.answers d name xs (Some Unreachable)))
        (first_of (if has x xs then x ∷ xs else xs))) (sym (listed xs)) (by_test (has x xs))
      where
        listed : (ys : List ℕ) → list_any (λ y. y == x) ys ≡ has x ys
        listed [] = refl
        listed (y ∷ ys) =
            let same : (y == x) ≡ (x == y) = grind (arith, nat_tests) in
            ap (λ (t : Bool). t || list_any (λ y. y == x) ys) same ∙ ap (λ (t : Bool). (x == y) || t) (listed ys)

        by_test : (t : Bool) → Sees (seen_first h.answers d name (if t then Some x else None) (seen_among h.answers d name xs (Some Unreachable)))
            (first_of (if t then x ∷ xs else xs))
        by_test true =
            by_answer x (told_of h.answers d x name) (seen_among h.answers d name xs (Some Unreachable)) (first_of xs) (house_answered d x name) (among xs)
        by_test false = among xs

  -- what is seen by what was heard is what the cell tells
  sees_so : (prefer : Option ℕ) → option_map (λ x. x.0) h.near ≡ (if high then None else prefer) → (at : Pointer) (name : List ℕ) (s : Sight)
      → heard_sight h at name ≡ Some s → sight_at name (house_to_ask views at.dir prefer high (at.master ∷ at.others)) ≡ s
  sees_so prefer near at name s seen =
      ap (λ (ys : List ℕ). sight_at name (first_of at.dir name ys)) (turn high) ∙ ahead (if high then None else prefer) near
    where
      turn : (t : Bool) → in_turn prefer t (at.master ∷ at.others) ≡ preferred_first (if t then None else prefer) (at.master ∷ at.others)
      turn true = refl
      turn false = refl

      ahead : (near : Option ℕ) → option_map (λ x. x.0) h.near ≡ near
          → sight_at name (first_of at.dir name (preferred_first near (at.master ∷ at.others))) ≡ s
      ahead near is =
          first at.dir name near (at.master ∷ at.others) s
          (subst (λ (o : Option ℕ). seen_first h.answers at.dir name (near_of o (at.master ∷ at.others))
          (seen_among h.answers at.dir name (at.master ∷ at.others) (Some Unreachable)) ≡ Some s) is seen)

  -- the values by what was heard are those that the cell tells
  values_so : (f : Found) (attr : List ℕ) (vs : List (List ℕ)) → heard_values h f attr ≡ Some vs → values_at f attr (views f.dir.0 f.house.0) ≡ vs
  values_so f attr vs is = by_answer (told_of h.answers f.dir.0 f.house.0 f.name) (house_answered f.dir.0 f.house.0 f.name) is
    where
      x : ℕ
      x = f.house.0

      by_told : (t : Told) → IsAnswered high x f.name (views f.dir.0 x) t → values_told (Some t) attr ≡ Some vs → values_at f attr (views f.dir.0 x) ≡ vs
      by_told told.Passed (passes none) is = absurd (cc)
      by_told told.Absent (absent a) is =
          let same : [] ≡ vs = cc in
          ap (values_at f attr) a.views ∙ ap (values_of attr) a.shown ∙ same
      by_told (told.Shows e) (shows cell _ face a) is =
          let same : attr_values attr e.attrs ≡ vs = cc in
          ap (values_at f attr) a.views ∙ ap (values_of attr) a.shown ∙ sym (face.values attr) ∙ same

      by_answer : (o : Option Told) → ((t : Told) → o ≡ Some t → IsAnswered high x f.name (views f.dir.0 x) t) → values_told o attr ≡ Some vs
          → values_at f attr (views f.dir.0 x) ≡ vs
      by_answer None heard is = absurd (cc)
      by_answer (Some t) heard is = by_told t (heard t refl) is

  -- a reader of these houses that begins where the clerk heard that the root directory is
  pub agrees_from : (prefer : Option ℕ) → option_map (λ x. x.0) h.near ≡ (if high then None else prefer)
      → (root : Option Pointer) → ((p : Option Pointer) → heard_root h.root ≡ Some p → root ≡ p)
      → Agrees (reader_of root views prefer high) h
  agrees_from prefer near root is = record { root = is; sees = sees_so prefer near; values = values_so }

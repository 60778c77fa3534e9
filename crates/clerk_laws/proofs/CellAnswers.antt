-- What each reader that agrees with what a clerk heard has for an answer, the cell answers.
use Rattle.std.proofs.Common.{◌≡◌, ℕ, Bool, true, false, List, [], ◌∷◌, refl, sym, ap, subst, ◌∙◌}
use Rattle.std.specs.Prelude.{Option, Some, None, Result, Ok, Err, is_none, length, not, ◌||◌, ◌==◌, if◌then◌else◌}
use Rattle.std.specs.List.{filter_map, flat_map}
use Rattle.std.specs.Result.{result_map_both, result_ok}
use Rattle.std.specs.Option.{option_and_then, option_map, option_map_or, option_or}
use Rattle.cds_stamps.specs.Firsts.{first_some}
use Rattle.cds_stamps.specs.Members.{master_of, members_of}
use Rattle.cds_stamps.specs.Numbers.{root_dir}
use Rattle.cell_names.specs.ChildPointers.{Pointer, pointer_of}
use Rattle.cell_names.specs.FullNames.{components_of, is_full_name}
use Rattle.directory.specs.Kinds.{link_target, replicas}
use Rattle.directory.specs.Shown.{Shown, lead_of, only_one, pointers, targets}
use Rattle.cds_stamps.specs.declared.stamp.Stamp.{Stamp}
use Rattle.directory.specs.declared.entry.Kind.{Kind}
use Rattle.directory.specs.declared.entry.Kind.TheVariants as kind
use Rattle.resolver.specs.declared.refusal.Refusal.{Refusal}
use Rattle.resolver.specs.declared.refusal.Refusal.TheVariants as refusal
use Rattle.resolver.specs.declared.seen.Found.{Found}
use Rattle.resolver.specs.declared.walk.End.{End}
use Rattle.resolver.specs.declared.walk.End.TheVariants as ends
use Rattle.resolver.specs.Readers.{Reader, Sight, Unreachable, Absent, Object, Link, Child}
use Rattle.resolver.specs.SeenEnds.{entry_seen}
use Rattle.resolver.specs.Walks.{Walker, Step, Stops, Ends, at_last, at_inner, found_of, place_of, start, stops}
use Rattle.resolver.specs.WalkEnds.{end_of, walk_end}
use Rattle.cds_cell.specs.declared.cell.Cell.{Cell}
use Rattle.cds_cell.specs.declared.console.Listing as console
use Rattle.cds_cell.specs.Asking.{Asked, View, Views, answer_of_house, answers_with, in_turn}
use Rattle.cds_cell.specs.Readings.{led_sight, child_sight, pointer_to, reader_of, shown_sight, sight_at, values_at, values_of}
use Rattle.cds_cell.specs.Telling.{first_pointer, program_reader, told_views}
use Rattle.server_entries.specs.declared.client.Wanted.{Wanted}
use Rattle.ns_commands.specs.Asks.{changes_unless, deleted_from, fills, object_in, of_entry, place_to_fill, refusal_of_export, refusal_of_group, refusal_of_profile, unless, unless_none}
use Rattle.server_entries.specs.Exports.{export_changes, export_fault, object_attribute, tower_attribute, unexport_changes}
use Rattle.ns_groups.specs.Groups as groups_of
use Rattle.ns_profiles.specs.Profiles as profiles_of
use Rattle.ns_commands.specs.Imported.{bindings_told, import_answer}
use Rattle.inquire_forms.specs.Inquired.{batches_listed, elements_in, entry_in, in_batches, members_in, of_object}
use Rattle.ns_import.specs.Imports.{bindings_at, edges, import_list, imports_from, names_of, object_at, object_walked, same_entry}
use Rattle.ns_import.specs.Orders.{order}
use Rattle.script_answers.specs.declared.answer.Answer.{Answer}
use Rattle.script_answers.specs.declared.answer.Answer.TheVariants as answer
use Rattle.script_answers.specs.declared.answer.ScriptRefusal.TheVariants as why
use Rattle.script_replay.specs.Replies as reply
use Rattle.cds_clerk.specs.declared.heard.Heard.{Heard}
use Rattle.cds_clerk.specs.declared.inquiring.Listing.{Listing}
use Rattle.cds_clerk.specs.declared.inquiring.Listing.TheVariants as listing
use Rattle.cds_clerk.specs.declared.planning.Plan.{Plan}
use Rattle.cds_clerk.specs.declared.planning.Plan.TheVariants as plan
use Rattle.cds_clerk.specs.Agreements.{Agrees}
use Rattle.cds_clerk.specs.Heards.{heard_root}
use Rattle.cds_clerk.specs.Inquirings.{inquiry_answer}
use Rattle.cds_clerk.specs.Links.{IsTargetOf, IsTargetRead, target_seen}
use Rattle.cds_clerk.specs.Plans.{asks_of}
use Rattle.cds_clerk.specs.Readings.{values_read}
use Rattle.cds_clerk.proofs.HeardLaws.{end_is}
use Rattle.clerk_laws.specs.HeardCells.{AreShownIn}
use Rattle.clerk_laws.proofs.CellSights.{agrees_from}

-- ---- a root directory that no house has

-- a reader that finds no root directory
abbrev nowhere : Reader → Reader
nowhere r = record { root = None; sees = r.sees; values = r.values }

-- where each walk ends then
abbrev end_nowhere : List (List ℕ) → End
end_nowhere [] = ends.Refused refusal.RootName
end_nowhere (c ∷ rest) = ends.Refused (refusal.Unreachable (record { 0 = root_dir }))

ends_nowhere : (r : Reader) (last : Bool) (name : List (List ℕ)) → Ends (nowhere r) last name (end_nowhere name)
ends_nowhere r last [] = stops refl
ends_nowhere r last (c ∷ rest) = stops refl

module _ (views : Views) (prefer : Option ℕ) (high : Bool) (gone : (x : ℕ) → views root_dir x ≡ None) where
  none_answers : (x : ℕ) → answer_of_house views high root_dir x ≡ None
  none_answers x = ap (option_and_then (answers_with high x)) (gone x)

  none_first : (xs : List ℕ) → first_some (answer_of_house views high root_dir) xs ≡ None
  none_first [] = refl
  none_first (x ∷ xs) =
      ap (λ (o : Option Asked). option_or o (first_some (answer_of_house views high root_dir) xs)) (none_answers x) ∙ none_first xs

  module _ (p : Pointer) (is : p.dir ≡ root_dir) where
    abbrev r : Reader
    r = reader_of (Some p) views prefer high

    unreached : (n : List ℕ) → r.sees p n ≡ Unreachable
    unreached n =
        ap (λ (d : ℕ). sight_at n (first_some (answer_of_house views high d) (in_turn prefer high (p.master ∷ p.others)))) is
        ∙ ap (sight_at n) (none_first (in_turn prefer high (p.master ∷ p.others)))

    abbrev refused : ℕ → Step
    refused d = Stops (ends.Refused (refusal.Unreachable (record { 0 = d })))

    last_stops : (last : Bool) (w : Walker) (c : List ℕ) (s : Sight) → s ≡ Unreachable → at_last r last w p.dir c s ≡ refused p.dir
    last_stops last w c s seen = ap (at_last r last w p.dir c) seen

    inner_stops : (w : Walker) (rest : List (List ℕ)) (s : Sight) → s ≡ Unreachable → at_inner r w p.dir rest s ≡ refused p.dir
    inner_stops w rest s seen = ap (at_inner r w p.dir rest) seen

    ends_unreached : (last : Bool) (name : List (List ℕ)) → Ends r last name (end_nowhere name)
    ends_unreached last [] = stops refl
    ends_unreached last (c ∷ []) =
        stops (last_stops last (start r (c ∷ [])) c (r.sees p c) (unreached c) ∙ ap refused is)
    ends_unreached last (c ∷ d ∷ rest) =
        stops (inner_stops (start r (c ∷ d ∷ rest)) (d ∷ rest) (r.sees p c) (unreached c) ∙ ap refused is)

    same_ends : (last : Bool) (name : List (List ℕ)) → end_of (nowhere r) last name ≡ end_of r last name
    same_ends last name =
        end_is (nowhere r) last name (end_nowhere name) (ends_nowhere r last name)
        ∙ sym (end_is r last name (end_nowhere name) (ends_unreached last name))

-- ---- what holds over each reader that agrees

-- each walk ends likewise without a root directory
abbrev AreAlike : Reader → Type 0
AreAlike r = (last : Bool) (name : List (List ℕ)) → end_of (nowhere r) last name ≡ end_of r last name

module _ (c : Cell) (prefer : Option ℕ) (high : Bool) (h : Heard) (so : AreShownIn c high h)
    (near : option_map (λ x. x.0) h.near ≡ (if high then None else prefer)) where
  abbrev told : Reader
  told = program_reader c prefer high

  alike : (ls : List console.Listing) → ((x : ℕ) → told_views c root_dir x ≡ None) → AreAlike (reader_of (first_pointer ls) (told_views c) prefer high)
  alike [] gone last name = refl
  alike (l ∷ ls) gone last name = same_ends (told_views c) prefer high gone (pointer_to root_dir (members_of l.members)) refl last name

  -- what holds so holds over the cell's reader, if a reader without a root directory whose walks
  -- end likewise makes no difference
  pub over_cell : (P : Reader → Type 0) → (AreAlike told → P (nowhere told) → P told) → ((r : Reader) → Agrees r h → P r) → P told
  over_cell P moves all = by_root (heard_root h.root) refl
    where
      by_root : (o : Option (Option Pointer)) → heard_root h.root ≡ o → P told
      by_root None is = all told (agrees_from c high h so prefer near (first_pointer c.directories.items) (λ p there. absurd (cc)))
      by_root (Some (Some at)) is =
          all told (agrees_from c high h so prefer near (first_pointer c.directories.items)
          (λ p there. let same : ◌≡◌ {A = Option Pointer} (Some at) p = cc in so.root (Some at) is ∙ same))
      by_root (Some None) is =
          moves (alike c.directories.items (so.root None is))
          (all (nowhere told) (agrees_from c high h so prefer near None (λ p there. let same : ◌≡◌ {A = Option Pointer} None p = cc in same)))

-- ---- reads

pub read_moves : (attr : List ℕ) (name : List (List ℕ)) (a : Answer) (r : Reader) → AreAlike r
    → a ≡ values_read (nowhere r) attr (walk_end (nowhere r) true name) → a ≡ values_read r attr (walk_end r true name)
read_moves attr name a r same is = is ∙ by_found (walk_end (nowhere r) true name) ∙ ap (λ (e : End). values_read r attr (found_of e)) (same true name)
  where
    by_found : (o : Result Found Refusal) → values_read (nowhere r) attr o ≡ values_read r attr o
    by_found (Ok f) = refl
    by_found (Err why) = refl

pub read_alike : (r : Reader) (attr : List ℕ) (o : Result Found Refusal) → values_read r attr o ≡ reply.values_read r attr o
read_alike r attr (Ok f) = refl
read_alike r attr (Err why) = refl

-- ---- links

pub link_moves : (name : List (List ℕ)) (a : Answer) (r : Reader) → AreAlike r
    → IsTargetRead (nowhere r) (walk_end (nowhere r) false name) a → IsTargetRead r (walk_end r false name) a
link_moves name a r same is = subst (λ (e : End). IsTargetRead r (found_of e) a) (same false name) (by_found (walk_end (nowhere r) false name) is)
  where
    by_found : (o : Result Found Refusal) → IsTargetRead (nowhere r) o a → IsTargetRead r o a
    by_found (Ok f) is = record { at = is.at; dir = is.dir; seen = is.seen; is = is.is }
    by_found (Err why) is = is

seen_house : (x y : ℕ) (k l : Kind) → ◌≡◌ {A = Option (ℕ × Kind)} (Some (x, k)) (Some (y, l)) → x ≡ y
seen_house x y k l is = ap (λ (o : Option (ℕ × Kind)). option_map_or (λ q. q.0) o x) is

seen_kind : (x y : ℕ) (k l : Kind) → ◌≡◌ {A = Option (ℕ × Kind)} (Some (x, k)) (Some (y, l)) → k ≡ l
seen_kind x y k l is = ap (λ (o : Option (ℕ × Kind)). option_map_or (λ q. q.1) o k) is

-- an entry is seen at this house, and what is seen of where it leads is what its values say
record IsLedTo (x : ℕ) (k : Kind) (lead : Option (List ℕ)) (told : Answer) (y : ℕ) (l : Kind) : Type 0 where
  at : x ≡ y
  is : k ≡ l
  says : target_seen (led_sight k x lead) ≡ told

module _ (x y : ℕ) (l : Kind) where
  link_says : (ts : List (List ℕ)) → entry_seen (led_sight kind.Link x (only_one ts)) ≡ Some (y, l)
      → IsLedTo x kind.Link (only_one ts) (reply.first_target ts) y l
  link_says [] is = absurd (cc)
  link_says (v ∷ []) is = by_full (is_full_name v) refl is
    where
      by_full : (t : Bool) → is_full_name v ≡ t → entry_seen (if t then Link x (components_of v) else Absent x) ≡ Some (y, l)
          → IsLedTo x kind.Link (Some v) (answer.Target (components_of v)) y l
      by_full true full is = record { at = seen_house x y kind.Link l is; is = seen_kind x y kind.Link l is; says = ap (λ (t : Bool). target_seen (if t then Link x (components_of v) else Absent x)) full }
      by_full false full is = absurd (cc)
  link_says (v ∷ w ∷ ts) is = absurd (cc)

  child_says : (o : Option (List ℕ)) → entry_seen (led_sight kind.Child x o) ≡ Some (y, l)
      → IsLedTo x kind.Child o (answer.Refused why.NotLink) y l
  child_says None is = absurd (cc)
  child_says (Some v) is = by_pointer (pointer_of v) refl is
    where
      by_pointer : (o : Option Pointer) → pointer_of v ≡ o → entry_seen (child_sight x o) ≡ Some (y, l)
          → IsLedTo x kind.Child (Some v) (answer.Refused why.NotLink) y l
      by_pointer None at is = absurd (cc)
      by_pointer (Some p) at is = record { at = seen_house x y kind.Child l is; is = seen_kind x y kind.Child l is; says = ap (λ (o : Option Pointer). target_seen (child_sight x o)) at }

  entry_says : (b : Stamp) (k : Kind) (values : List ℕ → List (List ℕ)) → let e : Shown = record { birth = b; kind = k; values = values } in
      entry_seen (led_sight k x (lead_of e)) ≡ Some (y, l) → IsLedTo x k (lead_of e) (reply.target_of k (values link_target)) y l
  entry_says b kind.Object values is = record { at = seen_house x y kind.Object l is; is = seen_kind x y kind.Object l is; says = refl }
  entry_says b kind.Link values is = link_says (targets (values link_target)) is
  entry_says b kind.Child values is = child_says (only_one (pointers (values replicas))) is

module _ (root : Option Pointer) (views : Views) (prefer : Option ℕ) (high : Bool) where
  abbrev reader : Reader
  reader = reader_of root views prefer high

  -- the house that is asked shows what it answers
  asked_shows : (d x : ℕ) (a : Asked) → answer_of_house views high d x ≡ Some a → views d a.house ≡ Some a.view
  asked_shows d x a is = by_view (views d x) refl is
    where
      by_view : (w : Option View) → views d x ≡ w → option_and_then (answers_with high x) w ≡ Some a → views d a.house ≡ Some a.view
      by_view None there is = absurd (cc)
      by_view (Some v) there is = by_test (not high || (master_of v.members == x)) is
        where
          by_test : (t : Bool) → (if t then Some (record { house = x; view = v }) else None) ≡ Some a → views d a.house ≡ Some a.view
          by_test true is = let same : record { house = x; view = v } ≡ a = cc in subst (λ (b : Asked). views d b.house ≡ Some b.view) same there
          by_test false is = absurd (cc)

  first_shows : (d : ℕ) (xs : List ℕ) (a : Asked) → first_some (answer_of_house views high d) xs ≡ Some a → views d a.house ≡ Some a.view
  first_shows d [] a is = absurd (cc)
  first_shows d (x ∷ xs) a is = by_one (answer_of_house views high d x) refl (first_shows d xs a) is
    where
      by_one : (o : Option Asked) → answer_of_house views high d x ≡ o
          → (first_some (answer_of_house views high d) xs ≡ Some a → views d a.house ≡ Some a.view)
          → option_or o (first_some (answer_of_house views high d) xs) ≡ Some a → views d a.house ≡ Some a.view
      by_one None there later is = later is
      by_one (Some b) there later is = asked_shows d x a (there ∙ is)

  -- the answer where an entry leads is that of the values that its house shows
  abbrev IsTold : Found → Answer → Type 0
  IsTold f a = a ≡ reply.target_of f.kind (values_at f link_target (views f.dir.0 f.house.0))

  told_shown : (f : Found) (a : Answer) (k : Asked) → views f.dir.0 k.house ≡ Some k.view → (o : Option Shown) → k.view.shows f.name ≡ o
      → entry_seen (shown_sight k.house o) ≡ Some (f.house.0, f.kind) → a ≡ target_seen (shown_sight k.house o) → IsTold f a
  told_shown f a k there None shows seen says = absurd (cc)
  told_shown f a k there (Some e) shows seen says =
      let so = entry_says k.house f.house.0 f.kind e.birth e.kind e.values seen in
      let values : values_at f link_target (views f.dir.0 f.house.0) ≡ e.values link_target =
      ap (λ (x : ℕ). values_at f link_target (views f.dir.0 x)) (sym so.at)
      ∙ ap (values_at f link_target) there
      ∙ ap (values_of link_target) shows in
      says ∙ so.says ∙ ap (λ (l : Kind). reply.target_of l (e.values link_target)) so.is ∙ ap (reply.target_of f.kind) (sym values)

  told_asked : (f : Found) (a : Answer) (d : ℕ) (xs : List ℕ) → d ≡ f.dir.0 → (o : Option Asked) → first_some (answer_of_house views high d) xs ≡ o
      → entry_seen (sight_at f.name o) ≡ Some (f.house.0, f.kind) → a ≡ target_seen (sight_at f.name o) → IsTold f a
  told_asked f a d xs is None first seen says = absurd (cc)
  told_asked f a d xs is (Some k) first seen says =
      told_shown f a k (ap (λ (d : ℕ). views d k.house) (sym is) ∙ first_shows d xs k first) (k.view.shows f.name) refl seen says

  target_so : (f : Found) (a : Answer) → IsTargetOf reader f a → IsTold f a
  target_so f a is =
      let houses : List ℕ = in_turn prefer high (is.at.master ∷ is.at.others) in
      told_asked f a is.at.dir houses is.dir (first_some (answer_of_house views high is.at.dir) houses) refl is.seen is.is

  pub link_alike : (a : Answer) (o : Result Found Refusal) → IsTargetRead reader o a → a ≡ reply.target_read reader o
  link_alike a (Ok f) is = target_so f a is
  link_alike a (Err why) is = is

-- ---- imports

list_moves : (objects : List Found) (wanted : Wanted) (name : List (List ℕ)) (r : Reader) → AreAlike r
    → import_list (nowhere r) objects wanted name ≡ import_list r objects wanted name
list_moves objects wanted name r same i =
    let at : object_at (nowhere r) ≡ object_at r = λ i n. object_walked (found_of (same true n i)) in
    let goes_on : edges (nowhere r) wanted.interface ≡ edges r wanted.interface =
    λ i e. filter_map (λ n. result_ok (at i n)) (names_of r wanted.interface e) in
    let bindings : imports_from (nowhere r) objects wanted ≡ imports_from r objects wanted =
    λ i start. flat_map (bindings_at r wanted) (order same_entry (goes_on i) (length objects) start) in
    result_map_both (bindings i) (λ fault. fault) (at i name)

pub import_moves : (objects : List Found) (wanted : Wanted) (name : List (List ℕ)) (r : Reader) → AreAlike r
    → import_answer (nowhere r) objects wanted name ≡ import_answer r objects wanted name
import_moves objects wanted name r same = ap bindings_told (list_moves objects wanted name r same)

pub batches_move : (objects : List Found) (wanted : Wanted) (most : ℕ) (name : List (List ℕ)) (r : Reader) → AreAlike r
    → batches_listed (nowhere r) objects wanted most name ≡ batches_listed r objects wanted most name
batches_move objects wanted most name r same = ap (in_batches most) (list_moves objects wanted name r same)

-- ---- inquiries

pub inquiry_moves : (name : List (List ℕ)) (l : Listing) (r : Reader) → AreAlike r → inquiry_answer (nowhere r) name l ≡ inquiry_answer r name l
inquiry_moves name listing.Members r same i = of_object (object_in (found_of (same true name i))) (members_in r)
inquiry_moves name listing.Entry r same i = of_object (object_in (found_of (same true name i))) (entry_in r)
inquiry_moves name (listing.Elements asked) r same i = of_object (object_in (found_of (same true name i))) (elements_in r asked)

-- ---- plans

pub plan_moves : (p : Plan) (r : Reader) → AreAlike r → asks_of (nowhere r) p ≡ asks_of r p
plan_moves (plan.Export name interface bindings objects) r same i =
    unless (option_map refusal_of_export (export_fault bindings objects))
    (of_entry (place_to_fill (place_of (same true name i))) (λ place.
    fills place (export_changes place.name (is_none place.kind) interface bindings objects)))
plan_moves (plan.Unexport name interface objects) r same i =
    of_entry (object_in (found_of (same true name i))) (λ entry.
    unless_none entry (unexport_changes entry.name (r.values entry tower_attribute) (r.values entry object_attribute) interface objects))
plan_moves (plan.Groupadd name member) r same i =
    of_entry (place_to_fill (place_of (same true name i))) (λ place.
    fills place (groups_of.member_addition place.name (is_none place.kind) member))
plan_moves (plan.Groupdel name member) r same i =
    of_entry (object_in (found_of (same true name i))) (λ entry.
    changes_unless (option_map refusal_of_group (groups_of.delete_fault (r.values entry groups_of.group) member)) entry
    (groups_of.member_deletion entry.name member))
plan_moves (plan.Profadd name interface member priority note) r same i =
    unless (option_map refusal_of_profile (profiles_of.add_fault interface member priority note))
    (of_entry (place_to_fill (place_of (same true name i))) (λ place.
    fills place (profiles_of.element_addition place.name (is_none place.kind) (profiles_of.new_element interface member priority note))))
plan_moves (plan.Profdel name interface member) r same i =
    of_entry (object_in (found_of (same true name i))) (λ entry.
    deleted_from interface member entry (r.values entry profiles_of.profile))

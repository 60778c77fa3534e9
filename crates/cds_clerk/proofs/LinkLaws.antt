-- Entries that were shown are seen as their houses said.
use Rattle.std.proofs.Common.{◌≡◌, ℕ, Bool, List, [], ◌∷◌, refl, sym, ap, subst, ◌∙◌}
use Rattle.std.specs.Prelude.{Option, Some, None, unwrap_or, Result, Ok, Err, IfOk}
use Rattle.std.specs.declared.alloc.AllocError.{AllocError}
use Rattle.std.specs.Option.{option_map, option_map_or}
use Rattle.cell_names.specs.ChildPointers.{Pointer}
use Rattle.directory.specs.declared.entry.Kind.{Kind}
use Rattle.resolver.specs.declared.seen.Found.{Found}
use Rattle.resolver.specs.declared.walk.End.{End}
use Rattle.resolver.specs.declared.walk.End.TheVariants as ends
use Rattle.resolver.specs.Readers.{Reader, Sight, Unreachable}
use Rattle.resolver.specs.SeenEnds.{IsSeen, IsSeenEnd, entry_seen}
use Rattle.resolver.specs.Walks.{Ends, found_of}
use Rattle.resolver.specs.WalkEnds.{end_of, walk_end}
use Rattle.resolver.specs.WalkEndProofs.{one_end, some_end}
use Rattle.script_answers.specs.declared.answer.Answer.{Answer}
use Rattle.clerk_lines.specs.declared.hearing.Told.{Told}
use Rattle.clerk_lines.specs.declared.hearing.Told.TheVariants as told
use Rattle.clerk_lines.specs.declared.shown.Lead.{Lead}
use Rattle.clerk_lines.specs.declared.shown.Lead.TheVariants as lead
use Rattle.clerk_lines.specs.declared.shown.ShownEntry.{ShownEntry}
use Rattle.cds_clerk.specs.declared.heard.Answered.{Answered}
use Rattle.cds_clerk.specs.declared.heard.Heard.{Heard}
use Rattle.cds_clerk.specs.Agreements.{Agrees}
use Rattle.cds_clerk.specs.Heards.{heard_sight, lead_sight, near_of, seen_among, seen_by, seen_first, told_of}
use Rattle.cds_clerk.specs.Links.{IsLed, IsTargetOf, IsTargetRead, lead_read, target_seen}
use Rattle.cds_clerk.specs.Readings.{IfFound, IsShown, least_reader}

-- an entry that is seen was shown by that house, and is seen as it leads
record Led (answers : List Answered) (dir : ℕ) (name : List ℕ) (x : ℕ) (o : Option Sight) : Type 0 where
  entry : ShownEntry
  told : told_of answers dir x name ≡ Some (told.Shows entry)
  sight : o ≡ Some (lead_sight x entry.lead)

abbrev IsSeenSo : List Answered → (dir : ℕ) → (name : List ℕ) → Option Sight → Type 0
IsSeenSo answers dir name o =
    (x : ℕ) (k : Kind) → entry_seen (unwrap_or o Unreachable) ≡ Some (x, k) → Led answers dir name x o

house_of_pair : (o : Option (ℕ × Kind)) (x y : ℕ) (k l : Kind) → o ≡ Some (x, k) → o ≡ Some (y, l) → x ≡ y
house_of_pair o x y k l is other = ap (λ (p : Option (ℕ × Kind)). option_map_or (λ q. q.0) p x) (sym is ∙ other)

-- an entry that leads there is seen at its house
led_house : (x : ℕ) (to : Lead) → (k : Kind) × (entry_seen (lead_sight x to) ≡ Some (x, k))
led_house x lead.Object = (_, refl)
led_house x (lead.Link target) = (_, refl)
led_house x (lead.Child p) = (_, refl)

shown_led : (answers : List Answered) (dir : ℕ) (name : List ℕ) (x : ℕ) (e : ShownEntry) → told_of answers dir x name ≡ Some (told.Shows e)
    → IsSeenSo answers dir name (Some (lead_sight x e.lead))
shown_led answers dir name x e is y k seen =
    let own = led_house x e.lead in
    let same : x ≡ y = house_of_pair (entry_seen (lead_sight x e.lead)) x y own.0 k own.1 seen in
    record {
      entry = e;
      told = subst (λ (z : ℕ). told_of answers dir z name ≡ Some (told.Shows e)) same is;
      sight = ap (λ (z : ℕ). Some (lead_sight z e.lead)) same;
    }

house_led : (answers : List Answered) (dir : ℕ) (name : List ℕ) (x : ℕ) (t : Option Told) (later : Option Sight) → told_of answers dir x name ≡ t
    → IsSeenSo answers dir name later → IsSeenSo answers dir name (seen_by t x later)
house_led answers dir name x None later is rest y k seen = absurd (cc)
house_led answers dir name x (Some told.Passed) later is rest y k seen = rest y k seen
house_led answers dir name x (Some told.Absent) later is rest y k seen = absurd (cc)
house_led answers dir name x (Some (told.Shows e)) later is rest y k seen = shown_led answers dir name x e is y k seen

among_led : (answers : List Answered) (dir : ℕ) (name : List ℕ) (houses : List ℕ) (later : Option Sight) → IsSeenSo answers dir name later
    → IsSeenSo answers dir name (seen_among answers dir name houses later)
unfolding seen_among
among_led answers dir name [] later rest = rest
among_led answers dir name (x ∷ xs) later rest =
    house_led answers dir name x (told_of answers dir x name) (seen_among answers dir name xs later) refl (among_led answers dir name xs later rest)

first_led : (answers : List Answered) (dir : ℕ) (name : List ℕ) (near : Option ℕ) (later : Option Sight) → IsSeenSo answers dir name later
    → IsSeenSo answers dir name (seen_first answers dir name near later)
first_led answers dir name None later rest = rest
first_led answers dir name (Some x) later rest = house_led answers dir name x (told_of answers dir x name) later refl rest

sight_led : (h : Heard) (at : Pointer) (name : List ℕ) → IsSeenSo h.answers at.dir name (heard_sight h at name)
sight_led h at name =
    first_led h.answers at.dir name (near_of (option_map (λ x. x.0) h.near) (at.master ∷ at.others))
    (seen_among h.answers at.dir name (at.master ∷ at.others) (Some Unreachable))
    (among_led h.answers at.dir name (at.master ∷ at.others) (Some Unreachable) (λ x k seen. absurd (cc)))

found_led : (h : Heard) (last : Bool) (f : Found) → IsSeen (least_reader h) last f → IsLed h f
found_led h last f seen =
    let led = sight_led h seen.at f.name f.house.0 f.kind seen.seen in
    record {
      at = seen.at;
      dir = seen.dir;
      entry = led.entry;
      told = subst (λ (d : ℕ). told_of h.answers d f.house.0 f.name ≡ Some (told.Shows led.entry)) seen.dir led.told;
      sight = led.sight;
      seen = sym (ap (λ (o : Option Sight). entry_seen (unwrap_or o Unreachable)) led.sight) ∙ seen.seen;
    }

-- an entry that a walk finds over what was heard is seen as its house said
pub ended_led : (h : Heard) (last : Bool) (e : End) → IsSeenEnd (least_reader h) last e → IfFound e (IsLed h)
ended_led h last (ends.Found f) seen = found_led h last f seen
ended_led h last (ends.Missing place done) seen = tt
ended_led h last (ends.Refused why) seen = tt

pub led_shown : (h : Heard) (f : Found) → IsLed h f → IsShown h f
led_shown h f led = record { entry = led.entry; told = led.told }

lead_seen : (x : ℕ) (to : Lead) → lead_read to ≡ target_seen (lead_sight x to)
lead_seen x lead.Object = refl
lead_seen x (lead.Link target) = refl
lead_seen x (lead.Child p) = refl

one_entry : (d e : ShownEntry) → ◌≡◌ {A = Option Told} (Some (told.Shows d)) (Some (told.Shows e)) → d ≡ e
one_entry d e is = cc (is)

-- the answer where an entry leads is that of each reader that agrees
pub target_is : (h : Heard) (f : Found) (e : ShownEntry) (a : Answer) → IsLed h f → told_of h.answers f.dir.0 f.house.0 f.name ≡ Some (told.Shows e)
    → a ≡ lead_read e.lead → (r : Reader) → Agrees r h → IsTargetOf r f a
target_is h f e a led is said r agrees =
    let same : e ≡ led.entry = one_entry e led.entry (sym is ∙ led.told) in
    let sees = agrees.sees led.at f.name (lead_sight f.house.0 led.entry.lead) led.sight in
    record {
      at = led.at;
      dir = led.dir;
      seen = ap entry_seen sees ∙ led.seen;
      is = said ∙ ap (λ (x : ShownEntry). lead_read x.lead) same ∙ lead_seen f.house.0 led.entry.lead ∙ sym (ap target_seen sees);
    }

-- likewise, if there is memory for it
pub targets_are : (h : Heard) (f : Found) (e : ShownEntry) (x : Result Answer AllocError) → IsLed h f
    → told_of h.answers f.dir.0 f.house.0 f.name ≡ Some (told.Shows e) → IfOk x (λ a. a ≡ lead_read e.lead)
    → IfOk x (λ a. (r : Reader) → Agrees r h → IsTargetOf r f a)
targets_are h f e (Ok a) led is said = target_is h f e a led is said
targets_are h f e (Err why) led is said = tt

-- an end to which a walk comes is its end
link_end : (r : Reader) (last : Bool) (name : List (List ℕ)) (e : End) → Ends r last name e → end_of r last name ≡ e
unfolding end_of
link_end r last name e there = one_end (some_end r last name).1 there

-- the answer where a link leads, by the end of the walk
pub link_so : (r : Reader) (last : Bool) (name : List (List ℕ)) (e : End) (a : Answer) → Ends r last name e → IsTargetRead r (found_of e) a
    → IsTargetRead r (walk_end r last name) a
link_so r last name e a there is = subst (λ (x : End). IsTargetRead r (found_of x) a) (sym (link_end r last name e there)) is

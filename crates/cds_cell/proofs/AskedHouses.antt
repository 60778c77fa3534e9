-- The house that is asked at high confidence is up and the master of its directory.
use Rattle.std.proofs.Common.{◌≡◌, ◌≢◌, ℕ, Bool, true, false, List, [], ◌∷◌, refl, sym, ap, ◌∙◌, subst, arith}
use Rattle.std.specs.Prelude.{Option, Some, None, IsSome, is_none, is_some, if◌then◌else◌, nat_lt, ◌==◌, ◌||◌}
use Rattle.std.specs.Option.{option_and_then, option_map, option_or}
use Rattle.std.proofs.lemmas.Bool.Decides.{nat_tests}
use Rattle.cds_stamps.specs.Firsts.{first_some}
use Rattle.cds_stamps.specs.Members.{master_of}
use Rattle.cds_stamps.specs.declared.numbers.DirId.{DirId}
use Rattle.cell_names.specs.ChildPointers.{Pointer, count_place, is_child_pointer, master_place, pointer_of}
use Rattle.cell_names.specs.FullNames.{components_of, is_full_name}
use Rattle.cell_names.specs.Houses.{most_houses}
use Rattle.cell_names.specs.declared.pointer.ChildFault.TheVariants.{BadChild}
use Rattle.directory.specs.declared.entry.Kind.{Kind}
use Rattle.directory.specs.declared.entry.Kind.TheVariants as kind
use Rattle.directory.specs.Histories.{Mark}
use Rattle.directory.specs.Shown.{Shown, is_readable, lead_of, shown_of_name}
use Rattle.cell_model.specs.Cells as model
use Rattle.resolver.specs.Readers.{Absent, Link}
use Rattle.cds_cell.specs.declared.cell.Cell.{Cell}
use Rattle.cds_cell.specs.declared.house.HouseState.{HouseState}
use Rattle.cds_cell.specs.declared.house.HouseState.TheVariants as state
use Rattle.cds_cell.specs.Accepting.{ShowsAsMaster}
use Rattle.cds_cell.specs.Asking.{Asked, View, Views, answer_of_house, answers_with, house_to_ask}
use Rattle.cds_cell.specs.AskingProofs.{asked_shows}
use Rattle.cds_cell.specs.CellHouses.{is_up_state}
use Rattle.cds_cell.specs.Readings.{child_sight, led_sight, cell_reader, shown_sight, sight_at, slot_view, view_of, views_of}
use Rattle.cds_cell.specs.ModelCells.{house_of}
use Rattle.cds_cell.specs.Telling.{state_view, program_reader, told_views}
use Rattle.cds_cell.proofs.WalkSights.{seen_there}

-- ---- who is asked

-- what a house shows as the master
record AnswersAsMaster (views : Views) (d : ℕ) (a : Asked) : Type 0 where
  pub shows : views d a.house ≡ Some a.view
  pub master : master_of a.view.members ≡ a.house

master_answers : (views : Views) (d x : ℕ) (a : Asked) → answer_of_house views true d x ≡ Some a → AnswersAsMaster views d a
master_answers views d x a is = by_view (views d x) refl is
  where
    by_test : (v : View) → views d x ≡ Some v → (b : Bool) → (master_of v.members == x) ≡ b
        → (if b then Some (record { house = x; view = v }) else None) ≡ Some a → AnswersAsMaster views d a
    by_test v there true master is =
        let same : record { house = x; view = v } ≡ a = cc in
        let number : master_of v.members ≡ x = grind (arith, nat_tests, master) in
        subst (λ (z : Asked). AnswersAsMaster views d z) same (record { shows = there; master = number })
    by_test v there false other is = absurd (cc)

    by_view : (o : Option View) → views d x ≡ o → option_and_then (answers_with true x) o ≡ Some a → AnswersAsMaster views d a
    by_view None there is = absurd (cc)
    by_view (Some v) there is = by_test v there (master_of v.members == x) refl is

first_answers : (views : Views) (d : ℕ) (xs : List ℕ) (a : Asked) → first_some (answer_of_house views true d) xs ≡ Some a → AnswersAsMaster views d a
first_answers views d [] a is = absurd (cc)
first_answers views d (x ∷ xs) a is = by_first (answer_of_house views true d x) refl (first_answers views d xs a) is
  where
    by_first : (o : Option Asked) → answer_of_house views true d x ≡ o → (first_some (answer_of_house views true d) xs ≡ Some a → AnswersAsMaster views d a)
        → option_or o (first_some (answer_of_house views true d) xs) ≡ Some a → AnswersAsMaster views d a
    by_first None first rest is = rest is
    by_first (Some b) first rest is = let same : b ≡ a = cc in master_answers views d x a (first ∙ ap Some same)

-- the house that is asked is up and holds the directory as its master, and what it shows is its own
record HoldsAsMaster (g : model.Cell) (d : ℕ) (a : Asked) : Type 0 where
  pub replica : model.Replica
  pub up : (g.house a.house).up ≡ true
  pub held : model.IsHeld g a.house d replica
  pub view : view_of replica ≡ a.view
  pub master : master_of a.view.members ≡ a.house

-- what shows is of a replica that a house holds which is up
module _ (g : model.Cell) (d : ℕ) (a : Asked) (master : master_of a.view.members ≡ a.house) where
  by_slot : (s : model.Slot) → (g.house a.house).up ≡ true → (g.house a.house).slots d ≡ s → slot_view s ≡ Some a.view → HoldsAsMaster g d a
  by_slot model.Absent up is view = absurd (cc)
  by_slot (model.Gone e) up is view = absurd (cc)
  by_slot (model.Held r) up is view = record { replica = r; up = up; held = is; view = cc; master = master }

  by_up : (b : Bool) → (g.house a.house).up ≡ b → (if b then slot_view ((g.house a.house).slots d) else None) ≡ Some a.view → HoldsAsMaster g d a
  by_up true up is = by_slot ((g.house a.house).slots d) up refl is
  by_up false down is = absurd (cc)

asked_holds : (g : model.Cell) (prefer : Option ℕ) (d : ℕ) (houses : List ℕ) (a : Asked) → house_to_ask (views_of g) d prefer true houses ≡ Some a
    → HoldsAsMaster g d a
asked_holds g prefer d houses a is =
    let it = first_answers (views_of g) d houses a is in
    by_up g d a it.master (g.house a.house).up refl it.shows

holds_shows : (g : model.Cell) (d : ℕ) (a : Asked) (n : List ℕ) → HoldsAsMaster g d a → ShowsAsMaster g a.house d n (option_map (λ e. e.kind) (a.view.shows n))
holds_shows g d a n it = record {
  replica = it.replica;
  up = it.up;
  held = it.held;
  master = ap (λ (v : View). master_of v.members) it.view ∙ it.master;
  shows = ap (λ (v : View). option_map (λ e. e.kind) (v.shows n)) it.view;
}

-- the house that is asked shows what the reader is told, as the master
pub asked_shows_as_master : (g : model.Cell) (prefer : Option ℕ) (d : ℕ) (houses : List ℕ) (a : Asked) → house_to_ask (views_of g) d prefer true houses ≡ Some a
    → (n : List ℕ) → ShowsAsMaster g a.house d n (option_map (λ e. e.kind) (a.view.shows n))
asked_shows_as_master g prefer d houses a is n = holds_shows g d a n (asked_holds g prefer d houses a is)

-- ---- what is seen

-- octets that are a child pointer say where a child leads
pointer_read : (v : List ℕ) → is_child_pointer v ≡ true → is_some (pointer_of v) ≡ true
pointer_read (a ∷ b ∷ c ∷ d ∷ count ∷ master ∷ others) is = rw is refl
pointer_read (a ∷ b ∷ c ∷ d ∷ count ∷ []) is = absurd (by_count ((count == 0) || nat_lt most_houses count) is)
  where
    by_count : (b : Bool) → is_none (if b then Some (BadChild count_place) else Some (BadChild master_place)) ≡ true → ⊥
    by_count true is = absurd (cc)
    by_count false is = absurd (cc)
pointer_read v is = absurd (cc)

no_lead : (o : Option (List ℕ)) → o ≡ None → IsSome o → ⊥
no_lead None is some = absurd (cc)
no_lead (Some v) is some = absurd (cc)

-- an entry of this kind that leads there is seen
led_there : (m : ℕ) (k : Kind) (lead : Option (List ℕ)) → (k ≢ kind.Object → IsSome lead) → ((v : List ℕ) → lead ≡ Some v → is_readable k v ≡ true)
    → seen_there (led_sight k m lead) ≡ Some (m, Some k)
led_there m kind.Object lead some reads = refl
led_there m kind.Link None some reads = absurd (no_lead None refl (some (λ is. absurd (cc))))
led_there m kind.Link (Some v) some reads = rw (reads v refl) refl
led_there m kind.Child None some reads = absurd (no_lead None refl (some (λ is. absurd (cc))))
led_there m kind.Child (Some v) some reads = by_pointer (pointer_of v) (pointer_read v (reads v refl))
  where
    by_pointer : (o : Option Pointer) → is_some o ≡ true → seen_there (child_sight m o) ≡ Some (m, Some kind.Child)
    by_pointer None is = absurd (cc)
    by_pointer (Some p) is = refl

same_there : (x y : ℕ × Option Kind) → Some x ≡ Some y → x ≡ y
same_there x y is = cc

module _ (led : (h : List Mark) (n : List ℕ) (e : Shown) → shown_of_name h n ≡ Some e → e.kind ≢ kind.Object → IsSome (lead_of e))
    (read : (e : Shown) (v : List ℕ) → lead_of e ≡ Some v → is_readable e.kind v ≡ true) where
  -- what is seen of a name at a house is what shows of it
  shown_there : (m : ℕ) (h : List Mark) (n : List ℕ) (o : Option Shown) → shown_of_name h n ≡ o
      → seen_there (shown_sight m o) ≡ Some (m, option_map (λ e. e.kind) o)
  shown_there m h n None is = refl
  shown_there m h n (Some e) is = led_there m e.kind (lead_of e) (led h n e is) (read e)

  module _ (g : model.Cell) (prefer : Option ℕ) where
    -- the house at which something is seen of a name shows it as the master
    pub seen_as_master : (at : Pointer) (n : List ℕ) (h : ℕ) (k : Option Kind) → seen_there ((cell_reader g prefer true).sees at n) ≡ Some (h, k)
        → ShowsAsMaster g h at.dir n k
    seen_as_master at n h k is = by_asked (house_to_ask (views_of g) at.dir prefer true (at.master ∷ at.others)) refl is
      where
        by_asked : (o : Option Asked) → house_to_ask (views_of g) at.dir prefer true (at.master ∷ at.others) ≡ o → seen_there (sight_at n o) ≡ Some (h, k)
            → ShowsAsMaster g h at.dir n k
        by_asked None first is = absurd (cc)
        by_asked (Some a) first is =
            let it = asked_holds g prefer at.dir (at.master ∷ at.others) a first in
            let shows : shown_of_name it.replica.history n ≡ a.view.shows n = ap (λ (v : View). v.shows n) it.view in
            let seen : seen_there (shown_sight a.house (a.view.shows n)) ≡ Some (a.house, option_map (λ e. e.kind) (a.view.shows n)) =
            shown_there a.house it.replica.history n (a.view.shows n) shows in
            let same : (a.house, option_map (λ e. e.kind) (a.view.shows n)) ≡ (h, k) =
            same_there (a.house, option_map (λ e. e.kind) (a.view.shows n)) (h, k) (sym seen ∙ is) in
            subst (λ (z : ℕ × Option Kind). ShowsAsMaster g z.0 at.dir n z.1) same (holds_shows g at.dir a n it)

-- ---- houses that are up

at_house : (m h : ℕ) (j k : Option Kind) → ◌≡◌ {A = Option (ℕ × Option Kind)} (Some (m, j)) (Some (h, k)) → m ≡ h
at_house m h j k is = ap (λ (z : ℕ × Option Kind). z.0) (same_there (m, j) (h, k) is)

-- a link, a child and an entry are seen at the house that shows them
link_house : (m h : ℕ) (k : Option Kind) (b : Bool) (v : List ℕ) → seen_there (if b then Link m (components_of v) else Absent m) ≡ Some (h, k) → m ≡ h
link_house m h k true v is = at_house m h (Some kind.Link) k is
link_house m h k false v is = at_house m h None k is

child_house : (m h : ℕ) (k : Option Kind) (o : Option Pointer) → seen_there (child_sight m o) ≡ Some (h, k) → m ≡ h
child_house m h k None is = at_house m h None k is
child_house m h k (Some p) is = at_house m h (Some kind.Child) k is

led_house : (m h : ℕ) (k : Option Kind) (j : Kind) (lead : Option (List ℕ)) → seen_there (led_sight j m lead) ≡ Some (h, k) → m ≡ h
led_house m h k kind.Object lead is = at_house m h (Some kind.Object) k is
led_house m h k kind.Link None is = at_house m h None k is
led_house m h k kind.Link (Some v) is = link_house m h k (is_full_name v) v is
led_house m h k kind.Child None is = at_house m h None k is
led_house m h k kind.Child (Some v) is = child_house m h k (pointer_of v) is

shown_house : (m h : ℕ) (k : Option Kind) (o : Option Shown) → seen_there (shown_sight m o) ≡ Some (h, k) → m ≡ h
shown_house m h k None is = at_house m h None k is
shown_house m h k (Some e) is = led_house m h k e.kind (lead_of e) is

-- a house of the program is up
abbrev pub IsUpAt : Cell → ℕ → Type 0
IsUpAt c x = is_up_state (option_map (λ h. h.state) (house_of c.houses.items x)) ≡ true

up_shows : (d : DirId) (o : Option HouseState) (v : View) → option_and_then (state_view d) o ≡ Some v → is_up_state o ≡ true
up_shows d None v is = absurd (cc)
up_shows d (Some (state.Up home)) v is = refl
up_shows d (Some (state.Down octets)) v is = absurd (cc)

-- the house at which something is seen is up
pub seen_up : (c : Cell) (prefer : Option ℕ) (high : Bool) (at : Pointer) (n : List ℕ) (h : ℕ) (k : Option Kind)
    → seen_there ((program_reader c prefer high).sees at n) ≡ Some (h, k) → IsUpAt c h
seen_up c prefer high at n h k is = by_asked (house_to_ask (told_views c) at.dir prefer high (at.master ∷ at.others)) refl is
  where
    by_asked : (o : Option Asked) → house_to_ask (told_views c) at.dir prefer high (at.master ∷ at.others) ≡ o → seen_there (sight_at n o) ≡ Some (h, k) → IsUpAt c h
    by_asked None first is = absurd (cc)
    by_asked (Some a) first is =
        let shows = asked_shows (told_views c) at.dir prefer high (at.master ∷ at.others) a first in
        subst (IsUpAt c) (shown_house a.house h k (a.view.shows n) is)
        (up_shows (record { 0 = at.dir }) (option_map (λ h. h.state) (house_of c.houses.items a.house)) a.view shows)

-- Why steps are refused: what the cell says of houses and directories is what the model says.
use Rattle.std.proofs.Common.{◌≡◌, ℕ, zero, suc, ◌+◌, ◌<◌, List, [], ◌∷◌, ◌++◌, Bool, true, false, cond, length, refl, sym, ◌∙◌, ap, arith, subst}
use Rattle.std.specs.Prelude.{Option, Some, None, MatchOption, is_some, is_none, if◌then◌else◌, not, ◌||◌, ◌==◌, slice_get}
use Rattle.std.specs.List.{list_any, position_from}
use Rattle.std.specs.Option.{option_map}
use Rattle.std.proofs.Math.ListN.{get_or}
use Rattle.std.proofs.lemmas.Bool.Decides.{nat_tests}
use Rattle.cds_stamps.specs.Members.{Member, is_listed, members_of, place_of}
use Rattle.cell_model.specs.Cells as model
use Rattle.cell_model.specs.Commands as command
use Rattle.cell_model.specs.Holdings.{NumbersHold}
use Rattle.cell_model.specs.Sets.{has}
use Rattle.cell_model.specs.Steps.{first_refusal, is_down, is_missing, is_unknown}
use Rattle.cell_model.proofs.Numbers.{numbers_lem}
use Rattle.cell_model.proofs.Standing.{on_reached}
use Rattle.script_answers.specs.declared.answer.ScriptRefusal.{ScriptRefusal}
use Rattle.cds_cell.specs.declared.cell.Cell.{Cell}
use Rattle.cds_cell.specs.declared.console.Listing.{Listing}
use Rattle.cds_cell.specs.declared.house.CellHouse.{CellHouse}
use Rattle.cds_cell.specs.declared.house.HouseState.{HouseState}
use Rattle.cds_cell.specs.declared.house.HouseState.TheVariants as state
use Rattle.cds_cell.specs.CellHouses.{StandsAtHouse, StandsState, is_up_state}
use Rattle.cds_cell.specs.PrivateSteps.{IsPlaceOf}
use Rattle.cds_cell.specs.Scripted.{refusal_of}
use Rattle.cds_cell.specs.ModelCells.{MaybeStandsHouse, Stands, StandsListing, directory_of, house_of}
use Rattle.cds_cell.proofs.Houses.{has_number, house_of_place}

-- ---- directories

-- a listing that stands for what the console knows of a directory says that there is one
pub known_by : (o : Option Listing) (g : model.Cell) (d : ℕ) → StandsListing o g d → is_unknown g d ≡ is_none o
known_by None g d stands = rw stands refl
known_by (Some l) g d stands = let some = stands.0 in let top = stands.1 in grind (arith, nat_tests, some, top)

-- the directory of a number is one place before it
pub directory_at : (ls : List Listing) (d i : ℕ) → d ≡ i + 1 → directory_of ls d ≡ slice_get ls i
directory_at ls d i is = let next : d ≡ suc i = omega (arith, is) in ap (directory_of ls) next

-- what an index reads within a list is there
pub read_there : {A : Type 0} (xs : List A) (i : ℕ) (x : A) → i < length xs → x ≡ get_or xs i x → slice_get xs i ≡ Some x
read_there [] i x less is = absurd (omega (arith, less))
read_there (y ∷ ys) zero x less is = ap Some (sym is)
read_there (y ∷ ys) (suc i) x less is = read_there ys i x (omega (arith, less)) is

-- a place of a directory in the list, or none
pub placed_as : (ls : List Listing) (d : ℕ) (r : Option ℕ) → MatchOption r (directory_of ls d ≡ None) (λ i. (d ≡ i + 1) × (i < length ls))
    → is_none r ≡ is_none (directory_of ls d)
placed_as ls d None none = rw none refl
placed_as ls d (Some i) there = within ls i there.1 ∙ ap is_none (sym (directory_at ls d i there.0))
  where
    within : (ls : List Listing) (i : ℕ) → i < length ls → false ≡ is_none (slice_get ls i)
    within [] i less = absurd (omega (arith, less))
    within (l ∷ ls) zero less = refl
    within (l ∷ ls) (suc i) less = within ls i (omega (arith, less))

-- what the cell says of a directory's number
pub unknown_where : (c : Cell) (g : model.Cell) (d : ℕ) (r : Option ℕ) → Stands c g
    → MatchOption r (directory_of c.directories.items d ≡ None) (λ i. (d ≡ i + 1) × (i < length c.directories.items)) → is_none r ≡ is_unknown g d
unknown_where c g d r s place =
    placed_as c.directories.items d r place ∙ sym (known_by (directory_of c.directories.items d) g d (s.stands.directories d))

-- ---- houses

state_up : (h : CellHouse) (now : model.House) → StandsAtHouse h now → now.up ≡ is_up_state (Some h.state)
state_up h now stands = by_state h.state stands.state
  where
    by_state : (s : HouseState) → StandsState h.house s now → now.up ≡ is_up_state (Some s)
    by_state (state.Up c) known = known.0
    by_state (state.Down octets) known = known.0

-- what the cell says of whether a house is down
pub down_where : (c : Cell) (g : model.Cell) (x : ℕ) (r : Option HouseState) → Stands c g → r ≡ option_map (λ h. h.state) (house_of c.houses.items x)
    → not (is_up_state r) ≡ is_down g x
down_where c g x r s is =
    ap (λ o. not (is_up_state o)) is ∙ ap not (sym (up_by (house_of c.houses.items x) refl (s.stands.houses x)))
  where
    up_by : (o : Option CellHouse) → house_of c.houses.items x ≡ o → MaybeStandsHouse o (g.house x)
        → (g.house x).up ≡ is_up_state (option_map (λ h. h.state) o)
    up_by None none stands =
        let unmade : has x g.made ≡ false = ap (has x) s.stands.made ∙ has_number c.houses.items x ∙ ap is_some none in
        ap (λ (now : model.House). now.up) ((on_reached NumbersHold numbers_lem g s.reached).unmade x unmade)
    up_by (Some h) there stands = state_up h (g.house x) stands

-- ---- several tests

-- houses of which one was not made
pub missing_where : (c : Cell) (g : model.Cell) (hs : List ℕ) → Stands c g → list_any (λ x. not (is_some (house_of c.houses.items x))) hs ≡ is_missing g hs
missing_where c g [] s = refl
missing_where c g (x ∷ xs) s =
    let one : has x g.made ≡ is_some (house_of c.houses.items x) = ap (has x) s.stands.made ∙ has_number c.houses.items x in
    cc (one, missing_where c g xs s)

-- what there is of the house at a place
pub state_at : (hs : List CellHouse) (x i : ℕ) (h : CellHouse) → IsPlaceOf hs x i → slice_get hs i ≡ Some h
    → Some h.state ≡ option_map (λ h. h.state) (house_of hs x)
state_at hs x i h place there = rw (house_of_place hs x i h place there).0 refl

-- a member of a list has a place in it
pub listed_where : (x : ℕ) (ms : List Member) → is_some (place_of x ms) ≡ is_listed x ms
listed_where x ms = from 0 ms
  where
    from : (k : ℕ) (ms : List Member) → is_some (position_from (λ m. m.house == x) k ms) ≡ is_listed x ms
    from k [] = refl
    from k (m ∷ ms) = by_test (m.house == x) (from (k + 1) ms)
      where
        by_test : (b : Bool) → is_some (position_from (λ m. m.house == x) (k + 1) ms) ≡ is_listed x ms
            → is_some (cond b (Some k) (position_from (λ m. m.house == x) (k + 1) ms)) ≡ (b || is_listed x ms)
        by_test true rest = refl
        by_test false rest = rest

-- the members that the console knows of a directory
pub members_where : (c : Cell) (g : model.Cell) (d i : ℕ) (l : Listing) → Stands c g → d ≡ i + 1 → slice_get c.directories.items i ≡ Some l
    → g.present d ≡ members_of l.members
members_where c g d i l s is there =
    let stands : StandsListing (Some l) g d = subst (λ o. StandsListing o g d) (directory_at c.directories.items d i is ∙ there) (s.stands.directories d) in
    stands.2

-- a directory that the cell does not know has no members
pub unlisted_where : (c : Cell) (g : model.Cell) (d x : ℕ) → Stands c g → directory_of c.directories.items d ≡ None → is_listed x (g.present d) ≡ false
unlisted_where c g d x s none =
    let top : g.top d ≡ 0 = subst (λ o. StandsListing o g d) none (s.stands.directories d) in
    ap (is_listed x) ((on_reached NumbersHold numbers_lem g s.reached).nothing d top).present

-- ---- tests one after another

-- where one of the first tests holds, the others do not count
pub refused_first : (r : ScriptRefusal) (ts us : List (Bool × command.Refusal)) → Some r ≡ option_map refusal_of (first_refusal ts)
    → Some r ≡ option_map refusal_of (first_refusal (ts ++ us))
refused_first r [] us is = absurd (cc)
refused_first r (t ∷ ts) us is = by_test t.0 is (refused_first r ts us)
  where
    by_test : (holds : Bool) → Some r ≡ option_map refusal_of (if holds then Some t.1 else first_refusal ts)
        → (Some r ≡ option_map refusal_of (first_refusal ts) → Some r ≡ option_map refusal_of (first_refusal (ts ++ us)))
        → Some r ≡ option_map refusal_of (if holds then Some t.1 else first_refusal (ts ++ us))
    by_test true is more = is
    by_test false is more = more is

-- a test that does not hold in front of others does not count
pub passed_first : (holds : Bool) (why : command.Refusal) (r : Option ScriptRefusal) (ts : List (Bool × command.Refusal))
    → None ≡ option_map refusal_of (first_refusal ((holds, why) ∷ [])) → r ≡ option_map refusal_of (first_refusal ts)
    → r ≡ option_map refusal_of (first_refusal ((holds, why) ∷ ts))
passed_first true why r ts none is = absurd (cc)
passed_first false why r ts none is = is

-- Several updates at a house, in the cell of the program.
use Rattle.std.proofs.Common.{◌≡◌, ℕ, zero, suc, ◌+◌, List, [], ◌∷◌, ◌++◌, true, append_assoc, sym, ap, ◌∙◌, subst, arith}
use Rattle.std.proofs.Common.{◌<◌, add-one, drop, drop-cons, get_or, length, zero-add}
use Rattle.std.specs.Prelude.{Some, None, Result, Ok, Err, slice_set}
use Rattle.cds_stamps.specs.declared.stamp.Stamp.{Stamp}
use Rattle.directory.specs.declared.update.UpdateRefusal.{UpdateRefusal}
use Rattle.directory.specs.declared.update.UpdateRefusal.TheVariants.{NoReplica, StampsSpent}
use Rattle.directory.specs.declared.update.Update.{Update}
use Rattle.directory.specs.EntryChanges.{changes}
use Rattle.directory.specs.Updates.{Change, change_of}
use Rattle.cell_model.specs.Cells as model
use Rattle.cell_model.specs.Commands as command
use Rattle.cell_model.specs.Steps.{at_house, serials_of}
use Rattle.cell_model.specs.Turns as turns
use Rattle.cell_model.specs.Turns.{HouseStep, accept_at}
use Rattle.cell_model.proofs.AtHouses.{posts_of}
use Rattle.cell_model.proofs.Lists.{append_nil}
use Rattle.house_directory.specs.DirectorySteps.{IsStampAnswer}
use Rattle.cds_cell.specs.declared.cell.Cell.{Cell}
use Rattle.cds_cell.specs.declared.house.CellHouse.{CellHouse}
use Rattle.cds_cell.specs.declared.updating.AcceptedAll.{AcceptedAll}
use Rattle.cds_cell.specs.Accepting.{Accepting, IsAccepting, accept_in_turn, behind, by_answer, no_more_updates}
use Rattle.cds_cell.specs.PrivateActs.{ActsAt}
use Rattle.cds_cell.specs.PrivateSteps.{IsPlaceOf}
use Rattle.cds_cell.specs.ModelCells.{Stands}
use Rattle.cds_cell.proofs.HouseActs.{Acted, acted}
use Rattle.cds_cell.proofs.Houses.{house_of_place}
use Rattle.cds_cell.proofs.UpdateSteps.{UpdateComes, after_commanded, after_reached, after_up, lacks, refuses, spent, stamps, update_comes}

-- ---- places

-- a house of the same number at its place
place_kept : (hs : List CellHouse) (x i : ℕ) (w : CellHouse) → w.house.0 ≡ x → IsPlaceOf hs x i → IsPlaceOf (slice_set hs i w) x i
place_kept [] x i w number place = elim place [ ]
place_kept (h ∷ hs) x zero w number place = number
place_kept (h ∷ hs) x (suc i) w number place = (place.0, place_kept hs x i w number place.1)

-- ---- on the way

-- of all these updates so many were accepted, which posted these messages, and the cell stands for
-- the model's after them; the rest is to come
pub record Midway (c : Cell) (g : model.Cell) (x at d n : ℕ) (ns : List ℕ) (all rest : List Change) : Type 0 where
  pub cell : model.Cell
  pub stands : Stands c cell
  pub place : IsPlaceOf c.houses.items x at
  pub up : (cell.house x).up ≡ true
  pub so_far : accept_in_turn g x d all ≡ behind n ns (accept_in_turn cell x d rest)

-- before the first
pub none_done : (c : Cell) (g : model.Cell) (x at d : ℕ) (all : List Change) → Stands c g → IsPlaceOf c.houses.items x at → (g.house x).up ≡ true
    → Midway c g x at d 0 [] all all
none_done c g x at d all stands place up =
    record { cell = g; stands = stands; place = place; up = up; so_far = behind_none (accept_in_turn g x d all) }
  where
    behind_none : (w : Accepting) → w ≡ behind 0 [] w
    behind_none w = ap (λ n. record w { count = n }) (sym (zero-add w.count))

-- after the last
pub all_done : (c : Cell) (g : model.Cell) (x at d n : ℕ) (ns : List ℕ) (all : List Change) (a : AcceptedAll) → Midway c g x at d n ns all []
    → a.count ≡ n → a.posted ≡ ns → a.refused ≡ None → IsAccepting a c (accept_in_turn g x d all)
all_done c g x at d n ns all a m count posted refused =
    subst (λ (w : Accepting). IsAccepting a c w) (sym m.so_far) (record {
      count = omega (arith, count);
      posted = posted ∙ sym (append_nil ns);
      refused = refused;
      stands = m.stands;
    })

-- the next update comes before the rest
pub next_midway : (c : Cell) (g : model.Cell) (x at d n : ℕ) (ns : List ℕ) (all : List Change) (us : List Update) (u : Update) → n < length us
    → u ≡ get_or us n u → Midway c g x at d n ns all (changes (drop n us)) → Midway c g x at d n ns all (change_of u ∷ changes (drop (n + 1) us))
next_midway c g x at d n ns all us u less here m = subst (λ vs. Midway c g x at d n ns all (changes vs)) there m
  where
    there : drop n us ≡ u ∷ drop (n + 1) us
    there = drop-cons us n u less ∙ ap (λ v. v ∷ drop (suc n) us) (sym here) ∙ ap (λ k. u ∷ drop k us) (sym (add-one n))

behind_more : (n : ℕ) (ns ms : List ℕ) (w : Accepting) → behind n ns (behind 1 ms w) ≡ behind (n + 1) (ns ++ ms) w
behind_more n ns ms w i = record { count = counts i; posted = sym (append_assoc ns ms w.posted) i; refused = w.refused; cell = w.cell }
  where
    counts : n + (1 + w.count) ≡ (n + 1) + w.count
    counts = omega arith

module _ (c c' : Cell) (g : model.Cell) (x at d n : ℕ) (ns ms : List ℕ) (all : List Change) (u : Change) (rest : List Change)
    (r : Result Stamp UpdateRefusal) (m : Midway c g x at d n ns all (u ∷ rest))
    (acts : ActsAt c c' at ns ms (IsStampAnswer r) (m.cell.house x) (λ h. turns.accept h (m.cell.house x) d u)) where
  moves : Acted c' m.cell x ns ms (IsStampAnswer r) (turns.accept x (m.cell.house x) d u)
  moves = acted c c' m.cell x at ns ms (IsStampAnswer r) (λ h. turns.accept h (m.cell.house x) d u) m.stands.stands m.place acts m.up

  place : IsPlaceOf c'.houses.items x at
  place =
      let there = house_of_place c.houses.items x at acts.was m.place acts.changes.was in
      let number : acts.is.house.0 ≡ x = ap (λ h. h.0) acts.changes.same.house ∙ there.1 in
      subst (λ hs. IsPlaceOf hs x at) (sym acts.changes.houses) (place_kept c.houses.items x at acts.is number m.place)

  -- an update more is accepted
  pub one_done : (s : Stamp) → r ≡ Ok s → Midway c' g x at d (n + 1) ms all rest
  one_done s ok = by_case (turns.accept x (m.cell.house x) d u) (update_comes m.cell x d u) moves m.so_far
    where
      unstamped : (why : UpdateRefusal) → Acted c' m.cell x ns ms (IsStampAnswer r) (turns.refuses why) → Midway c' g x at d (n + 1) ms all rest
      unstamped why a = absurd (subst (λ z. IsStampAnswer z (command.Refused (command.Update why))) ok a.answer)

      by_case : (step : HouseStep) → UpdateComes m.cell x d u step → Acted c' m.cell x ns ms (IsStampAnswer r) step
          → accept_in_turn g x d all ≡ behind n ns
          (by_answer (at_house m.cell x step).answer (at_house m.cell x step).cell (accept_in_turn (at_house m.cell x step).cell x d rest))
          → Midway c' g x at d (n + 1) ms all rest
      by_case _ (lacks none) a so_far = unstamped NoReplica a
      by_case _ (refuses q why held is) a so_far = unstamped why a
      by_case _ (spent q held) a so_far = unstamped StampsSpent a
      by_case _ (stamps q t held fine is) a so_far =
          let step : HouseStep = accept_at x (m.cell.house x) d u q (Some t) in
          let commanded = after_commanded m.cell x d u q t m.stands.reached m.up held fine is in
          record {
            cell = (at_house m.cell x step).cell;
            stands = record { reached = after_reached m.cell x d u q t m.stands.reached commanded; stands = a.stands };
            place = place;
            up = after_up m.cell x d u q t m.up;
            so_far = so_far ∙ behind_more n ns (serials_of m.cell (posts_of step)) (accept_in_turn (at_house m.cell x step).cell x d rest)
                ∙ ap (λ ks. behind (n + 1) ks (accept_in_turn (at_house m.cell x step).cell x d rest)) (sym a.told);
          }

  -- an update is refused
  pub one_refused : (why : UpdateRefusal) (a : AcceptedAll) → r ≡ Err why → a.count ≡ n → a.posted ≡ ms → a.refused ≡ Some why
      → IsAccepting a c' (accept_in_turn g x d all)
  one_refused why a err count posted refused = by_case (turns.accept x (m.cell.house x) d u) (update_comes m.cell x d u) moves m.so_far
    where
      stops : (q : UpdateRefusal) → Acted c' m.cell x ns ms (IsStampAnswer r) (turns.refuses q)
          → accept_in_turn g x d all ≡ behind n ns (no_more_updates m.cell (Some q)) → IsAccepting a c' (accept_in_turn g x d all)
      stops q it so_far =
          let same : why ≡ q = subst (λ z. IsStampAnswer z (command.Refused (command.Update q))) err it.answer in
          subst (λ (w : Accepting). IsAccepting a c' w) (sym so_far) (record {
            count = omega (arith, count);
            posted = posted ∙ it.told;
            refused = refused ∙ ap Some same;
            stands = record { reached = m.stands.reached; stands = it.stands };
          })

      by_case : (step : HouseStep) → UpdateComes m.cell x d u step → Acted c' m.cell x ns ms (IsStampAnswer r) step
          → accept_in_turn g x d all ≡ behind n ns
          (by_answer (at_house m.cell x step).answer (at_house m.cell x step).cell (accept_in_turn (at_house m.cell x step).cell x d rest))
          → IsAccepting a c' (accept_in_turn g x d all)
      by_case _ (lacks none) it so_far = stops NoReplica it so_far
      by_case _ (refuses q quit held is) it so_far = stops quit it so_far
      by_case _ (spent q held) it so_far = stops StampsSpent it so_far
      by_case _ (stamps q t held fine is) it so_far =
          absurd (subst (λ z. IsStampAnswer z (command.Stamped t (serials_of m.cell (posts_of (accept_at x (m.cell.house x) d u q (Some t)))))) err it.answer)

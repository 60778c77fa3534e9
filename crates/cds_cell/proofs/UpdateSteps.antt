-- What comes of an update at a house that is up.
use Rattle.std.proofs.Common.{◌≡◌, ℕ, Bool, true, false, refl, ap, ◌∙◌, subst, arith}
use Rattle.std.specs.Prelude.{Option, Some, None, ◌==◌}
use Rattle.std.proofs.lemmas.Bool.Decides.{nat_tests}
use Rattle.cds_stamps.specs.declared.stamp.Stamp.{Stamp}
use Rattle.directory.specs.declared.update.UpdateRefusal.{UpdateRefusal}
use Rattle.directory.specs.declared.update.UpdateRefusal.TheVariants.{NoReplica, StampsSpent}
use Rattle.directory.specs.Shown.{marks_of, shown_of_name}
use Rattle.directory.specs.Updates.{Change, changed_name}
use Rattle.cell_model.specs.Cells.{Absent, Cell, Gone, Held, House, IsHeld, Replica, Slot}
use Rattle.cell_model.specs.Commands as command
use Rattle.cell_model.specs.Holdings.{NumbersHold}
use Rattle.cell_model.specs.Reached.{IsReached}
use Rattle.cell_model.specs.Sets.{has}
use Rattle.cell_model.specs.Steps.{Outcome, at_house, effect, first_refusal, outcome, refusals_of, unless}
use Rattle.cell_model.specs.Turns as turns
use Rattle.cell_model.specs.Turns.{HouseStep, accept, accept_at, accept_in, with_marks, with_slot, stamp_at, unless_refused, update_refusal}
use Rattle.cell_model.proofs.Numbers.{numbers_lem}
use Rattle.cell_model.proofs.Standing.{on_reached, reached_lem}
use Rattle.cell_model.proofs.Views.{put_same}

-- what comes of an update: it is refused, since the house holds no such directory, by what it
-- holds, or for want of a stamp; or it is stamped
pub data UpdateComes (g : Cell) (h d : ℕ) (u : Change) : HouseStep → Type 0 where
  lacks : ((r : Replica) → IsHeld g h d r → ⊥) → UpdateComes g h d u (turns.refuses NoReplica)
  refuses : (r : Replica) (q : UpdateRefusal) → IsHeld g h d r → update_refusal h u r ≡ Some q → UpdateComes g h d u (turns.refuses q)
  spent : (r : Replica) → IsHeld g h d r → UpdateComes g h d u (turns.refuses StampsSpent)
  stamps : (r : Replica) (s : Stamp) → IsHeld g h d r → update_refusal h u r ≡ None → stamp_at (g.house h) ≡ Some s
      → UpdateComes g h d u (accept_at h (g.house h) d u r (Some s))

module _ (g : Cell) (h d : ℕ) (u : Change) where
  by_stamp : (r : Replica) (o : Option Stamp) → IsHeld g h d r → update_refusal h u r ≡ None → stamp_at (g.house h) ≡ o
      → UpdateComes g h d u (accept_at h (g.house h) d u r o)
  by_stamp r None held fine is = spent r held
  by_stamp r (Some s) held fine is = stamps r s held fine is

  by_refusal : (r : Replica) (o : Option UpdateRefusal) → IsHeld g h d r → update_refusal h u r ≡ o
      → UpdateComes g h d u (unless_refused o (accept_at h (g.house h) d u r (stamp_at (g.house h))))
  by_refusal r None held is = by_stamp r (stamp_at (g.house h)) held is refl
  by_refusal r (Some q) held is = refuses r q held is

  by_slot : (s : Slot) → (g.house h).slots d ≡ s → UpdateComes g h d u (accept_in h (g.house h) d u s)
  by_slot Absent is = lacks (λ r held. absurd (cc))
  by_slot (Gone e) is = lacks (λ r held. absurd (cc))
  by_slot (Held r) is = by_refusal r (update_refusal h u r) is refl

  -- each update comes to one of these
  pub update_comes : UpdateComes g h d u (accept h (g.house h) d u)
  update_comes = by_slot ((g.house h).slots d) refl

  -- a house that is up, and holds the directory, accepts it by a command of the cell
  pub update_commanded : (r : Replica) → IsReached g → (g.house h).up ≡ true → IsHeld g h d r
      → outcome g (command.Accept h d u) ≡ effect g (command.Accept h d u)
  update_commanded r reached up held =
      let numbers : NumbersHold g = on_reached NumbersHold numbers_lem g reached in
      let known : (g.top d == 0) ≡ false = by_top numbers (g.top d == 0) refl in
      let made : has h g.made ≡ true = by_made numbers (has h g.made) refl in
      let none : first_refusal (refusals_of g (command.Accept h d u)) ≡ None = rw (known, made, up) refl in
      ap (λ (o : Option command.Refusal). unless g o (effect g (command.Accept h d u))) none
    where
      by_top : NumbersHold g → (b : Bool) → (g.top d == 0) ≡ b → b ≡ false
      by_top numbers true is =
          let none : g.top d ≡ 0 = grind (arith, nat_tests, is) in
          let absent : (g.house h).slots d ≡ Absent = (numbers.nothing d none).absent h in
          absurd (cc)
      by_top numbers false is = refl

      by_made : NumbersHold g → (b : Bool) → has h g.made ≡ b → b ≡ true
      by_made numbers true is = refl
      by_made numbers false is =
          let down : (g.house h).up ≡ false = ap (λ (now : House). now.up) (numbers.unmade h is) in
          absurd (cc)

  -- the house after it
  module _ (r : Replica) (s : Stamp) where
    abbrev pub after : Cell
    after = (at_house g h (accept_at h (g.house h) d u r (Some s))).cell

    here : after.house h ≡ with_slot (g.house h) d s.time (Held (with_marks r (marks_of (shown_of_name r.history (changed_name u)) u s)))
    here = put_same g.house h (with_slot (g.house h) d s.time (Held (with_marks r (marks_of (shown_of_name r.history (changed_name u)) u s))))

    -- is up
    pub after_up : (g.house h).up ≡ true → (after.house h).up ≡ true
    after_up up = ap (λ (now : House). now.up) here ∙ up

    -- and holds the longer history
    pub after_held : IsHeld after h d (with_marks r (marks_of (shown_of_name r.history (changed_name u)) u s))
    after_held = ap (λ (now : House). now.slots d) here ∙ put_same (g.house h).slots d (Held (with_marks r (marks_of (shown_of_name r.history (changed_name u)) u s)))

    -- the cell is reached, as the command leads there
    pub after_commanded : IsReached g → (g.house h).up ≡ true → IsHeld g h d r → update_refusal h u r ≡ None → stamp_at (g.house h) ≡ Some s
        → outcome g (command.Accept h d u) ≡ at_house g h (accept_at h (g.house h) d u r (Some s))
    after_commanded reached up held fine is = update_commanded r reached up held ∙ stamped
      where
        stamped : effect g (command.Accept h d u) ≡ at_house g h (accept_at h (g.house h) d u r (Some s))
        stamped = rw (held, fine, is) refl

    pub after_reached : IsReached g → outcome g (command.Accept h d u) ≡ at_house g h (accept_at h (g.house h) d u r (Some s)) → IsReached after
    after_reached reached is = subst (λ (o : Outcome). IsReached o.cell) is (reached_lem.after g (command.Accept h d u) reached)

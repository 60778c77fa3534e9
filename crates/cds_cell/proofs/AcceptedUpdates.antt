-- What comes of several updates at a house that is up.
use Rattle.std.proofs.Common.{◌≡◌, ℕ, suc, ◌+◌, ◌≤◌, ◌<◌, ◌↔◌, ◌⊎◌, inl, inr, true, List, [], ◌∷◌}
use Rattle.std.proofs.Common.{◌++◌, map, take, length, refl, sym, ap, ◌∙◌, subst, arith}
use Rattle.std.specs.Prelude.{Option, Some, None, if◌then◌else◌}
use Rattle.std.specs.List.{AllByRecursion, flat_map}
use Rattle.std.proofs.lemmas.Bool.Decides.{nat_tests}
use Rattle.cds_stamps.specs.declared.stamp.Stamp.{Stamp}
use Rattle.cds_stamps.specs.Members.{is_accepting, master_of}
use Rattle.cds_stamps.specs.Stamps.{is_earlier}
use Rattle.directory.specs.declared.update.UpdateRefusal.{UpdateRefusal}
use Rattle.directory.specs.declared.update.UpdateRefusal.TheVariants.{NotMaster, StampsSpent}
use Rattle.directory.specs.EntryChanges.{AreAccepted}
use Rattle.directory.specs.Histories.{IsBefore, stamp_in}
use Rattle.directory.specs.Shown.{marks_of, refusal_of, shown_of_name}
use Rattle.directory.specs.Updates.{Change, changed_name}
use Rattle.cell_model.specs.Cells.{Cell, Held, IsHeld, Replica, Slot}
use Rattle.cell_model.specs.Commands as command
use Rattle.cell_model.specs.Floors.{FloorsHold, ReplicaBelow}
use Rattle.cell_model.specs.Reached.{IsReached}
use Rattle.cell_model.specs.Steps.{Outcome, answers_from, at_house, effect, outcome, replay_from}
use Rattle.cell_model.specs.Turns.{HouseStep, accept, accept_at, with_marks, update_refusal}
use Rattle.cell_model.proofs.FloorTimes.{floors_lem}
use Rattle.cell_model.proofs.Marks.{stamp_next}
use Rattle.cell_model.proofs.Merging.{contains_in}
use Rattle.cell_model.proofs.Standing.{on_reached}
use Rattle.cds_cell.specs.Accepting.{Accepting, IsStamped, accept_in_turn, behind, by_answer, posted_in}
use Rattle.cds_cell.proofs.Masters.{held_accepts}
use Rattle.cds_cell.proofs.UpdateSteps.{UpdateComes, after_commanded, after_held, after_reached, after_up, lacks, refuses, spent, stamps, update_comes}

-- ---- how many are accepted

-- as many as there are, or fewer, where one is refused
abbrev pub Counts : List Change → Accepting → Type 0
Counts us w = (w.count ≤ length us) × ((w.refused ≡ None) ↔ (w.count ≡ length us))

refused_counts : (g : Cell) (u : Change) (us : List Change) (q : UpdateRefusal)
    → Counts (u ∷ us) (record { count = 0; posted = []; refused = Some q; cell = g })
refused_counts g u us q = (omega arith, (λ none. absurd (cc), λ all. absurd (omega (arith, all))))

-- the updates that are accepted are all exactly where none is refused
pub accepting_counts : (us : List Change) (g : Cell) (h d : ℕ) → Counts us (accept_in_turn g h d us)
accepting_counts [] g h d = (omega arith, (λ none. refl, λ all. refl))
accepting_counts (u ∷ us) g h d =
    by_case (accept h (g.house h) d u) (update_comes g h d u) (accepting_counts us (effect g (command.Accept h d u)).cell h d)
  where
    by_case : (s : HouseStep) → UpdateComes g h d u s → Counts us (accept_in_turn (at_house g h s).cell h d us)
        → Counts (u ∷ us) (by_answer (at_house g h s).answer (at_house g h s).cell (accept_in_turn (at_house g h s).cell h d us))
    by_case _ (lacks none) rest = refused_counts g u us _
    by_case _ (refuses r q held why) rest = refused_counts g u us q
    by_case _ (spent r held) rest = refused_counts g u us _
    by_case _ (stamps r s held fine is) rest =
        let few = rest.0 in
        (omega (arith, few), (λ none. let all = rest.1.0 none in omega (arith, all), λ all. rest.1.1 (omega (arith, all))))

-- ---- commands

-- the commands of these updates lead from a cell to that of w, are all stamped, and post its
-- messages
pub record AreCommands (g : Cell) (h d : ℕ) (us : List Change) (w : Accepting) : Type 0 where
  pub cells : w.cell ≡ replay_from g (map (command.Accept h d) us)
  pub stamped : AllByRecursion IsStamped (answers_from g (map (command.Accept h d) us))
  pub posted : w.posted ≡ flat_map posted_in (answers_from g (map (command.Accept h d) us))

-- so are those of the updates that are accepted
pub record AreAcceptedCommands (g : Cell) (h d : ℕ) (us : List Change) (w : Accepting) : Type 0 where
  pub are : AreCommands g h d (take w.count us) w

no_commands : (g : Cell) (h d : ℕ) (us : List Change) (q : Option UpdateRefusal)
    → AreAcceptedCommands g h d us (record { count = 0; posted = []; refused = q; cell = g })
no_commands g h d us q = record { are = record { cells = refl; stamped = tt; posted = refl } }

take_more : (n : ℕ) (u : Change) (us : List Change) → take (1 + n) (u ∷ us) ≡ u ∷ take n us
take_more n u us = let more : 1 + n ≡ suc n = omega arith in ap (λ k. take k (u ∷ us)) more

more_commands : (g : Cell) (h d : ℕ) (u : Change) (us : List Change) (o : Outcome) (s : Stamp) (ns : List ℕ) (w : Accepting)
    → outcome g (command.Accept h d u) ≡ o → o.answer ≡ command.Stamped s ns → AreAcceptedCommands o.cell h d us w
    → AreAcceptedCommands g h d (u ∷ us) (behind 1 ns w)
more_commands g h d u us o s ns w is answer rest =
    record {
      are = subst (λ vs. AreCommands g h d vs (behind 1 ns w)) (sym (take_more w.count u us)) (record {
        cells = rest.are.cells ∙ ap (λ (z : Outcome). replay_from z.cell behind_it) (sym is);
        stamped = (
          subst IsStamped (sym its_answer) tt,
          subst (λ (z : Outcome). AllByRecursion IsStamped (answers_from z.cell behind_it)) (sym is) rest.are.stamped,
        );
        posted = ap (λ ms. ns ++ ms) (rest.are.posted ∙ ap (λ (z : Outcome). flat_map posted_in (answers_from z.cell behind_it)) (sym is))
            ∙ ap (λ a. posted_in a ++ flat_map posted_in (answers_from (outcome g (command.Accept h d u)).cell behind_it)) (sym its_answer);
      });
    }
  where
    behind_it : List command.Command
    behind_it = map (command.Accept h d) (take w.count us)

    its_answer : (outcome g (command.Accept h d u)).answer ≡ command.Stamped s ns
    its_answer = ap (λ (z : Outcome). z.answer) is ∙ answer

-- the updates that a house accepts which is up are commands
pub accepting_commands : (us : List Change) (g : Cell) (h d : ℕ) → IsReached g → (g.house h).up ≡ true
    → AreAcceptedCommands g h d us (accept_in_turn g h d us)
accepting_commands [] g h d reached up = no_commands g h d [] None
accepting_commands (u ∷ us) g h d reached up =
    by_case (accept h (g.house h) d u) (update_comes g h d u) (accepting_commands us (effect g (command.Accept h d u)).cell h d)
  where
    by_case : (s : HouseStep) → UpdateComes g h d u s
        → (IsReached (at_house g h s).cell → ((at_house g h s).cell.house h).up ≡ true
        → AreAcceptedCommands (at_house g h s).cell h d us (accept_in_turn (at_house g h s).cell h d us))
        → AreAcceptedCommands g h d (u ∷ us) (by_answer (at_house g h s).answer (at_house g h s).cell (accept_in_turn (at_house g h s).cell h d us))
    by_case _ (lacks none) rest = no_commands g h d (u ∷ us) _
    by_case _ (refuses r q held why) rest = no_commands g h d (u ∷ us) _
    by_case _ (spent r held) rest = no_commands g h d (u ∷ us) _
    by_case _ (stamps r s held fine is) rest =
        let o : Outcome = at_house g h (accept_at h (g.house h) d u r (Some s)) in
        let commanded = after_commanded g h d u r s reached up held fine is in
        more_commands g h d u us o s _ (accept_in_turn o.cell h d us) commanded refl
        (rest (after_reached g h d u r s reached commanded) (after_up g h d u r s up))

-- ---- refusals

-- none is refused, or one for want of a stamp
abbrev pub OnlySpent : Option UpdateRefusal → Type 0
OnlySpent o = (o ≡ None) ⊎ (o ≡ Some StampsSpent)

-- a house holds one replica of a directory
one_held : (s : Slot) (r q : Replica) → s ≡ Held r → s ≡ Held q → q ≡ r
one_held s r q is was = cc

-- a stamp above the floor is later than each mark
stamped_later : (r : Replica) (floor : ℕ) (s : Stamp) → ReplicaBelow r floor → floor < s.time → IsBefore r.history s
stamped_later r floor s below above m there =
    by_time (stamp_in m) s (let low = (below.marks m (contains_in r.history m there)).0 in omega arith)
  where
    by_time : (a b : Stamp) → a.time < b.time → is_earlier a b ≡ true
    by_time a b less = grind (arith, nat_tests)

-- a master refuses only for want of a stamp what the history accepts
pub accepting_refuses : (us : List Change) (g : Cell) (h d : ℕ) (r : Replica) → IsReached g → (g.house h).up ≡ true → IsHeld g h d r
    → master_of r.members ≡ h → AreAccepted r.history us → OnlySpent (accept_in_turn g h d us).refused
accepting_refuses [] g h d r reached up held master accepted = inl refl
accepting_refuses (u ∷ us) g h d r reached up held master accepted =
    by_case (accept h (g.house h) d u) (update_comes g h d u) (accepting_refuses us (effect g (command.Accept h d u)).cell h d)
  where
    allowed : update_refusal h u r ≡ None
    allowed =
        let accepts : is_accepting h r.members ≡ true = held_accepts g h d r reached held master in
        ap (λ b. if b then refusal_of (shown_of_name r.history (changed_name u)) u else Some NotMaster) accepts ∙ accepted.0

    unrefused : (q : Replica) (why : UpdateRefusal) → q ≡ r → update_refusal h u q ≡ Some why → ⊥
    unrefused q why same is = let fine : update_refusal h u q ≡ None = ap (λ (z : Replica). update_refusal h u z) same ∙ allowed in absurd (cc)

    by_case : (s : HouseStep) → UpdateComes g h d u s
        → ((q : Replica) → IsReached (at_house g h s).cell → ((at_house g h s).cell.house h).up ≡ true → IsHeld (at_house g h s).cell h d q
        → master_of q.members ≡ h → AreAccepted q.history us → OnlySpent (accept_in_turn (at_house g h s).cell h d us).refused)
        → OnlySpent (by_answer (at_house g h s).answer (at_house g h s).cell (accept_in_turn (at_house g h s).cell h d us)).refused
    by_case _ (lacks none) rest = absurd (none r held)
    by_case _ (refuses q why holds is) rest = absurd (unrefused q why (one_held ((g.house h).slots d) r q held holds) is)
    by_case _ (spent q holds) rest = inr refl
    by_case _ (stamps q s holds fine is) rest =
        let same : r ≡ q = one_held ((g.house h).slots d) q r holds held in
        let commanded = after_commanded g h d u q s reached up holds fine is in
        let floors : FloorsHold g = on_reached FloorsHold floors_lem g reached in
        let later : IsBefore q.history s =
        stamped_later q (g.house h).floor s (floors.houses h d q holds) (stamp_next (g.house h).clock (g.house h).floor (g.house h).node s is).0 in
        let more = subst (λ (z : Replica). AreAccepted z.history (u ∷ us)) same accepted in
        rest (with_marks q (marks_of (shown_of_name q.history (changed_name u)) u s)) (after_reached g h d u q s reached commanded) (after_up g h d u q s up)
        (after_held g h d u q s) (ap (λ (z : Replica). master_of z.members) (sym same) ∙ master) (more.1 s later)

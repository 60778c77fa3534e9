-- A skulk completes in the step that begins it exactly where its master is alone.
use Rattle.std.proofs.Common.{◌≡◌, ℕ, Bool, true, false, cond, List, [], ◌∷◌, Option, Some, None, refl, sym, ap, ◌∙◌, arith}
use Rattle.std.specs.Prelude.{◌==◌}
use Rattle.std.proofs.lemmas.Bool.{eqb-true}
use Rattle.std.proofs.lemmas.Bool.Decides.{nat_tests}
use Rattle.cds_stamps.specs.declared.stamp.Stamp.{Stamp}
use Rattle.cds_stamps.specs.Members.{master_of, others_of}
use Rattle.directory.specs.declared.update.UpdateRefusal.TheVariants.{NotMaster}
use Rattle.cell_model.specs.Cells.{Replica, Slot, Absent, Gone, Held, House, Cell}
use Rattle.cell_model.specs.Commands.{Skulk, Complete, Refusal}
use Rattle.cell_model.specs.Turns.{begin, refuses, skulk, skulk_at, skulk_in, stamp_at}
use Rattle.cell_model.specs.Steps.{at_house, effect, first_refusal, refusals_of, unless, outcome}
use Rattle.form_laws.specs.LastAnswers.{IsLoneMaster, CompletesAlone}

-- the master is the house, as the test says
same_house : (m h : ℕ) → m ≡ h → (m == h) ≡ true
same_house m h is = grind (arith, nat_tests)

-- ---- only there

module _ (g : Cell) (h d : ℕ) (t : Stamp) (ns : List ℕ) (meant : first_refusal (refusals_of g (Skulk h d)) ≡ None) where
  begun_alone : (r : Replica) (s : Stamp) (others : List ℕ) → (g.house h).slots d ≡ Held r → master_of r.members ≡ h → stamp_at (g.house h) ≡ Some s
      → others_of h r.members ≡ others → (at_house g h (begin h (g.house h) d r s others)).answer ≡ Complete t ns → IsLoneMaster g h d t
  begun_alone r s [] held master stamp alone e =
      let same : s ≡ t = cc in
      record { replica = r; meant = meant; held = held; master = master; alone = alone; stamp = stamp ∙ ap Some same }
  begun_alone r s (y ∷ ys) held master stamp alone e = absurd (cc)

  stamped_alone : (r : Replica) (o : Option Stamp) → (g.house h).slots d ≡ Held r → master_of r.members ≡ h → stamp_at (g.house h) ≡ o
      → (at_house g h (skulk_at h (g.house h) d r o)).answer ≡ Complete t ns → IsLoneMaster g h d t
  stamped_alone r None held master stamp e = absurd (cc)
  stamped_alone r (Some s) held master stamp e = begun_alone r s (others_of h r.members) held master stamp refl e

  held_alone : (o : Slot) → (g.house h).slots d ≡ o → (at_house g h (skulk_in h (g.house h) d o)).answer ≡ Complete t ns → IsLoneMaster g h d t
  held_alone Absent held e = absurd (cc)
  held_alone (Gone k) held e = absurd (cc)
  held_alone (Held r) held e = by_test (master_of r.members == h) refl e
    where
      by_test : (b : Bool) → (master_of r.members == h) ≡ b
          → (at_house g h (cond b (skulk_at h (g.house h) d r (stamp_at (g.house h))) (refuses NotMaster))).answer ≡ Complete t ns → IsLoneMaster g h d t
      by_test true is q = stamped_alone r (stamp_at (g.house h)) held (eqb-true (master_of r.members) h is) refl q
      by_test false is q = absurd (cc)

only_alone : (g : Cell) (h d : ℕ) (t : Stamp) (ns : List ℕ) → (outcome g (Skulk h d)).answer ≡ Complete t ns → IsLoneMaster g h d t
only_alone g h d t ns e = by_refusal (first_refusal (refusals_of g (Skulk h d))) refl e
  where
    by_refusal : (o : Option Refusal) → first_refusal (refusals_of g (Skulk h d)) ≡ o → (unless g o (effect g (Skulk h d))).answer ≡ Complete t ns
        → IsLoneMaster g h d t
    by_refusal None meant q = held_alone g h d t ns meant ((g.house h).slots d) refl q
    by_refusal (Some r) meant q = absurd (cc)

-- ---- always there

always_alone : (g : Cell) (h d : ℕ) (t : Stamp) → IsLoneMaster g h d t → (outcome g (Skulk h d)).answer ≡ Complete t []
always_alone g h d t w =
    let r : Replica = w.replica in
    let now : House = g.house h in
    ap (λ (o : Option Refusal). (unless g o (at_house g h (skulk h now d))).answer) w.meant
    ∙ ap (λ (s : Slot). (at_house g h (skulk_in h now d s)).answer) w.held
    ∙ ap (λ (b : Bool). (at_house g h (cond b (skulk_at h now d r (stamp_at now)) (refuses NotMaster))).answer) (same_house (master_of r.members) h w.master)
    ∙ ap (λ (o : Option Stamp). (at_house g h (skulk_at h now d r o)).answer) w.stamp
    ∙ ap (λ (others : List ℕ). (at_house g h (begin h now d r t others)).answer) w.alone

-- both ways, of each cell, house and directory
pub completes_alone : (g : Cell) (h d : ℕ) → CompletesAlone g h d
completes_alone g h d = record { only = λ t ns e. only_alone g h d t ns e; always = λ t w. always_alone g h d t w }

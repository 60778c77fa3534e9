-- A cell that is not spent has room for the lines that mend: its messages are few.
use Rattle.std.proofs.Common.{◌≡◌, ◌≤◌, ◌^◌, Bool, false, ◌∙◌, sym, subst, arith}
use Rattle.cds_cell.specs.declared.cell.Cell.{Cell}
use Rattle.script_replay.specs.StepCounts.{TookIn}
use Rattle.mend_replay.specs.declared.mender.Mender.{Mender}

few_posted : (m : Mender) → TookIn m.replayer.steps m.replayer.updates m.replayer.cell → m.replayer.cell.bag.posted ≤ 2 ^ 62
few_posted m took =
    let few = m.few in
    let messages = took.messages in
    let lists = took.lists in
    omega (arith, few, messages, lists)

pub room_left : (m : Mender) (c : Cell) (spent : Bool) → c ≡ m.replayer.cell → spent ≡ c.spent → spent ≡ false → c.bag.posted ≤ 2 ^ 62
room_left m c spent is asked sound =
    subst (λ (d : Cell). d.bag.posted ≤ 2 ^ 62) (sym is)
    (few_posted m (m.replayer.few (subst (λ (d : Cell). d.spent ≡ false) is (sym asked ∙ sound))))

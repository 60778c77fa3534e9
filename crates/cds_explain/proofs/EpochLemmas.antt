-- The console's list after an epoch that was a turn.
use Rattle.std.proofs.Common.{◌≡◌, ℕ, ◌+◌, Bool, true, false, List, Option, Some, None, refl, sym, ◌∙◌, ap, if◌then◌else◌}
use Rattle.std.specs.Prelude.{nat_le}
use Rattle.cds_stamps.specs.Members.{Member, since_in}
use Rattle.cell_model.specs.Cells.{Absent, Cell, Gone, Held, House, Slot}
use Rattle.cell_model.specs.Commands.{Answer, Complete, Done, Early, Epoch, Foreign, Late, Made, NewEpoch, NoReplica, NotJoined, Posted, Refusal, Refused, Stale, Stamped, Taken}
use Rattle.cell_model.specs.Steps.{Outcome, at_house, first_refusal, left_members, member_list_of, next_epoch, outcome, refusals_of, serials_of, unless, with_epoch}
use Rattle.cell_model.specs.Turns.{HouseStep, Stays, Turns, epoch_posts, epoch_replica, new_epoch, new_epoch_in, turn_without_updates, with_slot}
use Rattle.cell_model.proofs.Views.{put_same}
use Rattle.cell_runs.specs.Views.{is_turn}

-- the step of an epoch k is no turn, or is answered with k
abbrev AnswersEpoch : (k : ℕ) → HouseStep → Type 0
AnswersEpoch k (Stays a) = is_turn a ≡ false
AnswersEpoch k (Turns t) = (ns : List ℕ) → t.answer ns ≡ NewEpoch k ns

epoch_answers : (m : ℕ) (now : House) (d k : ℕ) (ms : List Member) (left : List ℕ) (s : Slot) → AnswersEpoch k (new_epoch_in m now d k ms left s)
epoch_answers m now d k ms left Absent = refl
epoch_answers m now d k ms left (Gone e) = refl
epoch_answers m now d k ms left (Held r) = by (nat_le (since_in ms m 0) r.epoch)
  where
    by : (b : Bool) → AnswersEpoch k (if b
        then turn_without_updates (with_slot now d now.floor (Held (epoch_replica k ms r))) (epoch_posts now.floor d m k ms left r) (NewEpoch k)
        else Stays (Refused (NotJoined r.epoch (since_in ms m 0))))
    by true = λ ns. refl
    by false = refl

-- what is noted of an epoch keeps its answer
answer_kept : (o : Outcome) (d : ℕ) (ms : List Member) (a : Answer) → (with_epoch o d ms a).answer ≡ o.answer
answer_kept o d ms Done = refl
answer_kept o d ms (Posted ns) = refl
answer_kept o d ms (Made n s ns) = refl
answer_kept o d ms (Stamped s ns) = refl
answer_kept o d ms (NewEpoch e ns) = refl
answer_kept o d ms (Taken ns) = refl
answer_kept o d ms (Late k e) = refl
answer_kept o d ms (Early k e) = refl
answer_kept o d ms (Stale t r) = refl
answer_kept o d ms NoReplica = refl
answer_kept o d ms Foreign = refl
answer_kept o d ms (Complete t ns) = refl
answer_kept o d ms (Refused r) = refl

-- the list that is noted of a turn that is answered with an epoch
noted : (g : Cell) (h d k : ℕ) (ms : List Member) (s : HouseStep) → AnswersEpoch k s
    → is_turn (with_epoch (at_house g h s) d ms (at_house g h s).answer).answer ≡ true
    → (with_epoch (at_house g h s) d ms (at_house g h s).answer).cell.present d ≡ ms
noted g h d k ms (Stays a) answers turn =
    let on : is_turn a ≡ true = sym (ap is_turn (answer_kept (at_house g h (Stays a)) d ms a)) ∙ turn in
    let both : false ≡ true = sym answers ∙ on in
    absurd (cc (both))
noted g h d k ms (Turns t) answers turn =
    ap (λ (a : Answer). (with_epoch (at_house g h (Turns t)) d ms a).cell.present d) (answers (serials_of g t.posts))
    ∙ put_same (at_house g h (Turns t)).cell.present d ms

-- after an epoch that was a turn the console lists the directory with its members
pub present_after : (g : Cell) (d m : ℕ) (rs ss : List ℕ) → is_turn (outcome g (Epoch d m rs ss)).answer ≡ true
    → (outcome g (Epoch d m rs ss)).cell.present d ≡ member_list_of (g.present d) (g.top d + 1) m rs ss
present_after g d m rs ss turn = by (first_refusal (refusals_of g (Epoch d m rs ss))) turn
  where
    ms : List Member
    ms = member_list_of (g.present d) (g.top d + 1) m rs ss

    by : (o : Option Refusal) → is_turn (unless g o (next_epoch g d m rs ss)).answer ≡ true → (unless g o (next_epoch g d m rs ss)).cell.present d ≡ ms
    by None turn =
        noted g m d (g.top d + 1) ms (new_epoch m (g.house m) d (g.top d + 1) ms (left_members (g.present d) ms))
        (epoch_answers m (g.house m) d (g.top d + 1) ms (left_members (g.present d) ms) ((g.house m).slots d)) turn
    by (Some r) turn = absurd (cc (turn))

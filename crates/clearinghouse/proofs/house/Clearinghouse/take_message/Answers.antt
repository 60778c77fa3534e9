use Rattle.std.proofs.Common.{◌≡◌, None, sym}
use Rattle.clearinghouse.specs.declared.house.Clearinghouse.{Clearinghouse}
use Rattle.house_directory.specs.declared.outgoing.Turn.{Turn}
use Rattle.house_directory.specs.declared.taking.Taken.{Taken}
use Rattle.clearinghouse.specs.HouseLetters.{posts_at}
use Rattle.clearinghouse.specs.HouseTakes.{Takes}
use Rattle.house_directory.specs.DirectorySteps.{IsTakeAnswer, UnlessTaken}
use Rattle.clearinghouse.specs.HouseSteps.{IsStep, LooksStep}
use Rattle.cell_model.specs.Turns.{take}
use Rattle.clearinghouse.proofs.Does.{DoesOr, done_other, done_join, done_leave, or_kept, or_others, or_told, or_who}
use Rattle.clearinghouse.proofs.Houses.{heed_ok, heed_lawful, heed_call}
use Rattle.clearinghouse.proofs.house.Clearinghouse.take_message.Goals.{in-Join, in-Leave, in_default}
use Rattle.clearinghouse.proofs.house.Clearinghouse.take_message.Goals as goal

-- what the part of the call that the message's kind asks for makes of the clearinghouse
does : (c : goal.After-heed) → DoesOr c.args.message.now c.args.self.now c.match-message.self c.match-message.done
does c = elim c.match-message.branch [
  | in-Join w ↦ done_join c.args.message.now w.in-Join.members w.in-Join.replica c.args.self.now w.take_join-done.new.self c.match-message.self
      w.take_join-done.result c.match-message.done w.self-is w.done-is w.in-Join.is w.take_join-done.ensures.ok w.take_join-done.ensures.err
  | in-Leave w ↦ done_leave c.args.message.now c.args.self.now w.take_leave-done.new.self c.match-message.self
      w.take_leave-done.result c.match-message.done w.self-is w.done-is w.in-Leave.is w.take_leave-done.ensures.ok w.take_leave-done.ensures.err
  | in_default w ↦ done_other c.args.message.now c.args.self.now w.take_other-done.new.self c.match-message.self
      w.take_other-done.result c.match-message.done w.self-is w.done-is w.in_default.not-Join w.in_default.not-Leave w.take_other-done.ensures.ok
      w.take_other-done.ensures.err
]

pub returns-clause-call : goal.returns-clause-call
returns-clause-call c =
    heed_call c.match-message.self c.heed.new.self c.match-message.done c.heed.result c.heed.ensures.result c.heed.ensures.heeds c.args.self.now
    (or_who c.args.message.now c.args.self.now c.match-message.self c.match-message.done (does c)) (let unspent = c.in_ok-usable.ensures in sym unspent)

pub returns-clause-kept : goal.returns-clause-kept
returns-clause-kept c valid lawful =
    heed_lawful c.match-message.self c.heed.new.self c.match-message.done c.heed.result c.heed.ensures.result c.heed.ensures.heeds
    (or_kept c.args.message.now c.args.self.now c.match-message.self c.match-message.done (does c) valid lawful)

pub returns-clause-same : goal.returns-clause-same
returns-clause-same c =
    heed_ok c.match-message.self c.heed.new.self c.match-message.done c.heed.result c.heed.ensures.result c.heed.ensures.heeds
    (λ (t : Turn Taken) (x : Clearinghouse). UnlessTaken t.answer ((x ≡ c.args.self.now) × (t.outgoing ≡ None)))
    (or_told c.args.message.now c.args.self.now c.match-message.self c.match-message.done
    (λ (t : Turn Taken). UnlessTaken t.answer ((c.match-message.self ≡ c.args.self.now) × (t.outgoing ≡ None))) (λ t d. d.same) (does c))

pub returns-clause-others : goal.returns-clause-others
returns-clause-others c =
    or_others c.args.message.now c.args.self.now c.match-message.self c.heed.new.self c.match-message.done c.heed.result c.heed.ensures.result
    c.heed.ensures.heeds (does c)

pub returns-clause-does : goal.returns-clause-does
returns-clause-does c =
    heed_ok c.match-message.self c.heed.new.self c.match-message.done c.heed.result c.heed.ensures.result c.heed.ensures.heeds
    (λ (t : Turn Taken) (x : Clearinghouse). Takes c.args.message.now c.args.self.now x t.answer t.outgoing)
    (or_told c.args.message.now c.args.self.now c.match-message.self c.match-message.done
    (λ (t : Turn Taken). Takes c.args.message.now c.args.self.now c.match-message.self t.answer t.outgoing) (λ t d. d.takes) (does c))

pub returns-clause-looks : goal.returns-clause-looks
returns-clause-looks c now m looks carries =
    heed_ok c.match-message.self c.heed.new.self c.match-message.done c.heed.result c.heed.ensures.result c.heed.ensures.heeds
    (λ (t : Turn Taken) (x : Clearinghouse). LooksStep (IsTakeAnswer t.answer) (take now m) c.args.message.now.dir x)
    (or_told c.args.message.now c.args.self.now c.match-message.self c.match-message.done
    (λ (t : Turn Taken). LooksStep (IsTakeAnswer t.answer) (take now m) c.args.message.now.dir c.match-message.self) (λ t d. d.looks now m looks carries)
    (does c))

pub returns-clause-step : goal.returns-clause-step
returns-clause-step c now m stands carries can =
    heed_ok c.match-message.self c.heed.new.self c.match-message.done c.heed.result c.heed.ensures.result c.heed.ensures.heeds
    (λ (t : Turn Taken) (x : Clearinghouse). IsStep (IsTakeAnswer t.answer) (take now m) c.args.self.now x (posts_at x c.args.message.now.dir t.outgoing))
    (or_told c.args.message.now c.args.self.now c.match-message.self c.match-message.done
    (λ (t : Turn Taken). IsStep (IsTakeAnswer t.answer) (take now m) c.args.self.now c.match-message.self
    (posts_at c.match-message.self c.args.message.now.dir t.outgoing))
    (λ t d. d.step now m stands carries can) (does c))

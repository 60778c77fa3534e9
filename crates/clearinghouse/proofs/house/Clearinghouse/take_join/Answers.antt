use Rattle.std.proofs.Common.{◌∙◌, ap, sym, subst}
use Rattle.std.specs.Prelude.{max, MatchOption}
use Rattle.cds_stamps.specs.declared.stamp.Floor.{Floor}
use Rattle.clearinghouse.specs.declared.house.Clearinghouse.{Clearinghouse}
use Rattle.house_directory.specs.DirectoryTakes.{Answers}
use Rattle.clearinghouse.specs.HouseTakes.{HasJoined}
use Rattle.clearinghouse.proofs.Takings.{copy_floor}
use Rattle.clearinghouse.proofs.house.Clearinghouse.take_join.Goals as goal

pub returns-clause-ok : goal.returns-clause-ok
returns-clause-ok c =
    let new : Clearinghouse = record c.take_copy.new.self { floor = c.raise.new.self } in
    let kept = copy_floor c.args.message.now c.args.members.now c.args.replica.now c.args.self.now c.take_copy.new.self c.in_ok-take_copy.ensures.ok in
    subst (λ p. MatchOption p
    (HasJoined c.args.message.now c.args.members.now c.args.replica.now c.args.self.now new c.taken_with.result.answer c.taken_with.result.outgoing)
    (λ answer. Answers c.args.self.now new answer c.taken_with.result.answer c.taken_with.result.outgoing))
    (sym c.in_default.is ∙ c.bars_join.ensures)
    (record {
      between = c.take_copy.new.self;
      has = c.in_ok-take_copy.ensures.ok;
      after = ap (λ t. record c.take_copy.new.self { floor = record { time = t } })
          (c.raise.ensures ∙ ap (λ (f : Floor). max f.time c.latest_in_message.result) kept
          ∙ ap (max c.args.self.now.floor.time) c.latest_in_message.ensures);
      answer = ap (λ t. t.answer) c.taken_with.ensures;
      posts = ap (λ t. t.outgoing) c.taken_with.ensures;
    })

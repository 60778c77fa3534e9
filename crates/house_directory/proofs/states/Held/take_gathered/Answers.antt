use Rattle.std.proofs.Common.{refl, ap, subst, ◌∙◌}
use Rattle.skulk_core.specs.MasterRounds.{IsPhaseOf, TakesGathered}
use Rattle.house_directory.specs.DirectoryTakes.{place_in}
use Rattle.house_directory.proofs.Takings.{joins_answer}
use Rattle.house_directory.proofs.states.Held.take_gathered.Goals as goal

pub returns-in_ok-take_delta-in_default : goal.returns-in_ok-take_delta-in_default
returns-in_ok-take_delta-in_default c = record {
  ok = record {
    lawful = c.count-count.ensures.lawful;
    next = c.gathered.result;
    phase = c.gathered.new.self;
    does = subst (λ n. TakesGathered c.args.t.now c.args.from n (place_in c.args.house c.args.self.now.members) c.args.self.now.skulk
        c.gathered.new.self c.gathered.result) c.count-count.ensures.count
        (subst (λ n. TakesGathered c.args.t.now c.args.from c.count-count.result n c.args.self.now.skulk c.gathered.new.self c.gathered.result)
        c.own_place-me.ensures.place c.gathered.ensures.does);
    keeps = subst (λ n. IsPhaseOf n (place_in c.args.house c.args.self.now.members) c.args.self.now.skulk
        → IsPhaseOf n (place_in c.args.house c.args.self.now.members) c.gathered.new.self) c.count-count.ensures.count
        (subst (λ n. IsPhaseOf c.count-count.result n c.args.self.now.skulk → IsPhaseOf c.count-count.result n c.gathered.new.self)
        c.own_place-me.ensures.place c.gathered.ensures.phase);
    after = joins_answer c.args.t.now c.args.delta.now c.gathered.new.self c.gathered.result c.args.self.now _ _ _ c.in_default.not-Stale (record {
      replica = record {
        merged = c.in_ok-take_delta-in_default.ensures.merged;
        joined = c.in_ok-take_delta-in_default.ensures.joined;
        up_to = c.in_ok-take_delta-in_default.ensures.all_up_to;
        valid = c.in_ok-take_delta-in_default.ensures.valid;
        below = c.in_ok-take_delta-in_default.ensures.times;
      };
      rest = refl;
      answer = ap (λ t. t.answer) c.taken_with.ensures;
      posts = ap (λ t. t.outgoing) c.taken_with.ensures ∙ c.second_round.ensures;
    });
  };
  err = tt;
}

use Rattle.std.proofs.Common.{◌≡◌, List, ◌++◌, ◌∙◌, sym, ap, subst, take, reverse, length, arith}
use Rattle.std.proofs.lemmas.List.{length-take-le, nil_from_length}
use Rattle.std.proofs.lemmas.Grind.{common_steps}
use Rattle.std.specs.Prelude.{Option}
use Rattle.std.specs.Option.{option_to_list}
use Rattle.house_journal.specs.declared.step.Tear.{Tear}
use Rattle.house_journal.specs.Unwindings.{TearFrom, all_torn}
use Rattle.house_journal.proofs.Restarting.{torn_changes, all_torn_more}
use Rattle.house_journal.proofs.Tails.{from_front}
use Rattle.house_journal.proofs.restart.torn.Goals as goal

pub apply-requires : goal.apply-requires
apply-requires c =
    let split = c.pop.ensures.items ∙ ap (λ (o : Option Tear). c.pop.new.self.items ++ option_to_list o) c.in-Some.is in
    (from_front c.args.low c.pop.new.self.items c.in-Some.write (subst (TearFrom c.args.low) split c.tears.invariant.tears_from)).1

pub tears-preserved : goal.tears-preserved
tears-preserved c =
    let split = c.pop.ensures.items ∙ ap (λ (o : Option Tear). c.pop.new.self.items ++ option_to_list o) c.in-Some.is in
    let front = take c.args.low c.args.octets.now in
    let size = length-take-le c.args.low c.args.octets.now c.requires.within in
    record {
      torn = ap (all_torn c.pop.new.self.items) (c.in_ok-apply.ensures front size)
          ∙ sym (all_torn_more c.pop.new.self.items c.in-Some.write (front ++ c.tears.end.items))
          ∙ ap (λ (l : List Tear). all_torn l (front ++ c.tears.end.items)) (sym split)
          ∙ c.tears.invariant.torn;
      tears_from = (from_front c.args.low c.pop.new.self.items c.in-Some.write (subst (TearFrom c.args.low) split c.tears.invariant.tears_from)).0;
    }

pub returns : goal.returns
returns c =
    let none : length c.tears.tears.items ≡ 0 = grind (arith, common_steps) in
    ap (λ (l : List Tear). all_torn l (take c.args.low c.args.octets.now ++ c.tears.end.items)) (sym (nil_from_length c.tears.tears.items none))
    ∙ c.tears.invariant.torn ∙ torn_changes (reverse c.args.steps.now) c.args.octets.now

use Rattle.std.proofs.Common.{refl, ap, ◌∙◌}
use Rattle.house_logs.specs.Records.{with_image}
use Rattle.house_logs.proofs.ReadingLemmas.{last_shown}
use Rattle.std.proofs.lemmas.Bool.{both_ways}
use Rattle.house_logs.proofs.FollowLemmas.{not_shown}
use Rattle.house_logs.proofs.reader.LogReader.show.Goals as goal

pub returns-clause-shows : goal.returns-clause-shows
returns-clause-shows c = λ m.
    last_shown m c.args.self.now (record c.args.self.now { entries = c.push-2.new.self }) c.pop.new.self.items c.in-Some.last _ c.args.image.now _ c.in-Some.ensures.items c.image.ensures
    (c.can_be-2.ensures.0 c.if-not-can_be-2.false) (c.with_image.ensures ∙ ap (λ i. with_image i c.in-Some.last) c.in_ok-shown.ensures)
    c.in_ok-push-2.ensures.items refl refl refl refl

pub returns-then-not-can_be-2-clause-refused : goal.returns-then-not-can_be-2-clause-refused
returns-then-not-can_be-2-clause-refused c =
    not_shown c.args.self.now.image c.args.self.now.entries.items c.pop.new.self.items c.in-Some.last _ c.args.image.now c.in-Some.ensures.items c.image.ensures
    (λ can. absurd (both_ways c.can_be-2.result c.if-not-can_be-2.true (c.can_be-2.ensures.1 can)))

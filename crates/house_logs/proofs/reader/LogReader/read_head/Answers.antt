use Rattle.std.proofs.Common.{◌≡◌, ◌≢◌, arith, rules}
use Rattle.std.proofs.lemmas.Bool.{both_ways}
use Rattle.std.proofs.lemmas.Grind.{common_steps}
use Rattle.house_logs.proofs.SegmentLemmas.{after_head, headless_fault, next_fault}
use Rattle.house_logs.proofs.reader.LogReader.read_head.Goals as goal

pub returns-in_default-head_in-clause-fault : goal.returns-in_default-head_in-clause-fault
returns-in_default-head_in-clause-fault c = λ is bodies.
    headless_fault c.args.number c.args.title.now c.args.self.now.digest bodies c.args.octets.now c.in-Some.head.now _ is c.in-Some.ensures.some
    (λ other. absurd (both_ways c.is_other_head.result c.if-is_other_head.false (c.is_other_head.ensures.1 other))) c.in_default-head_in.ensures.none

pub returns-then-ne-clause-fault : goal.returns-then-ne-clause-fault
returns-then-ne-clause-fault c = λ is bodies.
    let differs : c.in-Some-head_in.named.before.now ≢ c.args.self.now.digest = first_of (search rules, grind (arith, common_steps)) in
    next_fault c.args.number c.args.title.now c.args.self.now.digest c.in-Some-head_in.named.before.now bodies c.args.octets.now c.in-Some.head.now _ is
    c.in-Some.ensures.some c.in-Some-head_in.ensures.size c.in-Some-head_in.ensures.some differs

pub returns-clause-is : goal.returns-clause-is
returns-clause-is c = λ is.
    let same : c.in-Some-head_in.named.before.now ≡ c.args.self.now.digest = first_of (search rules, grind (arith, common_steps)) in
    after_head c.args.number c.args.title.now c.args.self.now.digest c.in-Some-head_in.named.before.now c.args.octets.now c.in-Some.head.now _ is
    c.in-Some.ensures.some c.in-Some-head_in.ensures.size c.in-Some-head_in.ensures.some c.in-Some-head_in.ensures.digest same

use Rattle.std.proofs.Common.{◌≢◌, [], arith, rules}
use Rattle.std.proofs.lemmas.Grind.{common_steps}
use Rattle.house_logs.proofs.TextLemmas.{alike_more, decides_none, running_endless, running_not}
use Rattle.house_logs.proofs.text.are_running.Goals as goal

pub returns-in_default-first_line : goal.returns-in_default-first_line
returns-in_default-first_line c =
    decides_none (running_endless c.args.text.now c.lines.rest.now c.in-Some.words.now c.lines.invariant c.in-Some.ensures.parts
    c.in_default-first_line.ensures.cut)

pub lines-preserved : goal.lines-preserved
lines-preserved c =
    alike_more c.args.text.now c.lines.rest.now c.in-Some.words.now c.in-Some-first_line.field-0-0.now c.in-Some-first_line.behind.now c.lines.invariant
    c.in-Some.ensures.parts c.in-Some-first_line.ensures.cut.0 c.in-Some-first_line.ensures.cut.1

pub returns-in_default : goal.returns-in_default
returns-in_default c =
    let some : c.lines.rest.now ≢ [] = first_of (search rules, grind (arith, common_steps)) in
    decides_none (running_not c.args.text.now c.lines.rest.now c.lines.invariant some c.in_default.ensures.none)

use Rattle.std.proofs.Common.{◌≢◌, List, [], subst, sym, arith, rules}
use Rattle.std.proofs.lemmas.Grind.{common_steps}
use Rattle.house_logs.specs.declared.log.PostedOctets.{PostedOctets}
use Rattle.house_logs.proofs.TextLemmas.{PartsLeft, parts_bad, parts_endless, parts_long, parts_more}
use Rattle.house_logs.proofs.text.said_part.Goals as goal

pub returns-then-not-is_empty : goal.returns-then-not-is_empty
returns-then-not-is_empty c =
    let more : c.in-Some.behind.now ≢ [] = first_of (search rules, grind (arith, common_steps)) in
    parts_long c.args.text.now c.lines.rest.now c.in-Some.line.now c.in-Some.behind.now c.lines.posts.items c.lines.invariant c.in-Some.ensures.cut.0
    c.in-Some.ensures.cut.1 c.in_default-without.ensures.none more

pub returns-in_default-2 : goal.returns-in_default-2
returns-in_default-2 c =
    parts_bad c.args.text.now c.lines.rest.now c.in-Some.line.now c.in-Some.behind.now c.in-Some-without.field-0.now c.lines.posts.items c.lines.invariant
    c.in-Some.ensures.cut.0 c.in-Some.ensures.cut.1 c.in-Some-without.ensures.parts (rw c.in_default-2.is at c.in_ok-post.ensures.none)

pub lines-preserved : goal.lines-preserved
lines-preserved c =
    let said = rw c.in-Some-2.is at c.in_ok-post.ensures.is in
    subst (λ (ps : List PostedOctets). PartsLeft c.args.text.now c.in-Some.behind.now ps) (sym c.in_ok-push.ensures.items)
    (parts_more c.args.text.now c.lines.rest.now c.in-Some.line.now c.in-Some.behind.now c.in-Some-without.field-0.now c.lines.posts.items c.in-Some-2.post
    c.lines.invariant c.in-Some.ensures.cut.0 c.in-Some.ensures.cut.1 c.in-Some-without.ensures.parts said.0 said.1)

pub returns : goal.returns
returns c = parts_endless c.args.text.now c.lines.rest.now c.lines.posts.items c.lines.invariant c.in_default.ensures.cut

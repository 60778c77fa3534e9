use Rattle.std.proofs.Common.{sym, ◌∙◌, ap, subst, ℕ, List}
use Rattle.std.specs.Prelude.{Option}
use Rattle.cds_stamps.specs.declared.members.Member.{Member}
use Rattle.cell_script.specs.WordForms.{said_at}
use Rattle.house_lines.specs.MemberWords.{member_of}
use Rattle.house_lines.proofs.ListingLemmas.{IsReading, reading_on, reading_parts}
use Rattle.house_lines.proofs.listing.members.Goals as goal

pub returns-then-parts-clause-leaving : goal.returns-then-parts-clause-leaving
returns-then-parts-clause-leaving c =
    let both =
    reading_parts c.args.first c.args.words.now c.loop-word.words c.next.new.self c.loop-word.members c.in-Some.word.now c.loop-word.invariant
    c.in-Some.ensures.some (sym c.parts.ensures ∙ c.if-parts.true) c.in-Some.ensures.read in
    both.1

pub loop-word-preserved : goal.loop-word-preserved
loop-word-preserved c =
    let word = c.in-Some.word.now in
    let next = c.next.new.self in
    let good =
    ap (λ (n : ℕ). said_at n (member_of word)) (sym c.in-Some.ensures.read)
    ∙ ap (λ (m : Option Member). said_at next.read m) (sym c.member.ensures) ∙ c.in_ok-said.ensures.answer in
    subst (λ (ms : List Member). IsReading c.args.first c.args.words.now ms next) (sym c.in_ok-push-2.ensures.ok)
    (reading_on c.args.first c.args.words.now c.loop-word.words next c.loop-word.members word c.in_ok-said.field-0 c.loop-word.invariant
    c.in-Some.ensures.some (sym c.parts.ensures ∙ c.if-parts.false) good c.in-Some.ensures.read)

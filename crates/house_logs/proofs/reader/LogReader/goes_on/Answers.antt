use Rattle.std.proofs.Common.{◌∙◌, List, ℕ, subst, sym}
use Rattle.std.proofs.lemmas.Bool.{both_ways}
use Rattle.house_logs.specs.PrivateReads.{IsAfterRunning}
use Rattle.house_logs.proofs.FollowLemmas.{no_segment_line, not_running, other_known}
use Rattle.house_logs.proofs.ReadingLemmas.{shown_then, took_segment}
use Rattle.house_logs.proofs.TextLemmas.{refused_then}
use Rattle.house_logs.proofs.reader.LogReader.goes_on.Goals as goal

pub returns-clause-read : goal.returns-clause-read
returns-clause-read c bodies octets has is =
    let fields = c.is_last.ensures.0 c.if-not-is_last.false in
    let runs =
    subst (λ (t : List ℕ). IsAfterRunning c.in-Some.rest.now t) c.deref-2.ensures.value (c.is_after_running.ensures.0 c.if-not-is_after_running.false) in
    shown_then c.show.result c.show.ensures.shows
    (λ shows. took_segment c.args.self.now _ bodies octets c.args.image.now _ _ _ _ _ has is fields.0 fields.1.0 fields.1.1
    (c.deref.ensures.value ∙ c.in_ok-line.ensures) c.in-Some.ensures.parts runs c.show.ensures.made shows)

pub returns-in_default-clause-refused : goal.returns-in_default-clause-refused
returns-in_default-clause-refused c = λ shows.
    no_segment_line c.args.self.now c.args.body.now _ (c.deref.ensures.value ∙ c.in_ok-line.ensures) c.in_default.ensures.none

pub returns-then-not-is_after_running-clause-refused : goal.returns-then-not-is_after_running-clause-refused
returns-then-not-is_after_running-clause-refused c = λ shows.
    not_running c.args.self.now c.args.body.now _ c.in-Some.rest.now (c.deref.ensures.value ∙ c.in_ok-line.ensures) c.in-Some.ensures.parts
    (λ is. absurd (both_ways c.is_after_running.result c.if-not-is_after_running.true
    (c.is_after_running.ensures.1 (subst (λ (t : List ℕ). IsAfterRunning c.in-Some.rest.now t) (sym c.deref-2.ensures.value) is))))

pub returns-clause-refused : goal.returns-clause-refused
returns-clause-refused c = λ shows.
    refused_then c.show.result (λ none. other_known c.args.self.now c.args.body.now c.args.image.now shows none) c.show.ensures.refused

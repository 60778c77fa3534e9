use Rattle.std.proofs.Common.{List, inl, ap, ◌∙◌}
use Rattle.cds_stamps.specs.declared.numbers.DirId.{DirId}
use Rattle.resolver.proofs.PassLaws.{if_ok}
use Rattle.inquire_forms.specs.Inquired.{inquired_answer}
use Rattle.clerk_turns.specs.Says.{answer_said}
use Rattle.clerk_turns.specs.Sendings.{in_doubt}
use Rattle.clerk_turns.proofs.clerk.Clerk.end.Goals as goal

pub returns : goal.returns
returns c =
    if_ok c.in_doubt.result
    (λ t is. inl (record { answer = inquired_answer c.args.answer; unreached = c.args.unreached.items; is = c.requires.answer; are = c.requires.unreached; text = is ∙ ap (in_doubt c.args.job.sending.doubt) (c.in_ok-text.ensures ∙ ap (λ (dirs : List DirId). answer_said c.args.job.number (inquired_answer c.args.answer) dirs) c.deref.ensures.value); after = c.forget.ensures }))
    c.in_doubt.ensures

use Rattle.std.proofs.Common.{map, string_bytes, ap, ◌∙◌, Err}
use Rattle.form_calls.specs.PrivateTexts.{KeptText}
use Rattle.form_calls.proofs.CallEnds.{run_ends, without_words}
use Rattle.form_calls.proofs.call.keep.Goals as goal

pub returns-in-Ok : goal.returns-in-Ok
returns-in-Ok c =
    run_ends c.args.words.now c.args.input.now (map string_bytes c.deref.result.now) c.new.result c.run.new.source c.args.text.now c.run.new.sink c.run.result
    (ap (λ ws. map string_bytes ws) c.deref.ensures.value ∙ c.in-Ok.ensures.words) c.new.ensures c.requires
    (record {
      ended = c.run.ensures.ends;
      transcript = c.run.ensures.transcript;
      inquired = c.run.ensures.inquired;
      clerked = c.run.ensures.clerked;
      journaled = c.run.ensures.journaled;
    })
    c.run.ensures.usage.1 (λ u. (c.run.ensures.unused u).1)

pub returns-in-Err : goal.returns-in-Err
returns-in-Err c =
    without_words _ _ _ c.in-Err.fault _ (ap (λ (k : KeptText). k.octets) c.requires) c.without_words.ensures.memory c.without_words.ensures.usage
    (λ is. c.in-Err.ensures.no_text (ap Err is))

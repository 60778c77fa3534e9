use Rattle.std.proofs.Common.{rules, List, ℕ, ap, ◌∙◌}
use Rattle.form_calls.specs.Calls.{put_into}
use Rattle.form_calls.proofs.call.say_into.Goals as goal

pub returns : goal.returns
returns c =
    record {
      text = c.say-call.result.text.items;
      status = c.say-call.result.status;
      ends = c.say-call.ensures;
      put = c.put.ensures ∙ ap (λ (text : List ℕ). put_into c.args.room.now text) c.deref.ensures.value;
      counted = search rules;
      coded = search rules;
    }

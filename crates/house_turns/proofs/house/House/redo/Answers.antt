use Rattle.std.proofs.Common.{◌==◌, ℕ, ap, ◌∙◌}
use Rattle.std.specs.List.{before_first}
use Rattle.std.specs.Option.{option_copied, option_map}
use Rattle.std.specs.Str.{bytes_eq}
use Rattle.house_serving.specs.Replies.{said_in}
use Rattle.house_turns.specs.Openings.{NoRecord}
use Rattle.house_turns.proofs.Redoing.{otherwise, redone, replied, without}
use Rattle.house_turns.proofs.house.House.redo.Goals as goal

pub returns-in_default-clause-differs : goal.returns-in_default-clause-differs
returns-in_default-clause-differs c = NoRecord c.in_default.ensures.none

pub returns-in-Some-record-clause-same : goal.returns-in-Some-record-clause-same
returns-in-Some-record-clause-same c =
    let said = c.in-Some.said in
    let reply = said_in c.in_ok-reply.reply in
    redone c.args.self.now c.respond.new.self c.args.body.now said.clock reply (before_first (λ (b : ℕ). b == 10) said.text.now)
    c.in-Some-record.record.items c.eq.result
    (replied c.args.self.now c.respond.new.self said.clock c.clear.new.self c.cut_at.result.0.now said.text.now reply c.clear.ensures c.cut_at.ensures.before
    c.in_ok-reply.ensures)
    (ap (option_map (λ v. v.items)) c.in-Some-record.is) (c.eq.ensures ∙ ap (λ x. bytes_eq x c.args.body.now) c.as_slice.ensures.value)

pub returns-in-Some-record-clause-differs : goal.returns-in-Some-record-clause-differs
returns-in-Some-record-clause-differs c =
    let said = c.in-Some.said in
    let reply = said_in c.in_ok-reply.reply in
    otherwise c.args.self.now c.respond.new.self c.args.body.now said.clock reply said.number said.text.now (option_copied said.image) c.in-Some.ensures.some
    (replied c.args.self.now c.respond.new.self said.clock c.clear.new.self c.cut_at.result.0.now said.text.now reply c.clear.ensures c.cut_at.ensures.before
    c.in_ok-reply.ensures)
    c.in-Some-record.record.items c.eq.result (ap (option_map (λ v. v.items)) c.in-Some-record.is)
    (c.eq.ensures ∙ ap (λ x. bytes_eq x c.args.body.now) c.as_slice.ensures.value)

pub returns-clause-differs : goal.returns-clause-differs
returns-clause-differs c =
    let said = c.in-Some.said in
    let reply = said_in c.in_ok-reply.reply in
    without c.args.self.now c.respond.new.self c.args.body.now said.clock reply said.number said.text.now (option_copied said.image) c.in-Some.ensures.some
    (replied c.args.self.now c.respond.new.self said.clock c.clear.new.self c.cut_at.result.0.now said.text.now reply c.clear.ensures c.cut_at.ensures.before
    c.in_ok-reply.ensures)
    (ap (option_map (λ v. v.items)) c.in-None.is)

use Rattle.house_turns.proofs.SaidAgain.{digits_cut, message_cut, to_cut}
use Rattle.house_turns.proofs.again.push_message.Goals as goal

pub returns : goal.returns
returns c = λ p is.
    let cut = message_cut p c.args.line.now c.cut_at.result.1.now is c.cut_at.ensures.after in
    c.push_pieces.ensures p (to_cut p c.cut_at.result.1.now c.cut_at-2.result.0.now cut c.cut_at-2.ensures.before)
    (digits_cut p c.cut_at.result.1.now c.cut_at-2.result.1.now cut c.cut_at-2.ensures.after)

use Rattle.std.proofs.Common.{[], ◌∷◌, ◌++◌, ◌∙◌, ap, append_assoc}
use Rattle.std.proofs.lemmas.Result.{on_err_weaker}
use Rattle.script_answers.proofs.Printing.{still_begins}
use Rattle.script_answers.proofs.pieces.push_stamp.Goals as goal

pub returns-clause-err : goal.returns-clause-err
returns-clause-err c =
    on_err_weaker c.push_hex.result
    (still_begins c.args.line.now.items _ c.push.new.self.items c.push_hex.new.line.items
    (c.in_ok-push.ensures.items ∙ ap (λ l. l ++ 64 ∷ []) c.in_ok-push_number.ensures.ok ∙ append_assoc c.args.line.now.items _ (64 ∷ [])))
    c.push_hex.ensures.err

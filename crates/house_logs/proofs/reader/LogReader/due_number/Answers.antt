use Rattle.std.proofs.Common.{◌≡◌, ◌+◌, ◌∙◌, sym, arith, rules}
use Rattle.std.proofs.lemmas.Bool.{OnFalse_at, OnTrue_at}
use Rattle.std.proofs.lemmas.Grind.{common_steps}
use Rattle.house_logs.proofs.reader.LogReader.due_number.Goals as goal

pub returns-then-not-is_entry-clause-due : goal.returns-then-not-is_entry-clause-due
returns-then-not-is_entry-clause-due c = λ is. OnFalse_at c.if-not-is_entry.true (c.is_entry.ensures.no c.args.self.now is)

pub returns-clause-due : goal.returns-clause-due
returns-clause-due c = λ is.
    let due : c.in_ok-due.due ≡ c.args.self.now.number + 1 = first_of (omega arith, search rules, grind (arith, common_steps)) in
    OnTrue_at c.if-not-is_entry.false (c.is_entry.ensures.yes c.args.self.now is) ∙ sym due

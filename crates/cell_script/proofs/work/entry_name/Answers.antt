use Rattle.std.proofs.Common.{◌≡◌, ◌+◌, ◌-◌, arith}
use Rattle.std.proofs.lemmas.Fmt.{decimal_digit}
use Rattle.cell_script.proofs.Rounds.{decimal_teen}
use Rattle.cell_script.proofs.work.entry_name.Goals as goal

pub returns-then-entry-lt10 : goal.returns-then-entry-lt10
returns-then-entry-lt10 c = rw (decimal_digit c.args.entry c.if-entry-lt10.true) c.known.ensures

pub returns-else-entry-lt10 : goal.returns-else-entry-lt10
returns-else-entry-lt10 c =
    let known = c.requires in
    let ten = c.if-entry-lt10.false in
    let e : c.args.entry ≡ 10 + (c.args.entry - 10) = omega (arith, ten) in
    rw (e, decimal_teen (c.args.entry - 10) (omega (arith, known, ten))) c.known-else-entry-lt10.ensures

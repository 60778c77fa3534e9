use Rattle.std.proofs.Common.{arith}
use Rattle.entry_lines.proofs.UnsaidLines.{says_it}
use Rattle.entry_lines.proofs.command.with_line.Goals as goal

pub returns-clause-says : goal.returns-clause-says
returns-clause-says c =
    says_it c.in_ok-line.line.items c.args.command c.requires c.in_ok-line.ensures
    (omega (arith, c.len.ensures, c.if-len-gt-LONGEST_LINE.false))

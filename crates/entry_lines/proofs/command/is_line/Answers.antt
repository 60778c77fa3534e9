use Rattle.std.proofs.Common.{length, sym, ◌∙◌, arith}
use Rattle.std.proofs.lemmas.Bool.{le-leb, leb-true}
use Rattle.command_lines.proofs.LineLemmas.{line_short, line_shown, printable_line}
use Rattle.entry_lines.proofs.command.is_line.Goals as goal

pub returns-then-octets-le-LONGEST_LINE : goal.returns-then-octets-le-LONGEST_LINE
returns-then-octets-le-LONGEST_LINE c = (
  λ shown. printable_line c.args.octets.now c.if-octets-le-LONGEST_LINE.true (sym c.are_printable.ensures ∙ shown),
  λ is. c.are_printable.ensures ∙ line_shown c.args.octets.now (is 1 (omega arith)),
)

pub returns-else-octets-le-LONGEST_LINE : goal.returns-else-octets-le-LONGEST_LINE
returns-else-octets-le-LONGEST_LINE c = (
  λ shown.
      let long = c.if-octets-le-LONGEST_LINE.false in
      let short = leb-true (length c.args.octets.now) 4096 shown in
      absurd (omega (arith, short, long)),
  λ is. le-leb (length c.args.octets.now) 4096 (line_short c.args.octets.now (is 1 (omega arith))),
)

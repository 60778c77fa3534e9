use Rattle.std.proofs.Common.{◌<◌, length, arith}
use Rattle.std.proofs.lemmas.List.Sums.{prefix_len-le-length}
use Rattle.cds_base.specs.LineFaults.{is_printable}
use Rattle.cds_base.proofs.Scans.{few_when_some, sees_long, sees_many, sees_more, sees_many_ends, sees_line, sees_too_long, sees_not_ascii}
use Rattle.cds_base.proofs.scan.scan.Goals as goal

pub returns-then-number-gt-MOST_LINES : goal.returns-then-number-gt-MOST_LINES
returns-then-number-gt-MOST_LINES c = sees_many _ _ (omega arith) (omega arith)

pub returns-then-printable-gt-LONGEST_LINE : goal.returns-then-printable-gt-LONGEST_LINE
returns-then-printable-gt-LONGEST_LINE c = sees_long _ _ (omega arith) (few_when_some _ _ c.else-printable-gt0.either (omega arith))

pub returns-then-printable-octets : goal.returns-then-printable-octets
returns-then-printable-octets c =
    (sees_more _ _ c.args.printable c.requires (omega arith) (omega arith) (few_when_some _ _ c.else-printable-gt0.either), omega arith)

pub bounds-octets-printable : goal.bounds-octets-printable
bounds-octets-printable c = omega (arith, prefix_len-le-length is_printable c.args.octets.now)

pub returns-then-number-gt-MOST_LINES-2 : goal.returns-then-number-gt-MOST_LINES-2
returns-then-number-gt-MOST_LINES-2 c =
    let within : c.args.printable < length c.args.octets.now = omega (arith, prefix_len-le-length is_printable c.args.octets.now) in
    sees_many_ends _ _ c.args.printable c.requires within (omega arith) (few_when_some _ _ c.else-printable-gt0.either) (omega arith) (omega arith)

pub returns-then-octets-printable-eq10 : goal.returns-then-octets-printable-eq10
returns-then-octets-printable-eq10 c =
    let within : c.args.printable < length c.args.octets.now = omega (arith, prefix_len-le-length is_printable c.args.octets.now) in
    (within, sees_line _ _ c.args.printable c.requires within (omega arith) (few_when_some _ _ c.else-printable-gt0.either) (omega arith) (omega arith))

pub returns-then-printable-eq-LONGEST_LINE : goal.returns-then-printable-eq-LONGEST_LINE
returns-then-printable-eq-LONGEST_LINE c =
    let within : c.args.printable < length c.args.octets.now = omega (arith, prefix_len-le-length is_printable c.args.octets.now) in
    sees_too_long _ _ c.args.printable c.requires within (omega arith) (few_when_some _ _ c.else-printable-gt0.either)
    (omega arith) c.if-octets-printable-eq10.false

pub returns : goal.returns
returns c =
    let within : c.args.printable < length c.args.octets.now = omega (arith, prefix_len-le-length is_printable c.args.octets.now) in
    sees_not_ascii _ _ c.args.printable c.requires within (omega arith) (few_when_some _ _ c.else-printable-gt0.either)
    c.if-printable-eq-LONGEST_LINE.false c.if-octets-printable-eq10.false

use Rattle.std.proofs.Common.{sym, ◌∙◌, arith}
use Rattle.std.proofs.lemmas.List.Sums.{prefix_len-le-length}
use Rattle.cds_base.specs.LineFaults.{is_printable}
use Rattle.cds_base.proofs.Scans.{front_goes_on, front_ends}
use Rattle.cds_base.proofs.scan.printable_len.Goals as goal

pub overflow_sub-octets : goal.overflow_sub-octets
overflow_sub-octets c = omega (arith, prefix_len-le-length is_printable c.args.octets.now)

pub singles-preserved : goal.singles-preserved
singles-preserved c = front_goes_on c.args.octets.now _ c.singles.invariant c.singles-test.true (sym c.may_stand.ensures ∙ c.if-may_stand.true)

pub returns-else-may_stand : goal.returns-else-may_stand
returns-else-may_stand c = front_ends c.args.octets.now _ c.singles.invariant (sym c.may_stand.ensures ∙ c.if-may_stand.false)

pub returns-after-singles : goal.returns-after-singles
returns-after-singles c = omega (arith, prefix_len-le-length is_printable c.args.octets.now)

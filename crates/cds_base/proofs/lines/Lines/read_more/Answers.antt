use Rattle.std.proofs.Common.{◌∙◌, ap, arith}
use Rattle.std.specs.List.{prefix_len}
use Rattle.cds_base.specs.Buffers.{octets_in}
use Rattle.cds_base.specs.LineFaults.{is_printable}
use Rattle.cds_base.proofs.Scans.{prefix_len-grows}
use Rattle.cds_base.proofs.lines.Lines.read_more.Goals as goal

pub printable_len-self-requires : goal.printable_len-self-requires
printable_len-self-requires g c =
    omega (
      arith,
      c.args.self.now.measured,
      prefix_len-grows (octets_in c.args.self.now.buffer) c.in-Ok.ensures.reads.read,
      ap (prefix_len is_printable) (c.octets.ensures ∙ c.in-Ok.ensures.reads.grown),
    )

pub invariant_of-self-clause-measured : goal.invariant_of-self-clause-measured
invariant_of-self-clause-measured g c = c.printable_len-self.ensures ∙ ap (prefix_len is_printable) c.octets.ensures

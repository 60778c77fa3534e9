use Rattle.std.proofs.Common.{◌∙◌, ap, arith}
use Rattle.std.specs.List.{prefix_len}
use Rattle.cds_base.specs.LineFaults.{is_printable}
use Rattle.cds_base.proofs.Scans.{counted}
use Rattle.cds_base.proofs.lines.Lines.advance.Goals as goal

pub invariant_of-self-clause-room : goal.invariant_of-self-clause-room
invariant_of-self-clause-room g c = ap (λ (v : _). v.len) c.take_off.ensures.memory ∙ c.find_line.new.self.room

pub invariant_of-self-clause-counted : goal.invariant_of-self-clause-counted
invariant_of-self-clause-counted g c =
    let found = (rw c.in-Ok-Some.field-0-is at c.in-Ok-Some.ensures).found in
    let few = counted _ _ found.1.1.1 in
    omega (arith, few, c.find_line.ensures.number)

pub invariant_of-self-clause-measured : goal.invariant_of-self-clause-measured
invariant_of-self-clause-measured g c = c.printable_len-self.ensures ∙ ap (prefix_len is_printable) c.octets.ensures

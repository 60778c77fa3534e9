use Rattle.directory.proofs.Lookups.{reserved_by_second}
use Rattle.directory.proofs.entry.is_reserved.Goals as goal

pub returns-else-eq : goal.returns-else-eq
returns-else-eq c =
    reserved_by_second c.args.attr.now c.octets.result.now c.octets-else-eq.result.now c.eq.result c.eq-else-eq.result c.octets.ensures.value
    c.octets-else-eq.ensures.value c.eq.ensures c.if-eq.false c.eq-else-eq.ensures

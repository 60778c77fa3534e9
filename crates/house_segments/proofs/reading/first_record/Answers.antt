use Rattle.std.proofs.Common.{arith}
use Rattle.house_segments.proofs.ReadLemmas.{few_none}
use Rattle.house_segments.proofs.reading.first_record.Goals as goal

pub returns-in-None-clause-none : goal.returns-in-None-clause-none
returns-in-None-clause-none c =
    let none = c.in-None.ensures.cases in
    few_none c.args.octets.now (omega (arith, none))

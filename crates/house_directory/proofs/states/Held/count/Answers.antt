use Rattle.std.proofs.Common.{ap, length}
use Rattle.house_directory.proofs.Phases.{counted}
use Rattle.house_directory.proofs.states.Held.count.Goals as goal

pub returns : goal.returns
returns c =
    let same = ap length c.list.ensures.value in
    let facts = counted c.list.result.now c.list.ensures.lawful in
    record {
      count = same;
      some = facts.0;
      few = facts.1;
      lawful = rw (← c.list.ensures.value) c.list.ensures.lawful;
    }

use Rattle.house_runs.proofs.Crashes.{afterwards, any_moment}
use Rattle.house_runs.proofs.laws.crashes_leave_lines.Goals as goal

pub returns : goal.returns
returns g c = record {
  any_moment = λ first way ending served.
      any_moment g.D.Disk first way ending served;
  after = λ first way ending served octets left.
      afterwards g.D.Disk first way ending served octets left;
}

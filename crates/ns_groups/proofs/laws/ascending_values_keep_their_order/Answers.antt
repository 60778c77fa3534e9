use Rattle.ns_groups.proofs.GroupLaws.{members-rising}
use Rattle.ns_groups.proofs.laws.ascending_values_keep_their_order.Goals as goal

pub returns : goal.returns
returns c = members-rising

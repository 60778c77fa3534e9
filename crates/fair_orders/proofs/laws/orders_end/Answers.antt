-- By the entry of the delivery that completes the skulk.
use Rattle.fair_orders.proofs.Entries.{orders_end_lem}
use Rattle.fair_orders.proofs.laws.orders_end.Goals as goal

pub returns : goal.returns
returns c = λ houses logs line runs order. orders_end_lem houses logs line runs order

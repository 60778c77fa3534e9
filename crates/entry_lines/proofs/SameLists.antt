-- What `==` says of the items of lists in commands.
use Rattle.std.proofs.Common.{◌≡◌, rules}
use Rattle.std.specs.Bool.{Decides}
use Rattle.std.specs.Cmp.Rules.{comparing}
use Rattle.cds_stamps.specs.declared.numbers.HouseNo.{HouseNo}
use Rattle.cds_stamps.specs.contracts.numbers.HouseNoPartialEq.TheImpl as house
use Rattle.cell_script.specs.declared.lists.Listed.{Listed}
use Rattle.cell_script.specs.contracts.lists.ListedPartialEq.TheImpl as listed

-- two numbers of houses are the same
pub house_is : (a b : HouseNo) → Decides (house.eq-value.it a b) (a ≡ b)
house_is a b = search (comparing, rules)

-- two listed houses are the same
pub listed_is : (a b : Listed) → Decides (listed.eq-value.it a b) (a ≡ b)
listed_is a b = search (comparing, rules)

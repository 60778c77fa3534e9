use Rattle.clearinghouse.proofs.Looks.{house_looks, message_looks_so}
use Rattle.clearinghouse.proofs.laws.each_lawful_clearinghouse_looks_like_a_house.Goals as goal

pub returns : goal.returns
returns _ = record { houses = house_looks; messages = message_looks_so }

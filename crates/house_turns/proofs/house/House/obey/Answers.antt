use Rattle.house_turns.proofs.Replies.{home_asked, home_unasked}
use Rattle.house_turns.proofs.house.House.obey.Goals as goal

pub returns-in-Some : goal.returns-in-Some
returns-in-Some c =
    home_asked c.come_to.result c.args.number c.args.self.now c.args.told c.in-Some.home c.come_to.new.home c.in-Some.is c.come_to.ensures

pub returns-in-None : goal.returns-in-None
returns-in-None c = home_unasked c.refused.result c.args.number c.args.self.now c.args.told c.in-None.is c.refused.ensures

use Rattle.cell_script.specs.Words.{words_of}
use Rattle.house_turns.specs.HouseReplies.{with_spaces}
use Rattle.house_turns.proofs.Replies.{order_replied, words_replied}
use Rattle.house_turns.proofs.house.House.reply_order.Goals as goal

pub returns-in_ok-said-in_default : goal.returns-in_ok-said-in_default
returns-in_ok-said-in_default c =
    words_replied c.reply_alone.result c.args.self.now c.reply_alone.new.self c.args.number (words_of c.args.line.now) c.args.told c.in_default.not-Take
    (order_replied c.args.self.now c.args.number (with_spaces (words_of c.args.line.now)) c.reply_alone.result c.in_ok-said-in_default.said c.obey.new.self
    c.reply_alone.new.self c.reply_alone.ensures c.args.told c.in_ok-said-in_default.ensures)

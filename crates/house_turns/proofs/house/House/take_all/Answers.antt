use Rattle.std.proofs.Common.{◌++◌, ◌∙◌, [], ℕ, List, ap}
use Rattle.house_turns.specs.declared.house.House.{House}
use Rattle.house_turns.proofs.Replies.{few_by, gathered_all, gathered_none, many_by, none_by, some_by, take_all_replied, take_refused, take_unmade, whole_taken}
use Rattle.house_turns.proofs.house.House.take_all.Goals as goal

pub returns-then-is_none : goal.returns-then-is_none
returns-then-is_none c =
    let h : House = c.args.self.now in
    take_unmade c.reply.result h (record h { more = c.clear.new.self }) c.reply.new.self c.args.number (h.more ++ c.args.octets.now) c.in_ok-said.said
    (none_by h.home c.is_none.result c.is_none.ensures c.if-is_none.true) (ap (λ (m : List ℕ). record h { more = m }) c.clear.ensures)
    c.in_ok-said.ensures c.reply.ensures

pub returns-then-not-branch : goal.returns-then-not-branch
returns-then-not-branch c =
    let h : House = c.args.self.now in
    let gathered = rw c.list.ensures at c.in_ok-gather.ensures in
    let home = some_by h.home c.is_none.result c.is_none.ensures c.if-is_none.false in
    take_refused c.reply-then-not-branch.result h c.gather.new.self c.reply-then-not-branch.new.self c.args.number (h.more ++ c.args.octets.now) c.in_ok-said-2.said
    home.0 home.1 (many_by _ _ gathered.fits c.if-not-branch.true) (gathered_none h c.gather.new.self (h.more ++ c.args.octets.now) _ gathered.after c.if-not-branch.true)
    c.in_ok-said-2.ensures c.reply-then-not-branch.ensures

pub returns : goal.returns
returns c =
    let h : House = c.args.self.now in
    let gathered = rw c.list.ensures at c.in_ok-gather.ensures in
    let home = some_by h.home c.is_none.result c.is_none.ensures c.if-is_none.false in
    let kept = gathered_all h c.gather.new.self (h.more ++ c.args.octets.now) _ gathered.after c.if-not-branch.false in
    take_all_replied c.take_whole.result h c.take_whole.new.self c.args.number (h.more ++ c.args.octets.now) home.0 home.1 (few_by _ _ gathered.fits c.if-not-branch.false)
    (whole_taken c.take_whole.result h (record c.gather.new.self { more = c.replace-octets.new.dest }) c.take_whole.new.self c.args.number (h.more ++ c.args.octets.now)
    c.list-2.result.now home.0 (c.list-2.ensures ∙ c.replace-octets.ensures.value ∙ ap (λ (k : House). k.more) kept)
    (ap (λ (m : List ℕ). record c.gather.new.self { more = m }) (c.replace-octets.ensures.after ∙ c.new.ensures) ∙ ap (λ (k : House). record k { more = [] }) kept)
    (c.take_whole.ensures home.0 (ap (λ (k : House). k.home) kept ∙ home.1) (c.replace-octets.ensures.after ∙ c.new.ensures)))

use Rattle.std.proofs.Common.{◌≡◌, Some, None, false, ap, sym, ◌∙◌, rules}
use Rattle.std.specs.Prelude.{if◌then◌else◌}
use Rattle.directory.specs.IndexWords.{insert_each}
use Rattle.directory.specs.Purges.{after_entry}
use Rattle.directory.proofs.LaterLaws.{inserted_last, put_here, put_elsewhere}
use Rattle.directory.proofs.later.put_delta.Goals as goal

pub returns-in_ok-push-clause-here : goal.returns-in_ok-push-clause-here
returns-in_ok-push-clause-here c =
    let t = c.args.t in
    let e = c.args.entry.now in
    let new : c.is_old.result ≡ false = search rules in
    λ none. put_here (insert_each c.args.later.now.items) (insert_each c.push.new.self.items) c.args.name.now c.in_ok-copy.field-0 (after_entry t e)
    c.in_ok-after.field-0 (inserted_last c.args.later.now.items c.push.new.self.items c.in_ok-copy.field-0 c.in_ok-after.field-0 c.in_ok-push.ensures.items)
    c.in_ok-copy.ensures c.in_ok-after.ensures
    ∙ ap (λ b. if b then None else Some (after_entry t e)) (sym new ∙ c.is_old.ensures)

pub returns-in_ok-push-clause-others : goal.returns-in_ok-push-clause-others
returns-in_ok-push-clause-others c =
    put_elsewhere (insert_each c.args.later.now.items) (insert_each c.push.new.self.items) c.args.name.now c.in_ok-copy.field-0 c.in_ok-after.field-0
    (inserted_last c.args.later.now.items c.push.new.self.items c.in_ok-copy.field-0 c.in_ok-after.field-0 c.in_ok-push.ensures.items)
    c.in_ok-copy.ensures

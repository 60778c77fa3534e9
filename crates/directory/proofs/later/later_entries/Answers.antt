use Rattle.std.proofs.Common.{ap, ◌≡◌, ◌∙◌}
use Rattle.std.specs.Prelude.{Some}
use Rattle.std.specs.FinMap.{empty}
use Rattle.std.specs.Cmp.Lexicographic.{nat_list_cmp_total}
use Rattle.std.proofs.lemmas.Result.{IfOk-weaker}
use Rattle.cds_stamps.specs.Octets.{octets_exact}
use Rattle.directory.specs.IndexWords.{insert_each}
use Rattle.directory.specs.Purges.{delta_table}
use Rattle.directory.proofs.LaterLaws.{IsLater, turns_start, delta_step, delta_end}
use Rattle.directory.proofs.later.later_entries.Goals as goal

pub loop-name-init : goal.loop-name-init
loop-name-init c =
    turns_start nat_list_cmp_total octets_exact empty (IsLater c.args.t c.args.own.now) c.args.own.now (insert_each c.new-later.result.items) _
    (c.into_iter-name-iterator.ensures.into_iter_gives ∙ c.iter-name-items.ensures) (ap insert_each c.new-later.ensures.items)

pub loop-name-preserved : goal.loop-name-preserved
loop-name-preserved c =
    delta_step c.args.t c.args.own.now (insert_each c.loop-name.later.items) (insert_each c.put_delta.new.later.items) c.in-Some.name.now
    c.in-Some.entry.now c.loop-name.name-iterator c.next.new.self c.in-Some.ensures.steps c.in_ok-put_delta.ensures.here
    c.in_ok-put_delta.ensures.others c.loop-name.invariant

pub returns : goal.returns
returns c =
    IfOk-weaker c.from_pairs.result _ (λ d. d ≡ delta_table (Some c.args.t) c.args.own.now)
    (λ d is. is ∙ delta_end c.args.t c.args.own.now (insert_each c.loop-name.later.items) c.loop-name.name-iterator c.in-None.ensures.steps.0 c.loop-name.invariant)
    c.from_pairs.ensures

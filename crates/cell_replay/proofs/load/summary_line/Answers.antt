use Rattle.std.proofs.Common.{◌≡◌, ◌∙◌, [], subst}
use Rattle.std.proofs.lemmas.Result.{IfOk-weaker}
use Rattle.cell_script.specs.Generated.{TakesFirst, script}
use Rattle.script_replay.specs.Loading.{load_text}
use Rattle.script_replay.proofs.LoadTurns.{few_taken, fewer_left, loading_begins, loading_ends, next_turn, none_left}
use Rattle.cell_replay.proofs.load.summary_line.Goals as goal

pub commands-init : goal.commands-init
commands-init c =
    let start = c.new-loader.ensures in
    loading_begins c.new-loader.result _ _ c.script_of-script.ensures.commands start.cell start.commands start.accepted start.complete

pub commands-preserved : goal.commands-preserved
commands-preserved c =
    next_turn c.commands.script c.next.new.self c.in_ok-line.field-0 c.in-Some.line c.in_ok-line.ensures.ok c.in-Some.is c.commands.loader
    c.take.new.self _ c.commands.invariant c.in_ok-take-in-Some.ensures

pub commands-smaller : goal.commands-smaller
commands-smaller c =
    fewer_left c.commands.script c.next.new.self c.in_ok-line.field-0 c.in-Some.line c.in_ok-line.ensures.ok c.in-Some.is

pub take-requires : goal.take-requires
take-requires c =
    few_taken c.commands.loader c.commands.script _ c.script_of-script.result c.args.rounds c.commands.invariant c.script_of-script.ensures.commands
    c.script_of-script.ensures.few c.requires.most

pub returns-in-None : goal.returns-in-None
unfolding load_text
returns-in-None c =
    let so_far = c.commands.invariant in
    let left = c.commands.script in
    let none : left ≡ [] = none_left left c.next.new.self (subst (TakesFirst left c.next.new.self) c.in-None.is c.in_ok-line.ensures.ok) in
    let counts = c.in_ok-counts-in-None.field-0 in
    let told = c.in_ok-counts-in-None.ensures so_far.cell so_far.stands in
    IfOk-weaker c.print.result _ (λ text. text.items ≡ load_text c.args.rounds)
    (λ text is. is ∙ loading_ends c.commands.loader left (script c.args.rounds) c.args.rounds counts none so_far told) c.print.ensures

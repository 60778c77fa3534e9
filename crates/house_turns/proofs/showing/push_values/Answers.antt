use Rattle.std.proofs.Common.{◌∙◌, arith}
use Rattle.std.specs.Prelude.{codes}
use Rattle.house_turns.specs.PostTexts.{octets_line}
use Rattle.house_turns.proofs.Shows.{one_more}
use Rattle.house_turns.proofs.showing.push_values.Goals as goal

pub loop-value-preserved : goal.loop-value-preserved
loop-value-preserved c =
    one_more c.args.number (octets_line (codes "value ")) c.args.text.now.items c.loop-value.text.items c.push_octets.new.text.items c.args.values.now
    c.loop-value.value-index c.octets.result.now c.value-item.result (omega (arith, c.loop-value-test.true)) (c.octets.ensures ∙ c.value-item.is)
    c.loop-value.invariant c.in_ok-push_octets.ensures

use Rattle.std.proofs.Common.{arith}
use Rattle.cell_script.proofs.Splitting.{counted_on, at_most_one}
use Rattle.cell_script.proofs.words.words_begun.Goals as goal

pub loop-octet-preserved : goal.loop-octet-preserved
loop-octet-preserved c =
    let one = at_most_one _ c.from-count.result c.from-count.ensures in record {
      begun = λ rest. counted_on c.args.octets.now rest c.loop-octet.octet-index c.loop-octet.count c.from-count.result _ c.loop-octet.goes_on
          c.loop-octet-test.true (c.loop-octet.invariant.begun rest) c.from-count.ensures;
      few = omega (arith, one, c.loop-octet.invariant.few);
    }

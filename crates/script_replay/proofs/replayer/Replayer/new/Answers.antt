use Rattle.std.proofs.Common.{arith}
use Rattle.script_replay.proofs.replayer.Replayer.new.Goals as goal

pub invariant_of-result : goal.invariant_of-result
invariant_of-result c = record {
  few = λ usable. record {
    messages = omega (arith, c.new.ensures.within.messages);
    directories = c.new.ensures.within.directories;
    epochs = c.new.ensures.within.epochs;
    lists = omega arith;
  };
}

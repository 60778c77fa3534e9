use Rattle.cell_script.proofs.ScriptLengths.{few_commands}
use Rattle.cell_script.proofs.generator.script_of.Goals as goal

pub returns-clause-few : goal.returns-clause-few
returns-clause-few c = rw c.new.ensures (few_commands c.args.n)

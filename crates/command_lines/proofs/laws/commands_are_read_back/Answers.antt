use Rattle.command_lines.proofs.CommandWords.{line_fits, line_of_words}
use Rattle.command_lines.proofs.SaidCommands.{command_said}
use Rattle.command_lines.proofs.laws.commands_are_read_back.Goals as goal

pub returns-clause-says : goal.returns-clause-says
returns-clause-says c = λ command can. command_said command can

pub returns-clause-words : goal.returns-clause-words
returns-clause-words c = λ command can. (line_of_words command can).words

pub returns-clause-fits : goal.returns-clause-fits
returns-clause-fits c = λ command number can short few. line_fits command number can short few

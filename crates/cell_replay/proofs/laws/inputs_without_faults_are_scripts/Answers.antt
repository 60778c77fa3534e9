use Rattle.script_replay.proofs.Scripts.{demanded_dialogue}
use Rattle.script_replay.specs.Replies.{run_dialogue}
use Rattle.clerk_replay.specs.Clerking.{clerk_dialogue}
use Rattle.inquire_replay.specs.Inquiring.{inquire_dialogue}
use Rattle.cell_replay.proofs.laws.inputs_without_faults_are_scripts.Goals as goal

pub returns-clause-run : goal.returns-clause-run
returns-clause-run c = demanded_dialogue run_dialogue

pub returns-clause-inquire : goal.returns-clause-inquire
returns-clause-inquire c = demanded_dialogue inquire_dialogue

pub returns-clause-clerk : goal.returns-clause-clerk
returns-clause-clerk c = demanded_dialogue clerk_dialogue

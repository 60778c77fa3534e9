use Rattle.script_replay.proofs.Scripts.{dialogue_demanded}
use Rattle.script_replay.specs.Replies.{run_dialogue}
use Rattle.clerk_replay.specs.Clerking.{clerk_dialogue}
use Rattle.inquire_replay.specs.Inquiring.{inquire_dialogue}
use Rattle.cell_replay.proofs.laws.scripts_demand_transcripts.Goals as goal

pub returns-clause-run : goal.returns-clause-run
returns-clause-run c = dialogue_demanded run_dialogue

pub returns-clause-inquire : goal.returns-clause-inquire
returns-clause-inquire c = dialogue_demanded inquire_dialogue

pub returns-clause-clerk : goal.returns-clause-clerk
returns-clause-clerk c = dialogue_demanded clerk_dialogue

use Rattle.cds_clerk.proofs.LinkLaws.{led_shown, targets_are}
use Rattle.cds_clerk.proofs.linking.target_of.Goals as goal

pub entry_of-requires : goal.entry_of-requires
entry_of-requires c = led_shown c.args.heard.now c.args.found.now c.requires

pub returns : goal.returns
returns c =
    targets_are c.args.heard.now c.args.found.now c.entry_of.result.now c.target.result c.requires c.entry_of.ensures c.target.ensures

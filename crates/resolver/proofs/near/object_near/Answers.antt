use Rattle.resolver.proofs.NearLaws.{same_name}
use Rattle.resolver.proofs.near.object_near.Goals as goal

pub returns-in-Some-last_behind-clause-walked : goal.returns-in-Some-last_behind-clause-walked
returns-in-Some-last_behind-clause-walked g c =
    same_name (g.R.EntryReader.tells c.args.reader.now) c.args.name.now _ c.object.result c.in-Some-last_behind.ensures.value c.object.ensures.walked

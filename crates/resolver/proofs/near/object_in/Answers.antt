use Rattle.resolver.proofs.NearLaws.{same_name}
use Rattle.resolver.proofs.near.object_in.Goals as goal

pub returns-in-Some-clause-walked : goal.returns-in-Some-clause-walked
returns-in-Some-clause-walked g c =
    same_name (g.R.EntryReader.tells c.args.reader.now) c.args.name.now _ c.object.result c.in-Some.ensures.value c.object.ensures.walked

use Rattle.image_audit.proofs.Agreeing.{images_agree}
use Rattle.image_audit.proofs.laws.agreeing_replicas_are_never_told_to_differ.Goals as goal

pub returns : goal.returns
returns c = images_agree

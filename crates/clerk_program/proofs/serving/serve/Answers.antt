use Rattle.clerk_program.proofs.Runs.{unread}
use Rattle.clerk_program.proofs.serving.serve.Goals as goal

pub returns : goal.returns
returns g c = unread c.args.clerk _ _ _ _

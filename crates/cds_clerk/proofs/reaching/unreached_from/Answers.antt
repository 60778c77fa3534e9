use Rattle.std.proofs.Common.{ap, ◌∙◌}
use Rattle.std.specs.List.{filter_map}
use Rattle.cds_clerk.specs.Unreached.{unreached_at}
use Rattle.cds_clerk.proofs.reaching.unreached_from.Goals as goal

pub returns : goal.returns
returns c = c.in_ok-dirs.ensures ∙ ap (filter_map (unreached_at c.args.heard.now)) (c.deref.ensures.value ∙ c.in_ok-names.ensures)

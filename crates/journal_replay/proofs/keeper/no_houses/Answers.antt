use Rattle.std.proofs.Common.{◌∷◌, [], ◌++◌, ◌∙◌, ap, None, List}
use Rattle.std.specs.Prelude.{Option}
use Rattle.std.proofs.lemmas.List.{replicate_more}
use Rattle.disk_journals.specs.declared.kept.KeptHouse.{KeptHouse}
use Rattle.journal_replay.proofs.keeper.no_houses.Goals as goal

pub loop-preserved : goal.loop-preserved
loop-preserved c =
    c.in_ok-push.ensures.items ∙ ap (λ (hs : List (Option KeptHouse)). hs ++ None ∷ []) c.loop.invariant ∙ replicate_more c.loop.counter None

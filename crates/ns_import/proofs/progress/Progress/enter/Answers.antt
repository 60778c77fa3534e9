use Rattle.std.proofs.Common.{◌∙◌, ◌∷◌, ◌++◌, [], ap}
use Rattle.std.specs.Prelude.{if◌then◌else◌}
use Rattle.ns_import.proofs.SameEntries.{has-derived}
use Rattle.ns_import.proofs.progress.Progress.enter.Goals as goal

pub returns-clause-searched : goal.returns-clause-searched
returns-clause-searched g c =
    let old = c.args.self.now.searched.keys in
    c.in_ok-insert.ensures.keys ∙ ap (λ b. if b then old else old ++ c.args.lent.at ∷ []) (has-derived c.args.lent.at old ∙ c.requires.new)

use Rattle.std.proofs.Common.{◌++◌, ◌∙◌, List, ℕ, ap, sym}
use Rattle.cell_names.specs.FullNames.{is_name}
use Rattle.resolver.proofs.LinkLaws.{full_has_no_fault}
use Rattle.resolver.proofs.walk.is_spliced.Goals as goal

pub returns-clause-short : goal.returns-clause-short
returns-clause-short c = λ same.
    let all = c.components.result.now in
    full_has_no_fault all (c.args.target.now ++ c.args.rest.now) c.components.ensures.lawful
    (ap (λ (front : List (List ℕ)). is_name all (front ++ c.args.rest.now)) (sym c.components-2.ensures.value) ∙ sym c.begins_so.ensures ∙ same)

use Rattle.std.proofs.Common.{refl, subst}
use Rattle.directory.specs.Deletions.{IsFirst}
use Rattle.directory.proofs.IndexLaws.{first_of}
use Rattle.directory.proofs.table.Table.first_deletion.Goals as goal

pub returns-in-Some-clause-first : goal.returns-in-Some-clause-first
returns-in-Some-clause-first c =
    let d = c.in-Some.deletion.now in (
      d,
      (
        refl,
        subst (λ m. IsFirst m d) c.self.view_is
            (first_of c.self.inside.deletions c.self.inside.entries d c.self.invariant c.in-Some.ensures.first.0 c.in-Some.ensures.first.1),
      ),
    )

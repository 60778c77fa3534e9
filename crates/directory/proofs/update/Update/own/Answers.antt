use Rattle.std.proofs.Common.{[], ◌∷◌, Some, None, refl}
use Rattle.attr_sets.specs.AttributeCells.{Cleared, Marked}
use Rattle.attr_sets.specs.Marks.{present_at, absent_at}
use Rattle.directory.proofs.FragmentLaws.{entry_of-changed, entry_of-deleted}
use Rattle.directory.proofs.update.Update.own.Goals as goal

pub returns-in-Delete-clause-own : goal.returns-in-Delete-clause-own
returns-in-Delete-clause-own c =
    rw c.in-Delete.is (record {
      refusal = elim [ None ↦ refl | Some e ↦ refl ];
      entry = λ e s. entry_of-deleted c.in-Delete.field-0 e.kind e.birth s;
    })

pub returns-in-Add-clause-own : goal.returns-in-Add-clause-own
returns-in-Add-clause-own c =
    let arm = c.in-Add in
    rw arm.is (record {
      refusal = elim [ None ↦ refl | Some e ↦ refl ];
      entry = λ e s. entry_of-changed arm.field-0 e.kind e.birth arm.attr (Marked arm.value (present_at s)) [];
    })

pub returns-in-Remove-clause-own : goal.returns-in-Remove-clause-own
returns-in-Remove-clause-own c =
    let arm = c.in-Remove in
    rw arm.is (record {
      refusal = elim [ None ↦ refl | Some e ↦ refl ];
      entry = λ e s. entry_of-changed arm.field-0 e.kind e.birth arm.attr (Marked arm.value (absent_at s)) [];
    })

pub returns-in-Put-clause-own : goal.returns-in-Put-clause-own
returns-in-Put-clause-own c =
    let arm = c.in-Put in
    rw arm.is (record {
      refusal = elim [ None ↦ refl | Some e ↦ refl ];
      entry = λ e s. entry_of-changed arm.field-0 e.kind e.birth arm.attr (Cleared s) (Marked arm.value (present_at s) ∷ []);
    })

pub returns-in-Clear-clause-own : goal.returns-in-Clear-clause-own
returns-in-Clear-clause-own c =
    let arm = c.in-Clear in
    rw arm.is (record {
      refusal = elim [ None ↦ refl | Some e ↦ refl ];
      entry = λ e s. entry_of-changed arm.field-0 e.kind e.birth arm.attr (Cleared s) [];
    })

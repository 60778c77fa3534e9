use Rattle.std.proofs.Common.{List, ℕ, ◌++◌, ◌∷◌, [], subst, arith}
use Rattle.std.specs.Prelude.{OnOk}
use Rattle.house_logs.specs.Reads.{IfFault}
use Rattle.explain_program.specs.Folders.{HasReadAll, HasReadFirst}
use Rattle.explain_program.proofs.FolderLemmas.{read_more, read_within}
use Rattle.explain_program.proofs.RunLemmas.{both_ok, fault_called}
use Rattle.explain_program.proofs.folder.read_next.Goals as goal

pub returns-clause-read : goal.returns-clause-read
returns-clause-read c = λ segments h.
    subst (λ (o : List ℕ). OnOk c.read.result (HasReadAll (segments ++ o ∷ []) c.read.new.self)) c.list.ensures
    (both_ok c.read.result (λ on count. read_more _ _ segments _ h on count) (c.read.ensures.read h.bodies h.read) c.read.ensures.segments)

pub returns-clause-stopped : goal.returns-clause-stopped
returns-clause-stopped c = λ segments rest h few.
    let count = h.count in
    subst (λ (o : List ℕ). IfFault c.read.result (λ fault. HasReadFirst (segments ++ o ∷ rest) fault c.read.new.self)) c.list.ensures
    (fault_called c.read.result (λ f stops. read_within _ _ segments rest _ f h stops) (c.read.ensures.stopped h.bodies h.read (omega (arith, few, count))))

use Rattle.std.proofs.Common.{ℕ, List, subst}
use Rattle.explain_program.specs.Folders.{HasReadAll, HasReadFirst}
use Rattle.explain_program.proofs.FolderLemmas.{read_nothing}
use Rattle.explain_program.proofs.RunLemmas.{all_read, begun_read}
use Rattle.explain_program.proofs.folder.read_folder.Goals as goal

pub read_segments-requires : goal.read_segments-requires
read_segments-requires c = read_nothing _ c.new-reader.ensures.read c.new-reader.ensures.segments c.new-reader.ensures.digest

pub returns-in-Ok : goal.returns-in-Ok
returns-in-Ok c =
    all_read c.args.folder.now c.read_segments.new.reader _ _ c.missing_in.ensures
    (subst (λ (xs : List (List ℕ)). HasReadAll xs c.read_segments.new.reader) c.deref.ensures.value c.in-Ok.ensures.read) c.finish.ensures

pub returns-in-Err-Fault : goal.returns-in-Err-Fault
returns-in-Err-Fault c =
    begun_read c.args.folder.now c.read_segments.new.reader c.in-Err-Fault.fault _
    (subst (λ (xs : List (List ℕ)). HasReadFirst xs c.in-Err-Fault.fault c.read_segments.new.reader) c.deref.ensures.value
    (rw c.in-Err-Fault.field-0-is at c.in-Err-Fault.ensures.stopped))
    c.finish-in-Err-Fault.ensures

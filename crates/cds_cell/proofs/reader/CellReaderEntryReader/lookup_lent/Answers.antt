use Rattle.std.proofs.Common.{◌≡◌, ◌∷◌, ℕ}
use Rattle.std.specs.Prelude.{IfSome, option_copied}
use Rattle.std.specs.Option.{option_map}
use Rattle.std.proofs.lemmas.Result.{IfOk-weaker}
use Rattle.cell_names.specs.ChildPointers.{pointer_in}
use Rattle.directory.specs.Shown.{shown_in}
use Rattle.resolver.specs.Readers.{AreCellsOf, Object, object_found, values_by}
use Rattle.cds_cell.specs.PrivateTelling.{ShowsValues, asked_of}
use Rattle.cds_cell.specs.Telling.{first_pointer, program_reader, told_views}
use Rattle.cds_cell.proofs.LentCells.{lent_there}
use Rattle.cds_cell.proofs.reader.CellReaderEntryReader.lookup_lent.Goals as goal

pub returns-in-Some-clause-cells : goal.returns-in-Some-clause-cells
returns-in-Some-clause-cells c =
    let r = c.args.self.now in
    let at = pointer_in c.args.at.now in
    let name = c.args.name.now in
    let prefer = option_map (λ h. h.0) r.prefer in
    let tells = program_reader r.cell.now prefer r.high in
    let holder = c.in-Some.holder in
    IfOk-weaker c.see_lent.result
    (λ found. IfSome (option_copied found.1) (λ cells. ShowsValues holder.house.0 (shown_in holder.held.now.replica.table name) (values_by cells)))
    (λ found. IfSome (option_copied found.1) (λ cells. (x : ℕ) → tells.sees at name ≡ Object x → AreCellsOf tells (object_found at.dir x name) cells))
    (λ found h. lent_there (told_views r.cell.now) at.dir prefer r.high (at.master ∷ at.others) (asked_of holder) c.in-Some.ensures name
    (first_pointer r.cell.now.directories.items) (option_copied found.1) h)
    c.see_lent.ensures.cells

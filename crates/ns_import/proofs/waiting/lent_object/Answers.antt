use Rattle.std.proofs.Common.{◌≡◌, Result, Ok, subst, ap}
use Rattle.std.specs.Prelude.{IfSome}
use Rattle.resolver.specs.LentEntries.{HasItsCells}
use Rattle.resolver.specs.Readers.{Reader, AreCellsOf}
use Rattle.resolver.specs.declared.seen.Found.{Found}
use Rattle.resolver.specs.declared.seen.LentEntry.{LentEntry}
use Rattle.ns_import.proofs.waiting.lent_object.Goals.{in-Ok, in-Err}
use Rattle.ns_import.proofs.waiting.lent_object.Goals as goal

-- cells stay those of the entry
stay_its : {E : Type 0} (reader : Reader) (r : Result Found E) (entry : LentEntry) (e : Found) → r ≡ Ok entry.at → r ≡ Ok e
    → HasItsCells reader entry → IfSome entry.cells (λ cells. AreCellsOf reader e cells.now)
stay_its reader r entry e was is h =
    let same : entry.at ≡ e = cc in
    subst (λ (f : Found). IfSome entry.cells (λ cells. AreCellsOf reader f cells.now)) same h

pub returns-clause-lent : goal.returns-clause-lent
returns-clause-lent c = λ reader there.
    elim c.match-found.branch [
      | in-Ok w ↦
          rw w.at-is
          (stay_its reader c.match-found.at.0 w.in-Ok.entry c.in_ok-object_found.field-0 (ap (λ p. p.0) w.at-is) c.in_ok-object_found.ensures.same
          (rw w.in-Ok.is at there))
      | in-Err w ↦ rw w.at-is tt
    ]

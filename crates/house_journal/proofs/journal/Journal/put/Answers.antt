use Rattle.std.proofs.Common.{inr, ℕ, List, Result, Err, subst, ap}
use Rattle.house_journal.specs.Faults.{JournalState}
use Rattle.house_journal.specs.Tellings.{TellsPut, put_calls}
use Rattle.house_journal.specs.declared.disk.DiskError.{DiskError}
use Rattle.house_journal.proofs.Tellings.{tried_tells}
use Rattle.house_journal.proofs.journal.Journal.put.Goals as goal

pub returns-in_err-append-clause-told : goal.returns-in_err-append-clause-told
returns-in_err-append-clause-told g c t is =
    let file = g.D.Disk.reads c.args.disk.now in
    let new = g.D.Disk.told c.append.new.disk in
    let items = c.in_ok-octets.octets.items in
    let failed : Result (Unit {0}) DiskError = Err c.in_err-append.field-0.0 in
    let at = ap (λ (j : JournalState). j.place) c.self.view_is in
    inr (
      items,
      c.in_ok-octets.ensures.whole,
      tried_tells (put_calls c.args.self.now.place items) file t new
          c.in_err-append.field-0.0 c.from_residual-in_err-append.result c.from_residual-in_err-append.ensures.1
          (subst (λ (n : ℕ). TellsPut (put_calls n items) file t failed new) at
          (subst (λ (l : List ℕ). TellsPut (put_calls c.self.inside.place l) file t failed new) c.deref.ensures.value (c.in_err-append.ensures.told t is))),
    )

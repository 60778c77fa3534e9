use Rattle.std.proofs.Common.{◌≡◌, IfOk, ap, refl, sym, subst}
use Rattle.std.specs.Prelude.{IfSome}
use Rattle.directory.specs.OwnUpdateWords.{own_made}
use Rattle.directory.proofs.Dropping.{found}
use Rattle.directory.proofs.Telling.{accepts_here, accepts_none}
use Rattle.directory.proofs.entry_map.EntryMap.tell.Goals.{in-Some, in-None}
use Rattle.directory.proofs.entry_map.EntryMap.tell.Goals as goal

pub returns-clause-accepts : goal.returns-clause-accepts
returns-clause-accepts c = elim c.match-get_mut.branch [
  | in-Some w ↦ rw (w.result-is, w.self-inside-is)
      (accepts_here c.args.self.now c.self.inside.entries.entries (c.get_mut.follows.lender w.accept_told.new.self).entries c.args.name.now c.self.view_is
      w.in-Some.own.now w.accept_told.new.self w.in-Some.ensures.value (c.get_mut.follows.holds w.accept_told.new.self).0
      ((c.get_mut.follows.holds w.accept_told.new.self).3 (rw (← w.in-Some.ensures.value) refl)).0
      c.args.update.now c.args.stamp w.accept_told.result w.accept_told.ensures.accepts)
  | in-None w ↦ rw (w.result-is, w.self-inside-is)
      (accepts_none c.args.self.now c.self.inside.entries.entries c.get_mut.follows.lender-at-none.entries c.args.name.now c.self.view_is
      c.args.update.now c.args.stamp w.in-None.ensures.value (ap (λ m. m.entries) c.get_mut.follows.holds-at-none))
]

pub returns-clause-entry : goal.returns-clause-entry
returns-clause-entry c = elim c.match-get_mut.branch [
  | in-Some w ↦ rw w.result-is
      (subst (λ x. IfOk w.accept_told.result (λ answer. IfOk answer (λ f. IfSome x (λ e. f.entry ≡ own_made c.args.update.now e c.args.stamp))))
      (sym (found c.args.self.now c.self.inside.entries.entries c.args.name.now _ c.self.view_is w.in-Some.ensures.value)) w.accept_told.ensures.entry)
  | in-None w ↦ rw w.result-is tt
]

use Rattle.std.proofs.Common.{ap, refl}
use Rattle.directory.proofs.Telling.{accepts_here, accepts_none}
use Rattle.directory.proofs.entry_map.EntryMap.accept_own.Goals.{in-Some, in-None}
use Rattle.directory.proofs.entry_map.EntryMap.accept_own.Goals as goal

pub returns : goal.returns
returns c = elim c.match-get_mut.branch [
  | in-Some w ↦ rw (w.result-is, w.self-inside-is)
      (accepts_here c.args.self.now c.self.inside.entries.entries (c.get_mut.follows.lender w.accept.new.self).entries c.args.name.now c.self.view_is
      w.in-Some.own.now w.accept.new.self w.in-Some.ensures.value (c.get_mut.follows.holds w.accept.new.self).0
      ((c.get_mut.follows.holds w.accept.new.self).3 (rw (← w.in-Some.ensures.value) refl)).0
      c.args.update.now c.args.stamp w.accept.result w.accept.ensures)
  | in-None w ↦ rw (w.result-is, w.self-inside-is)
      (accepts_none c.args.self.now c.self.inside.entries.entries c.get_mut.follows.lender-at-none.entries c.args.name.now c.self.view_is
      c.args.update.now c.args.stamp w.in-None.ensures.value (ap (λ m. m.entries) c.get_mut.follows.holds-at-none))
]

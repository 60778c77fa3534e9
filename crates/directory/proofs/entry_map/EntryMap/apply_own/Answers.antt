use Rattle.std.proofs.Common.{ap, refl}
use Rattle.std.proofs.lemmas.Result.{on_ok_weaker, on_err_weaker}
use Rattle.std.specs.FinMap as map
use Rattle.std.specs.Cmp.Lexicographic.{nat_list_cmp_total}
use Rattle.cds_stamps.specs.Octets.{octets_exact}
use Rattle.cds_stamps.proofs.Undoing.{not_here}
use Rattle.directory.specs.OwnUpdateWords.{own_made}
use Rattle.directory.proofs.Applying.{takes_none}
use Rattle.directory.proofs.Telling.{stays_here, takes_here, apart_here}
use Rattle.directory.proofs.entry_map.EntryMap.apply_own.Goals.{in-Some, in-None}
use Rattle.directory.proofs.entry_map.EntryMap.apply_own.Goals as goal

pub returns : goal.returns
returns c = elim c.match-get_mut.branch [
  | in-Some w ↦ rw (w.result-is, w.self-inside-is)
      (let m = c.args.self.now in
      let es = c.self.inside.entries.entries in
      let fs = (c.get_mut.follows.lender w.apply.new.self).entries in
      let n = c.args.name.now in
      let set = (c.get_mut.follows.holds w.apply.new.self).0 in
      let puts = ((c.get_mut.follows.holds w.apply.new.self).3 (rw (← w.in-Some.ensures.value) refl)).0 in
      record {
        ok = on_ok_weaker w.apply.result (takes_here m es fs n c.self.view_is w.in-Some.own.now w.apply.new.self w.in-Some.ensures.value set puts
            (λ e. own_made c.args.update.now e c.args.stamp)) w.apply.ensures.ok;
        others = apart_here m es fs n c.self.view_is w.in-Some.own.now w.apply.new.self w.in-Some.ensures.value set puts;
        err = on_err_weaker w.apply.result (stays_here m es fs n c.self.view_is w.in-Some.own.now w.apply.new.self w.in-Some.ensures.value set puts)
            w.apply.ensures.err;
      })
  | in-None w ↦ rw (w.result-is, w.self-inside-is)
      (let gone = not_here nat_list_cmp_total octets_exact c.args.self.now c.self.inside.entries.entries c.get_mut.follows.lender-at-none.entries
      c.args.name.now c.self.view_is w.in-None.ensures.value (ap (λ m. m.entries) c.get_mut.follows.holds-at-none) in
      record {
        ok = takes_none c.args.self.now _ c.args.name.now (λ e. own_made c.args.update.now e c.args.stamp) gone.0;
        others = λ q _. ap (λ m. map.get m q) gone.1;
        err = tt;
      })
]

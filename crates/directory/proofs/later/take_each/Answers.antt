use Rattle.std.proofs.Common.{refl, sym, subst, ◌∙◌}
use Rattle.std.specs.Prelude.{◌∷◌}
use Rattle.std.specs.FinMap.{entries, entries_sorted}
use Rattle.std.specs.List.{AllByRecursion}
use Rattle.std.specs.Cmp.Lexicographic.{nat_list_cmp_total}
use Rattle.cds_stamps.specs.Octets.{octets_cmp, octets_exact}
use Rattle.attr_sets.proofs.PartLoops.{each_starts}
use Rattle.attr_sets.proofs.ShownLaws.{keys_rise}
use Rattle.directory.specs.Entries.{IsValidEntry, IsValidTable}
use Rattle.directory.proofs.LaterLaws.{IsTaken, of_entries, turns_start, take_step, take_end, then_logged}
use Rattle.directory.proofs.later.take_each.Goals as goal

pub loop-name-init : goal.loop-name-init
loop-name-init c =
    let other = c.args.other.now in
    let items = c.into_iter-name-iterator.ensures.into_iter_gives ∙ c.iter-name-items.ensures in
    record {
      valid = λ theirs. (each_starts nat_list_cmp_total IsValidEntry other (entries other) _ (of_entries nat_list_cmp_total octets_exact other)
          (keys_rise octets_cmp (entries other) (entries_sorted other)) items).1 theirs;
      takes = λ mine theirs. turns_start nat_list_cmp_total octets_exact c.args.entries.now (IsTaken c.args.t c.args.entries.now other) other
          c.args.entries.now _ items refl;
      knows = λ theirs known. known;
      logged = record { back = λ q. refl; keeps = λ d known. known; room = refl };
    }

pub loop-name-preserved : goal.loop-name-preserved
loop-name-preserved c =
    -- the entry that comes is valid, and so are those after it
    let comes : IsValidTable c.args.other.now
    → IsValidEntry c.in-Some.entry.now × AllByRecursion (λ p. IsValidEntry p.1) c.next.new.self =
    λ theirs. subst (AllByRecursion (λ p. IsValidEntry p.1)) c.in-Some.ensures.steps (c.loop-name.invariant.valid theirs) in
    record {
      valid = λ theirs. (comes theirs).1;
      takes = λ mine theirs.
          take_step c.args.t c.args.entries.now c.args.other.now c.loop-name.entries c.take_one.new.entries c.in-Some.name.now c.in-Some.entry.now
          c.loop-name.name-iterator c.next.new.self c.in-Some.ensures.steps mine c.in_ok-take_one.ensures.ok (comes theirs).0 (c.loop-name.invariant.takes mine theirs);
      knows = λ theirs known. c.in_ok-take_one.ensures.knows (c.loop-name.invariant.knows theirs known) (comes theirs).0;
      logged = then_logged c.loop-name.invariant.logged c.take_one.ensures.logged;
    }

pub returns-in_err-take_one-clause-logged : goal.returns-in_err-take_one-clause-logged
returns-in_err-take_one-clause-logged c = then_logged c.loop-name.invariant.logged c.take_one.ensures.logged

pub returns-clause-ok : goal.returns-clause-ok
returns-clause-ok c = λ mine theirs.
    take_end c.args.t c.args.entries.now c.args.other.now c.loop-name.entries c.loop-name.name-iterator c.in-None.ensures.steps.0
    (c.loop-name.invariant.takes mine theirs)

use Rattle.std.proofs.Common.{◌≡◌, ◌∙◌, ℕ, List, [], ◌∷◌, Option, Some, refl, sym, ap, subst, rules}
use Rattle.std.specs.Prelude.{IsTrue}
use Rattle.std.specs.FinMap as map
use Rattle.std.specs.Cmp.Lexicographic.{nat_list_cmp_total}
use Rattle.cds_stamps.specs.Octets.{octets_cmp, octets_exact}
use Rattle.cds_stamps.specs.Undos.{TakesBack, LogsChange, back_at}
use Rattle.cds_stamps.proofs.TreeViews.{get-view}
use Rattle.cds_stamps.proofs.Undoing.{logged, not_here}
use Rattle.cds_stamps.proofs.ValidJoins.{raised_valid}
use Rattle.attr_sets.proofs.Unchanged.{unchanged_valid}
use Rattle.directory.specs.declared.undo.EntryUndo.{EntryUndo}
use Rattle.directory.specs.Applied.{JoinsEntry}
use Rattle.directory.specs.Entries.{Entries, join_entries, IsValidEntry}
use Rattle.directory.specs.EntryUndoWords.{undo_entry}
use Rattle.directory.proofs.Dropping.{stays}
use Rattle.directory.proofs.entry_map.EntryMap.raise_here.Goals as goal

-- neither the table nor its log is changed
unlogged : (m n : Entries) (log next : List (List ℕ × Option EntryUndo)) → n ≡ m → next ≡ log → LogsChange undo_entry m n log next
unlogged m n log next same kept q =
    ap (λ l. back_at octets_cmp undo_entry l q (map.get n q)) kept ∙ ap (λ n. back_at octets_cmp undo_entry log q (map.get n q)) same

pub returns-in_default-clause-ok : goal.returns-in_default-clause-ok
returns-in_default-clause-ok c =
    let gone = not_here nat_list_cmp_total octets_exact c.args.self.now c.self.inside.entries.entries c.get_mut.follows.lender-at-none.entries
    c.args.name.now c.self.view_is c.in_default.ensures.value (ap (λ m. m.entries) c.get_mut.follows.holds-at-none) in
    (gone.0, gone.1, refl)

pub returns-then-outdates-clause-ok : goal.returns-then-outdates-clause-ok
returns-then-outdates-clause-ok c =
    let m = c.args.self.now in
    let own = c.in-Some.own.now in
    let es = c.self.inside.entries.entries in
    let same : map.from_entries (c.get_mut.follows.lender own).entries ≡ m =
    stays m es (c.get_mut.follows.lender own).entries c.args.name.now own c.self.view_is c.in-Some.ensures.value (c.get_mut.follows.holds own).0 in
    let had : Some own ≡ map.get m c.args.name.now =
    c.in-Some.ensures.value ∙ sym (get-view nat_list_cmp_total es c.args.name.now) ∙ ap (λ m. map.get m c.args.name.now) c.self.view_is in
    let outdated : IsTrue c.outdates.result = search rules in
    subst (λ n. JoinsEntry m n c.args.name.now c.args.entry.now) (sym same)
    (unchanged_valid octets_exact IsValidEntry join_entries m c.args.name.now own c.args.entry.now had (c.outdates.ensures outdated))

pub returns-then-outdates-clause-back : goal.returns-then-outdates-clause-back
returns-then-outdates-clause-back c =
    let own = c.in-Some.own.now in
    unlogged c.args.self.now _ c.args.log.now.items c.args.log.now.items
    (stays c.args.self.now c.self.inside.entries.entries (c.get_mut.follows.lender own).entries c.args.name.now own c.self.view_is c.in-Some.ensures.value
    (c.get_mut.follows.holds own).0) refl

pub returns-in_err-reserve-clause-back : goal.returns-in_err-reserve-clause-back
returns-in_err-reserve-clause-back c =
    let own = c.in-Some.own.now in
    unlogged c.args.self.now _ c.args.log.now.items c.reserve.new.self.items
    (stays c.args.self.now c.self.inside.entries.entries (c.get_mut.follows.lender own).entries c.args.name.now own c.self.view_is c.in-Some.ensures.value
    (c.get_mut.follows.holds own).0) c.reserve.ensures.items

pub returns-in_err-key-clause-back : goal.returns-in_err-key-clause-back
returns-in_err-key-clause-back c =
    let own = c.in-Some.own.now in
    unlogged c.args.self.now _ c.args.log.now.items c.reserve.new.self.items
    (stays c.args.self.now c.self.inside.entries.entries (c.get_mut.follows.lender own).entries c.args.name.now own c.self.view_is c.in-Some.ensures.value
    (c.get_mut.follows.holds own).0) c.reserve.ensures.items

pub returns-in_err-undo-clause-back : goal.returns-in_err-undo-clause-back
returns-in_err-undo-clause-back c =
    let own = c.join_logged.new.self in
    unlogged c.args.self.now _ c.args.log.now.items c.reserve.new.self.items
    (stays c.args.self.now c.self.inside.entries.entries (c.get_mut.follows.lender own).entries c.args.name.now own c.self.view_is
    (ap Some c.in_err-undo.ensures.joined.err ∙ c.in-Some.ensures.value) (c.get_mut.follows.holds own).0) c.reserve.ensures.items

both : (c : goal.After-unwrap) → JoinsEntry c.args.self.now (map.from_entries (c.get_mut.follows.lender c.join_logged.new.self).entries) c.args.name.now
    c.args.entry.now × TakesBack undo_entry c.args.self.now (map.from_entries (c.get_mut.follows.lender c.join_logged.new.self).entries)
    ((c.args.name.now, Some c.in_ok-undo.undo) ∷ [])
both c = raised_valid nat_list_cmp_total IsValidEntry octets_exact join_entries undo_entry c.args.self.now c.self.inside.entries.entries
    (c.get_mut.follows.lender c.join_logged.new.self).entries c.args.name.now c.in-Some.own.now c.args.entry.now c.join_logged.new.self
    c.in_ok-undo.undo c.self.view_is c.in-Some.ensures.value (λ own other. sym (c.in_ok-undo.ensures.joined.ok own other)) c.in_ok-undo.ensures.back
    ((c.get_mut.follows.holds c.join_logged.new.self).3 (rw (← c.in-Some.ensures.value) refl)).0

pub returns-clause-ok : goal.returns-clause-ok
returns-clause-ok c = (both c).0

pub returns-clause-back : goal.returns-clause-back
returns-clause-back c =
    logged undo_entry c.args.self.now (map.from_entries (c.get_mut.follows.lender c.join_logged.new.self).entries) c.args.log.now.items
    c.push.new.self.items (c.args.name.now, Some c.in_ok-undo.undo)
    (rw (c.push.ensures.items, c.unwrap.ensures, c.reserve.ensures.items, c.in_ok-key.ensures) refl) (both c).1

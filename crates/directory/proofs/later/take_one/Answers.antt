use Rattle.std.proofs.Common.{ap, sym, subst, ◌∙◌}
use Rattle.std.specs.Prelude.{IfSome}
use Rattle.cds_stamps.specs.Undos.{RaisesAt}
use Rattle.directory.specs.Entries.{join_entries, IsValidEntry}
use Rattle.directory.specs.Purges.{is_passed, take_entry}
use Rattle.std.specs.Prelude.{◌≡◌, Some, false}
use Rattle.directory.proofs.PurgeLaws.{after_entry-valid}
use Rattle.directory.proofs.LaterLaws.{known_stays, later_raised, on_ok}
use Rattle.directory.proofs.later.take_one.Goals as goal

pub returns-then-is_known-clause-ok : goal.returns-then-is_known-clause-ok
returns-then-is_known-clause-ok c = λ own entry.
    let is = c.get.ensures in
    known_stays c.args.t c.args.entries.now c.args.name.now c.args.entry.now
    (ap (λ x. take_entry c.args.t x (Some c.args.entry.now)) (sym is)
    ∙ c.is_known.ensures.known c.if-is_known.true (subst (λ x. IfSome x IsValidEntry) (sym is) own) entry ∙ is)

pub returns-then-is_after-clause-ok : goal.returns-then-is_after-clause-ok
returns-then-is_after-clause-ok c =
    let new : is_passed c.args.t _ c.args.entry.now ≡ false = ap (λ x. is_passed c.args.t x c.args.entry.now) (sym c.get.ensures)
    ∙ c.is_known.ensures.new c.if-is_known.false in
    on_ok c.raise_known.result (λ joins own entry.
    later_raised c.args.t c.args.entries.now c.raise_known.new.entries c.args.name.now c.args.entry.now new
    (subst (RaisesAt join_entries c.args.entries.now c.raise_known.new.entries c.args.name.now) (sym (c.is_after.ensures.0 c.if-is_after.true))
    (joins own entry))) c.raise_known.ensures.ok

pub returns-clause-ok : goal.returns-clause-ok
returns-clause-ok c =
    let new : is_passed c.args.t _ c.args.entry.now ≡ false = ap (λ x. is_passed c.args.t x c.args.entry.now) (sym c.get.ensures)
    ∙ c.is_known.ensures.new c.if-is_known.false in
    on_ok c.raise_known-2.result (λ joins own entry.
    later_raised c.args.t c.args.entries.now c.raise_known-2.new.entries c.args.name.now c.args.entry.now new
    (subst (RaisesAt join_entries c.args.entries.now c.raise_known-2.new.entries c.args.name.now) c.in_ok-later.ensures
    (joins own (subst IsValidEntry (sym c.in_ok-later.ensures) (after_entry-valid c.args.t c.args.entry.now entry))))) c.raise_known-2.ensures.ok

pub returns-clause-knows : goal.returns-clause-knows
returns-clause-knows c = on_ok c.raise_known-2.result (λ knows known entry.
    knows known (subst IsValidEntry (sym c.in_ok-later.ensures) (after_entry-valid c.args.t c.args.entry.now entry))) c.raise_known-2.ensures.knows

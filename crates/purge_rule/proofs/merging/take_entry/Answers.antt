use Rattle.std.proofs.Common.{ap, subst, sym, ◌∙◌}
use Rattle.cds_stamps.specs.Undos.{RaisesAt}
use Rattle.directory.specs.Entries.{join_entries}
use Rattle.directory.specs.Purges.{is_passed}
use Rattle.directory.proofs.PurgeLaws.{after_entry-valid}
use Rattle.purge_rule.proofs.MergeLaws.{entry_passed, entry_raised, on_ok}
use Rattle.purge_rule.proofs.merging.take_entry.Goals as goal

pub returns-then-is_passed-clause-ok : goal.returns-then-is_passed-clause-ok
returns-then-is_passed-clause-ok c = λ own entry. entry_passed c.args.t c.args.own.now c.args.fragment.now.name c.args.fragment.now.entry
    (ap (λ x. is_passed c.args.t x c.args.fragment.now.entry) (sym c.get.ensures) ∙ sym c.is_passed.ensures ∙ c.if-is_passed.true)

pub returns-then-is_after-clause-ok : goal.returns-then-is_after-clause-ok
returns-then-is_after-clause-ok c = on_ok c.join_entry.result (λ joins own entry. entry_raised c.args.t c.args.own.now c.join_entry.new.self
    c.args.fragment.now.name c.args.fragment.now.entry
    (ap (λ x. is_passed c.args.t x c.args.fragment.now.entry) (sym c.get.ensures) ∙ sym c.is_passed.ensures ∙ c.if-is_passed.false)
    (subst (RaisesAt join_entries c.args.own.now c.join_entry.new.self c.args.fragment.now.name) (sym (c.is_after.ensures.0 c.if-is_after.true))
    (joins own entry))) c.join_entry.ensures.ok

pub returns-clause-ok : goal.returns-clause-ok
returns-clause-ok c = on_ok c.join_later.result (λ joins own entry. entry_raised c.args.t c.args.own.now c.join_later.new.own
    c.args.fragment.now.name c.args.fragment.now.entry
    (ap (λ x. is_passed c.args.t x c.args.fragment.now.entry) (sym c.get.ensures) ∙ sym c.is_passed.ensures ∙ c.if-is_passed.false)
    (joins own (after_entry-valid c.args.t c.args.fragment.now.entry entry))) c.join_later.ensures.ok

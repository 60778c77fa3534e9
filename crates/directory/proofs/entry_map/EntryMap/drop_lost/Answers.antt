use Rattle.std.proofs.Common.{◌≡◌, ◌∙◌, ◌+◌, ◌-◌, Some, None, true, false, refl, sym, ap, subst, arith, rules}
use Rattle.std.specs.Prelude.{min}
use Rattle.std.specs.FinMap as map
use Rattle.cds_stamps.specs.Octets.{octets_cmp}
use Rattle.directory.specs.Deletions.{change_at, entry_without, is_lost}
use Rattle.directory.specs.Held.{held_in, most_held}
use Rattle.directory.proofs.Dropping.{set_here, stays, found, kept_if, dropped_if, left_of}
use Rattle.directory.proofs.HeldLaws.{held_lost}
use Rattle.directory.proofs.entry_map.EntryMap.drop_lost.Goals.{In_default, In-Some, After-drop_lost}
use Rattle.directory.proofs.entry_map.EntryMap.drop_lost.Goals as goal

nothing : (c : In_default) → map.from_entries {R = octets_cmp} c.get_mut.follows.lender-at-none.entries ≡ c.args.self.now
nothing c = ap (λ m. map.from_entries m.entries) c.get_mut.follows.holds-at-none ∙ c.self.view_is

pub returns-in_default-clause-dropped : goal.returns-in_default-clause-dropped
returns-in_default-clause-dropped c =
    kept_if c.args.self.now _ c.args.name.now c.args.stamp c.args.what.now (ap (λ e. is_lost e c.args.stamp c.args.what.now)
    (found c.args.self.now c.self.inside.entries.entries c.args.name.now None c.self.view_is c.in_default.ensures.value))
    (nothing (goal.at.returns-in_default-clause-dropped c).In_default)

pub returns-in_default-clause-count : goal.returns-in_default-clause-count
returns-in_default-clause-count c =
    subst (λ n. 0 ≡ min (held_in c.args.self.now - held_in n) most_held) (sym (nothing (goal.at.returns-in_default-clause-count c).In_default)) (omega arith)

same : (c : In-Some) → map.from_entries {R = octets_cmp} (c.get_mut.follows.lender c.in-Some.entry.now).entries ≡ c.args.self.now
same c = stays c.args.self.now c.self.inside.entries.entries (c.get_mut.follows.lender c.in-Some.entry.now).entries c.args.name.now c.in-Some.entry.now
    c.self.view_is c.in-Some.ensures.value (c.get_mut.follows.holds c.in-Some.entry.now).0

pub returns-then-not-has_lost-clause-dropped : goal.returns-then-not-has_lost-clause-dropped
returns-then-not-has_lost-clause-dropped c =
    let unlost : c.has_lost.result ≡ false = search rules in
    kept_if c.args.self.now _ c.args.name.now c.args.stamp c.args.what.now (ap (λ e. is_lost e c.args.stamp c.args.what.now) (found c.args.self.now
    c.self.inside.entries.entries c.args.name.now (Some c.in-Some.entry.now) c.self.view_is c.in-Some.ensures.value)
    ∙ sym c.has_lost.ensures ∙ unlost) (same (goal.at.returns-then-not-has_lost-clause-dropped c).In-Some)

pub returns-then-not-has_lost-clause-count : goal.returns-then-not-has_lost-clause-count
returns-then-not-has_lost-clause-count c =
    subst (λ n. 0 ≡ min (held_in c.args.self.now - held_in n) most_held)
    (sym (same (goal.at.returns-then-not-has_lost-clause-count c).In-Some)) (omega arith)

lost : (c : After-drop_lost) → is_lost (map.get c.args.self.now c.args.name.now) c.args.stamp c.args.what.now ≡ true
lost c =
    let has : c.has_lost.result ≡ true = search rules in
    ap (λ e. is_lost e c.args.stamp c.args.what.now) (found c.args.self.now c.self.inside.entries.entries c.args.name.now (Some c.in-Some.entry.now)
    c.self.view_is c.in-Some.ensures.value) ∙ sym c.has_lost.ensures ∙ has

drops : (c : After-drop_lost) → map.from_entries {R = octets_cmp} (c.get_mut.follows.lender c.drop_lost.new.self).entries
    ≡ change_at c.args.self.now c.args.name.now (entry_without c.args.what.now)
drops c =
    set_here c.args.self.now c.self.inside.entries.entries c.args.name.now (entry_without c.args.what.now) c.self.view_is
    (c.get_mut.follows.lender c.drop_lost.new.self).entries c.in-Some.entry.now c.drop_lost.new.self c.in-Some.ensures.value
    ((c.get_mut.follows.holds c.drop_lost.new.self).3 (rw (← c.in-Some.ensures.value) refl)).0
    (left_of c.args.what.now c.in-Some.entry.now c.drop_lost.new.self c.requires c.drop_lost.ensures)

pub returns-clause-dropped : goal.returns-clause-dropped
returns-clause-dropped c =
    let after = (goal.at.returns-clause-dropped c).After-drop_lost in
    dropped_if c.args.self.now _ c.args.name.now c.args.stamp c.args.what.now (lost after) (drops after)

pub returns-clause-count : goal.returns-clause-count
returns-clause-count c =
    let m = c.args.self.now in
    let after = (goal.at.returns-clause-count c).After-drop_lost in
    let fewer : held_in (change_at m c.args.name.now (entry_without c.args.what.now)) + 1 ≡ held_in m =
    held_lost m c.args.stamp c.args.name.now c.args.what.now c.requires (lost after) in
    subst (λ n. 1 ≡ min (held_in m - held_in n) most_held) (sym (drops after)) (omega (arith, fewer))

use Rattle.std.proofs.Common.{◌≡◌, ◌∙◌, List, ℕ, [], reverse, sym, ap, subst, refl}
use Rattle.house_journal.specs.declared.leave.Leave.TheVariants.{Keep}
use Rattle.house_journal.specs.declared.leave.Leave.{Leave}
use Rattle.house_journal.specs.MemoryDisks.{MemState, changes_in}
use Rattle.house_journal.specs.Restarts.{begun_with, left_of}
use Rattle.house_journal.proofs.Restarting.{all_done, left_synced}
use Rattle.house_journal.proofs.memory.MemDisk.begin_by.Goals as goal

pub returns-then-is_synced-clause-ok : goal.returns-then-is_synced-clause-ok
returns-then-is_synced-clause-ok c =
    let m : MemState = c.args.self.now in
    let none : changes_in m.steps m.octets ≡ [] = c.if-is_synced.ensures.0 refl in
    c.begin.ensures ∙ ap (λ (l : List ℕ). begun_with l m) (sym (left_synced c.args.leave m.steps m.octets none))

pub returns-in-Keep-clause-ok : goal.returns-in-Keep-clause-ok
returns-in-Keep-clause-ok c =
    let m : MemState = c.args.self.now in
    let done : left_of Keep m ≡ m.octets =
    subst (λ (n : MemState). left_of Keep n ≡ n.octets) c.self.view_is
    (all_done (reverse c.self.inside.steps.items) c.self.inside.octets.items c.self.invariant) in
    c.begin-in-Keep.ensures ∙ ap (λ (l : List ℕ). begun_with l m) (sym done) ∙ ap (λ (w : Leave). begun_with (left_of w m) m) (sym c.in-Keep.is)

use Rattle.std.proofs.Common.{reverse, subst}
use Rattle.std.specs.Prelude.{◌↔◌}
use Rattle.house_journal.specs.CrashSets.{IsLeft}
use Rattle.house_journal.specs.MemoryDisks.{MemState, left_now, synced_in, changes_in}
use Rattle.house_journal.proofs.CrashSets.{left_is, is_left}
use Rattle.house_journal.proofs.memory.MemDisk.a_crash_leaves_untouched_places.Goals as goal

pub returns : goal.returns
returns c x =
    let m = c.self.inside in
    let steps = reverse m.steps.items in
    let file = m.octets.items in
    subst (λ (n : MemState). left_now n.steps n.octets x ↔ IsLeft (synced_in n.steps n.octets) (changes_in n.steps n.octets) x) c.self.view_is
    (left_is steps file c.self.invariant x, is_left steps file c.self.invariant x)

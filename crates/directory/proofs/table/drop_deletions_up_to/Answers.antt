use Rattle.std.proofs.Common.{◌≡◌, true, false, sym, ◌∙◌}
use Rattle.std.specs.Prelude.{if◌then◌else◌}
use Rattle.cds_stamps.specs.declared.stamp.Stamp.{Stamp}
use Rattle.cds_stamps.specs.Stamps.{is_up_to}
use Rattle.directory.specs.declared.deletions.Deletion.{Deletion}
use Rattle.directory.specs.declared.deletions.Deletions.{Deletions}
use Rattle.directory.specs.Deletions.{has_deletion, is_deletion, without}
use Rattle.directory.specs.Entries.{Entries}
use Rattle.directory.specs.IndexWords.{IsKnown, is_indexed, IsIndexed}
use Rattle.directory.specs.Purges.{purged_table}
use Rattle.directory.proofs.DeletionLaws.{purged_none}
use Rattle.directory.proofs.IndexLaws.{known_dropped, purged_dropped}
use Rattle.directory.proofs.table.drop_deletions_up_to.Goals as goal

-- one deletion more is dropped
still : (z : Deletions) (l : Entries) (t : Stamp) (x y : Deletions) (m n : Entries) (d : Deletion) → is_up_to t d.stamp ≡ true
    → ((e : Deletion) → is_indexed y e ≡ (if is_deletion e d then false else is_indexed x e))
    → n ≡ (if has_deletion m d then without m d else m)
    → (IsIndexed z l → IsKnown x m × (purged_table t m ≡ purged_table t l)) → IsIndexed z l → IsKnown y n × (purged_table t n ≡ purged_table t l)
still z l t x y m n d early rest dropped before i =
    (known_dropped x y m n d rest dropped (before i).0, purged_dropped m n d t early dropped ∙ (before i).1)

pub loop-first-preserved : goal.loop-first-preserved
loop-first-preserved c =
    still c.args.deletions.now c.args.entries.now c.args.t c.loop-first.deletions c.pop_up_to.new.self c.loop-first.entries c.drop_deletion.new.self
    c.in-Some.first c.in-Some.ensures.first.1 c.in-Some.ensures.rest c.drop_deletion.ensures.dropped c.loop-first.invariant

pub returns-clause-dropped : goal.returns-clause-dropped
returns-clause-dropped c = λ i.
    let known = (c.loop-first.invariant i).0 in
    sym (purged_none c.loop-first.entries c.args.t known.valid (λ d has. c.in_default.ensures.none.1 d (known.all d has))) ∙ (c.loop-first.invariant i).1

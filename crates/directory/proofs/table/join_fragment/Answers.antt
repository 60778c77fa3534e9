use Rattle.std.proofs.Common.{refl, sym, ap, ◌∙◌}
use Rattle.std.specs.FinMap.{get}
use Rattle.directory.proofs.IndexLaws.{settled, known_still, known_raised, begins_elsewhere, when_ok, on_any}
use Rattle.directory.proofs.DeletionSets.{on_result}
use Rattle.directory.proofs.table.join_fragment.Goals.{then-is_ok, else-is_ok}
use Rattle.directory.proofs.table.join_fragment.Goals as goal

pub returns-clause-others : goal.returns-clause-others
returns-clause-others c = elim c.if-is_ok.branch [
  | then-is_ok w ↦ rw (w.joined-is, w.entries-is) w.join_entry-joined.ensures.others
  | else-is_ok w ↦ rw (w.joined-is, w.entries-is) (on_any c.add_entry-joined.result (λ q apart. refl))
]

pub returns-clause-index : goal.returns-clause-index
returns-clause-index c = λ i.
    let x = c.args.deletions.now in
    let y = c.add_entry-joined.new.self in
    let m = c.args.entries.now in
    let k = c.args.fragment.now.name in
    let e = c.args.fragment.now.entry in
    let keeps = c.add_entry-joined.ensures.adds.0 in
    settled y c.settle_at.new.self c.if-is_ok.entries
    (elim c.if-is_ok.branch [
      | then-is_ok w ↦ rw w.entries-is
          (on_result w.join_entry-joined.result w.join_entry-joined.ensures.ok w.join_entry-joined.ensures.err
          (λ joins. known_raised x y m w.join_entry-joined.new.self keeps i k e
          (when_ok c.add_entry-joined.result (sym c.is_ok.ensures.value ∙ w.if-is_ok.true) c.add_entry-joined.ensures.ok) c.requires
          (joins (i.valid k) c.requires))
          (known_still x y m w.join_entry-joined.new.self keeps i))
      | else-is_ok w ↦ known_still x y m c.if-is_ok.entries keeps i w.entries-is
    ])
    c.settle_at.ensures.all
    (c.settle_at.ensures.first (begins_elsewhere x y m c.if-is_ok.entries k c.add_entry-joined.ensures.adds
    (elim c.if-is_ok.branch [
      | then-is_ok w ↦ rw w.entries-is
          (on_result w.join_entry-joined.result w.join_entry-joined.ensures.others w.join_entry-joined.ensures.err (λ leaves. leaves)
          (λ same q apart. ap (λ n. get n q) same))
      | else-is_ok w ↦ rw w.entries-is (λ q apart. refl)
    ]) i))
    c.settle_at.ensures.settled

use Rattle.std.proofs.Common.{sym, ◌∙◌}
use Rattle.directory.proofs.IndexLaws.{settled, known_still, known_joined, when_ok}
use Rattle.directory.proofs.DeletionSets.{on_result}
use Rattle.directory.proofs.table.join_all.Goals.{then-is_ok, else-is_ok}
use Rattle.directory.proofs.table.join_all.Goals as goal

pub returns-clause-index : goal.returns-clause-index
returns-clause-index c = λ i.
    let x = c.args.deletions.now in
    let y = c.add_all-joined.new.self in
    let m = c.args.entries.now in
    let keeps = c.add_all-joined.ensures.keeps in
    settled y c.settle.new.self c.if-is_ok.entries
    (elim c.if-is_ok.branch [
      | then-is_ok w ↦ rw w.entries-is
          (on_result w.join-joined.result w.join-joined.ensures.ok w.join-joined.ensures.err
          (λ joins. known_joined x y m w.join-joined.new.self keeps i c.args.others.now c.args.other.now
          (when_ok c.add_all-joined.result (sym c.is_ok.ensures.value ∙ w.if-is_ok.true) c.add_all-joined.ensures.ok) c.requires
          (joins i.valid c.requires.valid))
          (known_still x y m w.join-joined.new.self keeps i))
      | else-is_ok w ↦ known_still x y m c.if-is_ok.entries keeps i w.entries-is
    ])
    c.settle.ensures.all c.settle.ensures.first c.settle.ensures.settled

use Rattle.std.proofs.Common.{ap, sym, ◌∙◌}
use Rattle.std.proofs.lemmas.Bool.{false≢true}
use Rattle.directory.specs.Deletions.{without}
use Rattle.directory.proofs.HeldLaws.{held_less}
use Rattle.directory.proofs.IndexLaws.{settled, one_first, first_of, IsDropped, first_dropped}
use Rattle.directory.proofs.table.drop_first_deletion.Goals.{After-settle, in-Some, in_default}
use Rattle.directory.proofs.table.drop_first_deletion.Goals as goal

drops : (c : After-settle) → IsDropped c.pop_first.new.self c.args.entries.now c.match-pop_first.entries
drops c =
    let drop = first_dropped c.args.deletions.now c.pop_first.new.self c.args.entries.now in
    elim c.match-pop_first.branch [
      | in-Some w ↦ rw w.entries-is
          (drop w.drop_known-dropped.new.self w.in-Some.first c.requires.indexed w.in-Some.ensures.first w.in-Some.ensures.rest
          w.drop_known-dropped.ensures.dropped)
      | in_default w ↦
          absurd (false≢true (sym (w.in_default.ensures.none.1 c.requires.some.0) ∙ c.requires.indexed.all c.requires.some.0 c.requires.some.1))
    ]

pub drop_known-dropped-requires : goal.drop_known-dropped-requires
drop_known-dropped-requires c = λ _.
    (first_of c.args.deletions.now c.args.entries.now c.in-Some.first c.requires.indexed c.in-Some.ensures.first.0 c.in-Some.ensures.first.1).0

pub returns-clause-dropped : goal.returns-clause-dropped
returns-clause-dropped c = λ d first.
    let left = drops (goal.at.returns-clause-dropped c).After-settle in
    left.left ∙ ap (without c.args.entries.now) (one_first c.args.entries.now left.d d left.first first)

pub returns-clause-fewer : goal.returns-clause-fewer
returns-clause-fewer c =
    let left = drops (goal.at.returns-clause-fewer c).After-settle in
    rw left.left (held_less c.args.entries.now left.d left.first.0)

pub returns-clause-index : goal.returns-clause-index
returns-clause-index c =
    settled c.pop_first.new.self c.settle.new.self c.match-pop_first.entries (drops (goal.at.returns-clause-index c).After-settle).known
    c.settle.ensures.all c.settle.ensures.first c.settle.ensures.settled

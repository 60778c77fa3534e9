use Rattle.std.proofs.Common.{◌≤◌, ◌∙◌, ap, sym, arith}
use Rattle.cell_model.proofs.Marks.{stamp_next}
use Rattle.house_directory.proofs.Lawfulness.{lawful_later}
use Rattle.house_directory.proofs.Maps.{if_ok_map}
use Rattle.cds_stamps.specs.declared.stamp.Stamp.{Stamp}
use Rattle.house_directory.proofs.states.Held.begin_skulk.Goals as goal

pub returns-in-Some-clause-kept : goal.returns-in-Some-clause-kept
returns-in-Some-clause-kept c = λ lawful.
    let above = (stamp_next c.args.by.clock c.args.floor.now.time c.args.by.node c.in-Some.t (sym c.in-Some.ensures.stamp)).0 in
    let le : c.args.floor.now.time ≤ c.in-Some.t.time = omega arith in
    rw c.in-Some.ensures.floor (c.begin_with.ensures.kept (lawful_later c.args.by.house.0 c.args.floor.now.time c.in-Some.t.time c.args.self.now le lawful))

pub returns-in-None-clause-kept : goal.returns-in-None-clause-kept
returns-in-None-clause-kept c = λ lawful. rw c.in-None.ensures.floor lawful

pub returns-in-Some-clause-begins : goal.returns-in-Some-clause-begins
returns-in-Some-clause-begins c =
    if_ok_map _ _ c.begin_with.result.answer
    (λ b z. (z.0, c.in-Some.ensures.floor ∙ ap (λ (t : Stamp). t.time) (sym z.1))) c.begin_with.ensures.begins

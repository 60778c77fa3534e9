use Rattle.std.proofs.Common.{ℕ, ◌+◌, ◌<◌, ◌^◌, List, [], ◌∷◌, ◌++◌, drop, length, ap, ◌∙◌, arith}
use Rattle.tower_codec.specs.Tower.{Floor}
use Rattle.tower_codec.specs.Spelling.{number_octets}
use Rattle.tower_codec.proofs.Known.{length-known_floors}
use Rattle.tower_codec.proofs.Writing.{IsPushed, writer_push}
use Rattle.tower_codec.proofs.writer.TowerWriter.push.Goals as goal
use Rattle.tower_codec.proofs.writer.TowerWriter.push.Goals.{After-write_count}

pub overflow_add-self : goal.overflow_add-self
overflow_add-self c =
    let shown = ap length c.self.view_is in
    omega (arith, shown, length-known_floors c.self.inside.count (drop 2 c.self.inside.octets.items))

pushed : (c : After-write_count)
    → IsPushed c.self.inside.count c.self.inside.octets.items c.write_count.new.octets.items (record { left = c.args.left.now; right = c.args.right.now })
pushed c =
    let before = c.self.inside.octets.items in
    let count = c.self.inside.count in
    let floor : Floor = record { left = c.args.left.now; right = c.args.right.now } in
    let shown = ap length c.self.view_is in
    let room : count + 1 < 2 ^ 16 = omega (arith, shown, length-known_floors count (drop 2 before)) in
    writer_push count before c.write_count.new.octets.items floor c.self.invariant room
    (record { some = c.requires.some; left = c.requires.left; right = c.requires.right })
    (c.write_count.ensures ∙ ap (λ (x : List ℕ). number_octets (count + 1) ++ drop 2 x) c.in_ok-append_floor.ensures.ok)

pub invariant_of-self-2 : goal.invariant_of-self-2
invariant_of-self-2 c = (pushed ((goal.at.invariant_of-self-2 c).After-write_count)).tower

pub returns-clause-ok : goal.returns-clause-ok
returns-clause-ok c = (pushed ((goal.at.returns-clause-ok c).After-write_count)).view
    ∙ ap (λ (fs : List Floor). fs ++ record { left = c.args.left.now; right = c.args.right.now } ∷ []) c.self.view_is

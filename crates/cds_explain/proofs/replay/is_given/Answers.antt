use Rattle.std.proofs.Common.{◌≡◌, refl, sym, ◌∙◌}
use Rattle.std.proofs.lemmas.Bool.{OnTrue_from}
use Rattle.std.proofs.lemmas.Slice.Eq.{slice_eq-Decides}
use Rattle.cds_explain.proofs.ComparingLemmas.{listed_as, member_is}
use Rattle.cds_explain.proofs.replay.is_given.Goals as goal

pub returns-then-eq : goal.returns-then-eq
returns-then-eq c = λ g stands.
    let list = c.in-Epoch.list in
    let same : c.list-then-eq.result.now ≡ list.members =
    c.list-then-eq.ensures.value ∙ sym c.list.ensures.value
    ∙ (slice_eq-Decides member_is _ _ _ c.if-eq.ensures).0 refl
    ∙ c.list-in-Some.ensures in
    let listed = rw (sym c.list-then-eq.ensures.value) at (c.in-Some.ensures g stands) in
    let decides = rw c.list-then-eq-2.ensures at c.have_left.ensures in
    let left = OnTrue_from c.have_left.result _ decides.0 in
    rw c.in-Epoch.is
    (listed_as g c.in-Epoch.dir c.in-Epoch.field-1 list c.args.before.now c.list-then-eq.result.now _ c.have_left.result listed same left)

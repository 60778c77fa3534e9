use Rattle.std.proofs.Common.{◌∙◌, sym, ap, subst, Err}
use Rattle.compact_map.specs.MapEntries.{IsOrdered}
use Rattle.compact_map.proofs.Places.{seek_rest, ends_at_last, ends_past_last}
use Rattle.compact_map.proofs.sorted_vec.place_from_last.Goals as goal

pub returns-in-Less : goal.returns-in-Less
returns-in-Less g c =
    rw (c.place_of.ensures, c.in-Some.ensures.cases.0)
    (seek_rest (g.K.Ord.cmp c.args.key.now) c.in-Some.rest.now c.in-Some.last.now c.in-Less.ensures)

pub returns-in-Equal : goal.returns-in-Equal
returns-in-Equal g c =
    rw c.in-Some.ensures.cases.0
    (ends_at_last g.met.K.Ord.total c.args.key.now c.in-Some.last.now c.in-Some.rest.now (subst (IsOrdered g.K.Ord.cmp) c.in-Some.ensures.cases.0 c.requires)
    c.in-Equal.ensures)

pub returns-in-Greater : goal.returns-in-Greater
returns-in-Greater g c =
    ap Err (sym c.in-Some.ensures.cases.1) ∙ rw c.in-Some.ensures.cases.0
    (ends_past_last g.met.K.Ord.total c.args.key.now c.in-Some.last.now c.in-Some.rest.now (subst (IsOrdered g.K.Ord.cmp) c.in-Some.ensures.cases.0 c.requires)
    c.in-Greater.ensures)

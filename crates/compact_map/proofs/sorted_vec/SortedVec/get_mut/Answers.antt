use Rattle.std.proofs.Common.{arith, refl}
use Rattle.compact_map.proofs.Found.{in_range, value_there, writes, put_over_ordered, none_there, none_written}
use Rattle.compact_map.proofs.sorted_vec.SortedVec.get_mut.Goals as goal

pub index_mut-entry-requires : goal.index_mut-entry-requires
index_mut-entry-requires g c =
    let lt = in_range g.met.K.Ord.total c.args.key.now c.self.inside.entries.items c.in-Ok.at c.in-Ok.ensures.place in
    omega (arith, lt, c.self.inside.entries.ok.0)

pub invariant_of-self-lent : goal.invariant_of-self-lent
invariant_of-self-lent g c w =
    put_over_ordered g.met.K.Ord.total c.args.key.now c.self.inside.entries.items c.in-Ok.at c.in-Ok.ensures.place c.self.invariant
    c.index_mut-entry.result.now c.index_mut-entry.ensures.value w

pub returns-in-Ok : goal.returns-in-Ok
returns-in-Ok g c =
    let o = g.met.K.Ord.total in
    let k = c.args.key.now in
    let es = c.self.inside.entries.items in
    rw (← c.self.view_is) (
      (refl, (λ w. writes o k es c.in-Ok.at c.in-Ok.ensures.place c.self.invariant c.index_mut-entry.result.now c.index_mut-entry.ensures.value w), refl),
      record {
        writes_back = tt;
        value = value_there o k es c.in-Ok.at c.in-Ok.ensures.place c.index_mut-entry.result.now c.index_mut-entry.ensures.value;
        ordered = c.self.invariant;
      },
    )

pub returns-in-Err : goal.returns-in-Err
returns-in-Err g c =
    let o = g.met.K.Ord.total in
    let k = c.args.key.now in
    let es = c.self.inside.entries.items in
    rw (← c.self.view_is) (
      (refl, (λ w. none_written o k es c.self.invariant c.in-Err.field-0 c.in-Err.ensures.place w), refl),
      record {
        writes_back = tt;
        value = none_there o k es c.self.invariant c.in-Err.field-0 c.in-Err.ensures.place;
        ordered = c.self.invariant;
      },
    )

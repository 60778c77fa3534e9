use Rattle.std.proofs.Common.{◌≡◌, List, map, ap, sym, ◌∙◌}
use Rattle.std.specs.Hash as fed
use Rattle.std.specs.Hash.{fed_then, fed_along}
use Rattle.std.specs.Cmp.Derive.Mapped.{items_map}
use Rattle.cds_stamps.specs.declared.numbers.HouseNo.{HouseNo}
use Rattle.cell_names.specs.Houses.{Houses}
use Rattle.cell_names.proofs.houses.HouseListHash.hash.Goals as goal

-- the master is fed, and then the numbers of the others
pub returns : goal.returns
returns g c =
    let others = c.as_slice.result.now in
    let same : fed.slice (λ (h : HouseNo). fed.u8 h.0) others ≡ fed.slice fed.u8 c.args.self.now.others =
    sym (items_map (λ (h : HouseNo). h.0) fed.u8 others)
    ∙ ap (λ (hs : List HouseNo). fed.slice fed.u8 (map (λ (h : HouseNo). h.0) hs)) c.as_slice.ensures.value
    ∙ ap (λ (v : Houses). fed.slice fed.u8 v.others) c.self.view_is in
    let first = fed_along g.H.Hasher.write c.args.state.now c.hash.new.state (ap (λ (v : Houses). fed.u8 v.master) c.self.view_is) c.hash.ensures in
    fed_then g.H.Hasher.write c.args.state.now c.hash.new.state c.hash-2.new.state
    (fed.u8 c.args.self.now.master) (fed.slice fed.u8 c.args.self.now.others) first
    (fed_along g.H.Hasher.write c.hash.new.state c.hash-2.new.state same c.hash-2.ensures)

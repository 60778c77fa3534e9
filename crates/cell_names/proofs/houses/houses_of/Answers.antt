use Rattle.std.proofs.Common.{◌≡◌, ℕ, map, ◌∙◌, ap, rules}
use Rattle.std.proofs.lemmas.Iterator.{items_from_collect, YieldsList-from_slice, YieldsList-from_map}
use Rattle.std.proofs.lemmas.Result.{IfOk-weaker}
use Rattle.cds_stamps.specs.declared.numbers.HouseNo.{HouseNo}
use Rattle.cell_names.proofs.HouseLaws.{numbers_of_made}
use Rattle.cell_names.proofs.houses.houses_of.Goals as goal

pub returns : goal.returns
returns c =
    let numbers = YieldsList-from_slice c.args.numbers.now cc in
    let houses = YieldsList-from_map _ (λ (n : ℕ). record { 0 = n }) numbers c.map.ensures.closure (λ x r q k. search rules) in
    let made = items_from_collect _ c.collect.ensures.ran houses in
    IfOk-weaker c.collect.result
    (λ v. v.items ≡ map (λ (n : ℕ). record { 0 = n }) c.args.numbers.now)
    (λ v. map (λ (h : HouseNo). h.0) v.items ≡ c.args.numbers.now)
    (λ v e. ap (map (λ (h : HouseNo). h.0)) e ∙ numbers_of_made c.args.numbers.now) made

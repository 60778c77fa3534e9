use Rattle.std.proofs.Common.{◌≡◌, ◌≢◌, refl, arith, rules}
use Rattle.std.proofs.lemmas.Option.{slice_get_read}
use Rattle.std.proofs.lemmas.Grind.{common_steps}
use Rattle.house_logs.specs.declared.log.HouseLog.{HouseLog}
use Rattle.cds_explain.proofs.MakingLemmas.{first_more, first_of_all, twin_is}
use Rattle.cds_explain.proofs.houses.twin_of.Goals as goal

pub returns-then-eq-clause-twin : goal.returns-then-eq-clause-twin
returns-then-eq-clause-twin c =
    let logs = c.args.logs.now in
    let same : c.index-logs-at.result.house ≡ c.index-logs-place.result.house = first_of (search rules, grind (arith, common_steps)) in
    twin_is logs c.loop-at.at c.args.place c.index-logs-at.result c.index-logs-place.result _ c.loop-at-test.true
    (slice_get_read logs _ c.loop-at.at c.index-logs-at.result refl (omega arith) c.index-logs-at.is)
    (slice_get_read logs _ c.args.place c.index-logs-place.result refl (omega arith) c.index-logs-place.is) same

pub returns-then-eq-2-clause-twin : goal.returns-then-eq-2-clause-twin
returns-then-eq-2-clause-twin c =
    let logs = c.args.logs.now in
    let same : c.index-logs-at.result.node ≡ c.index-logs-place.result.node = first_of (search rules, grind (arith, common_steps)) in
    twin_is logs c.loop-at.at c.args.place c.index-logs-at.result c.index-logs-place.result _ c.loop-at-test.true
    (slice_get_read logs _ c.loop-at.at c.index-logs-at.result refl (omega arith) c.index-logs-at.is)
    (slice_get_read logs _ c.args.place c.index-logs-place.result refl (omega arith) c.index-logs-place.is) (refl, same)

pub loop-at-preserved : goal.loop-at-preserved
loop-at-preserved c =
    let logs = c.args.logs.now in
    let log = c.index-logs-place.result in
    let other = c.index-logs-at.result in
    let there = slice_get_read logs _ c.loop-at.at other refl (omega arith) c.index-logs-at.is in
    let house : other.house.0 ≢ log.house.0 = first_of (search rules, grind (arith, common_steps)) in
    let node : other.node ≢ log.node = first_of (search rules, grind (arith, common_steps)) in
    record {
      houses = first_more logs (λ (a : HouseLog). a.house.0 ≢ log.house.0) c.loop-at.at other there c.loop-at.invariant.houses house;
      nodes = first_more logs (λ (a : HouseLog). a.node ≢ log.node) c.loop-at.at other there c.loop-at.invariant.nodes node;
    }

pub returns-clause-house : goal.returns-clause-house
returns-clause-house c =
    let logs = c.args.logs.now in
    let log = c.index-logs-place.result in
    first_of_all logs (λ (a b : HouseLog). a.house.0 ≢ b.house.0) c.args.place c.loop-at.at log
    (slice_get_read logs _ c.args.place log refl (omega arith) c.index-logs-place.is) (omega arith) c.loop-at.invariant.houses

pub returns-clause-node : goal.returns-clause-node
returns-clause-node c =
    let logs = c.args.logs.now in
    let log = c.index-logs-place.result in
    first_of_all logs (λ (a b : HouseLog). a.node ≢ b.node) c.args.place c.loop-at.at log
    (slice_get_read logs _ c.args.place log refl (omega arith) c.index-logs-place.is) (omega arith) c.loop-at.invariant.nodes

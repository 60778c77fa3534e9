use Rattle.std.proofs.Common.{◌≡◌, ℕ, true, List, sym, subst}
use Rattle.std.specs.Prelude.{Some}
use Rattle.cell_names.specs.ChildPointers.{Pointer}
use Rattle.resolver.specs.PassWords.{first_walker}
use Rattle.resolver.specs.Readers.{Reader}
use Rattle.resolver.specs.Walks.{Ends}
use Rattle.cds_clerk.specs.declared.heard.Lack.{Lack}
use Rattle.cds_clerk.specs.Agreements.{Agrees, IsNeeded}
use Rattle.cds_clerk.specs.Heards.{IsUnheard, heard_root}
use Rattle.cds_clerk.specs.Readings.{least_reader}
use Rattle.cds_clerk.specs.Searches.{IsUnderWay}
use Rattle.cds_clerk.proofs.HeardLaws.{ended_shown, if_ended, if_wants, least_agrees}
use Rattle.cds_clerk.proofs.SearchLaws.{object_shown, way_ended, way_missed, way_starts}
use Rattle.cds_clerk.proofs.searching.search.Goals as goal
use Rattle.cds_clerk.proofs.searching.search.Goals.{in-Ended+in_ok-settle-in-Ended, in-Lacks+in_ok-miss-in-Lacks}

pub steps-init : goal.steps-init
steps-init c =
    way_starts c.args.heard.now c.args.interface.now c.args.first.now c.new-entries.result.items c.in_ok-names.names.items c.new-lacks.result.items
    c.new-entries.ensures.items c.in_ok-names.ensures c.new-lacks.ensures.items

pub settle-requires : goal.settle-requires
settle-requires c =
    let h = c.args.heard.now in
    let name = c.in-Some.name in
    let done = if_ended c.in_ok-end.field-0 c.in-Ended.end (λ e. (r : Reader) → Agrees r h → Ends r true name e) c.in-Ended.is c.in_ok-end.ensures.done in
    object_shown h c.in-Ended.end (ended_shown h true c.in-Ended.end (c.ends_are_seen.ensures (least_reader h) true name c.in-Ended.end (done (least_reader h) (least_agrees h))))

pub steps-preserved : goal.steps-preserved
steps-preserved c =
    let h = c.args.heard.now in
    let wanted = c.args.interface.now in
    let first = c.args.first.now in
    let name = c.in-Some.name in
    let entries = c.steps.entries.items in
    let names = c.pop.new.self.items in
    let lacks = c.steps.lacks.items in
    let way = subst (λ (ns : List (List (List ℕ))). IsUnderWay h wanted first entries ns lacks) c.in-Some.ensures.items c.steps.invariant in
    elim c.match-branch-3.branch [
      | in-Ended+in_ok-settle-in-Ended w ↦
          let walked = if_ended c.in_ok-end.field-0 w.in-Ended.end (λ e. (r : Reader) → Agrees r h → Ends r true name e) w.in-Ended.is c.in_ok-end.ensures.done in
          rw (w.entries-is, w.names-is, w.lacks-is)
          (way_ended h wanted first entries names name lacks way w.in-Ended.end w.settle.new.entries.items w.settle.new.names.items walked
          w.in_ok-settle-in-Ended.ensures)
      | in-Lacks+in_ok-miss-in-Lacks w ↦
          let q = w.in-Lacks.lack in
          let unheard = if_wants c.in_ok-end.field-0 q (IsUnheard h) w.in-Lacks.is c.in_ok-end.ensures.asks in
          let needs = if_wants c.in_ok-end.field-0 q (λ (p : Lack). (root : Pointer) → heard_root h.root ≡ Some (Some root)
          → IsNeeded h true (first_walker root name) p) w.in-Lacks.is c.in_ok-end.ensures.needs in
          rw (w.entries-is, w.names-is, w.lacks-is)
          (subst (λ (ls : List Lack). IsUnderWay h wanted first entries names ls) (sym w.in_ok-miss-in-Lacks.ensures)
          (way_missed h wanted first entries names name lacks way q unheard needs))
    ]

use Rattle.std.proofs.Common.{eqb, ◌∙◌, length, drop, rules, tests}
use Rattle.std.proofs.lemmas.List.{take_rest}
use Rattle.std.proofs.lemmas.Iterator.Splits.{YieldsList-from_slice_split}
use Rattle.std.proofs.lemmas.Iterator.Adapters.{YieldsList-from_skip}
use Rattle.std.proofs.lemmas.Iterator.Consumers.{YieldsList-at, YieldsList-turn, YieldsList-end}
use Rattle.cell_names.proofs.FullNameLaws.{spelling-components}
use Rattle.cell_names.proofs.Spellings.{component_simple}
use Rattle.cell_names.proofs.full_name.components_in.Goals as goal

pub known-requires : goal.known-requires
known-requires c =
    let octets = c.args.octets.now in
    let rest = c.split.ensures.rest ∙ take_rest octets 3 in
    let parts = YieldsList-from_slice_split _ (λ b. eqb b 47) (drop 3 octets) rest (cc) (cc) (λ x b q k. search (rules, tests)) in
    let behind = YieldsList-from_skip 1 (YieldsList-at c.skip-component-items.ensures.source parts) c.skip-component-items.ensures.count in
    let items = YieldsList-at c.into_iter-component-iterator.ensures.into_iter_gives behind in
    let yielded = c.loop-component.yielded in
    let turn = YieldsList-turn items yielded _ c.loop-component.yielded_by _ _ c.in-Some.component c.in-Some.is c.next.ensures.steps in
    component_simple octets c.requires (length yielded) c.in-Some.component.now turn.0 turn.1

pub returns-clause-value : goal.returns-clause-value
returns-clause-value c =
    let octets = c.args.octets.now in
    let rest = c.split.ensures.rest ∙ take_rest octets 3 in
    let parts = YieldsList-from_slice_split _ (λ b. eqb b 47) (drop 3 octets) rest (cc) (cc) (λ x b q k. search (rules, tests)) in
    let behind = YieldsList-from_skip 1 (YieldsList-at c.skip-component-items.ensures.source parts) c.skip-component-items.ensures.count in
    let items = YieldsList-at c.into_iter-component-iterator.ensures.into_iter_gives behind in
    let end = YieldsList-end items c.loop-component.yielded _ c.loop-component.yielded_by _ _ c.in-None.is c.next.ensures.steps in
    c.loop-component.invariant.2 ∙ end.0

pub returns-clause-lawful : goal.returns-clause-lawful
returns-clause-lawful c = (spelling-components c.args.octets.now c.requires).0

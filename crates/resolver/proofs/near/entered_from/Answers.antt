use Rattle.std.proofs.Common.{◌∙◌, ◌+◌, drop, sym, refl, Some}
use Rattle.cell_names.specs.ChildPointers.{pointer_in}
use Rattle.resolver.specs.Readers.{sight_of}
use Rattle.resolver.proofs.NearLaws.{children-nowhere, entered_on, entered_all}
use Rattle.resolver.proofs.near.entered_from.Goals as goal

pub loop-component-init : goal.loop-component-init
loop-component-init g c = refl

pub returns-in-None : goal.returns-in-None
returns-in-None g c =
    let tells = g.R.EntryReader.tells c.args.reader.now in
    let l = c.loop-component in
    sym (children-nowhere tells (drop (l.component-index + 1) c.args.components.now))
    ∙ entered_on tells c.args.components.now l.component-index c.component-item.result (pointer_in l.at) (sight_of c.in_ok-lookup.field-0) _ _
    c.loop-component-test.true c.component-item.is c.in_ok-lookup.ensures c.in-None.ensures l.invariant

pub loop-component-preserved : goal.loop-component-preserved
loop-component-preserved g c =
    let l = c.loop-component in
    entered_on (g.R.EntryReader.tells c.args.reader.now) c.args.components.now l.component-index c.component-item.result (pointer_in l.at)
    (sight_of c.in_ok-lookup.field-0) (Some (pointer_in c.in-Some.next)) _
    c.loop-component-test.true c.component-item.is c.in_ok-lookup.ensures c.in-Some.ensures l.invariant

pub returns : goal.returns
returns g c =
    let l = c.loop-component in
    entered_all (g.R.EntryReader.tells c.args.reader.now) c.args.components.now l.component-index (Some (pointer_in l.at)) _ c.loop-component-test.false l.invariant

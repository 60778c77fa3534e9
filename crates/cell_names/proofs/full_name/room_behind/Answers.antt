use Rattle.std.proofs.Common.{arith, subst, sym, ap, ◌∙◌}
use Rattle.std.proofs.lemmas.List.{take_all}
use Rattle.std.specs.List.{All}
use Rattle.cds_stamps.specs.Names.{simple_name_fault, IsSimpleName}
use Rattle.cell_names.proofs.Spellings.{spelled_more, simple_more}
use Rattle.cell_names.proofs.full_name.room_behind.Goals as goal

pub loop-component-preserved : goal.loop-component-preserved
loop-component-preserved c = record {
  left = grind (arith, spelled_more);
  simple =
      let name = ap simple_name_fault (sym c.octets.ensures.value) ∙ c.octets.ensures.lawful in
      let l = c.loop-component in
      let found = c.component-item in
      simple_more c.args.components.now l.component-index found.result c.loop-component-test.true found.is name l.invariant.simple;
}

pub returns-clause-simple : goal.returns-clause-simple
returns-clause-simple c =
    subst (All IsSimpleName) (take_all c.loop-component.component-index c.args.components.now (omega arith)) c.loop-component.invariant.simple

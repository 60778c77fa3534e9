use Rattle.std.proofs.Common.{◌∙◌, sym, ap}
use Rattle.std.specs.Option.{option_map}
use Rattle.cell_names.specs.ChildPointers.{pointer_in}
use Rattle.resolver.specs.Nears.{children}
use Rattle.resolver.proofs.NearLaws.{children-nowhere}
use Rattle.resolver.proofs.near.entered.Goals as goal

pub returns-in-None : goal.returns-in-None
returns-in-None g c =
    let tells = g.R.EntryReader.tells c.args.reader.now in
    sym (children-nowhere tells c.args.components.now)
    ∙ ap (children tells c.args.components.now) (ap (option_map pointer_in) (sym c.in-None.is) ∙ c.in_ok-root.ensures)

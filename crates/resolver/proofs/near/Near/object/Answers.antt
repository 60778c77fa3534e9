use Rattle.std.proofs.Common.{◌∙◌, sym, ap}
use Rattle.cell_names.specs.ChildPointers.{pointer_in}
use Rattle.resolver.specs.Readers.{sight_of}
use Rattle.resolver.proofs.NearLaws.{object_leads, object_lends, link_leads}
use Rattle.resolver.proofs.near.Near.object.Goals as goal

pub returns-in-Object-clause-walked : goal.returns-in-Object-clause-walked
returns-in-Object-clause-walked g c =
    let dir = c.args.self.now in
    object_leads (g.R.EntryReader.tells c.args.reader.now) dir.name c.args.octets.now c.in_ok-name.name (pointer_in dir.at) c.in-Object.house.0
    c.requires.entered c.in_ok-name.ensures (ap sight_of (sym c.in-Object.is) ∙ c.in_ok-seen.ensures.seen)

pub returns-in-Object-clause-lent : goal.returns-in-Object-clause-lent
returns-in-Object-clause-lent g c =
    object_lends (g.R.EntryReader.tells c.args.reader.now) (pointer_in c.args.self.now.at) c.in-Object.house.0 c.in_ok-name.name c.in_ok-seen.cells
    (ap sight_of (sym c.in-Object.is) ∙ c.in_ok-seen.ensures.seen) c.in_ok-seen.ensures.cells

pub returns-in-Link-clause-walked : goal.returns-in-Link-clause-walked
returns-in-Link-clause-walked g c =
    let dir = c.args.self.now in
    link_leads (g.R.EntryReader.tells c.args.reader.now) dir.name c.args.octets.now c.in_ok-name.name (pointer_in dir.at) c.in-Link.field-0.0
    c.in-Link.target c.components.result.now c.lent_object_at.result
    c.requires.entered c.in_ok-name.ensures (ap sight_of (sym c.in-Link.is) ∙ c.in_ok-seen.ensures.seen)
    c.components.ensures.value c.components.ensures.lawful c.lent_object_at.ensures.direct

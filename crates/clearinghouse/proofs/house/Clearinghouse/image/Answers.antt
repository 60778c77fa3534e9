use Rattle.std.proofs.Common.{◌++◌, ◌∙◌, sym, ap, arith}
use Rattle.std.specs.FinMap.{entries}
use Rattle.cds_records.specs.RecordOctets.{dir_octets, image_head, kept_octets}
use Rattle.record_fields.specs.FieldOctets.{items_octets}
use Rattle.cds_records.proofs.Mapped.{parts_fit, parts_written}
use Rattle.clearinghouse.specs.HouseImages.{kept_of, start_of_octets}
use Rattle.clearinghouse.proofs.Starting.{image_starts}
use Rattle.clearinghouse.proofs.house.Clearinghouse.image.Goals as goal

pub returns-clause-usable : goal.returns-clause-usable
returns-clause-usable c = sym c.in_ok-usable.ensures

pub returns-clause-octets : goal.returns-clause-octets
returns-clause-octets c =
    let s = c.args.self.now in
    parts_written kept_of s.dirs s.house s.node s.floor.time c.octets.result.items
    (c.octets.ensures ∙ c.in_ok-write_states.ensures.octets
    ∙ ap (λ h. h ++ items_octets dir_octets (λ x. kept_octets (kept_of x)) (entries s.dirs))
    (c.in_ok-image.ensures.octets ∙ ap (image_head s.house.0 s.node s.floor.time) c.len-count.ensures))

pub returns-clause-fits : goal.returns-clause-fits
returns-clause-fits c =
    let s = c.args.self.now in
    parts_fit kept_of s.dirs s.house s.node s.floor.time c.in_ok-image.ensures.node c.in_ok-image.ensures.floor (omega (arith, c.len-count.ensures))
    c.in_ok-write_states.ensures.fits

pub returns-clause-starts : goal.returns-clause-starts
returns-clause-starts c = λ lawful. ap start_of_octets (returns-clause-octets c) ∙ image_starts c.args.self.now lawful (returns-clause-fits c)

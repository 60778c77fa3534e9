use Rattle.std.proofs.Common.{◌++◌, ◌∙◌, ap, sym, subst, arith}
use Rattle.record_fields.specs.Decoding.{IsWhole}
use Rattle.cds_records.specs.Images.{image}
use Rattle.cds_records.specs.RecordOctets.{dir_octets, kept_octets, image_head, image_octets}
use Rattle.record_fields.specs.FieldOctets.{each_octets}
use Rattle.cds_records.proofs.WholeImages.{the_image_whole}
use Rattle.cds_records.proofs.image_encoding.encode_image.Goals as goal

pub returns-clause-octets : goal.returns-clause-octets
unfolding image_octets
returns-clause-octets c =
    let i = c.args.image.now in
    c.in_ok-put_dirs.ensures.octets
    ∙ ap (λ o. o ++ each_octets dir_octets kept_octets i.dirs)
    (c.in_ok-out.ensures.octets ∙ ap (image_head i.house.0 i.node i.floor) c.len-count.ensures)

pub returns-clause-whole : goal.returns-clause-whole
returns-clause-whole c =
    λ valid. subst (λ o. IsWhole image c.args.image.now o) (sym (returns-clause-octets c))
    (the_image_whole c.args.image.now valid (record {
      node = c.in_ok-out.ensures.node;
      floor = c.in_ok-out.ensures.floor;
      dirs = record { count = omega (arith, c.len-count.ensures); each = c.in_ok-put_dirs.ensures.fits };
    }))

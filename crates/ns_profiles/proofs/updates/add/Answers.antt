use Rattle.std.proofs.Common.{subst}
use Rattle.std.specs.Option.{option_copied}
use Rattle.std.proofs.lemmas.List.Sums.{AllPass-from_list_all}
use Rattle.tower_codec.specs.Rpc.{IsInterface}
use Rattle.ns_profiles.specs.Elements.{is_annotation_octet}
use Rattle.ns_profiles.proofs.Additions.{added_read}
use Rattle.ns_profiles.proofs.updates.add.Goals as goal

pub returns-in_ok-additions-in-Ok-clause-readable : goal.returns-in_ok-additions-in-Ok-clause-readable
returns-in_ok-additions-in-Ok-clause-readable c =
    added_read (option_copied c.args.interface) c.args.member.now c.args.priority c.args.annotation.now c.in-Ok.ensures.found
    (subst IsInterface c.interface_or_none-written.ensures c.in_ok-octets-in-Ok.ensures.fits) c.in-Ok.ensures.named
    (AllPass-from_list_all is_annotation_octet c.args.annotation.now c.requires)

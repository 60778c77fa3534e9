use Rattle.std.proofs.Common.{ℕ, List, ap, ◌∙◌}
use Rattle.cds_stamps.specs.Octets.{is_octets}
use Rattle.cell_names.specs.FullNames.{full_name_octets}
use Rattle.ns_profiles.proofs.MemberTests.{member_test}
use Rattle.ns_profiles.proofs.element.is_member.Goals as goal

pub returns : goal.returns
returns c =
    c.is_spelled.ensures.value ∙ ap (λ (octets : List ℕ). is_octets (full_name_octets c.args.member.now) octets) c.member_of.ensures.value
    ∙ member_test c.args.octets.now c.args.member.now c.requires c.is_spelled.ensures.lawful

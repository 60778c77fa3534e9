use Rattle.std.proofs.Common.{◌≡◌, ◌∙◌, ap, sym}
use Rattle.std.specs.Option.{option_and_then}
use Rattle.cell_names.proofs.FullNameLaws.{is_name-Decides}
use Rattle.resolver.specs.PassWords.{last_octet, last_of_octets}
use Rattle.resolver.proofs.LinkLaws.{octets_alike}
use Rattle.resolver.proofs.walk.may_be.Goals as goal

pub returns-then-own-count : goal.returns-then-own-count
returns-then-own-count c = λ other same counted ends.
    let is : c.args.name.now ≡ other = (is_name-Decides c.args.name.now other).0 same in
    let own = c.octet_at_end.ensures ∙ ap (option_and_then last_of_octets) c.last.ensures.value in
    c.eq.ensures ∙ octets_alike _ _ (own ∙ ap last_octet (c.components-own.ensures.value ∙ is) ∙ sym ends)

use Rattle.std.proofs.Common.{List, ℕ, get_or, sym, subst}
use Rattle.std.proofs.lemmas.List.{take_rest}
use Rattle.cell_names.specs.Houses.{IsHouses}
use Rattle.cell_names.proofs.PointerLaws.{houses_read}
use Rattle.cell_names.proofs.pointer.ChildPointer.known.Goals as goal

pub of_numbers-requires : goal.of_numbers-requires
of_numbers-requires c =
    let octets = c.args.octets.now in
    subst (λ (others : List ℕ). IsHouses (record { master = get_or octets 5 0; others = others })) (sym (take_rest octets 6))
    (houses_read octets c.in-len6-up.len_at_least c.requires)

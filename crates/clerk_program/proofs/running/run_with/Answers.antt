use Rattle.std.proofs.Common.{List, get_or, subst}
use Rattle.std.proofs.lemmas.List.{take_rest}
use Rattle.cds_stamps.specs.declared.numbers.HouseNo.{HouseNo}
use Rattle.clerk_program.specs.ClerkRuns.{IsNew}
use Rattle.clerk_program.proofs.Runs.{houses_end}
use Rattle.clerk_program.proofs.running.run_with.Goals as goal

pub returns-in-Ok : goal.returns-in-Ok
returns-in-Ok g c =
    let houses = c.args.houses.now in
    houses_end _ _ houses c.in-len1-up.len_at_least _ _ _ c.in-Ok.clerk
    (subst (λ (rest : List HouseNo). IsNew (get_or houses 0 (record { 0 = 0 })) rest c.in-Ok.clerk) (take_rest houses 1) c.in-Ok.ensures) c.serve.ensures

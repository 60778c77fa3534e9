use Rattle.std.proofs.Common.{arith, refl, subst}
use Rattle.std.specs.Prelude.{Ok, Err}
use Rattle.cds_stamps.specs.declared.alloc_or.AllocOr.TheVariants.{Fault}
use Rattle.record_fields.specs.Decoding.{Decodes}
use Rattle.cds_records.specs.Records as records
use Rattle.cds_cell.proofs.ActSteps.{letter_comes, letter_down, letter_sound, letter_unmade}
use Rattle.cds_cell.proofs.Houses.{place_within}
use Rattle.cds_cell.proofs.cell.Cell.delivery.Goals as goal

pub returns-in_default-position-clause-comes : goal.returns-in_default-position-clause-comes
returns-in_default-position-clause-comes c g s =
    letter_unmade c.args.self.now g c.args.serial c.in-Some.letter.now s c.in-Some.ensures c.in_default-position.ensures

pub index-requires : goal.index-requires
index-requires c =
    let less = place_within c.args.self.now.houses.items c.in-Some.letter.now.to.0 c.in-Some-position.at c.in-Some-position.ensures in
    let long = c.args.self.now.houses.ok.0 in
    omega (arith, less, long)

pub returns-in-Down-clause-comes : goal.returns-in-Down-clause-comes
returns-in-Down-clause-comes c g s =
    letter_down c.args.self.now g c.args.serial c.in-Some.letter.now s c.in-Some.ensures c.in-Some-position.at c.index.result.now c.in-Some-position.ensures
    c.index.ensures c.in-Down.field-0 c.in-Down.is

pub returns-in-Ok-clause-place : goal.returns-in-Ok-clause-place
returns-in-Ok-clause-place c =
    place_within c.args.self.now.houses.items c.in-Some.letter.now.to.0 c.in-Some-position.at c.in-Some-position.ensures

pub returns-in-Ok-clause-comes : goal.returns-in-Ok-clause-comes
returns-in-Ok-clause-comes c g s =
    letter_comes c.args.self.now g c.args.serial c.in-Some.letter.now s c.in-Some.ensures c.in-Some-position.at c.index.result.now c.in-Some-position.ensures
    c.index.ensures c.in_default-state.field-0 (Ok (c.in-Ok.message, c.in-Ok.field-0-1)) (c.in-Ok.message, c.in-Ok.field-0-1) c.in_default-state.is
    (subst (λ o. Decodes records.message o (Ok (c.in-Ok.message, c.in-Ok.field-0-1))) c.octets.ensures c.in-Ok.ensures.decodes) refl

pub returns-in-Err-Fault-clause-comes : goal.returns-in-Err-Fault-clause-comes
returns-in-Err-Fault-clause-comes c g s =
    absurd (letter_sound c.args.self.now g c.args.serial c.in-Some.letter.now s c.in-Some.ensures (Err (Fault c.in-Err-Fault.field-0-0))
    c.in-Err-Fault.field-0-0 (subst (λ o. Decodes records.message o (Err (Fault c.in-Err-Fault.field-0-0))) c.octets.ensures
    (subst (λ f. Decodes records.message c.octets.result.now (Err f)) c.in-Err-Fault.field-0-is c.in-Err-Fault.ensures.decodes)) refl)

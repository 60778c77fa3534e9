use Rattle.std.proofs.Common.{◌⊎◌, inl, inr, refl, List, ℕ}
use Rattle.cds_stamps.specs.declared.names.NameFault.TheVariants.{Empty, BadOctet, ComponentTooLong}
use Rattle.cds_stamps.specs.Fronts.{IsFirstBad, EndsEarly}
use Rattle.cell_names.specs.FullNames.{IsNameOfAnyLength}
use Rattle.cell_names.proofs.NameFaults.{IsAtFirst, name_fault-first}
use Rattle.cell_names.proofs.laws.faults_of_full_names_are_at_the_first_place.Goals as goal

first_or_end : (octets : List ℕ) (place : ℕ) → IsAtFirst octets (Empty place) place
    → IsFirstBad IsNameOfAnyLength octets place ⊎ EndsEarly IsNameOfAnyLength octets place
first_or_end octets place (inl first) = inl first
first_or_end octets place (inr end) = inr end.0

pub returns-clause-empty : goal.returns-clause-empty
returns-clause-empty c = λ octets place e. first_or_end octets place (name_fault-first octets (Empty place) place e (inl refl))

first_octet : (octets : List ℕ) (place : ℕ) → IsAtFirst octets (BadOctet place) place → IsFirstBad IsNameOfAnyLength octets place
first_octet octets place (inl first) = first
first_octet octets place (inr end) = absurd (cc (end.1))

pub returns-clause-octet : goal.returns-clause-octet
returns-clause-octet c = λ octets place e. first_octet octets place (name_fault-first octets (BadOctet place) place e (inr (inl refl)))

first_long : (octets : List ℕ) (place : ℕ) → IsAtFirst octets (ComponentTooLong place) place → IsFirstBad IsNameOfAnyLength octets place
first_long octets place (inl first) = first
first_long octets place (inr end) = absurd (cc (end.1))

pub returns-clause-too_long : goal.returns-clause-too_long
returns-clause-too_long c = λ octets place e. first_long octets place (name_fault-first octets (ComponentTooLong place) place e (inr (inr refl)))

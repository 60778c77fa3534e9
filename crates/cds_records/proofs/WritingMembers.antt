-- The members of a list written in a loop.
use Rattle.std.proofs.Common.{◌≡◌, ℕ, List, [], ◌∷◌, ◌++◌, refl, sym, ap, subst, ◌∙◌, append_assoc, append-nil}
use Rattle.std.specs.Prelude.{◌<◌, ◌^◌}
use Rattle.std.specs.List.{AllByRecursion, flat_map}
use Rattle.cds_stamps.specs.declared.members.Member.{Member}
use Rattle.cds_records.specs.RecordOctets.{member_octets}

-- of these members all but the rest are written, each of which fits
pub record ListWritten (all rest : List Member) (old out : List ℕ) : Type 0 where
  pub octets : out ++ flat_map member_octets rest ≡ old ++ flat_map member_octets all
  pub fits : AllByRecursion (λ m. m.since.0 < 2 ^ 64) rest → AllByRecursion (λ (m : Member). m.since.0 < 2 ^ 64) all

-- before the first member nothing is written
pub list_begins : (all : List Member) (old : List ℕ) → ListWritten all all old old
list_begins all old = record { octets = refl; fits = λ h. h }

-- a member that was written brings the loop one further
pub list_goes_on : (all es rest : List Member) (m : Member) (old out new : List ℕ) → es ≡ m ∷ rest → ListWritten all es old out
    → new ≡ out ++ member_octets m → m.since.0 < 2 ^ 64 → ListWritten all rest old new
list_goes_on all es rest m old out new first so_far behind fits =
    let h : ListWritten all (m ∷ rest) old out = subst (λ r. ListWritten all r old out) first so_far in record {
      octets =
          ap (λ (z : List ℕ). z ++ flat_map member_octets rest) behind ∙ append_assoc out (member_octets m) (flat_map member_octets rest) ∙ h.octets;
      fits = λ more. h.fits (fits, more);
    }

-- after the last member all are written
pub list_ends : (all rest : List Member) (old out : List ℕ) → rest ≡ [] → ListWritten all rest old out
    → (out ≡ old ++ flat_map member_octets all) × AllByRecursion (λ m. m.since.0 < 2 ^ 64) all
list_ends all rest old out none so_far =
    let h : ListWritten all [] old out = subst (λ r. ListWritten all r old out) none so_far in
    (sym (append-nil out) ∙ h.octets, h.fits tt)

-- Examples of versions and of batches.
use Rattle.std.proofs.Common.{◌≡◌, ℕ, Bool, true, false, List, [], ◌∷◌, refl}
use Rattle.std.specs.Prelude.{Some, None}
use Rattle.uuid.specs.Parts.{zero_bytes}
use Rattle.tower_codec.specs.declared.rpc.Interface.{Interface}
use Rattle.ns_inquire.specs.declared.version.Version.{Version}
use Rattle.ns_inquire.specs.declared.version.Version.TheVariants.{All, Compatible, Exact, MajorOnly, Upto}
use Rattle.ns_inquire.specs.Batches.{batches, first_batch}
use Rattle.ns_inquire.specs.Inquiries.{by_version}

-- an interface in a version
abbrev of : (major minor : ℕ) → Interface
of major minor = record { uuid = zero_bytes; major = major; minor = minor }

-- 2.1 is asked for: which of 1.3, 2.0, 2.1, 2.2 and 3.0 are meant
abbrev meant : Version → List Bool
meant v =
    by_version v (of 2 1) (of 1 3) ∷ by_version v (of 2 1) (of 2 0) ∷ by_version v (of 2 1) (of 2 1) ∷ by_version v (of 2 1) (of 2 2)
    ∷ by_version v (of 2 1) (of 3 0) ∷ []

any_version : meant All ≡ true ∷ true ∷ true ∷ true ∷ true ∷ []
any_version = refl

compatible_version : meant Compatible ≡ false ∷ false ∷ true ∷ true ∷ false ∷ []
compatible_version = refl

exact_version : meant Exact ≡ false ∷ false ∷ true ∷ false ∷ false ∷ []
exact_version = refl

same_major : meant MajorOnly ≡ false ∷ true ∷ true ∷ true ∷ false ∷ []
same_major = refl

upto_version : meant Upto ≡ true ∷ true ∷ true ∷ false ∷ false ∷ []
upto_version = refl

none_at_all : batches {A = ℕ} 2 [] ≡ []
none_at_all = refl

one_short : batches {A = ℕ} 2 (7 ∷ 8 ∷ 9 ∷ []) ≡ (7 ∷ 8 ∷ []) ∷ (9 ∷ []) ∷ []
one_short = refl

none_short : batches {A = ℕ} 2 (7 ∷ 8 ∷ []) ≡ (7 ∷ 8 ∷ []) ∷ []
none_short = refl

one_each : batches {A = ℕ} 1 (7 ∷ 8 ∷ []) ≡ (7 ∷ []) ∷ (8 ∷ []) ∷ []
one_each = refl

all_at_once : batches {A = ℕ} 9 (7 ∷ 8 ∷ []) ≡ (7 ∷ 8 ∷ []) ∷ []
all_at_once = refl

next_is_first : first_batch {A = ℕ} 2 (7 ∷ 8 ∷ 9 ∷ []) ≡ Some (7 ∷ 8 ∷ [])
next_is_first = refl

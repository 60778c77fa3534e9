-- Octets that were read as a name are one.
use Rattle.std.proofs.Common.{◌≡◌, ℕ, ◌≤◌, Bool, true, List, [], ◌∷◌, length, arith}
use Rattle.std.specs.Prelude.{IsTrue, None}
use Rattle.std.specs.List.{list_all, AllByRecursion}
use Rattle.std.proofs.lemmas.List.Elements.{All-from_recursion}
use Rattle.cds_stamps.specs.Names.{is_name_octet, is_attr_octet, longest_component, longest_attr, simple_name_fault, attr_fault}
use Rattle.cds_stamps.proofs.NameLaws.{simple_name_laws, attr_name_laws}

each_passes : (p : ℕ → Bool) (o : List ℕ) → list_all p o ≡ true → AllByRecursion (λ b. IsTrue (p b)) o
each_passes p [] e = tt
each_passes p (b ∷ bs) e = (grind (arith, e), each_passes p bs (grind (arith, e)))

-- octets of names in a fit number are a simple name
pub lawful_simple_name : (o : List ℕ) → list_all is_name_octet o ≡ true → 1 ≤ length o → length o ≤ longest_component → simple_name_fault o ≡ None
lawful_simple_name o e some few = (simple_name_laws o).1 (record { filled = some; short = few; each = All-from_recursion _ o (each_passes is_name_octet o e) })

-- octets of attribute names in a fit number are one
pub lawful_attr_name : (o : List ℕ) → list_all is_attr_octet o ≡ true → 1 ≤ length o → length o ≤ longest_attr → attr_fault o ≡ None
lawful_attr_name o e some few = (attr_name_laws o).1 (record { filled = some; short = few; each = All-from_recursion _ o (each_passes is_attr_octet o e) })

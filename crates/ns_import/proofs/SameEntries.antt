-- Entries are the same by the test exactly where they are equal.
use Rattle.std.proofs.Common.{◌≡◌, ◌∙◌, ℕ, Bool, true, false, List, refl, sym, ap, arith}
use Rattle.std.specs.Prelude.{◌&&◌, ◌==◌, nat_eq}
use Rattle.std.specs.Cmp.Lexicographic.{pointwise}
use Rattle.std.specs.List.{list_any}
use Rattle.std.proofs.lemmas.Bool.Decides.{nat_tests}
use Rattle.std.proofs.lemmas.Slice.Eq.{bytes_eq-Decides}
use Rattle.cds_stamps.specs.Firsts.{has}
use Rattle.directory.specs.declared.entry.Kind.{Kind}
use Rattle.directory.specs.declared.entry.Kind.TheVariants.{Object, Link, Child}
use Rattle.directory.specs.Kinds.{rank, kind_of_rank, rank_back}
use Rattle.resolver.specs.declared.seen.Found.{Found}
use Rattle.resolver.specs.contracts.seen.FoundPartialEq.TheImpl.{eq-value}
use Rattle.ns_import.specs.Imports.{same_entry}

both_true : (a b : Bool) → (a && b) ≡ true → (a ≡ true) × (b ≡ true)
both_true true b e = (refl, e)
both_true false b e = absurd cc

true_both : (a b : Bool) → a ≡ true → b ≡ true → (a && b) ≡ true
true_both true b e f = f
true_both false b e f = absurd cc

same_number : (m n : ℕ) → (m == n) ≡ true → m ≡ n
same_number m n e = grind (arith, nat_tests, e)

number_same : (n : ℕ) → (n == n) ≡ true
number_same n = grind (arith, nat_tests)

-- each entry is the same as itself
pub same_entry-itself : (e : Found) → same_entry e e ≡ true
same_entry-itself e =
    true_both (e.dir.0 == e.dir.0) (e.house.0 == e.house.0 && (pointwise nat_eq e.name e.name && rank e.kind == rank e.kind)) (number_same e.dir.0)
    (true_both (e.house.0 == e.house.0) (pointwise nat_eq e.name e.name && rank e.kind == rank e.kind) (number_same e.house.0)
    (true_both (pointwise nat_eq e.name e.name) (rank e.kind == rank e.kind) ((bytes_eq-Decides e.name e.name).1 refl) (number_same (rank e.kind))))

-- entries that are the same are equal
pub same_entry-exact : (e f : Found) → same_entry e f ≡ true → e ≡ f
same_entry-exact e f h =
    let dirs = both_true (e.dir.0 == f.dir.0) (e.house.0 == f.house.0 && (pointwise nat_eq e.name f.name && rank e.kind == rank f.kind)) h in
    let houses = both_true (e.house.0 == f.house.0) (pointwise nat_eq e.name f.name && rank e.kind == rank f.kind) dirs.1 in
    let names = both_true (pointwise nat_eq e.name f.name) (rank e.kind == rank f.kind) houses.1 in
    equal (same_number e.dir.0 f.dir.0 dirs.0) (same_number e.house.0 f.house.0 houses.0) ((bytes_eq-Decides e.name f.name).0 names.0)
    (sym (rank_back e.kind) ∙ ap kind_of_rank (same_number (rank e.kind) (rank f.kind) names.1) ∙ rank_back f.kind)
  where
    equal : e.dir.0 ≡ f.dir.0 → e.house.0 ≡ f.house.0 → e.name ≡ f.name → e.kind ≡ f.kind → e ≡ f
    equal d x n k = λ i. record { dir = record { 0 = d i }; house = record { 0 = x i }; name = n i; kind = k i }

-- what `==` computes of entries is the test
derived-same : (e f : Found) → eq-value.it e f ≡ same_entry e f
derived-same e f = by_kinds e.kind f.kind
  where
    by_kinds : (k l : Kind) → eq-value.it (record e { kind = k }) (record f { kind = l }) ≡ same_entry (record e { kind = k }) (record f { kind = l })
    by_kinds Object Object = refl
    by_kinds Object Link = refl
    by_kinds Object Child = refl
    by_kinds Link Object = refl
    by_kinds Link Link = refl
    by_kinds Link Child = refl
    by_kinds Child Object = refl
    by_kinds Child Link = refl
    by_kinds Child Child = refl

-- so an entry is among others by the one exactly where it is by the other
pub has-derived : (e : Found) (others : List Found) → list_any (eq-value.it e) others ≡ has same_entry e others
has-derived e others = λ i. list_any (λ f. derived-same e f i) others

-- what a look-up by `==` answers, the test answers
pub has_by : (e : Found) (others : List Found) (b : Bool) → b ≡ list_any (eq-value.it e) others → has same_entry e others ≡ b
has_by e others b is = sym (is ∙ has-derived e others)

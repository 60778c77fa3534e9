-- Names sought among entries by their octets.
use Rattle.std.proofs.Common.{◌≡◌, ℕ, Bool, true, false, cond, List, ◌∷◌, Option, Some, sym, ap, ◌∙◌, nat_eq}
use Rattle.std.specs.BTreeMap.{is_at}
use Rattle.std.specs.Map.{lookup}
use Rattle.std.specs.Cmp.{eq_by_cmp_equiv}
use Rattle.std.specs.Cmp.Lexicographic.{pointwise, texts_ties, nat_list_cmp_total}
use Rattle.std.specs.Prelude.{◌||◌}
use Rattle.cds_stamps.specs.Octets.{octets_cmp, is_octets}
use Rattle.directory.specs.Kinds.{link_target, replicas}
use Rattle.directory.specs.Shown.{is_reserved}

-- what a test of octets says of names
pub tested_octets : (name octets q : List ℕ) (b t : Bool) → name ≡ octets → b ≡ pointwise nat_eq octets q → b ≡ t → is_octets q name ≡ t
tested_octets name octets q b t same test is =
    (eq_by_cmp_equiv nat_list_cmp_total).symm q name ∙ sym (texts_ties name q) ∙ ap (λ n. pointwise nat_eq n q) same ∙ sym test ∙ is

-- what tests against the two names say, of which the first failed
pub reserved_by_second : (a o p : List ℕ) (s t : Bool) → o ≡ a → p ≡ a → s ≡ pointwise nat_eq o link_target → s ≡ false
    → t ≡ pointwise nat_eq p replicas → t ≡ is_reserved a
reserved_by_second a o p s t same also first failed second =
    let apart : is_octets a link_target ≡ false = sym (texts_ties a link_target) ∙ ap (λ o. pointwise nat_eq o link_target) (sym same) ∙ sym first ∙ failed in
    second ∙ ap (λ p. pointwise nat_eq p replicas) also ∙ texts_ties a replicas ∙ sym (ap (λ b. b || is_octets a replicas) apart)

module _ {X : Type 0} (q : List ℕ) (k : List ℕ) (x : X) (es rest : List (List ℕ × X)) (goal : Option X) where
  -- a key that is another is passed by
  pub passed_by : es ≡ (k, x) ∷ rest → is_octets q k ≡ false → lookup (is_at (octets_cmp q)) es ≡ goal → lookup (is_at (octets_cmp q)) rest ≡ goal
  passed_by first apart is = sym (ap (λ b. cond b (Some x) (lookup (is_at (octets_cmp q)) rest)) apart) ∙ sym (ap (lookup (is_at (octets_cmp q))) first) ∙ is

  -- the key itself is found
  pub found_first : es ≡ (k, x) ∷ rest → is_octets q k ≡ true → lookup (is_at (octets_cmp q)) es ≡ goal → Some x ≡ goal
  found_first first same is = sym (ap (λ b. cond b (Some x) (lookup (is_at (octets_cmp q)) rest)) same) ∙ sym (ap (lookup (is_at (octets_cmp q))) first) ∙ is

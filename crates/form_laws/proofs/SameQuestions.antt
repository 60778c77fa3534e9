-- Questions that the test takes for the same are one.
use Rattle.std.proofs.Common.{◌≡◌, ℕ, Bool, true, false, List, refl, ap, ◌∙◌}
use Rattle.std.specs.Prelude.{◌&&◌, ◌==◌, nat_eq, Option, Some, None}
use Rattle.std.specs.Cmp.Lexicographic.{pointwise}
use Rattle.std.specs.Option.{option_eq}
use Rattle.std.proofs.lemmas.Bool.Decides.{Decides-eqb}
use Rattle.std.proofs.lemmas.Slice.Eq.{bytes_eq-Decides}
use Rattle.cell_names.specs.Houses.{Houses, is_houses}
use Rattle.cell_names.specs.declared.pointer.ChildPointer.{ChildPointer}
use Rattle.cell_names.proofs.HouseLaws.{is_houses-Decides}
use Rattle.clerk_cache.specs.Clerks.{is_pointer, is_query}
use Rattle.clerk_cache.specs.declared.query.Query.{Query}

both : (x y : Bool) → (x && y) ≡ true → (x ≡ true) × (y ≡ true)
both true y e = (refl, e)
both false y e = cc

same_pointer : (p q : ChildPointer) → is_pointer p q ≡ true → p ≡ q
same_pointer p q e =
    let tests = both (p.dir.0 == q.dir.0) (is_houses p.houses q.houses) e in
    let dir : p.dir.0 ≡ q.dir.0 = (Decides-eqb p.dir.0 q.dir.0).0 tests.0 in
    let houses : p.houses ≡ q.houses = (is_houses-Decides p.houses q.houses).0 tests.1 in
    ap (λ (d : ℕ). record { dir = record { 0 = d }; houses = p.houses }) dir
    ∙ ap (λ (h : Houses). record { dir = q.dir; houses = h }) houses

same_attr : (a b : Option (List ℕ)) → option_eq (pointwise nat_eq) a b ≡ true → a ≡ b
same_attr None None e = refl
same_attr None (Some y) e = cc
same_attr (Some x) None e = cc
same_attr (Some x) (Some y) e = ap (λ (z : List ℕ). Some z) ((bytes_eq-Decides x y).0 e)

-- the same questions are one
pub same_query : (q r : Query) → is_query q r ≡ true → q ≡ r
same_query q r e =
    let outer = both (q.prefer.0 == r.prefer.0)
    (is_pointer q.at r.at && (pointwise nat_eq q.name r.name && option_eq (pointwise nat_eq) q.attr r.attr)) e in
    let inner = both (is_pointer q.at r.at) (pointwise nat_eq q.name r.name && option_eq (pointwise nat_eq) q.attr r.attr) outer.1 in
    let last = both (pointwise nat_eq q.name r.name) (option_eq (pointwise nat_eq) q.attr r.attr) inner.1 in
    let prefer : q.prefer.0 ≡ r.prefer.0 = (Decides-eqb q.prefer.0 r.prefer.0).0 outer.0 in
    let at : q.at ≡ r.at = same_pointer q.at r.at inner.0 in
    let name : q.name ≡ r.name = (bytes_eq-Decides q.name r.name).0 last.0 in
    let attr : q.attr ≡ r.attr = same_attr q.attr r.attr last.1 in
    ap (λ (h : ℕ). record { prefer = record { 0 = h }; at = q.at; name = q.name; attr = q.attr }) prefer
    ∙ ap (λ (p : ChildPointer). record { prefer = r.prefer; at = p; name = q.name; attr = q.attr }) at
    ∙ ap (λ (n : List ℕ). record { prefer = r.prefer; at = r.at; name = n; attr = q.attr }) name
    ∙ ap (λ (a : Option (List ℕ)). record { prefer = r.prefer; at = r.at; name = r.name; attr = a }) attr

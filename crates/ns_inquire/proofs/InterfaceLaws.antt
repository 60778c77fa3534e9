-- Interfaces, each at its first tower.
use Rattle.std.proofs.Common.{◌≡◌, ◌∙◌, Bor, ℕ, ◌+◌, ◌<◌, Bool, true, false, List, [], ◌∷◌, ◌++◌, length, get_or, drop, map, refl, sym, ap, append_assoc, append-nil}
use Rattle.std.specs.Prelude.{◌&&◌, ◌==◌, Option, Some, None, if◌then◌else◌}
use Rattle.std.specs.List.{filter_map, cons_option, list_any}
use Rattle.std.specs.Option.{option_map_or}
use Rattle.std.specs.Str.{bytes_eq}
use Rattle.std.proofs.lemmas.List.{drop_more}
use Rattle.cds_stamps.specs.Firsts.{firsts, if_new}
use Rattle.tower_codec.specs.declared.rpc.Interface.{Interface}
use Rattle.tower_codec.specs.contracts.rpc.InterfacePartialEq.TheImpl.{eq-value}
use Rattle.tower_codec.specs.Serving.{same_interface}
use Rattle.ns_inquire.specs.Inquiries.{interface_in}

all_three : (x y z : Bool) → (x && (y && z)) ≡ (x && y && z)
all_three true y z = refl
all_three false y z = refl

-- what `==` computes of interfaces is the test
derived-same : (a b : Interface) → eq-value.it a b ≡ same_interface a b
derived-same a b = all_three (bytes_eq a.uuid b.uuid) (a.major == b.major) (a.minor == b.minor)

-- an interface that is inserted is after the others, if it isn't among them
pub inserted : (keys : List Interface) (x : Interface)
    → (if list_any (eq-value.it x) keys then keys else keys ++ x ∷ []) ≡ keys ++ if_new same_interface keys x
inserted keys x = (λ i. if list_any (λ y. derived-same x y i) keys then keys else keys ++ x ∷ []) ∙ by_test (list_any (same_interface x) keys)
  where
    by_test : (b : Bool) → (if b then keys else keys ++ x ∷ []) ≡ keys ++ (if b then [] else x ∷ [])
    by_test true = sym (append-nil keys)
    by_test false = refl

-- one more that there may be
one_more : (keys : List Interface) (o : Option Interface) (rest : List Interface)
    → let new = option_map_or (if_new same_interface keys) o [] in
    (keys ++ new) ++ firsts same_interface (keys ++ new) rest ≡ keys ++ firsts same_interface keys (cons_option o rest)
one_more keys None rest = λ i. append-nil keys i ++ firsts same_interface (append-nil keys i) rest
one_more keys (Some x) rest =
    append_assoc keys (if_new same_interface keys x) (firsts same_interface (keys ++ if_new same_interface keys x) rest)

-- the interface of one more value
pub one_more_value : (keys : List Interface) (values : List (Bor (List ℕ))) (i : ℕ) (v : Bor (List ℕ)) → i < length values → v ≡ get_or values i v
    → let new = option_map_or (if_new same_interface keys) (interface_in v.now) [] in
    (keys ++ new) ++ firsts same_interface (keys ++ new) (filter_map interface_in (map (λ w. w.now) (drop (i + 1) values)))
    ≡ keys ++ firsts same_interface keys (filter_map interface_in (map (λ w. w.now) (drop i values)))
one_more_value keys values i v within is =
    let left : drop i values ≡ v ∷ drop (i + 1) values =
    drop_more values i v within ∙ ap (λ (w : Bor (List ℕ)). w ∷ drop (i + 1) values) (sym is) in
    one_more keys (interface_in v.now) (filter_map interface_in (map (λ w. w.now) (drop (i + 1) values)))
    ∙ ap (λ (vs : List (Bor (List ℕ))). keys ++ firsts same_interface keys (filter_map interface_in (map (λ w. w.now) vs))) (sym left)

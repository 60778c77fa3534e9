-- Member lists of the program and of the model.
use Rattle.std.proofs.Common.{◌≡◌, ℕ, Bool, true, false, cond, List, [], ◌∷◌, refl, ap}
use Rattle.std.specs.Prelude.{◌&&◌, ◌||◌, ◌==◌}
use Rattle.std.specs.List.{list_all, list_any}
use Rattle.cds_stamps.specs.declared.members.Member.{Member}
use Rattle.cds_stamps.specs.Members.{accepts_updates, is_accepting, members_of, others_of}

-- who accepts updates, by a search in the list
pub accepting_any : (h : ℕ) (ms : List Member) → list_any (λ (m : Member). (m.house.0 == h) && accepts_updates m.kind) ms ≡ is_accepting h (members_of ms)
accepting_any h [] = refl
accepting_any h (m ∷ ms) = ap (λ b. ((m.house.0 == h) && accepts_updates m.kind) || b) (accepting_any h ms)

-- a house that is alone has no others beside it
pub alone_none : (h : ℕ) (ms : List Member) → list_all (λ (m : Member). m.house.0 == h) ms ≡ true → others_of h (members_of ms) ≡ []
alone_none h [] all = refl
alone_none h (m ∷ ms) all = by (m.house.0 == h) (alone_none h ms) all
  where
    by : (b : Bool) → (list_all (λ (m : Member). m.house.0 == h) ms ≡ true → others_of h (members_of ms) ≡ [])
        → b && list_all (λ (m : Member). m.house.0 == h) ms ≡ true → cond b (others_of h (members_of ms)) (m.house.0 ∷ others_of h (members_of ms)) ≡ []
    by true rest is = rest is
    by false rest is = absurd (cc)

use Rattle.std.proofs.Common.{◌≡◌, ℕ, List, [], ◌∷◌, ◌++◌, take, drop, refl, ap, ◌∙◌, lit<}
use Rattle.tower_codec.specs.Spelling.{number_octets}
use Rattle.tower_codec.specs.TowerReading.{known_floors}
use Rattle.tower_codec.proofs.writer.TowerWriter.clear.Goals as goal

none_behind : (x : List ℕ) → drop 2 (take 2 x) ≡ []
none_behind [] = refl
none_behind (a ∷ []) = refl
none_behind (a ∷ b ∷ x) = refl

pub invariant_of-self : goal.invariant_of-self
unfolding known_floors
invariant_of-self c =
    let octets : c.write_count.new.octets.items ≡ 0 ∷ 0 ∷ [] =
    c.write_count.ensures ∙ ap (λ (x : List ℕ). number_octets 0 ++ drop 2 x) c.truncate.ensures.items
    ∙ ap (λ (x : List ℕ). number_octets 0 ++ x) (none_behind c.self.inside.octets.items) in
    rw octets ([], (lit< tt, lit< tt, refl, refl), refl)

pub returns : goal.returns
unfolding known_floors
returns c = refl

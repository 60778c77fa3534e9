use Rattle.std.proofs.Common.{◌≡◌, ℕ, List, ◌+◌, ◌++◌, ◌∙◌, sym, ap, length, take, drop, take-append-drop, arith}
use Rattle.std.proofs.lemmas.List.{drop_all, drop-drop, take_at}
use Rattle.std.proofs.lemmas.Grind.{common_steps}
use Rattle.cds_base.proofs.memory.MemSourceSource.read.Goals as goal

-- n octets that were copied to the front of a buffer are those that are gone from the source
copied_front : (octets copied behind : List ℕ) (at n : ℕ) → length copied ≡ n → copied ≡ take n (drop at octets)
    → drop at octets ≡ take n (copied ++ behind) ++ drop (at + n) octets
copied_front octets copied behind at n size is =
    sym (take-append-drop n (drop at octets))
    ∙ ap (λ (l : List ℕ). l ++ drop n (drop at octets)) (sym is)
    ∙ ap (λ (l : List ℕ). copied ++ l) (drop-drop n at octets)
    ∙ ap (λ (l : List ℕ). l ++ drop (at + n) octets) (sym (take_at copied behind n size))

pub returns-clause-bytes : goal.returns-clause-bytes
returns-clause-bytes c =
    let s = c.self.inside in
    let octets = s.octets.items in
    let n = c.min-count.result in
    let copied : c.copy_from_slice.new.self ≡ take n (drop s.at octets) = grind (arith, common_steps) in
    let size : length c.copy_from_slice.new.self ≡ n = grind (arith, common_steps) in
    (rw (← c.self.view_is) (copied_front octets _ _ s.at n size copied), λ none some. drop_all _ octets (omega arith))

-- What is done whole is one of what a crash may make of it.
use Rattle.std.proofs.Common.{◌≡◌, ⊎_elim, ℕ, ◌+◌, ◌-◌, ◌≤◌, List, ◌++◌, length, take, drop, get_or}
use Rattle.std.proofs.Common.{refl, ◌∙◌, ap, arith, length-append, length-drop}
use Rattle.std.proofs.lemmas.List.{length-take, length-take-le, get_or_append_left, get_or-append_right, get_or-take, get_or-drop}
use Rattle.house_journal.specs.Disks.{Torn, CutBack, with_piece}

pub torn_whole : (at : ℕ) (piece old : List ℕ) → at ≤ length old → Torn at (length piece) old (with_piece old at piece)
torn_whole at piece old within =
    let front = length-take-le at old within in
    let end = drop (at + length piece) old in
    let rest = length-drop (at + length piece) old in
    let inner = length-append piece end in
    let whole = length-append (take at old) (piece ++ end) in
    record {
      longer = omega (arith, front, rest, inner, whole);
      within = omega (arith, front, rest, inner, whole);
      stays = λ i lt outside. ⊎_elim
          (λ before. get_or_append_left (take at old) (piece ++ end) 0 i (omega (arith, before, front)) ∙ get_or-take at old i 0 before)
          (λ after.
          get_or-append_right (take at old) (piece ++ end) at i 0 front (omega (arith, after))
          ∙ get_or-append_right piece end (length piece) (i - at) 0 refl (omega (arith, after))
          ∙ get_or-drop (at + length piece) old (i - at - length piece) 0
          ∙ (let on : at + length piece + (i - at - length piece) ≡ i = omega (arith, after) in ap (λ (k : ℕ). get_or old k 0) on))
          outside;
    }

pub cut_whole : (n : ℕ) (old : List ℕ) → CutBack n old (take n old)
cut_whole n old =
    let size = length-take n old in
    record {
      kept = omega (arith, size);
      within = omega (arith, size);
      stays = λ i lt in_new. get_or-take n old i 0 lt;
    }

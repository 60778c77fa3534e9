-- The steps of a disk in memory: they fit its octets, and a sync marks the newest.
use Rattle.std.proofs.Common.{◌≡◌, ℕ, ◌-◌, ◌<◌, true, List, [], ◌∷◌, ◌++◌, length, set, get_or, reverse, refl, sym, ◌∙◌, ap, subst, arith, length-append}
use Rattle.std.proofs.lemmas.List.{reverse-append, set_at, get_or_at}
use Rattle.house_journal.specs.declared.step.Step.{Step}
use Rattle.house_journal.specs.MemoryDisks.{Fits, FitsStep, before_step, synced_steps}

-- a step more
pub reverse_more : (steps : List Step) (s : Step) → reverse (steps ++ s ∷ []) ≡ s ∷ reverse steps
reverse_more steps s = reverse-append steps (s ∷ [])

pub fits_more : (steps : List Step) (s : Step) (file new : List ℕ) → FitsStep s new → before_step s new ≡ file → Fits (reverse steps) file
    → Fits (reverse (steps ++ s ∷ [])) new
fits_more steps s file new step back fits =
    subst (λ (l : List Step). Fits l new) (sym (reverse_more steps s)) (step, subst (Fits (reverse steps)) (sym back) fits)

-- a list of some has a last one
pub record Ends (steps : List Step) : Type 0 where
  pub front : List Step
  pub last : Step
  pub split : steps ≡ front ++ last ∷ []

pub ends : (steps : List Step) → 0 < length steps → Ends steps
ends [] some = absurd (omega (arith, some))
ends (s ∷ []) some = record { front = []; last = s; split = refl }
ends (s ∷ r ∷ steps) some =
    let rest = ends (r ∷ steps) (omega arith) in
    record { front = s ∷ rest.front; last = rest.last; split = ap (λ (l : List Step). s ∷ l) rest.split }

pub fits_synced : (steps : List Step) (file : List ℕ) → Fits steps file → Fits (synced_steps steps) file
fits_synced [] file fits = fits
fits_synced (s ∷ earlier) file fits = (
  record { within = fits.0.within; cut = fits.0.cut; replaced = fits.0.replaced; grown = fits.0.grown },
  fits.1,
)

-- the newest step marked, where it is in a list
pub synced_last : (steps : List Step) (n : ℕ) (x : Step) → 0 < length steps → n ≡ length steps - 1 → x ≡ get_or steps n x
    → reverse (set steps n (record x { synced = true })) ≡ synced_steps (reverse steps)
synced_last steps n x some at is =
    let e = ends steps some in
    let size : length e.front ≡ n = omega (arith, ap length e.split, length-append e.front (e.last ∷ [])) in
    let last : x ≡ e.last = is ∙ ap (λ (l : List Step). get_or l n x) e.split ∙ get_or_at e.front e.last [] x n size in
    ap (λ (l : List Step). reverse (set l n (record x { synced = true }))) e.split
    ∙ ap reverse (set_at e.front e.last [] (record x { synced = true }) n size)
    ∙ reverse_more e.front (record x { synced = true })
    ∙ ap (λ (s : Step). record s { synced = true } ∷ reverse e.front) last
    ∙ ap synced_steps (sym (ap reverse e.split ∙ reverse_more e.front e.last))

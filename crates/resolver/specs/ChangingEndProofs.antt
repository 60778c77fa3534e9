-- Proofs alone: each walk over a changing reader ends, and in one way.
use Rattle.std.specs.Prelude.{◌≡◌, ℕ, zero, suc, ◌+◌, ◌<◌, ◌≤◌, Bool, true, false, List, [], ◌∷◌, ◌++◌, length, drop, Option, Some, None, refl}
use Rattle.std.proofs.Common.{ap, sym, ◌∙◌, subst, arith}
use Rattle.cell_names.specs.ChildPointers.{Pointer}
use Rattle.resolver.specs.declared.refusal.Refusal.{Refusal}
use Rattle.resolver.specs.declared.walk.End.{End}
use Rattle.resolver.specs.Readers.{Sight, Unreachable, Absent, Object, Link, Child}
use Rattle.resolver.specs.Walks.{Walker, Step, Goes, Stops, start, most_links, link_refusal, follow_unless, follow, at_last, at_inner, step_from, step}
use Rattle.resolver.specs.ChangingReaders.{ChangingReader, Ending, EndsChanging, stops, goes, ending_at, state_after}
use Rattle.resolver.specs.WalkEndProofs.{behind, link_is_allowed}

apart : (w : Walker) (e : End) → Goes w ≡ Stops e → ⊥
apart w e h = cc

module _ {S : Type 0} (reader : ChangingReader S) (last : Bool) where
  -- what a step comes to ends so
  abbrev pub EndsBy : S → Walker → Step → Ending S → Type 0
  EndsBy s w (Goes next) x = EndsChanging reader last (state_after reader s w) next x
  EndsBy s w (Stops e) x = ending_at reader s w e ≡ x

  from_step_at : (s : S) (w : Walker) {x : Ending S} (t : Step) → step (reader.tells s) last w ≡ t → EndsBy s w t x → EndsChanging reader last s w x
  from_step_at s w (Goes next) h r = goes next h r
  from_step_at s w (Stops e) h r = subst (EndsChanging reader last s w) r (stops h)

  to_step : (s : S) (w : Walker) {x : Ending S} (t : Step) → step (reader.tells s) last w ≡ t → EndsChanging reader last s w x → EndsBy s w t x
  to_step s w (Stops end) h (stops {e = e} k) = let same : end ≡ e = cc in ap (ending_at reader s w) same
  to_step s w (Stops end) h (goes next k r) = absurd (apart next end (sym k ∙ h))
  to_step s w (Goes next) h (stops {e = e} k) = absurd (apart next e (sym h ∙ k))
  to_step s w {x} (Goes next) h (goes n k r) =
      let same : n ≡ next = cc in subst (λ v. EndsChanging reader last (state_after reader s w) v x) same r

  -- a walk ends in one way
  pub one_ending : {s : S} {w : Walker} {x y : Ending S} → EndsChanging reader last s w x → EndsChanging reader last s w y → x ≡ y
  one_ending {s} {w} (stops {e = e} h) r = to_step s w (Stops e) h r
  one_ending {s} {w} (goes next h q) r = one_ending q (to_step s w (Goes next) h r)

  -- ---- some ending

  abbrev SomeBy : S → Walker → Step → Type 0
  SomeBy s w t = (x : Ending S) × EndsBy s w t x

  abbrev SomeFrom : S → Walker → Type 0
  SomeFrom s w = (x : Ending S) × EndsChanging reader last s w x

  -- wherever a name is walked with one more link followed, the walk ends, whatever the state of the
  -- reader
  abbrev GoesOn : Walker → Type 0
  GoesOn w = (s : S) (next : Walker) → w.links < most_links → next.links ≡ w.links + 1 → SomeFrom s next

  follow_ends : (s : S) (w : Walker) → GoesOn w → (name : List (List ℕ)) → SomeBy s w (follow (reader.tells s) w.links w.came_up name)
  follow_ends s w on name = by_refusal (link_refusal w.links w.came_up name) refl
    where
      by_refusal : (o : Option Refusal) → link_refusal w.links w.came_up name ≡ o → SomeBy s w (follow_unless o (reader.tells s) w.links w.came_up name)
      by_refusal (Some why) h = (_, refl)
      by_refusal None h = on (state_after reader s w) _ (link_is_allowed w.links w.came_up name h) refl

  last_ends : (b : Bool) (s : S) (w : Walker) → GoesOn w → (dir : ℕ) (c : List ℕ) (seen : Sight) → SomeBy s w (at_last (reader.tells s) b w dir c seen)
  last_ends b s w on dir c Unreachable = (_, refl)
  last_ends b s w on dir c (Absent house) = (_, refl)
  last_ends b s w on dir c (Object house) = (_, refl)
  last_ends b s w on dir c (Child house child) = (_, refl)
  last_ends true s w on dir c (Link house target) = follow_ends s w on target
  last_ends false s w on dir c (Link house target) = (_, refl)

  inner_ends : (s : S) (w : Walker) → GoesOn w → (dir : ℕ) (rest : List (List ℕ))
      → ((child : Pointer) → SomeFrom (state_after reader s w) (record w { at = Some child; done = w.done + 1 })) → (seen : Sight)
      → SomeBy s w (at_inner (reader.tells s) w dir rest seen)
  inner_ends s w on dir rest enter Unreachable = (_, refl)
  inner_ends s w on dir rest enter (Absent house) = (_, refl)
  inner_ends s w on dir rest enter (Object house) = (_, refl)
  inner_ends s w on dir rest enter (Child house child) = enter child
  inner_ends s w on dir rest enter (Link house target) = follow_ends s w on (target ++ rest)

  -- a walker with this left of its name, in this directory, whose next links lead to ends
  left_ends : (left name : List (List ℕ)) (at : Option Pointer) (done : ℕ) (came_up : List (List (List ℕ))) (links : ℕ) (s : S)
      → ((at' : Option Pointer) (done' : ℕ) → GoesOn (record { name = name; at = at'; done = done'; came_up = came_up; links = links }))
      → drop done name ≡ left
      → let w : Walker = record { name = name; at = at; done = done; came_up = came_up; links = links } in
      SomeBy s w (step_from (reader.tells s) last w left at)
  left_ends [] name at done came_up links s on h = (_, refl)
  left_ends (c ∷ rest) name None done came_up links s on h = (_, refl)
  left_ends (c ∷ []) name (Some p) done came_up links s on h =
      last_ends last s (record { name = name; at = Some p; done = done; came_up = came_up; links = links }) (on (Some p) done) p.dir c ((reader.tells s).sees p c)
  left_ends (c ∷ d ∷ rest) name (Some p) done came_up links s on h =
      let w : Walker = record { name = name; at = Some p; done = done; came_up = came_up; links = links } in
      inner_ends s w (on (Some p) done) p.dir (d ∷ rest)
      (λ child. entered child (behind name done c (d ∷ rest) h)
      (left_ends (d ∷ rest) name (Some child) (done + 1) came_up links (state_after reader s w) on (behind name done c (d ∷ rest) h)))
      ((reader.tells s).sees p c)
    where
      later : S
      later = state_after reader s (record { name = name; at = Some p; done = done; came_up = came_up; links = links })

      entered : (child : Pointer) → drop (done + 1) name ≡ d ∷ rest
          → let next : Walker = record { name = name; at = Some child; done = done + 1; came_up = came_up; links = links } in
          SomeBy later next (step_from (reader.tells later) last next (d ∷ rest) (Some child)) → SomeFrom later next
      entered child k (x, r) =
          let next : Walker = record { name = name; at = Some child; done = done + 1; came_up = came_up; links = links } in (
            x,
            from_step_at later next (step (reader.tells later) last next) refl
                (subst (λ (l : List (List ℕ)). EndsBy later next (step_from (reader.tells later) last next l (Some child)) x) (sym k) r),
          )

  -- where so many links may still be followed, the walk ends
  within_ends : (k : ℕ) (s : S) (w : Walker) → most_links ≤ w.links + k → SomeFrom s w
  within_ends zero s w few =
      let found = left_ends (drop w.done w.name) w.name w.at w.done w.came_up w.links s (λ at done t next more n. absurd (none more)) refl in
      (found.0, from_step_at s w (step (reader.tells s) last w) refl found.1)
    where
      none : w.links < most_links → ⊥
      none more = omega (arith, few)
  within_ends (suc k) s w few =
      let found = left_ends (drop w.done w.name) w.name w.at w.done w.came_up w.links s (λ at done t next more n. within_ends k t next (enough next n)) refl in
      (found.0, from_step_at s w (step (reader.tells s) last w) refl found.1)
    where
      enough : (next : Walker) → next.links ≡ w.links + 1 → most_links ≤ next.links + k
      enough next n = omega (arith, few, n)

  -- each walk ends
  pub some_ending : (s : S) (name : List (List ℕ)) → (x : Ending S) × EndsChanging reader last s (start (reader.tells s) name) x
  some_ending s name = within_ends most_links s (start (reader.tells s) name) (omega arith)

-- Walks over a reader of which each look-up may change what it tells next, as a clerk with a cache
-- is (after C705, caches of clerks).
use Rattle.std.specs.Prelude.{◌≡◌, ℕ, Bool, List, [], ◌∷◌, drop, Option, Some, None}
use Rattle.std.specs.Option.{option_map, option_map_or}
use Rattle.cell_names.specs.ChildPointers.{Pointer}
use Rattle.resolver.specs.declared.walk.End.{End}
use Rattle.resolver.specs.Readers.{Reader}
use Rattle.resolver.specs.Walks.{Walker, Goes, Stops, start, step}

-- what such a reader tells in a state, and its state after a look-up
pub record ChangingReader (S : Type 0) : Type 0 where
  pub tells : S → Reader
  pub after : S → Pointer → List ℕ → S

-- a reader that no look-up changes
abbrev pub fixed_reader : Reader → ChangingReader (Unit {0})
fixed_reader reader = record { tells = λ _. reader; after = λ _ _ _. tt }

-- what is looked up of the components that are left, in this directory
abbrev pub first_look : List (List ℕ) → Option Pointer → Option (Pointer × List ℕ)
first_look [] at = None
first_look (c ∷ rest) at = option_map (λ p. (p, c)) at

-- what the next step of a walk looks up, if it looks anything up
abbrev pub look_of : Walker → Option (Pointer × List ℕ)
look_of w = first_look (drop w.done w.name) w.at

-- the state after the next step of a walk
abbrev pub state_after : {S : Type 0} → ChangingReader S → S → Walker → S
state_after reader s w = option_map_or (λ q. reader.after s q.0 q.1) (look_of w) s

-- how a walk ends: its end, the directory where it ends, and the state of the reader then
pub record Ending (S : Type 0) : Type 0 where
  pub end : End
  pub at : Option Pointer
  pub state : S

-- the ending of a walk that stops in its next step
abbrev pub ending_at : {S : Type 0} → ChangingReader S → S → Walker → End → Ending S
ending_at reader s w e = record { end = e; at = w.at; state = state_after reader s w }

-- step by step the walk ends so
pub data EndsChanging {S : Type 0} (reader : ChangingReader S) (last : Bool) : S → Walker → Ending S → Type 0 where
  stops : {s : S} {w : Walker} {e : End} → step (reader.tells s) last w ≡ Stops e
      → EndsChanging reader last s w (ending_at reader s w e)
  goes : {s : S} {w : Walker} {x : Ending S} → (next : Walker) → step (reader.tells s) last w ≡ Goes next
      → EndsChanging reader last (state_after reader s w) next x → EndsChanging reader last s w x

-- step by step the walk comes to this state of the reader, and there
pub data ComesTo {S : Type 0} (reader : ChangingReader S) (last : Bool) (s₀ : S) (w₀ : Walker) : S → Walker → Type 0 where
  begins : ComesTo reader last s₀ w₀ s₀ w₀
  goes_on : {s : S} {w : Walker} → ComesTo reader last s₀ w₀ s w → (next : Walker) → step (reader.tells s) last w ≡ Goes next
      → ComesTo reader last s₀ w₀ (state_after reader s w) next

-- Images that are put one after another: their journals, and what is on the disks meanwhile.
use Rattle.std.proofs.Common.{◌≡◌, inl, inr, ℕ, ◌+◌, Bool, true, false, ◌||◌, List, [], ◌∷◌, ◌++◌, refl, ◌∙◌, ap, if◌then◌else◌}
use Rattle.std.specs.Prelude.{Option, Some, None, IfSome, slice_get, nat_lt}
use Rattle.house_journal.specs.MemoryDisks.{MemState}
use Rattle.cell_model.specs.Cells.{Cell}
use Rattle.cds_cell.specs.CommandImages.{octets_at}
use Rattle.journal_replay.specs.CellJournals.{Lists, Put, has_to_put, lacks_room, puts_of, with_put, with_puts}
use Rattle.disk_journals.specs.KeptJournals.{size_of, Holds, HoldsEither}
use Rattle.journal_replay.specs.CellDisks.{ArePutting, HoldAll}

-- what holds of a value, if there is one
pub each_some : {A : Type 0} (o : Option A) (P Q : A → Type 0) → ((a : A) → P a → Q a) → IfSome o P → IfSome o Q
each_some None P Q f h = tt
each_some (Some a) P Q f h = f a h

-- ---- disks

-- before any put is under way
pub putting_at_start : (disks : List MemState) (lists : Lists) (ps : List Put) → HoldAll disks lists → ArePutting disks lists ps
putting_at_start disks lists [] hold = hold
putting_at_start disks lists (p ∷ ps) hold =
    inl (λ i. each_some (slice_get disks i) (λ m. Holds m (lists (i + 1))) (λ m. HoldsEither m (lists (i + 1)) (with_put p lists (i + 1)))
    (λ m holds c left. let h = holds c left in (inl h.0, h.1)) (hold i))

-- once all are done
pub putting_at_end : (disks : List MemState) (lists : Lists) (ps : List Put) → HoldAll disks (with_puts ps lists) → ArePutting disks lists ps
putting_at_end disks lists [] hold = hold
putting_at_end disks lists (p ∷ ps) hold = inr (putting_at_end disks (with_put p lists) ps hold)

-- the later ones of them
pub putting_then : (disks : List MemState) (lists : Lists) (ps qs : List Put) → ArePutting disks (with_puts ps lists) qs → ArePutting disks lists (ps ++ qs)
putting_then disks lists [] qs putting = putting
putting_then disks lists (p ∷ ps) qs putting = inr (putting_then disks (with_put p lists) ps qs putting)

-- the first ones
pub putting_first : (disks : List MemState) (lists : Lists) (ps qs : List Put) → ArePutting disks lists ps → ArePutting disks lists (ps ++ qs)
putting_first disks lists [] qs putting = putting_at_start disks lists qs putting
putting_first disks lists (p ∷ ps) qs (inl now) = inl now
putting_first disks lists (p ∷ ps) qs (inr later) = inr (putting_first disks (with_put p lists) ps qs later)

-- ---- puts, one after another

pub with_puts_then : (ps qs : List Put) (lists : Lists) → with_puts (ps ++ qs) lists ≡ with_puts qs (with_puts ps lists)
with_puts_then [] qs lists = refl
with_puts_then (p ∷ ps) qs lists = with_puts_then ps qs (with_put p lists)

-- a house puts its image
abbrev pub the_put : Cell → ℕ → Put
the_put g x = record { house = x; image = octets_at g x }

pub puts_then : (g : Cell) (xs ys : List ℕ) (lists : Lists)
    → puts_of g (xs ++ ys) lists ≡ puts_of g xs lists ++ puts_of g ys (with_puts (puts_of g xs lists) lists)
puts_then g [] ys lists = refl
puts_then g (x ∷ xs) ys lists = by_put (has_to_put g lists x) (λ lists. puts_then g xs ys lists)
  where
    by_put : (b : Bool)
        → ((lists : Lists) → puts_of g (xs ++ ys) lists ≡ puts_of g xs lists ++ puts_of g ys (with_puts (puts_of g xs lists) lists))
        → (if b then the_put g x ∷ puts_of g (xs ++ ys) (with_put (the_put g x) lists) else puts_of g (xs ++ ys) lists)
        ≡ (if b then the_put g x ∷ puts_of g xs (with_put (the_put g x) lists) else puts_of g xs lists)
        ++ puts_of g ys (with_puts (if b then the_put g x ∷ puts_of g xs (with_put (the_put g x) lists) else puts_of g xs lists) lists)
    by_put true later = ap (λ (qs : List Put). the_put g x ∷ qs) (later (with_put (the_put g x) lists))
    by_put false later = later lists

-- ---- room

or_assoc : (a b c : Bool) → (a || (b || c)) ≡ ((a || b) || c)
or_assoc true b c = refl
or_assoc false b c = refl

pub room_then : (lists : Lists) (ps qs : List Put) → lacks_room lists (ps ++ qs) ≡ (lacks_room lists ps || lacks_room (with_puts ps lists) qs)
room_then lists [] qs = refl
room_then lists (p ∷ ps) qs =
    ap (λ (b : Bool). nat_lt 1099511627776 (size_of (lists p.house ++ p.image ∷ [])) || b) (room_then (with_put p lists) ps qs)
    ∙ or_assoc _ (lacks_room (with_put p lists) ps) (lacks_room (with_puts ps (with_put p lists)) qs)

-- Changes of one entry, which is created first where it is absent, and when changes are accepted
-- one after the other.
use Rattle.std.specs.Prelude.{◌≡◌, ℕ, Bool, false, List, [], ◌∷◌, ◌++◌, map, None, if◌then◌else◌}
use Rattle.cds_stamps.specs.declared.stamp.Stamp.{Stamp}
use Rattle.directory.specs.declared.update.Update.{Update}
use Rattle.directory.specs.Updates.{Change, Create, Add, Remove, change_of, changed_name}
use Rattle.directory.specs.Histories.{Mark, IsBefore}
use Rattle.directory.specs.Shown.{shown_of_name, is_reserved, refusal_of, marks_of}

-- what a list of updates changes
abbrev pub changes : List Update → List Change
changes = map change_of

-- the creation of the entry n, where it is absent
abbrev pub creation : (n : List ℕ) → (absent : Bool) → List Change
creation n absent = if absent then Create n ∷ [] else []

-- the change adds a value of an attribute that is not reserved to the entry n, or removes one
abbrev pub ChangesValue : List ℕ → Change → Type 0
ChangesValue n (Add m a v) = (m ≡ n) × (is_reserved a ≡ false)
ChangesValue n (Remove m a v) = (m ≡ n) × (is_reserved a ≡ false)
ChangesValue n _ = ⊥

-- the changes are accepted one after the other, whatever later stamp each is given: none is refused
-- by what the history shows of its name, and the history goes on with its marks
abbrev pub AreAccepted : List Mark → List Change → Type 0
AreAccepted h [] = Unit {0}
AreAccepted h (u ∷ us) =
    (refusal_of (shown_of_name h (changed_name u)) u ≡ None)
    × ((s : Stamp) → IsBefore h s → AreAccepted (h ++ marks_of (shown_of_name h (changed_name u)) u s) us)

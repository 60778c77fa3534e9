-- How the work on a line ends.
use Rattle.std.specs.Prelude.{◌≡◌, ℕ, List, ◌++◌}
use Rattle.reply_buffer.specs.Responses.{ResponseOf, GoesOn, Stops, Fills}
use Rattle.reply_buffer.specs.declared.replies.LineEnd.{LineEnd}
use Rattle.reply_buffer.specs.declared.replies.LineEnd.TheVariants as line

-- the reply waits after the others, or there was no memory, or no room in a journal; Then says what
-- is so of the state after the line
abbrev pub Ends : {S : Type 0} → LineEnd → ResponseOf S → (waited waits : List ℕ) → (S → Type 0) → Type 0
Ends line.GoesOn (GoesOn text next) waited waits Then = (waits ≡ waited ++ text) × Then next
Ends line.GoesOn (Stops text) waited waits Then = ⊥
Ends line.GoesOn Fills waited waits Then = ⊥
Ends line.Stops (GoesOn text next) waited waits Then = ⊥
Ends line.Stops (Stops text) waited waits Then = waits ≡ waited ++ text
Ends line.Stops Fills waited waits Then = ⊥
Ends line.NoMemory r waited waits Then = waits ≡ waited
Ends line.Full (GoesOn text next) waited waits Then = ⊥
Ends line.Full (Stops text) waited waits Then = ⊥
Ends line.Full Fills waited waits Then = waits ≡ waited

-- the line of a fault waits; nothing follows
abbrev pub Faults : LineEnd → (text waited waits : List ℕ) → Type 0
Faults end text waited waits = Ends {S = Unit {0}} end (Stops text) waited waits (λ next. Unit {0})

-- the octets of the tower of a line wait; nothing is kept
abbrev pub Spells : LineEnd → ResponseOf (Unit {0}) → (waited waits : List ℕ) → Type 0
Spells end r waited waits = Ends end r waited waits (λ next. Unit {0})

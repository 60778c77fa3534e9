-- What a form of the program that reads lines makes of a line, over a state of its own; and what
-- `untowers` makes of it.
use Rattle.std.specs.Prelude.{ℕ, List, []}
use Rattle.tower_codec.specs.Spelling.{tower_octets}
use Rattle.reply_buffer.specs.TowerTexts.{TowerLine, SaysNothing, SaysTower, NoTower}

-- what a form makes of a whole line: a text, and the state that it is in then; or the text of a
-- fault, which ends it; or nothing, as a journal has no room, which ends it too
pub data ResponseOf (S : Type 0) : Type 0 where
  GoesOn : (text : List ℕ) → (next : S) → ResponseOf S
  Stops : (text : List ℕ) → ResponseOf S
  Fills : ResponseOf S

-- the same response, in a state of another kind
abbrev pub in_state : {S T : Type 0} → (S → T) → ResponseOf S → ResponseOf T
in_state f (GoesOn text next) = GoesOn text (f next)
in_state f (Stops text) = Stops text
in_state f Fills = Fills

-- the octets of the tower that a line says; a line at fault has no text. Nothing is kept
abbrev pub spell_response : TowerLine → ResponseOf (Unit {0})
spell_response SaysNothing = GoesOn [] tt
spell_response (SaysTower floors) = GoesOn (tower_octets floors) tt
spell_response NoTower = Stops []

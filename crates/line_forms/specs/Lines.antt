-- How the answer to a line ends.
use Rattle.reply_buffer.specs.declared.replies.LineEnd.{LineEnd}
use Rattle.reply_buffer.specs.declared.replies.LineEnd.TheVariants as line

-- there was no memory, or no room in a journal
abbrev pub IsShort : LineEnd → Type 0
IsShort line.GoesOn = ⊥
IsShort line.Stops = ⊥
IsShort line.NoMemory = Unit {0}
IsShort line.Full = Unit {0}

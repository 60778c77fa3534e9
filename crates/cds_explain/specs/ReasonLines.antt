-- What is said of an entry that is not explained.
use Rattle.std.specs.Prelude.{◌≡◌, ◌&&◌, ℕ, List, [], ◌∷◌, ◌++◌, codes, decimal, if◌then◌else◌, map, nat_le}
use Rattle.cds_explain.specs.declared.cause.Reason.{Reason}

-- an octet as it is shown: a `?` for one that is not printable
abbrev pub visible : ℕ → ℕ
visible o = if nat_le 32 o && nat_le o 126 then o else 63

-- the house and the number of the entry of a reason, at the beginning of a line
abbrev pub entry_said : Reason → List ℕ
entry_said reason =
    codes "# unexplained: house "
    ++ (decimal reason.house.0 ++ (codes " entry " ++ decimal reason.entry))

-- the line of a reason, a comment of a script: the entry, and why, in these words
abbrev pub reason_line : Reason → (words : List ℕ) → List ℕ
reason_line reason words = entry_said reason ++ (codes ": " ++ (map visible words ++ 10 ∷ []))

-- this is the line of a reason
abbrev pub IsReasonLine : Reason → (line : List ℕ) → Type 0
IsReasonLine reason line = (words : List ℕ) × (line ≡ reason_line reason words)

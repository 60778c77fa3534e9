-- A line of a script that is answered that a skulk is complete.
use Rattle.std.specs.Prelude.{◌≡◌, ℕ, ◌≤◌, List, [], ◌∷◌, ◌++◌, Some}
use Rattle.cds_stamps.specs.declared.stamp.Stamp.{Stamp}
use Rattle.cell_model.specs.Agreement.{Agrees}
use Rattle.cell_model.specs.Cells.{IsHeld, Replica}
use Rattle.cell_model.specs.Steps.{accepted_updates}
use Rattle.script_answers.specs.declared.answer.Answer.TheVariants as answer
use Rattle.script_replay.specs.Headline.{cell_after_script, commands_of, line_place}
use Rattle.script_replay.specs.Replies.{Numbered, reply_to}

-- After these lines one is answered that the skulk t is complete: the house at which it acts holds
-- the directory then; and after any later lines, each house that holds the directory at that epoch
-- or a later one agrees up to t with what that house had (own, after C705, skulks)
abbrev pub Settles : (early : List Numbered) → Numbered → (late : List Numbered) → Type 0
Settles early l late =
    (t : Stamp) (ns : List ℕ) → reply_to (cell_after_script early) l.says ≡ Some (answer.Complete t ns)
    → (h d : ℕ) × (r : Replica) × (line_place (cell_after_script early) l.says ≡ Some (h, d))
    × IsHeld (cell_after_script (early ++ l ∷ [])) h d r
    × ((x : ℕ) (q : Replica) → IsHeld (cell_after_script (early ++ l ∷ late)) x d q → r.epoch ≤ q.epoch
    → Agrees d t (accepted_updates (commands_of (early ++ l ∷ []))) (accepted_updates (commands_of (early ++ l ∷ late)))
    r.history x q)

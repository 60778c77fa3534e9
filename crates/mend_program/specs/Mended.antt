-- A script, and the lines after it that mend a directory (own, after C705, skulks and new epochs).
use Rattle.std.specs.Prelude.{◌≡◌, ℕ, ◌+◌, ◌*◌, ◌≤◌, List, [], ◌∷◌, ◌++◌, length, Option, Some}
use Rattle.std.specs.Io.KnownBytes.{Consumes, Appends}
use Rattle.cds_base.specs.declared.scan.TheConstants.{MOST_LINES}
use Rattle.cds_stamps.specs.declared.stamp.Stamp.{Stamp}
use Rattle.cds_stamps.specs.Members.{Member, master_of}
use Rattle.cell_model.specs.Cells.{Cell}
use Rattle.cell_model.specs.Mending.{IsAgreedBy, IsHeldBy, IsIdleBy}
use Rattle.cell_model.specs.Turns.{stamp_at}
use Rattle.script_answers.specs.declared.answer.Answer.{Answer}
use Rattle.script_answers.specs.declared.answer.Answer.TheVariants as answer
use Rattle.script_replay.specs.Replies.{Numbered, reply_to}
use Rattle.script_replay.specs.Headline.{cell_after_script, commands_of, line_place}
use Rattle.cds_base.specs.RunEnds.{Run}
use Rattle.script_replay.specs.Scripts.{IsScript}
use Rattle.line_forms.specs.Leaving.{text_of}
use Rattle.mend_model.specs.Leaving.{new_master, smaller_list}
use Rattle.mend_replay.specs.MendLines.{mend_text}

-- the answer to a line that was neither refused nor in vain: a house is up, a new epoch was taken,
-- a message was taken, a skulk began, or completed (own)
abbrev pub LineWorks : Option Answer → Type 0
LineWorks (Some answer.Done) = Unit {0}
LineWorks (Some (answer.Epoch e ns)) = Unit {0}
LineWorks (Some (answer.Taken ns)) = Unit {0}
LineWorks (Some (answer.Stamped s ns)) = Unit {0}
LineWorks (Some (answer.Complete t ns)) = Unit {0}
LineWorks _ = ⊥

-- each of these lines works, after a script and those in front of it (own)
abbrev pub AllLinesWork : (said added : List Numbered) → Type 0
AllLinesWork said added =
    (early late : List Numbered) (l : Numbered) → added ≡ early ++ l ∷ late → LineWorks (reply_to (cell_after_script (said ++ early)) l.says)

-- Lines after a script mend a directory with the stamp t: each works, and the last is answered that
-- the skulk t of the directory is complete at the master of the console's list. After them each
-- house of that list holds the directory at one epoch, runs no skulk of it, and agrees up to t with
-- all the updates that the master has (own)
pub record MendsBehind (said : List Numbered) (dir : ℕ) (t : Stamp) (members : List Member) (added : List Numbered) : Type 0 where
  pub works : AllLinesWork said added
  pub early : List Numbered
  pub last : Numbered
  pub serials : List ℕ
  pub epoch : ℕ
  pub parts : added ≡ early ++ last ∷ []
  pub place : line_place (cell_after_script (said ++ early)) last.says ≡ Some (master_of members, dir)
  pub complete : reply_to (cell_after_script (said ++ early)) last.says ≡ Some (answer.Complete t serials)
  pub held : IsHeldBy (cell_after_script (said ++ added)) dir epoch members
  pub idle : IsIdleBy (cell_after_script (said ++ added)) dir members
  pub agreed : IsAgreedBy (commands_of (said ++ added)) dir t members

-- A text is lines that mend a directory with these members after those of a script. Both together
-- are a script, if they are not too many lines; for n members there are at most 6 n - 3 lines more
-- (own)
pub record IsMended (lines : List (List ℕ)) (said : List Numbered) (dir : ℕ) (t : Stamp) (members : List Member) (text : List ℕ) : Type 0 where
  pub more : List (List ℕ)
  pub added : List Numbered
  pub written : text ≡ text_of more
  pub few : length more + 3 ≤ 6 * length members
  pub script : length lines + length more ≤ MOST_LINES → IsScript 1 (lines ++ more) (said ++ added)
  pub mends : MendsBehind said dir t members added

-- the members of a directory that is mended without these houses, with the master m: those of the
-- console's list, if no houses are named (own)
abbrev pub members_without : Cell → (dir : ℕ) → (hs : List ℕ) → (m : ℕ) → List Member
members_without g dir [] m = g.present dir
members_without g dir (h ∷ hs) m = smaller_list g dir (h ∷ hs) m

-- A script was read, and what mends the directory after it without these houses was written, or why
-- nothing does. If there is such a directory, a house that stays can be its master, and this one
-- has a stamp left, these are lines that mend it (own)
pub record IsMending (dir : ℕ) (hs : List ℕ) (run : Run) : Type 0 where
  pub lines : List (List ℕ)
  pub said : List Numbered
  pub script : IsScript 1 lines said
  pub taken : Consumes run.left run.left' (text_of lines)
  pub written : Appends run.written run.written' (mend_text dir hs (cell_after_script said))
  pub mended : (let g : Cell = cell_after_script said in
      (m : ℕ) (t : Stamp) → 1 ≤ g.top dir → new_master g dir hs ≡ Some m → stamp_at (g.house m) ≡ Some t
      → IsMended lines said dir t (members_without g dir hs m) (mend_text dir hs g))

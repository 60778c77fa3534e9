-- What is written of folders, and with which status the program ends.
use Rattle.std.specs.Prelude.{◌≡◌, ◌≢◌, ◌⊎◌, ℕ, List, [], ◌∷◌, ◌++◌, Bool, Option, ◌==◌, if◌then◌else◌, length, take}
use Rattle.std.specs.Io.KnownBytes.{Appends}
use Rattle.house_logs.specs.declared.log.HouseLog.{HouseLog}
use Rattle.cds_explain.specs.Explained.{Explains, ExplainsFirst, ExplainsUpTo}
use Rattle.cds_explain.specs.ReasonLines.{IsReasonLine, reason_line}
use Rattle.cds_explain.specs.declared.cause.Reason.{Reason}
use Rattle.cds_explain.specs.declared.explanation.Ending.{Ending}
use Rattle.cds_explain.specs.declared.explanation.Ending.TheVariants as ending
use Rattle.cds_explain.specs.declared.explanation.Explanation.{Explanation}
use Rattle.explain_program.specs.declared.folder.FolderOctets.{FolderOctets}
use Rattle.explain_program.specs.declared.status.Status.{Status}
use Rattle.explain_program.specs.declared.status.Status.TheVariants as status
use Rattle.explain_program.specs.declared.told.PlacedFault.{PlacedFault}
use Rattle.explain_program.specs.declared.told.Told.{Told}
use Rattle.explain_program.specs.Folders.{IsDamaged, IsEvidence}
use Rattle.explain_program.specs.Texts.{fault_lines}

-- the status of an ending, where all folders are whole or not
abbrev pub status_of : Ending → (are_whole : Bool) → Status
status_of ending.TooLong are_whole = status.TooLong
status_of (ending.Unexplained reason) are_whole = status.Unexplained
status_of ending.Whole are_whole = if are_whole then status.Ok else status.Unexplained

-- a text, and the line of the reason of an ending, if it has one
abbrev pub HasReason : Ending → (old new : List ℕ) → Type 0
HasReason ending.TooLong old new = new ≡ old
HasReason (ending.Unexplained reason) old new =
    (words : List ℕ) × (new ≡ old ++ reason_line reason words)
HasReason ending.Whole old new = new ≡ old

-- a script, then the line of a reason, if there is one, and those of folders
abbrev pub said_after : (script line : List ℕ) → List PlacedFault → List ℕ
said_after script line faults = script ++ (line ++ fault_lines faults)

-- what is said of an explanation
pub record IsTold (e : Explanation) (faults : List PlacedFault) (t : Told) : Type 0 where
  pub status_is : t.status ≡ status_of e.ending (length faults == 0)
  pub front : List ℕ
  pub reason : HasReason e.ending e.script.items front
  pub text_is : t.text.items ≡ front ++ fault_lines faults

-- ---- the endings

-- all folders are read to their ends, and the text explains their journals
pub record AreExplained (fs : List FolderOctets) (text : List ℕ) : Type 0 where
  pub logs : List HouseLog
  pub evidence : IsEvidence fs logs []
  pub explains : Explains text logs

-- one of these folders is damaged
pub record HasDamaged (fs : List FolderOctets) : Type 0 where
  pub front : List FolderOctets
  pub folder : FolderOctets
  pub others : List FolderOctets
  pub parts : fs ≡ front ++ folder ∷ others
  pub damaged : IsDamaged folder

-- the text is a script that explains the first entries of the journals, as far as these are read;
-- then why the next entry of one is not explained, if it is not; and a line of each folder that is
-- not read to its end: it has one of these two at least, and such a folder is damaged
pub record AreUnexplained (fs : List FolderOctets) (text : List ℕ) : Type 0 where
  pub logs : List HouseLog
  pub faults : List PlacedFault
  pub script : List ℕ
  pub line : List ℕ
  pub evidence : IsEvidence fs logs faults
  pub text_is : text ≡ said_after script line faults
  pub explains : ExplainsFirst script logs
  pub why : ((line ≡ []) × (faults ≢ []) × HasDamaged fs)
      ⊎ ((reason : Reason) × IsReasonLine reason line × ExplainsUpTo script logs reason)

-- the text is a script that explains first entries, and one with one more would be too long; and a
-- line of each folder that is not read to its end
pub record AreTooLong (fs : List FolderOctets) (text : List ℕ) : Type 0 where
  pub logs : List HouseLog
  pub faults : List PlacedFault
  pub script : List ℕ
  pub evidence : IsEvidence fs logs faults
  pub text_is : text ≡ said_after script [] faults
  pub explains : ExplainsFirst script logs

-- what is said of folders, with this status
abbrev pub IsSaid : List FolderOctets → Status → (text : List ℕ) → Type 0
IsSaid fs status.Ok text = AreExplained fs text
IsSaid fs status.Unexplained text = AreUnexplained fs text
IsSaid fs status.TooLong text = AreTooLong fs text
IsSaid fs other text = ⊥

-- this was written, which is said of folders
pub record Writes (fs : List FolderOctets) (s : Status) (old new : Option (List ℕ)) : Type 0 where
  pub text : List ℕ
  pub said : IsSaid fs s text
  pub wrote : Appends old new text

-- a front of what is said of folders was written
pub record WritesPart (fs : List FolderOctets) (old new : Option (List ℕ)) : Type 0 where
  pub ended : Status
  pub text : List ℕ
  pub said : IsSaid fs ended text
  pub count : ℕ
  pub wrote : Appends old new (take count text)

-- how the program ends: with what is said and written; or a write failed; or memory ran out before
-- anything was written
abbrev pub Ends : List FolderOctets → Status → (old new : Option (List ℕ)) → (kept : Type 0)
    → Type 0
Ends fs status.WriteFault old new kept = WritesPart fs old new
Ends fs status.OutOfMemory old new kept = kept
Ends fs other old new kept = Writes fs other old new

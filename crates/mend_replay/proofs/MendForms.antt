-- How a line ends in the state of the form of `cdsmend`, and what is said in the end.
use Rattle.std.proofs.Common.{Global, ◌≡◌, ℕ, List, ◌∙◌, ap, subst}
use Rattle.std.specs.Prelude.{IfOk, Result}
use Rattle.std.specs.declared.alloc.AllocError.{AllocError}
use Rattle.std.specs.declared.vec.Vec.{Vec}
use Rattle.cds_stamps.specs.declared.numbers.DirId.{DirId}
use Rattle.cds_stamps.specs.declared.numbers.HouseNo.{HouseNo}
use Rattle.cell_model.specs.Cells.{Cell}
use Rattle.cell_script.specs.CommandRows.{said_in}
use Rattle.cell_script.specs.Words.{words_of}
use Rattle.cds_cell.specs.ModelCells.{Stands}
use Rattle.house_directory.specs.HouseMessages.{numbers_of}
use Rattle.reply_buffer.specs.declared.replies.LineEnd.{LineEnd}
use Rattle.reply_buffer.specs.declared.replies.LineEnd.TheVariants as line
use Rattle.reply_buffer.specs.LineEnds.{Ends}
use Rattle.reply_buffer.specs.Responses.{ResponseOf, GoesOn, Stops, Fills, in_state}
use Rattle.line_forms.specs.Dialogues.{reply_of}
use Rattle.mend_replay.specs.MendLines.{mend_text}
use Rattle.mend_replay.specs.MendRules.{MendState, MendsAt, mend_rule, mend_state}
use Rattle.mend_replay.specs.Quiet.{running_quietly}
use Rattle.mend_replay.specs.declared.mender.Mender.{Mender}

-- how a line ends is how it ends in a state of another kind
pub state_ends : {S T : Type 0} (e : LineEnd) (r : ResponseOf S) (f : S → T) (waited waits : List ℕ) (Then : S → Type 0) (So : T → Type 0)
    → ((s : S) → Then s → So (f s)) → Ends e r waited waits Then → Ends e (in_state f r) waited waits So
state_ends line.GoesOn (GoesOn text next) f waited waits Then So then ends = (ends.0, then next ends.1)
state_ends line.GoesOn (Stops text) f waited waits Then So then ends = absurd ends
state_ends line.GoesOn Fills f waited waits Then So then ends = absurd ends
state_ends line.Stops (GoesOn text next) f waited waits Then So then ends = absurd ends
state_ends line.Stops (Stops text) f waited waits Then So then ends = ends
state_ends line.Stops Fills f waited waits Then So then ends = absurd ends
state_ends line.NoMemory r f waited waits Then So then ends = ends
state_ends line.Full (GoesOn text next) f waited waits Then So then ends = absurd ends
state_ends line.Full (Stops text) f waited waits Then So then ends = absurd ends
state_ends line.Full Fills f waited waits Then So then ends = ends

-- so a line ends of the form of `cdsmend`
pub mend_ends : (m m' : Mender) (e : LineEnd) (number : ℕ) (octets waited waits : List ℕ) (s : MendState) → MendsAt m s → m'.dir ≡ m.dir
    → m'.without ≡ m.without
    → ((g : Cell) → Stands m.replayer.cell g
    → Ends e (reply_of running_quietly number g (said_in (words_of octets))) waited waits (Stands m'.replayer.cell))
    → Ends e (mend_rule.response number s octets) waited waits (MendsAt m')
mend_ends m m' e number octets waited waits s at same kept ends =
    state_ends e (reply_of running_quietly number s.cell (said_in (words_of octets))) (mend_state s.dir s.without) waited waits
    (Stands m'.replayer.cell) (MendsAt m')
    (λ next stands. (ap (λ (dir : DirId). dir.0) same ∙ at.0, ap (λ (v : Vec HouseNo Global). numbers_of v.items) kept ∙ at.1, stands)) (ends s.cell at.2)

-- and so its end is told
pub mend_told : (m : Mender) (r : Result (Vec ℕ Global) AllocError) (s : MendState) → MendsAt m s
    → ((g : Cell) → Stands m.replayer.cell g → IfOk r (λ text. text.items ≡ mend_text m.dir.0 (numbers_of m.without.items) g))
    → IfOk r (λ text. text.items ≡ mend_text s.dir s.without s.cell)
mend_told m r s at told =
    subst (λ (n : ℕ). IfOk r (λ text. text.items ≡ mend_text n s.without s.cell)) at.0
    (subst (λ (l : List ℕ). IfOk r (λ text. text.items ≡ mend_text m.dir.0 l s.cell)) at.1 (told s.cell at.2))

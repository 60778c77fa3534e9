-- What an input demands of a form that reads it whole and then says one thing.
use Rattle.std.specs.Prelude.{ℕ, nat_lt, if◌then◌else◌, List, [], length, codes, Ok, Err, Result}
use Rattle.std.specs.Result.{result_map_both}
use Rattle.cds_records.specs.Migration.{migrated_image}
use Rattle.script_answers.specs.Texts.{fault_text}
use Rattle.image_audit.specs.Pairs.{audit_verdict}
use Rattle.cell_replay.specs.AuditTexts.{verdict_text, pair_fault_text}
use Rattle.cell_replay.specs.declared.limits.TheConstants.{MOST_WHOLE, WHOLE_SIGHT}
use Rattle.line_forms.specs.Demand.{Demand, faulty_with, ends_with, cut_short_with}

-- what such a form does with its input: an image becomes one of format 2, or a directory is audited
-- in two images
pub data WholeTask : Type 0 where
  Migrating : WholeTask
  Auditing : (dir : ℕ) → WholeTask

-- what is said of an input of too many octets: of one image nothing, and of two that the first is
-- too long
abbrev pub too_long_text : WholeTask → List ℕ
too_long_text Migrating = []
too_long_text (Auditing dir) = fault_text 1 (codes "TooLong") WHOLE_SIGHT

-- the text that is said of an input, or that of its fault: the octets of an image, whose fault has
-- none; or the line that an audit has, or that of the fault of an image
abbrev pub said_of : WholeTask → List ℕ → Result (List ℕ) (List ℕ)
said_of Migrating octets = result_map_both (λ image. image) (λ fault. []) (migrated_image octets)
said_of (Auditing dir) octets =
    result_map_both (verdict_text dir) pair_fault_text (audit_verdict octets (record { 0 = dir }))

-- either is due where the input ends
abbrev pub told_whole : Result (List ℕ) (List ℕ) → Demand
told_whole (Ok text) = ends_with text
told_whole (Err text) = cut_short_with text

-- what an input demands; more octets than it may have are at fault whatever follows
abbrev pub whole_demand : WholeTask → List ℕ → Demand
whole_demand task octets = if nat_lt MOST_WHOLE (length octets) then faulty_with (too_long_text task) else told_whole (said_of task octets)

-- A folder as it may be: a process makes a house and dies, and another one does its lines again and
-- starts.
use Rattle.std.proofs.Common.{◌≡◌, ℕ, ◌<◌, ◌^◌, List, [], ◌∷◌, ◌++◌, length, refl, sym, ap, subst, ◌∙◌, arith}
use Rattle.std.specs.Prelude.{Option, Some, None, Result, Ok, codes, map}
use Rattle.std.specs.FinMap.{FinMap, empty, entries, from_entries, len, len-empty, len-entries}
use Rattle.cds_records.specs.RecordRanges.{FitsDir, FitsImage}
use Rattle.record_fields.specs.FieldRanges.{FitsMap, ItemsFit}
use Rattle.cds_messages.specs.Dirs.{dir_cmp}
use Rattle.cds_stamps.specs.declared.numbers.DirId.{DirId}
use Rattle.cds_stamps.specs.declared.numbers.HouseNo.{HouseNo}
use Rattle.cell_script.specs.Words.{words_of, number_of}
use Rattle.cell_script.specs.WordForms.{check_count, take_words}
use Rattle.cell_script.specs.declared.fault.ParseFault.{ParseFault}
use Rattle.hex.specs.Hex.{decode_pairs}
use Rattle.script_answers.specs.Texts.{answer_line, lines_text}
use Rattle.script_answers.specs.declared.answer.Answer.TheVariants as answer
use Rattle.cds_cell.proofs.KeptImages.{image_again}
use Rattle.house_directory.specs.declared.states.DirState.{DirState}
use Rattle.clearinghouse.specs.HouseImages.{house_after_restart, image_of, kept_of}
use Rattle.clearinghouse.specs.declared.house.Clearinghouse.{Clearinghouse}
use Rattle.clearinghouse.proofs.Starting.{image_starts}
use Rattle.cds_messages.specs.declared.image.ImageDir.{ImageDir}
use Rattle.house_entries.specs.Bodies.{body_of}
use Rattle.house_lines.specs.LineRows.{said_by, said_in}
use Rattle.house_lines.specs.declared.line.HouseLine.{HouseLine}
use Rattle.house_lines.specs.declared.line.HouseLine.TheVariants as asks
use Rattle.house_serving.specs.Turns.{Said}
use Rattle.house_turns.specs.declared.house.House.{House}
use Rattle.house_turns.specs.HouseReplies.{RepliesIf, Responds, new_clearinghouse, turn_lines, turn_text}
use Rattle.house_turns.specs.Openings.{Anew, OpensBy, Restarts, new_house, start_text}
use Rattle.house_turns.specs.Records.{IsRecord, IsTurnRecord, image_in}
use Rattle.house_runs.specs.Folders.{FolderSegment, IsFolder, ProcessBegins}
use Rattle.house_runs.proofs.Waits.{new_lawful}

-- the house that is made
abbrev one : HouseNo
one = record { 0 = 1 }

abbrev c : Clearinghouse
c = new_clearinghouse one 10

abbrev line : List ℕ
line = codes "house 1 00000000000a"

-- a map without entries
no_items : {X : Type 0} (es : List (DirId × X)) → length es ≡ 0 → es ≡ []
no_items [] is = refl
no_items (e ∷ es) is = absurd (omega (arith, is))

no_states : entries (empty {X = DirState} {R = dir_cmp}) ≡ []
no_states = no_items (entries (empty {R = dir_cmp})) (sym (len-entries (empty {R = dir_cmp})) ∙ len-empty dir_cmp DirState)

no_kept : entries (empty {X = ImageDir} {R = dir_cmp}) ≡ []
no_kept = no_items (entries (empty {R = dir_cmp})) (sym (len-entries (empty {R = dir_cmp})) ∙ len-empty dir_cmp ImageDir)

no_dirs : (image_of c).dirs ≡ empty
no_dirs = ap (λ (es : List (DirId × DirState)). from_entries {R = dir_cmp} (map (λ e. (e.0, kept_of e.1)) es)) no_states

-- the numbers of its image fit their fields
c_fits : FitsImage (image_of c)
c_fits = record {
  node = omega arith;
  floor = omega arith;
  dirs = subst (λ (m : FinMap dir_cmp ImageDir). FitsMap (λ d. d.0 < 2 ^ 32) FitsDir m) (sym no_dirs) (record {
    count = let none : len (empty {X = ImageDir} {R = dir_cmp}) ≡ 0 = len-empty dir_cmp ImageDir in omega (arith, none);
    each = subst (ItemsFit (λ d. d.0 < 2 ^ 32) FitsDir) (sym no_kept) tt;
  });
}

-- ---- the first process

-- the record of a new folder
abbrev new_text : List ℕ
new_text = codes "new" ++ 10 ∷ []

abbrev first_body : List ℕ
first_body = body_of 0 0 new_text None

first_record : IsRecord new_house new_text first_body
first_record = record {
  body = record { numbered = omega arith; timed = omega arith; short = omega arith; octets_are = refl };
  fits = tt;
}

-- the line that makes the house, and its record
abbrev text : List ℕ
text = turn_text line [] (answer_line answer.Done)

abbrev made_body : List ℕ
made_body = body_of 1 0 text None

abbrev said : ℕ → Said
said number = record { text = lines_text number (turn_lines [] (answer_line answer.Done)); body = Some made_body }

abbrev made : House
made = record { home = Some c; node = 10; clock = 0; entry = 1; last = text; more = [] }

made_record : IsTurnRecord made text made_body
made_record = record { body = record { numbered = omega arith; timed = omega arith; short = omega arith; octets_are = refl } }

line_is : said_in (words_of line) ≡ Ok (Some (asks.House one 10))
unfolding said_by check_count take_words number_of decode_pairs
line_is = refl

responds : (number : ℕ) → Responds new_house number line (said number) made
responds number =
    subst (λ (r : Result (Option HouseLine) ParseFault). RepliesIf new_house number (words_of line) r (said number) made) (sym line_is)
    (record { text = refl; octets = made_body; body = refl; record_is = made_record; after = refl })

-- ---- the second process

abbrev again : Clearinghouse
again = house_after_restart c

abbrev started : House
started = record { home = Some again; node = again.node; clock = 0; entry = 2; last = text; more = [] }

abbrev start_body : List ℕ
start_body = body_of 2 0 (start_text (Some again) text) (image_in (Some again))

start_record : IsRecord started (start_text (Some again) text) start_body
start_record = record {
  body = record { numbered = omega arith; timed = omega arith; short = omega arith; octets_are = refl };
  fits = subst FitsImage (sym (image_again c (new_lawful one 10))) c_fits;
}

abbrev opened : House
opened = record { home = Some again; node = again.node; clock = 0; entry = 1; last = text; more = [] }

-- it does the line again that made the house, and the house restarts
opens : OpensBy (first_body ∷ made_body ∷ []) opened
opens = record {
  first = first_body;
  others = made_body ∷ [];
  begun = new_house;
  at = made;
  split = refl;
  resumes = Anew 0 first_record.body;
  redone = (made, record { clock = 0; line = line; said = said 0; does = responds 0; same = refl }, refl);
  ends = Restarts c again refl c_fits (image_starts c (new_lawful one 10) c_fits);
}

-- ---- the folder

abbrev folder : List FolderSegment
folder =
    record { begins = ProcessBegins; first = first_body; number = 1; turns = record { line = line; said = said 1 } ∷ [] }
    ∷ record { begins = ProcessBegins; first = start_body; number = 1; turns = [] }
    ∷ []

is-folder : IsFolder folder
is-folder = (
  new_house,
  made,
  (new_house, refl, refl, first_record),
  (made, responds 1, refl),
  (started, started, (opened, opens, refl, start_record), refl, tt),
)

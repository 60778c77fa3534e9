-- What is said of an explanation, and how the program ends.
use Rattle.std.proofs.Common.{◌≡◌, ◌≢◌, ◌<◌, ◌+◌, ℕ, ◌==◌, Bool, get_or, inl, inr, List, [], ◌∷◌, ◌++◌, length, Option, None, Some, refl, sym, ◌∙◌, ap, subst, take, append-nil, append_assoc}
use Rattle.std.specs.Prelude.{IfOk, OnOk, Result, Ok, Err}
use Rattle.std.specs.Result.{IsErr, IsErrAnd}
use Rattle.std.proofs.Math.Dec.{eqb-suc-zero}
use Rattle.std.proofs.lemmas.List.{take_more}
use Rattle.cds_stamps.specs.declared.alloc_or.AllocOr.{AllocOr}
use Rattle.cds_stamps.specs.declared.alloc_or.AllocOr.TheVariants.{Fault, OutOfMemory}
use Rattle.std.specs.Io.KnownBytes.{Appends}
use Rattle.house_logs.specs.declared.fault.LogFault.{LogFault}
use Rattle.house_logs.specs.declared.log.HouseLog.{HouseLog}
use Rattle.house_logs.specs.declared.reader.LogReader.{LogReader}
use Rattle.house_logs.specs.Reads.{HasRead, IfFault, OfFault}
use Rattle.cds_explain.specs.Explained.{Explains, ExplainsFirst, ExplainsUpTo}
use Rattle.cds_explain.specs.ReasonLines.{reason_line}
use Rattle.cds_explain.specs.declared.cause.Reason.{Reason}
use Rattle.cds_explain.specs.declared.explanation.Ending.{Ending}
use Rattle.cds_explain.specs.declared.explanation.Ending.TheVariants as ending
use Rattle.cds_explain.specs.declared.explanation.Explanation.{Explanation}
use Rattle.explain_program.specs.declared.folder.FolderOctets.{FolderOctets}
use Rattle.explain_program.specs.declared.folder.FolderEnd.TheVariants as end
use Rattle.explain_program.specs.declared.folder.FolderFault.{FolderFault}
use Rattle.explain_program.specs.declared.folder.FolderFault.TheVariants as why
use Rattle.explain_program.specs.declared.status.Status.{Status}
use Rattle.explain_program.specs.declared.status.Status.TheVariants as status
use Rattle.explain_program.specs.declared.told.PlacedFault.{PlacedFault}
use Rattle.explain_program.specs.declared.told.Told.{Told}
use Rattle.explain_program.specs.Endings.{Ends, HasReason, IsSaid, IsTold, WritesPart, status_of}
use Rattle.explain_program.specs.Texts.{fault_line, fault_lines}
use Rattle.explain_program.specs.Folders.{EndsFolder, HasReadAll, HasReadFirst, IsBegun, IsEvidence, IsLog, IsReadTo, IsWhole}
use Rattle.explain_program.proofs.FolderLemmas.{evidence_damaged, read_missing}

-- ---- folders

-- the journal of a folder that was read whole
pub whole_read : (f : FolderOctets) (r : LogReader) (log : Option HouseLog) → f.end ≡ end.Whole → HasReadAll f.segments.items r
    → ((bodies : List (List ℕ)) → HasRead r bodies → IsLog bodies log) → IsWhole f log
whole_read f r log there h is = record {
  bodies = h.bodies;
  after = r.digest;
  there = there;
  are = h.are;
  is = is h.bodies h.read;
}

-- that of one whose first records were read, up to a fault
pub begun_read : (f : FolderOctets) (r : LogReader) (fault : LogFault) (log : Option HouseLog) → HasReadFirst f.segments.items fault r
    → ((bodies : List (List ℕ)) → HasRead r bodies → IsLog bodies log) → IsBegun f (why.BadLog fault) log
begun_read f r fault log h is = record {
  bodies = h.bodies;
  are = h.are f.end;
  is = is h.bodies h.read;
}

-- that of one of which all segments that are there were read
pub all_read : (f : FolderOctets) (r : LogReader) (fault : Option FolderFault) (log : Option HouseLog) → EndsFolder f fault → HasReadAll f.segments.items r
    → ((bodies : List (List ℕ)) → HasRead r bodies → IsLog bodies log) → IsReadTo f log fault
all_read f r None log ends h is = whole_read f r log ends h is
all_read f r (Some (why.Missing n)) log ends h is = record {
  bodies = h.bodies;
  are = read_missing f.end r f.segments.items n h ends.0 ends.1;
  is = is h.bodies h.read;
}
all_read f r (Some (why.BadLog fault)) log ends h is = absurd ends

-- ---- results

-- what a fact of a result implies
pub ok_then : {T E : Type 0} {P Q : T → Type 0} (r : Result T E) → ((x : T) → P x → Q x) → IfOk r P → IfOk r Q
ok_then (Ok x) then p = then x p
ok_then (Err e) then p = tt

-- what two facts of a result imply
pub both_ok : {T E : Type 0} {A B C : Type 0} (r : Result T E) → (A → B → C) → OnOk r A → OnOk r B → OnOk r C
both_ok (Ok x) then a b = then a b
both_ok (Err e) then a b = tt

-- what a fault implies
fault_then : {F : Type 0} {P Q : F → Type 0} (e : AllocOr F) → ((f : F) → Q f → P f) → OfFault e Q → OfFault e P
fault_then (Fault f) then is = then f is
fault_then OutOfMemory then is = tt

-- that of a call
pub fault_called : {U F : Type 0} {P Q : F → Type 0} (r : Result U (AllocOr F)) → ((f : F) → Q f → P f) → IfFault r Q → IfFault r P
fault_called (Ok x) then q = tt
fault_called (Err e) then q = fault_then e then q

-- one that is passed on
pub fault_passed : {U F : Type 0} {P Q : F → Type 0} (r : Result U (AllocOr F)) (e : AllocOr F) → IsErr r × IsErrAnd r (λ y. y ≡ e)
    → ((f : F) → Q f → P f) → OfFault e Q → IfFault r P
fault_passed (Ok x) e is then q = tt
fault_passed {U} {F} {P} {Q} (Err y) e is then q = subst (λ (z : AllocOr F). OfFault z P) (sym is.1) (fault_then e then q)

-- ---- texts

-- one piece more
pub ok_two : {T E : Type 0} (r : Result T E) (old mid new a b : List ℕ) → mid ≡ old ++ a → OnOk r (new ≡ mid ++ b) → OnOk r (new ≡ old ++ (a ++ b))
ok_two (Ok x) old mid new a b one two = two ∙ ap (λ (l : List ℕ). l ++ b) one ∙ append_assoc old a b
ok_two (Err e) old mid new a b one two = tt

-- three pieces
pub three_pieces : (old first mid new a b d : List ℕ) → first ≡ old ++ a → mid ≡ first ++ b → new ≡ mid ++ d → new ≡ old ++ ((a ++ b) ++ d)
three_pieces old first mid new a b d one two three =
    three ∙ ap (λ (l : List ℕ). l ++ d) (two ∙ ap (λ (l : List ℕ). l ++ b) one ∙ append_assoc old a b) ∙ append_assoc old (a ++ b) d

-- ---- lines of folders

-- the lines of folders, and one more
lines_one : (fs : List PlacedFault) (f : PlacedFault) → fault_lines (fs ++ f ∷ []) ≡ fault_lines fs ++ fault_line f
lines_one [] f = append-nil (fault_line f)
lines_one (g ∷ fs) f =
    ap (λ (r : List ℕ). fault_line g ++ r) (lines_one fs f) ∙ sym (append_assoc (fault_line g) (fault_lines fs) (fault_line f))

-- one line more was added
pub lines_more : (fs : List PlacedFault) (n : ℕ) (d : PlacedFault) (old now next : List ℕ) → n < length fs → now ≡ old ++ fault_lines (take n fs)
    → next ≡ now ++ fault_line (get_or fs n d) → next ≡ old ++ fault_lines (take (n + 1) fs)
lines_more fs n d old now next inside is more =
    more
    ∙ ap (λ (l : List ℕ). l ++ fault_line (get_or fs n d)) is
    ∙ append_assoc old (fault_lines (take n fs)) (fault_line (get_or fs n d))
    ∙ ap (λ (l : List ℕ). old ++ l) (sym (lines_one (take n fs) (get_or fs n d)) ∙ ap fault_lines (sym (take_more fs n d inside)))

-- ---- the endings

-- what is said of an explanation
pub said_told : (fs : List FolderOctets) (logs : List HouseLog) (faults : List PlacedFault) (e : Explanation) (t : Told) → IsEvidence fs logs faults
    → IsTold e faults t → (e.ending ≡ ending.Whole → Explains e.script.items logs) → ExplainsFirst e.script.items logs
    → ((reason : Reason) → e.ending ≡ ending.Unexplained reason → ExplainsUpTo e.script.items logs reason) → IsSaid fs t.status t.text.items
said_told fs logs faults e t evidence told whole first up_to =
    subst (λ (s : Status). IsSaid fs s t.text.items) (sym told.status_is) (by e.ending faults refl refl told.reason)
  where
    script : List ℕ
    script = e.script.items

    -- after a script alone
    alone : (all : List PlacedFault) → faults ≡ all → told.front ≡ script → t.text.items ≡ script ++ fault_lines all
    alone all are same = told.text_is ∙ (λ j. same j ++ fault_lines (are j))

    by : (end : Ending) (all : List PlacedFault) → e.ending ≡ end → faults ≡ all → HasReason end script told.front
        → IsSaid fs (status_of end (length all == 0)) t.text.items
    by ending.Whole [] is none same = record {
      logs = logs;
      evidence = subst (λ (l : List PlacedFault). IsEvidence fs logs l) none evidence;
      explains = subst (λ (text : List ℕ). Explains text logs) (sym (alone [] none same ∙ append-nil script)) (whole is);
    }
    by ending.Whole (f ∷ others) is some same =
        let broken : faults ≢ [] = λ none. absurd (cc (some, none)) in
        subst (λ (b : Bool). IsSaid fs (status_of ending.Whole b) t.text.items) (sym (eqb-suc-zero (length others)))
        (record {
          logs = logs;
          faults = faults;
          script = script;
          line = [];
          evidence = evidence;
          text_is = alone faults refl same;
          explains = first;
          why = inl (refl, broken, evidence_damaged fs logs faults evidence broken);
        })
    by (ending.Unexplained reason) all is are has = record {
      logs = logs;
      faults = faults;
      script = script;
      line = reason_line reason has.0;
      evidence = evidence;
      text_is =
          told.text_is
          ∙ ap (λ (l : List ℕ). l ++ fault_lines faults) has.1
          ∙ append_assoc script (reason_line reason has.0) (fault_lines faults);
      explains = first;
      why = inr (reason, (has.0, refl), up_to reason is);
    }
    by ending.TooLong all is are same = record {
      logs = logs;
      faults = faults;
      script = script;
      evidence = evidence;
      text_is = alone faults refl same;
      explains = first;
    }

-- and written
pub ends_said : (fs : List FolderOctets) (s : Status) (text : List ℕ) (old new : Option (List ℕ)) (kept : Type 0) → IsSaid fs s text → Appends old new text
    → Ends fs s old new kept
ends_said fs status.Ok text old new kept said wrote = record { text = text; said = said; wrote = wrote }
ends_said fs status.Unexplained text old new kept said wrote = record { text = text; said = said; wrote = wrote }
ends_said fs status.TooLong text old new kept said wrote = record { text = text; said = said; wrote = wrote }
ends_said fs status.Usage text old new kept said wrote = absurd said
ends_said fs status.ReadFault text old new kept said wrote = absurd said
ends_said fs status.WriteFault text old new kept said wrote = absurd said
ends_said fs status.OutOfMemory text old new kept said wrote = absurd said

-- nothing is said with the status of a write that failed
pub said_none : (fs : List FolderOctets) (s : Status) (text : List ℕ) → IsSaid fs s text → s ≡ status.WriteFault → ⊥
said_none fs status.WriteFault text said is = said
said_none fs status.Ok text said is = absurd (cc (is))
said_none fs status.Unexplained text said is = absurd (cc (is))
said_none fs status.TooLong text said is = absurd (cc (is))
said_none fs status.Usage text said is = said
said_none fs status.ReadFault text said is = said
said_none fs status.OutOfMemory text said is = said

-- a part was written
pub part_said : (fs : List FolderOctets) (s : Status) (text : List ℕ) (count : ℕ) (old new : Option (List ℕ)) → IsSaid fs s text
    → Appends old new (take count text) → WritesPart fs old new
part_said fs s text count old new said wrote = record { ended = s; text = text; said = said; count = count; wrote = wrote }

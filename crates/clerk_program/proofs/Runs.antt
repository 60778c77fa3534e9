-- A run between two lines, and how it ends.
use Rattle.std.proofs.Common.{◌≡◌, ◌≢◌, ℕ, ◌+◌, ◌<◌, ◌≤◌, List, [], ◌∷◌, ◌++◌, length, take, drop, get_or, inl, inr}
use Rattle.std.proofs.Common.{refl, sym, ◌∙◌, ap, subst, append_assoc, append-nil, length-append, take-append-drop, length-take, arith}
use Rattle.std.specs.Prelude.{Option, Some, None, Result, Ok, Err}
use Rattle.std.specs.Io.KnownBytes.{Consumes, Appends}
use Rattle.cds_base.specs.Counts.{Rose}
use Rattle.cds_base.specs.LineFaults.{IsLine}
use Rattle.cds_base.specs.Lines.{IsFresh, HasFault, HasLineCause, IsNext, fault_of_lines, lines_so_far, octets_ahead}
use Rattle.cds_base.specs.RunEnds.{Run}
use Rattle.cds_base.specs.SourceReading.{GrowsByReading}
use Rattle.cds_base.specs.declared.lines.TheConstants.{MOST_HELD}
use Rattle.cds_base.specs.declared.lines.Lines.{Lines}
use Rattle.cds_base.specs.declared.scan.LineFault.{LineFault}
use Rattle.cds_base.specs.declared.scan.LineFault.TheVariants as fault
use Rattle.cds_stamps.specs.declared.numbers.HouseNo.{HouseNo}
use Rattle.cds_base.proofs.KnownOctets.{appends_more, appends_none, consumes_more, consumes_self}
use Rattle.line_forms.specs.declared.endings.Status.{Status}
use Rattle.line_forms.specs.declared.endings.Status.TheVariants.{Ok as AllRead, Usage, BadInput, ReadFault, WriteFault, OutOfMemory, JournalFull}
use Rattle.line_forms.specs.Endings.{side}
use Rattle.line_forms.specs.Leaving.{text_of}
use Rattle.clerk_turns.specs.declared.clerk.Clerk.{Clerk}
use Rattle.clerk_program.specs.ClerkRuns.{HousesEnd, IsNew, RunEnds, TakesOne, Talk, begins, goes_on}
use Rattle.clerk_program.specs.LineTurns.{TakesLine, status_of}

text_more : (lines : List (List ℕ)) (line : List ℕ) → text_of (lines ++ line ∷ []) ≡ text_of lines ++ (line ++ 10 ∷ [])
text_more [] line = append-nil (line ++ 10 ∷ [])
text_more (l ∷ ls) line =
    ap (λ (t : List ℕ). (l ++ 10 ∷ []) ++ t) (text_more ls line) ∙ sym (append_assoc (l ++ 10 ∷ []) (text_of ls) (line ++ 10 ∷ []))

length_more : (lines : List (List ℕ)) (line : List ℕ) → length (lines ++ line ∷ []) ≡ length lines + 1
length_more lines line = let size = length-append lines (line ∷ []) in omega (arith, size)

-- the run is between two lines: those that were given were taken, and all that is due of them was
-- written
pub record IsBetween (first at : Clerk) (lines : Lines) (run : Run) : Type 0 where
  pub given : List (List ℕ)
  pub text : List ℕ
  pub talk : Talk first given text at
  pub taken : Consumes run.left run.left' (text_of given ++ octets_ahead lines)
  pub written : Appends run.written run.written' text
  pub count : lines_so_far lines ≡ length given
  pub unbroken : fault_of_lines lines ≡ None
  pub quiet : run.reads' ≡ run.reads
  pub calm : run.writes' ≡ run.writes

-- nothing was read or written yet
abbrev pub still : (left written : Option (List ℕ)) → (reads writes : ℕ) → Run
still left written reads writes =
    record { left = left; left' = left; written = written; written' = written; reads = reads; reads' = reads; writes = writes; writes' = writes }

pub begins_between : (c : Clerk) (lines : Lines) (left written : Option (List ℕ)) (reads writes : ℕ) → IsFresh lines
    → IsBetween c c lines (still left written reads writes)
begins_between c lines left written reads writes fresh = record {
  given = [];
  text = [];
  talk = begins;
  taken = subst (Consumes left left) (sym fresh.empty) (consumes_self left);
  written = appends_none written;
  count = fresh.number;
  unbroken = fresh.fault;
  quiet = refl;
  calm = refl;
}

pub unread : (c : Clerk) (left written : Option (List ℕ)) (reads writes : ℕ) → RunEnds c (still left written reads writes) OutOfMemory
unread c left written reads writes = (
  record {
    lines = [];
    text = [];
    at = c;
    rest = [];
    over = [];
    talk = begins;
    taken = consumes_self left;
    written = appends_none written;
  },
  inl (omega arith),
  refl,
  (refl, refl),
)

-- more was read
reads_more : (a b c : Option (List ℕ)) (front held held' : List ℕ) → Consumes a b (front ++ held) → GrowsByReading b c held held'
    → Consumes a c (front ++ held')
reads_more a b c front held held' taken grows =
    subst (Consumes a c) (append_assoc front held grows.read ∙ ap (λ (l : List ℕ). front ++ l) (sym grows.grown))
    (consumes_more a b c (front ++ held) grows.read taken grows.taken)

-- what is left of a list, if not all of it was taken
some_left : (k : ℕ) (xs : List ℕ) → k < length xs → drop k xs ≢ []
some_left k xs less is =
    let size = length-append (take k xs) (drop k xs) in
    let whole = take-append-drop k xs in
    let front = length-take k xs in
    grind (arith, size, whole, front)

module _ (first at : Clerk) (lines lines' : Lines) (run : Run) (b : IsBetween first at lines run) (left' written' : Option (List ℕ)) (reads' writes' : ℕ) where
  -- the run, one call of the lines later
  abbrev pub ends : Run
  ends = record run { left' = left'; written' = written'; reads' = reads'; writes' = writes' }

  -- a line was given
  given_one : (line : ℕ × List ℕ) → IsNext run.left' left' lines lines' (Ok (Some line))
      → Consumes run.left left' (text_of b.given ++ ((line.1 ++ 10 ∷ []) ++ octets_ahead lines'))
  given_one line next =
      reads_more run.left run.left' left' (text_of b.given) (octets_ahead lines) ((line.1 ++ 10 ∷ []) ++ octets_ahead lines') b.taken next.answer.2

  is_line : (line : ℕ × List ℕ) → IsNext run.left' left' lines lines' (Ok (Some line)) → IsLine (length b.given + 1) line.1
  is_line line next = subst (λ (n : ℕ). IsLine (n + 1) line.1) b.count next.answer.1

  takes_one : (line : ℕ × List ℕ) → IsNext run.left' left' lines lines' (Ok (Some line)) → length (octets_ahead lines') ≤ MOST_HELD
      → TakesOne (length b.given + 1) ((line.1 ++ 10 ∷ []) ++ octets_ahead lines') line.1
  takes_one line next few = record {
    behind = octets_ahead lines';
    splits = refl;
    is_line = is_line line next;
    few = few;
  }

  -- all that is due was written, and nothing more
  all_written : written' ≡ run.written' → Appends run.written written' (b.text ++ [])
  all_written same =
      subst (λ (w : Option (List ℕ)). Appends run.written w (b.text ++ [])) (sym same)
      (subst (λ (t : List ℕ). Appends run.written run.written' t) (sym (append-nil b.text)) b.written)

  -- and taken
  pub goes_between : (line : ℕ × List ℕ) → IsNext run.left' left' lines lines' (Ok (Some line)) → reads' ≡ run.reads' → (after : Clerk) → (x : Unit {0})
      → TakesLine at line.1 after (side run.written' run.writes') (side written' writes') (Ok x)
      → IsBetween first after lines' ends
  goes_between line next quiet after x takes = record {
    given = b.given ++ line.1 ∷ [];
    text = b.text ++ takes.0;
    talk = goes_on line.1 takes.0 after b.talk (is_line line next) takes.1;
    taken =
        subst (Consumes run.left left')
        (sym (append_assoc (text_of b.given) (line.1 ++ 10 ∷ []) (octets_ahead lines'))
        ∙ ap (λ (t : List ℕ). t ++ octets_ahead lines') (sym (text_more b.given line.1)))
        (given_one line next);
    written = appends_more run.written run.written' written' b.text takes.0 b.written takes.2;
    count = next.number ∙ ap (λ n. n + 1) b.count ∙ sym (length_more b.given line.1);
    unbroken = next.fault;
    quiet = quiet ∙ b.quiet;
    calm = takes.3 ∙ b.calm;
  }

  -- or it was not taken whole
  pub line_ends : (line : ℕ × List ℕ) → IsNext run.left' left' lines lines' (Ok (Some line)) → length (octets_ahead lines') ≤ MOST_HELD → reads' ≡ run.reads' → (after : Clerk)
      → (status : Status) → TakesLine at line.1 after (side run.written' run.writes') (side written' writes') (Err status) → RunEnds first ends status
  line_ends line next few quiet after WriteFault takes = (
    record {
      lines = b.given;
      text = b.text;
      at = at;
      rest = (line.1 ++ 10 ∷ []) ++ octets_ahead lines';
      over = take takes.2.0 takes.0;
      talk = b.talk;
      taken = given_one line next;
      written = appends_more run.written run.written' written' b.text (take takes.2.0 takes.0) b.written takes.2.2;
    },
    record {
      line = line.1;
      said = takes.0;
      after = after;
      missing = drop takes.2.0 takes.0;
      takes = takes_one line next few;
      turn = takes.1;
      cut = sym (take-append-drop takes.2.0 takes.0);
      some = some_left takes.2.0 takes.0 takes.2.1;
    },
    (subst (λ (n : ℕ). Rose n writes') b.calm takes.3, quiet ∙ b.quiet),
  )
  line_ends line next few quiet after OutOfMemory takes = (
    record {
      lines = b.given;
      text = b.text;
      at = at;
      rest = (line.1 ++ 10 ∷ []) ++ octets_ahead lines';
      over = [];
      talk = b.talk;
      taken = given_one line next;
      written = all_written takes.0;
    },
    inr (line.1, takes_one line next few),
    refl,
    (quiet ∙ b.quiet, takes.1 ∙ b.calm),
  )
  line_ends line next few quiet after AllRead takes = absurd takes
  line_ends line next few quiet after Usage takes = absurd takes
  line_ends line next few quiet after BadInput takes = absurd takes
  line_ends line next few quiet after ReadFault takes = absurd takes
  line_ends line next few quiet after JournalFull takes = absurd takes

  -- the input ended
  pub input_ends : IsNext run.left' left' lines lines' (Ok None) → reads' ≡ run.reads' → written' ≡ run.written' → writes' ≡ run.writes' → RunEnds first ends AllRead
  input_ends next quiet same calm = (
    record {
      lines = b.given;
      text = b.text;
      at = at;
      rest = octets_ahead lines';
      over = [];
      talk = b.talk;
      taken = reads_more run.left run.left' left' (text_of b.given) (octets_ahead lines) (octets_ahead lines') b.taken next.answer.0;
      written = all_written same;
    },
    next.answer.1,
    refl,
    next.answer.2,
    (quiet ∙ b.quiet, calm ∙ b.calm),
  )

  -- a fault of lines
  faulty : (f : LineFault) → f ≢ fault.ReadFault → GrowsByReading run.left' left' (octets_ahead lines) (octets_ahead lines') → HasFault (lines_so_far lines + 1) (octets_ahead lines') left' f
      → reads' ≡ run.reads' → written' ≡ run.written' → writes' ≡ run.writes' → RunEnds first ends BadInput
  faulty f other grows has quiet same calm = (
    record {
      lines = b.given;
      text = b.text;
      at = at;
      rest = octets_ahead lines';
      over = [];
      talk = b.talk;
      taken = reads_more run.left run.left' left' (text_of b.given) (octets_ahead lines) (octets_ahead lines') b.taken grows;
      written = all_written same;
    },
    (f, other, subst (λ (n : ℕ). HasFault (n + 1) (octets_ahead lines') left' f) b.count has),
    refl,
    (quiet ∙ b.quiet, calm ∙ b.calm),
  )

  pub ends_at_fault : (f : LineFault) → IsNext run.left' left' lines lines' (Err f)
      → HasLineCause run.reads' reads' (let e : Result (Option (ℕ × List ℕ)) LineFault = Err f in e) → written' ≡ run.written'
      → writes' ≡ run.writes' → RunEnds first ends (status_of f)
  ends_at_fault fault.ReadFault next cause same calm = (
    record {
      lines = b.given;
      text = b.text;
      at = at;
      rest = octets_ahead lines';
      over = [];
      talk = b.talk;
      taken = reads_more run.left run.left' left' (text_of b.given) (octets_ahead lines) (octets_ahead lines') b.taken next.answer.0;
      written = all_written same;
    },
    subst (λ (n : ℕ). HasFault (n + 1) (octets_ahead lines') left' fault.ReadFault) b.count next.answer.1,
    refl,
    (subst (λ (n : ℕ). Rose n reads') b.quiet cause.1, calm ∙ b.calm),
  )
  ends_at_fault (fault.LineTooLong number place) next cause same calm =
      faulty (fault.LineTooLong number place) (λ is. absurd (cc (is))) next.answer.0 next.answer.1 cause same calm
  ends_at_fault (fault.NotAscii number place) next cause same calm =
      faulty (fault.NotAscii number place) (λ is. absurd (cc (is))) next.answer.0 next.answer.1 cause same calm
  ends_at_fault (fault.NoLineEnd number place) next cause same calm =
      faulty (fault.NoLineEnd number place) (λ is. absurd (cc (is))) next.answer.0 next.answer.1 cause same calm
  ends_at_fault (fault.TooManyLines number place) next cause same calm =
      faulty (fault.TooManyLines number place) (λ is. absurd (cc (is))) next.answer.0 next.answer.1 cause same calm

-- a clerk of these houses, of which the first is the near one, worked so
pub houses_end : (Unread Unwritten : Type 0) (houses : List HouseNo) → 1 ≤ length houses → (run : Run) (default : HouseNo) (status : Status) (first : Clerk)
    → IsNew (get_or houses 0 default) (drop 1 houses) first → RunEnds first run status → HousesEnd houses run Unread Unwritten status
houses_end Unread Unwritten [] some run default status first new worked = absurd (omega (arith, some))
houses_end Unread Unwritten (near ∷ houses) some run default status first new worked = inr (first, new, worked)

-- What a house answers to the questions of a clerk, by what it holds.
use Rattle.std.proofs.Common.{◌≡◌, ℕ, ◌+◌, ◌<◌, Bool, true, false, List, [], ◌∷◌, ◌++◌, length, take, get_or, refl, sym, ap, subst, ◌∙◌, append_assoc, append-nil, arith}
use Rattle.std.specs.Prelude.{◌==◌, not, ◌&&◌, Option, Some, None, map, is_none, is_some, codes, decimal}
use Rattle.std.specs.List.{flat_map}
use Rattle.std.specs.Option.{option_and_then}
use Rattle.std.specs.FinMap.{get}
use Rattle.std.proofs.lemmas.Grind.{flat_map-append}
use Rattle.std.proofs.lemmas.List.{map-append, take_more}
use Rattle.cds_stamps.specs.Members.{master_of, members_of}
use Rattle.cds_stamps.specs.declared.alloc_or.AllocOr.TheVariants.{Fault, OutOfMemory}
use Rattle.cds_stamps.specs.declared.numbers.DirId.{DirId}
use Rattle.cds_stamps.specs.declared.numbers.HouseNo.{HouseNo}
use Rattle.attr_sets.specs.AttributeCells.{cell_values}
use Rattle.cell_names.specs.ChildPointers.{Pointer, is_child_pointer, pointer_fault, pointer_of}
use Rattle.cell_names.specs.declared.pointer.ChildFault.{ChildFault}
use Rattle.directory.specs.Shown.{face_of, live_count, shown_entry}
use Rattle.directory.specs.declared.entry.EntryCell.{EntryCell}
use Rattle.script_answers.specs.Texts.{each_lines, line_text, lines_text, members_text, spaced_numbers, stamp_or}
use Rattle.script_answers.specs.declared.answer.ScriptRefusal.TheVariants as why
use Rattle.skulk_core.specs.MasterRounds.{running_stamp}
use Rattle.house_directory.specs.DirectoryTakes.{held_in}
use Rattle.house_directory.specs.declared.states.DirState.{DirState}
use Rattle.house_directory.specs.declared.states.DirState.TheVariants as state
use Rattle.house_directory.specs.declared.states.Held.{Held}
use Rattle.cell_runs.specs.LineAnswers.{refused}
use Rattle.house_turns.specs.PostTexts.{end_line, octets_line}
use Rattle.house_turns.specs.Showings.{attr_shown, directories_said, directory_line, entry_said, entry_shown, lead_line, pointer_words, show_said, status_line, status_said}
use Rattle.house_turns.proofs.Pieces.{line_whole, written_last, written_more}

-- ---- what shows of a name

-- octets that are no child pointer lead nowhere
pub no_pointer : (octets : List ℕ) (fault : ChildFault) → pointer_fault octets ≡ Some fault → pointer_of octets ≡ None
no_pointer (a ∷ b ∷ c ∷ d ∷ count ∷ master ∷ others) fault is =
    let off : is_child_pointer (a ∷ b ∷ c ∷ d ∷ count ∷ master ∷ others) ≡ false = ap is_none is in
    rw off refl
no_pointer (a ∷ b ∷ c ∷ d ∷ count ∷ []) fault is = refl
no_pointer (a ∷ b ∷ c ∷ d ∷ []) fault is = refl
no_pointer (a ∷ b ∷ c ∷ []) fault is = refl
no_pointer (a ∷ b ∷ []) fault is = refl
no_pointer (a ∷ []) fault is = refl
no_pointer [] fault is = refl

pub unreadable : (octets : List ℕ) (fault : ChildFault) → (pointer_fault octets ≡ None → Fault fault ≡ OutOfMemory) → pointer_of octets ≡ None
unreadable octets fault lacking = by (pointer_fault octets) refl
  where
    by : (o : Option ChildFault) → pointer_fault octets ≡ o → pointer_of octets ≡ None
    by (Some f) is = no_pointer octets f is
    by None is = let same : Fault fault ≡ OutOfMemory = lacking is in absurd (cc (same))

-- they add nothing
pub nothing_led : (octets old : List ℕ) → pointer_of octets ≡ None → old ≡ old ++ pointer_words (pointer_of octets)
nothing_led octets old none = sym (append-nil old) ∙ ap (λ (o : Option Pointer). old ++ pointer_words o) (sym none)

-- a pointer, number by number
pub pointer_written : (p : Pointer) (old t t' t'' : List ℕ) → t ≡ old ++ 32 ∷ decimal p.dir → t' ≡ t ++ 32 ∷ decimal p.master
    → t'' ≡ t' ++ spaced_numbers p.others → t'' ≡ old ++ pointer_words (Some p)
pointer_written p old t t' t'' first second rest =
    rest ∙ ap (λ (x : List ℕ). x ++ spaced_numbers p.others) (second ∙ ap (λ (x : List ℕ). x ++ 32 ∷ decimal p.master) first)
    ∙ append_assoc (old ++ 32 ∷ decimal p.dir) (32 ∷ decimal p.master) (spaced_numbers p.others)
    ∙ append_assoc old (32 ∷ decimal p.dir) ((32 ∷ decimal p.master) ++ spaced_numbers p.others)

-- houses, and their numbers
pub houses_spaced : (hs : List HouseNo) → flat_map (λ h. 32 ∷ decimal h.0) hs ≡ spaced_numbers (map (λ h. h.0) hs)
houses_spaced [] = refl
houses_spaced (h ∷ hs) = ap (λ (r : List ℕ). (32 ∷ decimal h.0) ++ r) (houses_spaced hs)

-- an attribute without values tells nothing; another one its name and its values
pub none_written : (n : ℕ) (name : List ℕ) (vs : List (List ℕ)) (old : List ℕ) → length vs ≡ 0 → old ≡ old ++ lines_text n (attr_shown name vs)
none_written n name [] old none = sym (append-nil old)
none_written n name (v ∷ vs) old none = absurd (omega (arith, none))

pub attr_written : (n : ℕ) (name : List ℕ) (vs : List (List ℕ)) (old t t' : List ℕ) → 0 < length vs → t ≡ old ++ line_text n (codes "attr " ++ name)
    → t' ≡ t ++ lines_text n (map (octets_line (codes "value ")) vs) → t' ≡ old ++ lines_text n (attr_shown name vs)
attr_written n name [] old t t' some first rest = absurd (omega (arith, some))
attr_written n name (v ∷ vs) old t t' some first rest =
    let values : List ℕ = lines_text n (map (octets_line (codes "value ")) (v ∷ vs)) in
    rest ∙ ap (λ (x : List ℕ). x ++ values) first ∙ append_assoc old (line_text n (codes "attr " ++ name)) values

-- an entry, line by line
pub entry_written : (n : ℕ) (e : EntryCell) (t0 t1 t2 t3 : List ℕ) → t0 ≡ [] → t1 ≡ t0 ++ line_text n (lead_line e)
    → t2 ≡ t1 ++ lines_text n (each_lines (λ name c. attr_shown name (cell_values c)) e.attrs) → t3 ≡ t2 ++ line_text n (codes "end")
    → t3 ≡ lines_text n (entry_shown e)
entry_written n e t0 t1 t2 t3 none first attrs last =
    let lines : List (List ℕ) = each_lines (λ name c. attr_shown name (cell_values c)) e.attrs in
    written_last n [] t2 t3 (codes "end") (lead_line e ∷ lines)
    (attrs ∙ ap (λ (x : List ℕ). x ++ lines_text n lines) (first ∙ ap (λ (x : List ℕ). x ++ line_text n (lead_line e)) none)) last

-- the entry that shows, or that none does
pub entry_shows : (o : Option EntryCell) (e : EntryCell) → o ≡ Some e → Some (face_of e) ≡ option_and_then shown_entry o → entry_said o ≡ entry_shown e
entry_shows None e is shows = absurd (cc (is))
entry_shows (Some x) e is shows =
    let same : x ≡ e = cc (is) in
    let on : is_some (shown_entry x) ≡ true = ap is_some (sym shows) in
    rw on (ap entry_shown same)

pub none_shows : (o : Option EntryCell) → None ≡ option_and_then shown_entry o → entry_said o ≡ refused why.NoSuchEntry ∷ []
none_shows None none = refl
none_shows (Some x) none =
    let off : is_some (shown_entry x) ≡ false = ap is_some (sym none) in
    rw off refl

pub show_absent : (x : ℕ) (high : Bool) (n : List ℕ) (o : Option DirState) → held_in o ≡ None → show_said x high n o ≡ refused why.NoReplica ∷ []
show_absent x high n None none = refl
show_absent x high n (Some (state.Gone e)) none = refl
show_absent x high n (Some (state.Held h)) none = absurd (cc)

pub show_other : (x : ℕ) (high : Bool) (n : List ℕ) (o : Option DirState) (h : Held) → held_in o ≡ Some h
    → (high && not (master_of (members_of h.members) == x)) ≡ true → show_said x high n o ≡ refused why.NotMaster ∷ []
show_other x high n None h is other = absurd (cc)
show_other x high n (Some (state.Gone e)) h is other = absurd (cc)
show_other x high n (Some (state.Held k)) h is other =
    let same : h ≡ k = cc in
    let on : (high && not (master_of (members_of k.members) == x)) ≡ true =
    subst (λ (k : Held). (high && not (master_of (members_of k.members) == x)) ≡ true) same other in
    rw on refl

pub show_here : (x : ℕ) (high : Bool) (n : List ℕ) (o : Option DirState) (h : Held) → held_in o ≡ Some h
    → (high && not (master_of (members_of h.members) == x)) ≡ false → show_said x high n o ≡ entry_said (get h.replica.table n)
show_here x high n None h is other = absurd (cc)
show_here x high n (Some (state.Gone e)) h is other = absurd (cc)
show_here x high n (Some (state.Held k)) h is other =
    let same : h ≡ k = cc in
    let off : (high && not (master_of (members_of k.members) == x)) ≡ false =
    subst (λ (k : Held). (high && not (master_of (members_of k.members) == x)) ≡ false) same other in
    rw off (ap (λ (k : Held). entry_said (get k.replica.table n)) (sym same))

-- ---- how a directory is

pub status_absent : (o : Option DirState) → held_in o ≡ None → status_said o ≡ refused why.NoReplica ∷ []
status_absent None none = refl
status_absent (Some (state.Gone e)) none = refl
status_absent (Some (state.Held h)) none = absurd (cc)

pub status_held : (o : Option DirState) (h : Held) → held_in o ≡ Some h → status_said o ≡ status_line h ∷ []
status_held None h is = absurd (cc)
status_held (Some (state.Gone e)) h is = absurd (cc)
status_held (Some (state.Held k)) h is =
    let same : k ≡ h = cc in
    ap (λ (h : Held). status_line h ∷ []) same

-- two parts in front of others
pair_before : (t t' a b r all : List ℕ) → t' ≡ t ++ (a ++ b) → all ≡ t' ++ r → all ≡ t ++ (a ++ (b ++ r))
pair_before t t' a b r all first rest =
    rest ∙ ap (λ (x : List ℕ). x ++ r) first ∙ append_assoc t (a ++ b) r ∙ ap (λ (x : List ℕ). t ++ x) (append_assoc a b r)

pub status_written : (h : Held) (old t1 t2 t3 t4 t5 t6 : List ℕ) → t1 ≡ old ++ (codes "ok epoch " ++ decimal h.epoch.0)
    → t2 ≡ t1 ++ (codes " allupto " ++ stamp_or (codes "none") h.replica.all_up_to)
    → t3 ≡ t2 ++ (codes " skulk " ++ stamp_or (codes "none") (running_stamp h.skulk))
    → t4 ≡ t3 ++ (codes " entries " ++ decimal (live_count h.replica.table)) → t5 ≡ t4 ++ codes " members" → t6 ≡ t5 ++ members_text h.members
    → t6 ≡ old ++ status_line h
status_written h old t1 t2 t3 t4 t5 t6 first second third fourth fifth last =
    let members : List ℕ = codes " members" ++ members_text h.members in
    let entries : List ℕ = codes " entries " ++ (decimal (live_count h.replica.table) ++ members) in
    let skulk : List ℕ = codes " skulk " ++ (stamp_or (codes "none") (running_stamp h.skulk) ++ entries) in
    let up_to : List ℕ = codes " allupto " ++ (stamp_or (codes "none") h.replica.all_up_to ++ skulk) in
    let after4 : t6 ≡ t4 ++ members =
    last ∙ ap (λ (x : List ℕ). x ++ members_text h.members) fifth ∙ append_assoc t4 (codes " members") (members_text h.members) in
    let after3 : t6 ≡ t3 ++ entries = pair_before t3 t4 (codes " entries ") (decimal (live_count h.replica.table)) members t6 fourth after4 in
    let after2 : t6 ≡ t2 ++ skulk = pair_before t2 t3 (codes " skulk ") (stamp_or (codes "none") (running_stamp h.skulk)) entries t6 third after3 in
    let after1 : t6 ≡ t1 ++ up_to = pair_before t1 t2 (codes " allupto ") (stamp_or (codes "none") h.replica.all_up_to) skulk t6 second after2 in
    pair_before old t1 (codes "ok epoch ") (decimal h.epoch.0) up_to t6 first after1

-- ---- lines one by one

-- a line of one more of some items, after what was there
pub one_more : {X : Type 0} (n : ℕ) (f : X → List ℕ) (old t t' : List ℕ) (xs : List X) (i : ℕ) (x d : X) → i < length xs → x ≡ get_or xs i d
    → t ≡ old ++ lines_text n (map f (take i xs)) → t' ≡ t ++ line_text n (f x) → t' ≡ old ++ lines_text n (map f (take (i + 1) xs))
one_more {X} n f old t t' xs i x d within is before wrote =
    wrote ∙ ap (λ (r : List ℕ). r ++ line_text n (f x)) before
    ∙ append_assoc old (lines_text n (map f (take i xs))) (line_text n (f x))
    ∙ ap (λ (r : List ℕ). old ++ (lines_text n (map f (take i xs)) ++ r)) (sym (append-nil (line_text n (f x))))
    ∙ ap (λ (r : List ℕ). old ++ r) (sym (flat_map-append (line_text n) (map f (take i xs)) (f x ∷ [])))
    ∙ ap (λ (ls : List (List ℕ)). old ++ lines_text n ls) (sym (map-append f (take i xs) (x ∷ [])))
    ∙ ap (λ (y : X). old ++ lines_text n (map f (take i xs ++ y ∷ []))) is
    ∙ ap (λ (ys : List X). old ++ lines_text n (map f ys)) (sym (take_more xs i d within))

-- a line of two parts
pub line_of_two : (n : ℕ) (a b old t1 t2 t3 t4 : List ℕ) → t1 ≡ old ++ (decimal n ++ 32 ∷ []) → t2 ≡ t1 ++ a → t3 ≡ t2 ++ b → t4 ≡ t3 ++ 10 ∷ []
    → t4 ≡ old ++ line_text n (a ++ b)
line_of_two n a b old t1 t2 t3 t4 begun first second ended =
    ended
    ∙ ap (λ (x : List ℕ). x ++ 10 ∷ [])
    (second ∙ ap (λ (x : List ℕ). x ++ b) first ∙ append_assoc t1 a b ∙ ap (λ (x : List ℕ). x ++ (a ++ b)) begun)
    ∙ line_whole (decimal n) old (a ++ b)

-- and one of three
pub line_of_three : (n : ℕ) (a b c old t1 t2 t3 t4 t5 : List ℕ) → t1 ≡ old ++ (decimal n ++ 32 ∷ []) → t2 ≡ t1 ++ a → t3 ≡ t2 ++ b → t4 ≡ t3 ++ c
    → t5 ≡ t4 ++ 10 ∷ [] → t5 ≡ old ++ line_text n (a ++ (b ++ c))
line_of_three n a b c old t1 t2 t3 t4 t5 begun first second third ended =
    line_of_two n a (b ++ c) old t1 t2 t4 t5 begun first (third ∙ ap (λ (x : List ℕ). x ++ c) second ∙ append_assoc t2 b c) ended

-- of all directories, the lines of the rest are still to be written
abbrev pub DirectoriesLeft : (n : ℕ) → (all rest : List (DirId × DirState)) → (old text : List ℕ) → Type 0
DirectoriesLeft n all rest old text = text ++ lines_text n (map directory_line rest) ≡ old ++ lines_text n (map directory_line all)

pub directories_begin : (n : ℕ) (all rest : List (DirId × DirState)) (old : List ℕ) → rest ≡ all → DirectoriesLeft n all rest old old
directories_begin n all rest old is = ap (λ (ds : List (DirId × DirState)). old ++ lines_text n (map directory_line ds)) is

pub directory_next : (n : ℕ) (all before rest : List (DirId × DirState)) (d : DirId × DirState) (old text text' : List ℕ) → before ≡ d ∷ rest
    → text' ≡ text ++ line_text n (directory_line d) → DirectoriesLeft n all before old text → DirectoriesLeft n all rest old text'
directory_next n all before rest d old text text' is wrote so =
    written_more n text text' (old ++ lines_text n (map directory_line all)) (directory_line d) (map directory_line rest) (map directory_line before)
    (ap (map directory_line) is) wrote so

pub directories_end : (n count : ℕ) (all rest : List (DirId × DirState)) (old text text' : List ℕ) → rest ≡ [] → count ≡ length all
    → DirectoriesLeft n all rest old text → text' ≡ text ++ line_text n (end_line count) → text' ≡ old ++ lines_text n (directories_said all)
directories_end n count all rest old text text' none counted so wrote =
    written_last n old text text' (end_line (length all)) (map directory_line all)
    (sym (append-nil text) ∙ ap (λ (ds : List (DirId × DirState)). text ++ lines_text n (map directory_line ds)) (sym none) ∙ so)
    (wrote ∙ ap (λ (k : ℕ). text ++ line_text n (end_line k)) counted)

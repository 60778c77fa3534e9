-- A script makes houses whose numbers lines can have, so that each house of its cell has such a
-- number.
use Rattle.std.proofs.Common.{◌≡◌, ℕ, ◌+◌, ◌≤◌, Bool, true, false, ◌&&◌, ◌||◌, List, [], ◌∷◌, ◌++◌, map, take, refl, sym, ◌∙◌, ap, subst}
use Rattle.std.proofs.Common.{arith, if◌then◌else◌}
use Rattle.std.specs.Prelude.{Option, None, Some, Ok, Err, Result, codes, nat_le, nat_eq, ◌==◌}
use Rattle.std.specs.List.{AllByRecursion, starts_with}
use Rattle.std.specs.Option.{option_and_then, option_map}
use Rattle.std.specs.Str.{bytes_eq}
use Rattle.std.proofs.lemmas.Bool.Decides.{nat_tests}
use Rattle.std.proofs.lemmas.Bool.{and_parts}
use Rattle.cds_stamps.specs.declared.numbers.HouseNo.{HouseNo}
use Rattle.cds_stamps.specs.Members.{Member}
use Rattle.cell_model.specs.Cells.{Cell, Message}
use Rattle.cell_model.specs.Commands as model
use Rattle.cell_model.specs.Sets.{has}
use Rattle.cell_model.specs.Turns.{accept, new_epoch, skulk, take as take_message}
use Rattle.cell_model.specs.Steps.{Outcome, sorted_houses, at_house, deliver, effect, first_refusal, is_down, left_members, member_list_of, lose, message_at, outcome}
use Rattle.cell_model.specs.Steps.{refusals_of, replay_from, unless, with_directory, with_epoch}
use Rattle.directory.specs.Updates as updates
use Rattle.cell_model.proofs.AtHouses.{at_house-rest}
use Rattle.cell_model.proofs.Lists.{or_true}
use Rattle.cell_script.specs.declared.command.Command.{Command}
use Rattle.cell_script.specs.declared.command.Command.TheVariants as command
use Rattle.cell_script.specs.declared.command.Question.{Question}
use Rattle.cell_script.specs.declared.command.Question.TheVariants as question
use Rattle.cell_script.specs.declared.command.ScriptLine.{ScriptLine}
use Rattle.cell_script.specs.declared.command.ScriptLine.TheVariants as line
use Rattle.cell_script.specs.declared.fault.ParseFault.{ParseFault}
use Rattle.cell_script.specs.CommandRows.{Row, no_command, rows, said_among, said_by, said_in, some_line}
use Rattle.cell_script.specs.WordForms.{◌>>=◌, Builds, Form, One, Many, Encoded}
use Rattle.cell_script.specs.WordForms.{Said, Words, build_words, check_count, is_open, least_of, next_word, read_as, said_at, take_words}
use Rattle.cell_script.specs.Words.{house_of, most_house, number_of, words_of}
use Rattle.ns_commands.specs.Asks.{Asks, add_element, add_member, delete_element, delete_member, export, unexport}
use Rattle.cds_cell.specs.Accepting.{accept_in_turn}
use Rattle.cds_cell.specs.Scripted.{step_of}
use Rattle.script_replay.specs.Replies.{Numbered, does, question_said, steps_of, trusted_reader}
use Rattle.script_replay.specs.Headline.{commands_from}
use Rattle.script_replay.specs.Scripts.{IsScript, Says, IsScriptOf}
use Rattle.command_lines.specs.SayableCommands.{IsHouse}

-- of what comes of something without a fault, this holds
abbrev Holds : {A E : Type 0} → Result A E → (A → Type 0) → Type 0
Holds (Ok x) P = P x
Holds (Err e) P = Unit {0}

-- ---- what lines say

-- what a form of one word says, some word says
abbrev Valid : (f : Form) → Said f → Type 0
Valid (One says) x = (w : List ℕ) × (says w ≡ Some x)
Valid (Many says) x = Unit {0}
Valid Encoded x = Unit {0}

house_valid : (w : List ℕ) (h : HouseNo) → house_of w ≡ Some h → IsHouse h.0
house_valid w h is = by_number (number_of w) is
  where
    by_test : (n : ℕ) (b : Bool) → (nat_le 1 n && nat_le n most_house) ≡ b
        → option_map (λ n. let house : HouseNo = record { 0 = n } in house) (if b then Some n else None) ≡ Some h → IsHouse h.0
    by_test n true within is =
        let parts = and_parts (nat_le 1 n) (nat_le n most_house) within in
        let same : n ≡ h.0 = cc (is) in
        let low : 1 ≤ n = grind (arith, nat_tests, parts.0) in
        let high : n ≤ most_house = grind (arith, nat_tests, parts.1) in
        subst IsHouse same (low, high)
    by_test n false out is = absurd (cc (is))

    by_number : (o : Option ℕ)
        → option_map (λ n. let house : HouseNo = record { 0 = n } in house) (option_and_then (λ n. if nat_le 1 n && nat_le n most_house then Some n else None) o) ≡ Some h
        → IsHouse h.0
    by_number None is = absurd (cc (is))
    by_number (Some n) is = by_test n (nat_le 1 n && nat_le n most_house) refl is

next_valid : {A : Type 0} (says : List ℕ → Option A) (read : ℕ) (ws : List (List ℕ))
    → Holds (next_word says read ws) (λ t. (w : List ℕ) × (says w ≡ Some t.0))
next_valid says read [] = tt
next_valid {A} says read (w ∷ ws) = by_word (says w) refl
  where
    by_word : (o : Option A) → says w ≡ o
        → Holds (said_at (read + 1) o >>= λ x. let t : A × Words = (x, record { read = read + 1; rest = ws }) in Ok t) (λ t. (w : List ℕ) × (says w ≡ Some t.0))
    by_word None is = tt
    by_word (Some x) is = (w, is)

anything : {A E : Type 0} (r : Result A E) → Holds r (λ x. Unit {0})
anything (Ok x) = tt
anything (Err e) = tt

taken_valid : (f : Form) (s : Words) → Holds (take_words f s) (λ t. Valid f t.0)
unfolding take_words
taken_valid (One says) s = next_valid says s.read s.rest
taken_valid (Many says) s = anything (take_words (Many says) s)
taken_valid Encoded s = anything (take_words Encoded s)

-- what is built of what such words say is so
abbrev AllBuilt : {A : Type 0} → (A → Type 0) → (fs : List Form) → Builds fs A → Type 0
AllBuilt Q [] a = Q a
AllBuilt Q (f ∷ fs) build = (x : Said f) → Valid f x → AllBuilt Q fs (build x)

built_all : {A : Type 0} (Q : A → Type 0) (fs : List Form) (build : Builds fs A) → AllBuilt Q fs build → (s : Words) → Holds (build_words fs build s) Q
built_all Q [] a all s = all
built_all {A} Q (f ∷ fs) build all s =
    by_taken (λ x valid rest. built_all Q fs (build x) (all x valid) rest) (take_words f s) (taken_valid f s)
  where
    by_taken : ((x : Said f) → Valid f x → (rest : Words) → Holds (build_words fs (build x) rest) Q)
        → (r : Result (Said f × Words) ParseFault) → Holds r (λ t. Valid f t.0) → Holds (r >>= λ t. build_words fs (build t.0) t.1) Q
    by_taken behind (Ok t) valid = behind t.0 valid t.1
    by_taken behind (Err e) valid = tt

read_all : {A : Type 0} (Q : A → Type 0) (fs : List Form) (build : Builds fs A) → AllBuilt Q fs build → (s : Words) → Holds (read_as fs build s) Q
read_all Q fs build all s = by_count (check_count (is_open fs) (least_of fs) s)
  where
    by_count : (r : Result (Unit {0}) ParseFault) → Holds (r >>= λ _. build_words fs build s) Q
    by_count (Ok u) = built_all Q fs build all s
    by_count (Err e) = tt

-- a line that makes a house gives it such a number
abbrev pub Ranged : ScriptLine → Type 0
Ranged (line.Cell (command.House h node)) = IsHouse h.0
Ranged _ = Unit {0}

-- each of these rows says such lines
abbrev AreRanged : List Row → Type 0
AreRanged [] = Unit {0}
AreRanged (row ∷ rs) = AllBuilt Ranged row.forms row.says × AreRanged rs

rows_ranged : AreRanged rows
rows_ranged = (
  λ h said n _. house_valid said.0 h said.1,
  (
    λ h _ t _. tt,
    (
      λ m _ ls _. tt,
      (
        λ h _ d _ n _ m _ ls _. tt,
        (
          λ h _ d _ n _ m _ rs _. tt,
          (
            λ h _ d _ n _. tt,
            (
              λ h _ d _ n _ t _. tt,
              (
                λ h _ d _ n _. tt,
                (
                  λ h _ d _ n _ a _ v _. tt,
                  (
                    λ h _ d _ n _ a _ v _. tt,
                    (
                      λ h _ d _ n _ a _ v _. tt,
                      (
                        λ h _ d _ n _ a _. tt,
                        (
                          λ d _ m _ ls _. tt,
                          (
                            λ h _ d _. tt,
                            (
                              λ n _. tt,
                              (
                                λ n _. tt,
                                (
                                  λ h _. tt,
                                  (
                                    λ h _. tt,
                                    (
                                      λ h _ c _ n _ a _. tt,
                                      (
                                        λ h _ c _ n _. tt,
                                        (
                                          λ h _ d _. tt,
                                          (
                                            λ q _. tt,
                                            (
                                              λ o _. tt,
                                              (
                                                λ n _ i _ b _ o _. tt,
                                                (
                                                  λ n _ i _ o _. tt,
                                                  (
                                                    λ n _ m _. tt,
                                                    (
                                                      λ n _ m _. tt,
                                                      (
                                                        λ n _ i _ m _ p _ a _. tt,
                                                        (
                                                          λ n _ i _ m _. tt,
                                                          (
                                                            λ h _ c _ n _ i _ o _ p _. tt,
                                                            tt,
                                                          ),
                                                        ),
                                                      ),
                                                    ),
                                                  ),
                                                ),
                                              ),
                                            ),
                                          ),
                                        ),
                                      ),
                                    ),
                                  ),
                                ),
                              ),
                            ),
                          ),
                        ),
                      ),
                    ),
                  ),
                ),
              ),
            ),
          ),
        ),
      ),
    ),
  ),
)

among_ranged : (rs : List Row) → AreRanged rs → (word : List ℕ) (s : Words) → Holds (said_among rs no_command word s) Ranged
among_ranged [] all word s = tt
among_ranged (row ∷ rs) all word s = by_word (among_ranged rs all.1 word s) (bytes_eq word row.word)
  where
    by_word : Holds (said_among rs no_command word s) Ranged
        → (same : Bool) → Holds (if same then read_as row.forms row.says s else said_among rs no_command word s) Ranged
    by_word others true = read_all Ranged row.forms row.says all.0 s
    by_word others false = others

by_ranged : (word : List ℕ) (s : Words) → Holds (said_by word s) Ranged
unfolding said_by
by_ranged word s = among_ranged rows rows_ranged word s

-- what a line says
said_ranged : (ws : List (List ℕ)) (l : ScriptLine) → said_in ws ≡ Ok (Some l) → Ranged l
said_ranged [] l is = absurd (cc (is))
said_ranged (w ∷ ws) l is = by_comment (starts_with nat_eq w (codes "#")) is
  where
    by_saying : (r : Result ScriptLine ParseFault) → Holds r Ranged → some_line r ≡ Ok (Some l) → Ranged l
    by_saying (Ok x) ranged is = let same : x ≡ l = cc (is) in subst Ranged same ranged
    by_saying (Err e) ranged is = absurd (cc (is))

    by_comment : (b : Bool) → (if b then Ok None else some_line (said_by w (record { read = 1; rest = ws }))) ≡ Ok (Some l) → Ranged l
    by_comment true is = absurd (cc (is))
    by_comment false is = by_saying (said_by w (record { read = 1; rest = ws })) (by_ranged w (record { read = 1; rest = ws })) is

-- the lines of a script
pub script_ranged : (number : ℕ) (lines : List (List ℕ)) (said : List Numbered) → IsScript number lines said → AllByRecursion (λ (l : Numbered). Ranged l.says) said
script_ranged number [] said none = subst (AllByRecursion (λ (l : Numbered). Ranged l.says)) (sym none) tt
script_ranged number (l ∷ ls) said is = by_saying (λ said is. script_ranged (number + 1) ls said is) (said_in (words_of l)) refl is.1
  where
    by_saying : ((said : List Numbered) → IsScriptOf said_in (number + 1) ls said → AllByRecursion (λ (l : Numbered). Ranged l.says) said)
        → (r : Result (Option ScriptLine) ParseFault) → said_in (words_of l) ≡ r → Says number r said (IsScriptOf said_in (number + 1) ls)
        → AllByRecursion (λ (l : Numbered). Ranged l.says) said
    by_saying behind (Ok None) same says = behind said says
    by_saying behind (Ok (Some x)) same says =
        subst (AllByRecursion (λ (l : Numbered). Ranged l.says)) (sym says.1) (said_ranged (words_of l) x same, behind says.0 says.2)
    by_saying behind (Err fault) same says = absurd says

-- ---- what commands make

-- a command that makes a house gives it such a number
abbrev pub Makes : model.Command → Type 0
Makes (model.House h node) = IsHouse h
Makes _ = Unit {0}

accepts_make : (h d : ℕ) (us : List updates.Change) → AllByRecursion Makes (map (model.Accept h d) us)
accepts_make h d [] = tt
accepts_make h d (u ∷ us) = (tt, accepts_make h d us)

does_make : (g : Cell) (asks : Asks) → AllByRecursion Makes (does g asks).steps
does_make g (Err r) = tt
does_make g (Ok c) = accepts_make c.house c.dir (take (accept_in_turn g c.house c.dir c.list).count c.list)

question_makes : (g : Cell) (q : Question) → AllByRecursion Makes (question_said g q).steps
question_makes g (question.Read h high name attr) = tt
question_makes g (question.Readlink h high name) = tt
question_makes g (question.Export name interface bindings objects) = does_make g (export (trusted_reader g) name interface bindings objects)
question_makes g (question.Unexport name interface objects) = does_make g (unexport (trusted_reader g) name interface objects)
question_makes g (question.Groupadd name member) = does_make g (add_member (trusted_reader g) name member)
question_makes g (question.Groupdel name member) = does_make g (delete_member (trusted_reader g) name member)
question_makes g (question.Profadd name interface member priority note) = does_make g (add_element (trusted_reader g) name interface member priority note)
question_makes g (question.Profdel name interface member) = does_make g (delete_element (trusted_reader g) name interface member)
question_makes g (question.Import h high name interface object tcp udp) = tt
question_makes g (question.Dump h d) = tt
question_makes g (question.OctetsMsg n) = tt
question_makes g (question.OctetsHouse h) = tt
question_makes g (question.Decode octets) = tt

command_makes : (c : Command) → Ranged (line.Cell c) → Makes (step_of c)
command_makes (command.House h node) ranged = ranged
command_makes (command.Clock h time) ranged = tt
command_makes (command.Root m ls) ranged = tt
command_makes (command.Mkdir h d n m ls) ranged = tt
command_makes (command.Repoint h d n m rs) ranged = tt
command_makes (command.Update h d u) ranged = tt
command_makes (command.Epoch d m ls) ranged = tt
command_makes (command.Skulk h d) ranged = tt
command_makes (command.Deliver n) ranged = tt
command_makes (command.Lose n) ranged = tt
command_makes (command.Crash h) ranged = tt
command_makes (command.Start h) ranged = tt

line_makes : (g : Cell) (l : ScriptLine) → Ranged l → AllByRecursion Makes (steps_of g l)
line_makes g (line.Cell c) ranged = (command_makes c ranged, tt)
line_makes g (line.Question q) ranged = question_makes g q

both_make : (cs ds : List model.Command) → AllByRecursion Makes cs → AllByRecursion Makes ds → AllByRecursion Makes (cs ++ ds)
both_make [] ds first second = second
both_make (c ∷ cs) ds first second = (first.0, both_make cs ds first.1 second)

pub commands_make : (g : Cell) (said : List Numbered) → AllByRecursion (λ (l : Numbered). Ranged l.says) said → AllByRecursion Makes (commands_from steps_of g said)
commands_make g [] all = tt
commands_make g (l ∷ ls) all =
    both_make (steps_of g l.says) (commands_from steps_of (replay_from g (steps_of g l.says)) ls) (line_makes g l.says all.0)
    (commands_make (replay_from g (steps_of g l.says)) ls all.1)

-- ---- the houses that were made

abbrev pub AreHouses : List ℕ → Type 0
AreHouses made = (x : ℕ) → has x made ≡ true → IsHouse x

one_more : (made : List ℕ) (h : ℕ) → AreHouses made → IsHouse h → AreHouses (made ++ h ∷ [])
one_more [] h known is x there = by_test (x == h) refl there
  where
    by_test : (b : Bool) → (x == h) ≡ b → (b || false) ≡ true → IsHouse x
    by_test true same there = let e : h ≡ x = grind (arith, nat_tests, same) in subst IsHouse e is
    by_test false same there = absurd (cc (there))
one_more (y ∷ ys) h known is x there =
    by_test (λ there. one_more ys h (λ z i. known z (or_true (z == y) (has z ys) i)) is x there) (x == y) refl there
  where
    by_test : (has x (ys ++ h ∷ []) ≡ true → IsHouse x) → (b : Bool) → (x == y) ≡ b → (b || has x (ys ++ h ∷ [])) ≡ true → IsHouse x
    by_test behind true same there = known x (ap (λ (c : Bool). c || has x ys) same)
    by_test behind false same there = behind there

directory_made : (o : Outcome) (d m : ℕ) (ms : List Member) (a : model.Answer) → (with_directory o d m ms a).cell.made ≡ o.cell.made
directory_made o d m ms (model.Stamped s ns) = refl
directory_made o d m ms model.Done = refl
directory_made o d m ms (model.Posted ns) = refl
directory_made o d m ms (model.Made e s ns) = refl
directory_made o d m ms (model.NewEpoch e ns) = refl
directory_made o d m ms (model.Taken ns) = refl
directory_made o d m ms (model.Late k e) = refl
directory_made o d m ms (model.Early k e) = refl
directory_made o d m ms (model.Stale t r) = refl
directory_made o d m ms model.NoReplica = refl
directory_made o d m ms model.Foreign = refl
directory_made o d m ms (model.Complete t ns) = refl
directory_made o d m ms (model.Refused r) = refl

epoch_made : (o : Outcome) (d : ℕ) (ms : List Member) (a : model.Answer) → (with_epoch o d ms a).cell.made ≡ o.cell.made
epoch_made o d ms (model.NewEpoch e ns) = refl
epoch_made o d ms model.Done = refl
epoch_made o d ms (model.Posted ns) = refl
epoch_made o d ms (model.Made e s ns) = refl
epoch_made o d ms (model.Stamped s ns) = refl
epoch_made o d ms (model.Taken ns) = refl
epoch_made o d ms (model.Late k e) = refl
epoch_made o d ms (model.Early k e) = refl
epoch_made o d ms (model.Stale t r) = refl
epoch_made o d ms model.NoReplica = refl
epoch_made o d ms model.Foreign = refl
epoch_made o d ms (model.Complete t ns) = refl
epoch_made o d ms (model.Refused r) = refl

delivered_made : (g : Cell) (o : Option Message) → (deliver g o).cell.made ≡ g.made
delivered_made g None = refl
delivered_made g (Some m) = by_down (is_down g m.receiver)
  where
    by_down : (b : Bool) → (if b then record { cell = g; answer = model.Refused model.Down; accepted = [] }
        else at_house g m.receiver (take_message (g.house m.receiver) m)).cell.made ≡ g.made
    by_down true = refl
    by_down false = (at_house-rest g m.receiver (take_message (g.house m.receiver) m)).made

lost_made : (g : Cell) (n : ℕ) (o : Option Message) → (lose g n o).cell.made ≡ g.made
lost_made g n None = refl
lost_made g n (Some m) = refl

same_made : (g : Cell) (made : List ℕ) → made ≡ g.made → AreHouses g.made → AreHouses made
same_made g made is known = subst AreHouses (sym is) known

effect_made : (g : Cell) (c : model.Command) → Makes c → AreHouses g.made → AreHouses (effect g c).cell.made
effect_made g (model.House h node) makes known = one_more g.made h known makes
effect_made g (model.Clock h time) makes known = known
effect_made g (model.Root m rs ss) makes known = known
effect_made g (model.Mkdir h d n m rs ss) makes known =
    let u : updates.Change = updates.MakeChild n (record { dir = g.next_dir; master = m; others = sorted_houses rs }) in
    let o : Outcome = at_house g h (accept h (g.house h) d u) in
    same_made g (with_directory o g.next_dir m (member_list_of [] 1 m rs ss) o.answer).cell.made
    (directory_made o g.next_dir m (member_list_of [] 1 m rs ss) o.answer ∙ (at_house-rest g h (accept h (g.house h) d u)).made) known
effect_made g (model.Repoint h d n m rs) makes known =
    same_made g _ (at_house-rest g h (accept h (g.house h) d (updates.Repoint n m (sorted_houses rs)))).made known
effect_made g (model.Accept h d u) makes known = same_made g _ (at_house-rest g h (accept h (g.house h) d u)).made known
effect_made g (model.Epoch d m rs ss) makes known =
    let ms : List Member = member_list_of (g.present d) (g.top d + 1) m rs ss in
    let s = new_epoch m (g.house m) d (g.top d + 1) ms (left_members (g.present d) ms) in
    let o : Outcome = at_house g m s in
    same_made g (with_epoch o d ms o.answer).cell.made (epoch_made o d ms o.answer ∙ (at_house-rest g m s).made) known
effect_made g (model.Skulk h d) makes known = same_made g _ (at_house-rest g h (skulk h (g.house h) d)).made known
effect_made g (model.Deliver n) makes known = same_made g _ (delivered_made g (message_at g n)) known
effect_made g (model.Lose n) makes known = same_made g _ (lost_made g n (message_at g n)) known
effect_made g (model.Crash h) makes known = known
effect_made g (model.Start h) makes known = known

outcome_made : (g : Cell) (c : model.Command) → Makes c → AreHouses g.made → AreHouses (outcome g c).cell.made
outcome_made g c makes known = by_refusal (first_refusal (refusals_of g c))
  where
    by_refusal : (r : Option model.Refusal) → AreHouses (unless g r (effect g c)).cell.made
    by_refusal None = effect_made g c makes known
    by_refusal (Some r) = known

-- each house that such commands make has such a number
pub run_made : (cs : List model.Command) (g : Cell) → AllByRecursion Makes cs → AreHouses g.made → AreHouses (replay_from g cs).made
run_made [] g all known = known
run_made (c ∷ cs) g all known = run_made cs (outcome g c).cell all.1 (outcome_made g c all.0 known)

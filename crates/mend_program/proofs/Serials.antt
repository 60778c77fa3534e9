-- How many messages the lines of a script post: so few that serial numbers are left for those that
-- mend a directory.
use Rattle.std.proofs.Common.{◌≡◌, ℕ, ◌+◌, ◌*◌, ◌≤◌, Bool, true, false, zero, suc, List, [], ◌∷◌, ◌++◌, map, length, take, refl, sym, ap, subst}
use Rattle.std.proofs.Common.{append_assoc, arith, length-append}
use Rattle.std.proofs.lemmas.List.{length-map}
use Rattle.std.specs.Prelude.{filter, is_none, Option, None, Some, Ok, Err, Result}
use Rattle.std.specs.List.{AllByRecursion}
use Rattle.cds_stamps.specs.Ascending.{in_ascending_order}
use Rattle.cds_stamps.proofs.AscendingLaws.{ascending-filter}
use Rattle.directory.specs.EntryChanges.{creation}
use Rattle.directory.specs.Updates as changes
use Rattle.cell_model.specs.Cells.{Cell, empty_cell}
use Rattle.cell_model.specs.Commands as model
use Rattle.cell_model.specs.Commands.{Accepted, Command}
use Rattle.cell_model.specs.Steps.{accepted_updates, outcome, replay, replay_from}
use Rattle.cell_model.proofs.Lists.{append_nil}
use Rattle.cell_model.proofs.Runs.{accepted-append, replay-append}
use Rattle.cell_script.specs.declared.command.Question.{Question}
use Rattle.cell_script.specs.declared.command.Question.TheVariants as question
use Rattle.cell_script.specs.declared.command.ScriptLine.{ScriptLine}
use Rattle.cell_script.specs.declared.command.ScriptLine.TheVariants as line
use Rattle.cell_script.specs.declared.fault.ParseFault.{ParseFault}
use Rattle.cell_script.specs.CommandRows.{said_in}
use Rattle.cell_script.specs.Words.{words_of}
use Rattle.resolver.specs.declared.seen.Found.{Found}
use Rattle.resolver.specs.WalkEnds.{walk_end, place_of_walk}
use Rattle.script_answers.specs.declared.answer.ScriptRefusal.{ScriptRefusal}
use Rattle.tower_codec.specs.declared.binding.StringBinding.{StringBinding}
use Rattle.tower_codec.specs.declared.rpc.Interface.{Interface}
use Rattle.server_entries.specs.Exports.{export_changes, export_fault, object_added, object_attribute, object_goes, tower_added, tower_attribute, tower_goes, unexport_changes}
use Rattle.server_entries.specs.Exports.{unexport_fault}
use Rattle.ns_groups.specs.Groups as groups_of
use Rattle.ns_profiles.specs.Profiles as profiles_of
use Rattle.ns_commands.specs.Asks.{Asks, add_element, add_member, changes_unless, delete_element, delete_member, deleted_from, export, fills, object_in, of_entry, place_to_fill}
use Rattle.ns_commands.specs.Asks.{refusal_of_export, refusal_of_group, refusal_of_profile, unexport, unless, unless_none}
use Rattle.std.specs.Option.{option_map}
use Rattle.cds_cell.specs.Accepting.{accept_in_turn}
use Rattle.cds_cell.specs.Scripted.{step_of}
use Rattle.script_replay.specs.Replies.{Numbered, does, question_said, steps_of, trusted_reader}
use Rattle.script_replay.specs.Headline.{commands_from, commands_of}
use Rattle.script_replay.specs.Scripts.{IsScript, IsScriptOf, Says}
use Rattle.mend_program.proofs.ExportLines.{IsShort, line_numbered, line_short}
use Rattle.mend_program.proofs.Posts.{command_gains, command_posts, update_posts}
use Rattle.mend_program.proofs.Values.{gain, made_both, made_in, ordered_few, update_gains, values_made}

-- ---- commands

-- the messages that commands post, and the values that they make present
abbrev posted : List Command → ℕ
posted cs = length (replay cs).bag

abbrev made : List Command → ℕ
made cs = length (made_in (accepted_updates cs))

one_posted : (cs : List Command) (c : Command) (n : ℕ) → length (outcome (replay cs) c).cell.bag ≤ posted cs + n → posted (cs ++ c ∷ []) ≤ posted cs + n
one_posted cs c n few = subst (λ (g : Cell). length g.bag ≤ posted cs + n) (sym (replay-append cs (c ∷ []) empty_cell)) few

one_made : (cs : List Command) (c : Command) (n : ℕ) → length (made_in (outcome (replay cs) c).accepted) ≤ n → made (cs ++ c ∷ []) ≤ made cs + n
one_made cs c n few =
    let is : made (cs ++ c ∷ []) ≡ length (made_in (accepted_updates cs ++ ((outcome (replay cs) c).accepted ++ []))) =
    ap (λ (l : List Accepted). length (made_in l)) (accepted-append cs (c ∷ []) empty_cell) in
    let one = made_both (accepted_updates cs) ((outcome (replay cs) c).accepted ++ []) in
    let two = made_both (outcome (replay cs) c).accepted [] in
    omega (arith, is, one, two, few)

-- ---- lists of updates

-- how many values updates make present at most
abbrev gains : List changes.Change → ℕ
gains [] = 0
gains (u ∷ us) = gain u + gains us

updates_posted : (us : List changes.Change) (cs : List Command) (h d : ℕ) → posted (cs ++ map (model.Accept h d) us) ≤ posted cs + 64 * length us
updates_posted [] cs h d = subst (λ (l : List Command). posted l ≤ posted cs + 0) (sym (append_nil cs)) (omega arith)
updates_posted (u ∷ us) cs h d =
    let one = one_posted cs (model.Accept h d u) 64 (update_posts cs h d u) in
    let rest = updates_posted us (cs ++ model.Accept h d u ∷ []) h d in
    subst (λ (l : List Command). posted l ≤ posted cs + 64 * length (u ∷ us)) (append_assoc cs (model.Accept h d u ∷ []) (map (model.Accept h d) us))
    (omega (arith, one, rest))

updates_made : (us : List changes.Change) (cs : List Command) (h d : ℕ) → made (cs ++ map (model.Accept h d) us) ≤ made cs + gains us
updates_made [] cs h d = subst (λ (l : List Command). made l ≤ made cs + 0) (sym (append_nil cs)) (omega arith)
updates_made (u ∷ us) cs h d =
    let one = one_made cs (model.Accept h d u) (gain u) (update_gains (replay cs) h d u) in
    let rest = updates_made us (cs ++ model.Accept h d u ∷ []) h d in
    subst (λ (l : List Command). made l ≤ made cs + gains (u ∷ us)) (append_assoc cs (model.Accept h d u ∷ []) (map (model.Accept h d) us))
    (omega (arith, one, rest))

taken_few : (n : ℕ) (us : List changes.Change) → (length (take n us) ≤ length us) × (gains (take n us) ≤ gains us)
taken_few zero us = (omega arith, omega arith)
taken_few (suc n) [] = (omega arith, omega arith)
taken_few (suc n) (u ∷ us) = let rest = taken_few n us in let length_rest = rest.0 in let gains_rest = rest.1 in (omega (arith, length_rest), omega (arith, gains_rest))

gains_both : (us vs : List changes.Change) → gains (us ++ vs) ≡ gains us + gains vs
gains_both [] vs = omega arith
gains_both (u ∷ us) vs = let rest = gains_both us vs in omega (arith, rest)

gain_few : (u : changes.Change) → gain u ≤ 1
gain_few (changes.Create n) = omega arith
gain_few (changes.MakeLink n target) = omega arith
gain_few (changes.MakeChild n pointer) = omega arith
gain_few (changes.Delete n) = omega arith
gain_few (changes.Add n a v) = omega arith
gain_few (changes.Remove n a v) = omega arith
gain_few (changes.Put n a v) = omega arith
gain_few (changes.Clear n a) = omega arith
gain_few (changes.Repoint n master others) = omega arith

gains_few : (us : List changes.Change) → gains us ≤ length us
gains_few [] = omega arith
gains_few (u ∷ us) = let one = gain_few u in let rest = gains_few us in omega (arith, one, rest)

removals_gain : (n a : List ℕ) (vs : List (List ℕ)) → gains (map (changes.Remove n a) vs) ≡ 0
removals_gain n a [] = refl
removals_gain n a (v ∷ vs) = let rest = removals_gain n a vs in omega (arith, rest)

-- ---- what commands of the name service ask for

-- a list of updates is modest, where so many values were made present before
record IsModest (values : ℕ) (us : List changes.Change) : Type 0 where
  pub few : length us ≤ 403 + 2 * values
  pub gained : gains us ≤ 403

abbrev Modest : (values : ℕ) → Asks → Type 0
Modest values (Err r) = Unit {0}
Modest values (Ok c) = IsModest values c.list

modest_unless : (values : ℕ) (o : Option ScriptRefusal) (asks : Asks) → Modest values asks → Modest values (unless o asks)
modest_unless values None asks modest = modest
modest_unless values (Some fault) asks modest = tt

modest_entry : {Entry : Type 0} (values : ℕ) (r : Result Entry ScriptRefusal) (ask : Entry → Asks) → ((entry : Entry) → Modest values (ask entry))
    → Modest values (of_entry r ask)
modest_entry values (Ok entry) ask modest = modest entry
modest_entry values (Err r) ask modest = tt

-- a list that is short in any case
short_modest : (values : ℕ) (us : List changes.Change) → length us ≤ 403 → IsModest values us
short_modest values us few = let less = gains_few us in record { few = omega (arith, few); gained = omega (arith, few, less) }

created : (n : List ℕ) (absent : Bool) → length (creation n absent) ≤ 1
created n true = omega arith
created n false = omega arith

made_short : (values : ℕ) (n : List ℕ) (absent : Bool) (u : changes.Change) → IsModest values (creation n absent ++ u ∷ [])
made_short values n absent u =
    let count = length-append (creation n absent) (u ∷ []) in
    let one = created n absent in short_modest values (creation n absent ++ u ∷ []) (omega (arith, count, one))

three_few : (first second third : List changes.Change) → length first ≤ 1 → length (first ++ second ++ third) ≤ 1 + (length second + length third)
three_few first second third one =
    let whole = length-append (first ++ second) third in
    let front = length-append first second in omega (arith, whole, front, one)

export_modest : (values : ℕ) (n : List ℕ) (absent : Bool) (interface : Interface) (bindings : List StringBinding) (objects : List (List ℕ))
    → length bindings + length objects ≤ 402 → IsModest values (export_changes n absent interface bindings objects)
export_modest values n absent interface bindings objects few =
    let count : length (export_changes n absent interface bindings objects)
    ≤ 1 + (length (map (tower_added n interface) bindings) + length (map (object_added n) objects)) =
    three_few (creation n absent) (map (tower_added n interface) bindings) (map (object_added n) objects) (created n absent) in
    let first = length-map bindings (tower_added n interface) in
    let second = length-map objects (object_added n) in
    short_modest values (export_changes n absent interface bindings objects) (omega (arith, count, first, second, few))

module _ (cs : List Command) where
  removed_few : (at : Found) (a : List ℕ) (p : List ℕ → Bool) → length (in_ascending_order (filter p ((trusted_reader (replay cs)).values at a))) ≤ made cs
  removed_few at a p = ordered_few p ((trusted_reader (replay cs)).values at a) (made_in (accepted_updates cs)) (values_made cs at a)

  unexport_modest : (at : Found) (interface : Option Interface) (objects : List (List ℕ)) → IsModest (made cs)
      (unexport_changes at.name ((trusted_reader (replay cs)).values at tower_attribute) ((trusted_reader (replay cs)).values at object_attribute) interface objects)
  unexport_modest at interface objects =
      let towers : List (List ℕ) = in_ascending_order (filter (tower_goes interface) ((trusted_reader (replay cs)).values at tower_attribute)) in
      let held : List (List ℕ) = in_ascending_order (filter (object_goes objects) ((trusted_reader (replay cs)).values at object_attribute)) in
      let first : length towers ≤ made cs = removed_few at tower_attribute (tower_goes interface) in
      let second : length held ≤ made cs = removed_few at object_attribute (object_goes objects) in
      let whole = length-append (map (changes.Remove at.name tower_attribute) towers) (map (changes.Remove at.name object_attribute) held) in
      let one = length-map towers (changes.Remove at.name tower_attribute) in
      let two = length-map held (changes.Remove at.name object_attribute) in
      let both = gains_both (map (changes.Remove at.name tower_attribute) towers) (map (changes.Remove at.name object_attribute) held) in
      let none = removals_gain at.name tower_attribute towers in
      let no_more = removals_gain at.name object_attribute held in
      record { few = omega (arith, whole, one, two, first, second); gained = omega (arith, both, none, no_more) }

  unexport_asked : (at : Found) (interface : Option Interface) (objects : List (List ℕ)) → Modest (made cs) (unless_none at
      (unexport_changes at.name ((trusted_reader (replay cs)).values at tower_attribute) ((trusted_reader (replay cs)).values at object_attribute) interface objects))
  unexport_asked at interface objects =
      let gone : List changes.Change =
      unexport_changes at.name ((trusted_reader (replay cs)).values at tower_attribute) ((trusted_reader (replay cs)).values at object_attribute) interface objects in
      modest_unless (made cs) (option_map refusal_of_export (unexport_fault gone)) (Ok (record { house = at.house.0; dir = at.dir.0; list = gone }))
      (unexport_modest at interface objects)

  deletion_modest : (at : Found) (interface : Option Interface) (member : List (List ℕ))
      → IsModest (made cs) (profiles_of.element_deletion at.name interface member ((trusted_reader (replay cs)).values at profiles_of.profile))
  deletion_modest at interface member =
      let values : List (List ℕ) = (trusted_reader (replay cs)).values at profiles_of.profile in
      let gone : List (List ℕ) = in_ascending_order (filter (profiles_of.is_element interface member) values) in
      let few : length gone ≤ made cs = removed_few at profiles_of.profile (profiles_of.is_element interface member) in
      let same : filter (profiles_of.is_element interface member) (in_ascending_order values) ≡ gone =
      sym (ascending-filter (profiles_of.is_element interface member) values) in
      let one = length-map gone (changes.Remove at.name profiles_of.profile) in
      let none = removals_gain at.name profiles_of.profile gone in
      subst (λ (l : List (List ℕ)). IsModest (made cs) (map (changes.Remove at.name profiles_of.profile) l)) (sym same)
      (record { few = omega (arith, one, few); gained = omega (arith, none) })

  does_counts : (asks : Asks) → Modest (made cs) asks
      → (posted (cs ++ (does (replay cs) asks).steps) ≤ posted cs + 64 * (403 + 2 * made cs)) × (made (cs ++ (does (replay cs) asks).steps) ≤ made cs + 403)
  does_counts (Err r) modest =
      let same : posted (cs ++ []) ≡ posted cs = ap (λ (l : List Command). posted l) (append_nil cs) in
      let made_same : made (cs ++ []) ≡ made cs = ap (λ (l : List Command). made l) (append_nil cs) in
      (omega (arith, same), omega (arith, made_same))
  does_counts (Ok c) modest =
      let n : ℕ = (accept_in_turn (replay cs) c.house c.dir c.list).count in
      let less = taken_few n c.list in
      let shorter : length (take n c.list) ≤ length c.list = less.0 in
      let fewer : gains (take n c.list) ≤ gains c.list = less.1 in
      let most = modest.few in
      let made_most = modest.gained in
      let first = updates_posted (take n c.list) cs c.house c.dir in
      let second = updates_made (take n c.list) cs c.house c.dir in
      (omega (arith, first, shorter, most), omega (arith, second, fewer, made_most))

-- ---- lines

-- what a line adds
record Adds (cs more : List Command) : Type 0 where
  pub messages : posted (cs ++ more) ≤ posted cs + 64 * (403 + 2 * made cs)
  pub values : made (cs ++ more) ≤ made cs + 403

adds_nothing : (cs : List Command) → Adds cs []
adds_nothing cs =
    let same : posted (cs ++ []) ≡ posted cs = ap (λ (l : List Command). posted l) (append_nil cs) in
    let made_same : made (cs ++ []) ≡ made cs = ap (λ (l : List Command). made l) (append_nil cs) in
    record { messages = omega (arith, same); values = omega (arith, made_same) }

by_asks : (cs : List Command) (asks : Asks) → Modest (made cs) asks → Adds cs (does (replay cs) asks).steps
by_asks cs asks modest = let p = does_counts cs asks modest in record { messages = p.0; values = p.1 }

question_adds : (cs : List Command) (q : Question) → IsShort (line.Question q) → Adds cs (question_said (replay cs) q).steps
question_adds cs (question.Read h high name attr) short = adds_nothing cs
question_adds cs (question.Readlink h high name) short = adds_nothing cs
question_adds cs (question.Export name interface bindings objects) short =
    by_asks cs (export (trusted_reader (replay cs)) name interface bindings objects)
    (modest_unless (made cs) (option_map refusal_of_export (export_fault bindings objects)) _
    (modest_entry (made cs) (place_to_fill (place_of_walk (trusted_reader (replay cs)) name))
    (λ place. fills place (export_changes place.name (is_none place.kind) interface bindings objects))
    (λ place. export_modest (made cs) place.name (is_none place.kind) interface bindings objects short)))
question_adds cs (question.Unexport name interface objects) short =
    by_asks cs (unexport (trusted_reader (replay cs)) name interface objects)
    (modest_entry (made cs) (object_in (walk_end (trusted_reader (replay cs)) true name))
    (λ entry. unless_none entry (unexport_changes entry.name ((trusted_reader (replay cs)).values entry tower_attribute)
    ((trusted_reader (replay cs)).values entry object_attribute) interface objects))
    (λ entry. unexport_asked cs entry interface objects))
question_adds cs (question.Groupadd name member) short =
    by_asks cs (add_member (trusted_reader (replay cs)) name member)
    (modest_entry (made cs) (place_to_fill (place_of_walk (trusted_reader (replay cs)) name))
    (λ place. fills place (groups_of.member_addition place.name (is_none place.kind) member))
    (λ place. made_short (made cs) place.name (is_none place.kind) _))
question_adds cs (question.Groupdel name member) short =
    by_asks cs (delete_member (trusted_reader (replay cs)) name member)
    (modest_entry (made cs) (object_in (walk_end (trusted_reader (replay cs)) true name))
    (λ entry. changes_unless (option_map refusal_of_group (groups_of.delete_fault ((trusted_reader (replay cs)).values entry groups_of.group) member)) entry
    (groups_of.member_deletion entry.name member))
    (λ entry. modest_unless (made cs) (option_map refusal_of_group (groups_of.delete_fault ((trusted_reader (replay cs)).values entry groups_of.group) member)) _
    (short_modest (made cs) (groups_of.member_deletion entry.name member) (omega arith))))
question_adds cs (question.Profadd name interface member priority note) short =
    by_asks cs (add_element (trusted_reader (replay cs)) name interface member priority note)
    (modest_unless (made cs) (option_map refusal_of_profile (profiles_of.add_fault interface member priority note)) _
    (modest_entry (made cs) (place_to_fill (place_of_walk (trusted_reader (replay cs)) name))
    (λ place. fills place (profiles_of.element_addition place.name (is_none place.kind) (profiles_of.new_element interface member priority note)))
    (λ place. made_short (made cs) place.name (is_none place.kind) _)))
question_adds cs (question.Profdel name interface member) short =
    by_asks cs (delete_element (trusted_reader (replay cs)) name interface member)
    (modest_entry (made cs) (object_in (walk_end (trusted_reader (replay cs)) true name))
    (λ entry. deleted_from interface member entry ((trusted_reader (replay cs)).values entry profiles_of.profile))
    (λ entry. modest_unless (made cs) (option_map refusal_of_profile (profiles_of.delete_fault interface member ((trusted_reader (replay cs)).values entry profiles_of.profile))) _
    (deletion_modest cs entry interface member)))
question_adds cs (question.Import h high name interface object tcp udp) short = adds_nothing cs
question_adds cs (question.Dump h d) short = adds_nothing cs
question_adds cs (question.OctetsMsg n) short = adds_nothing cs
question_adds cs (question.OctetsHouse h) short = adds_nothing cs
question_adds cs (question.Decode octets) short = adds_nothing cs

line_adds : (cs : List Command) (l : ScriptLine) → IsShort l → Adds cs (steps_of (replay cs) l)
line_adds cs (line.Cell c) short =
    let first = one_posted cs (step_of c) 128 (command_posts cs (step_of c)) in
    let second = one_made cs (step_of c) 1 (command_gains cs (step_of c)) in
    record { messages = omega (arith, first); values = omega (arith, second) }
line_adds cs (line.Question q) short = question_adds cs q short

-- ---- scripts

-- after n lines there are at most so many values that were made present, and so many messages
record IsWithin (n : ℕ) (cs : List Command) : Type 0 where
  pub values : made cs ≤ 403 * n
  pub messages : posted cs ≤ 865435935936 * n

within_lines : (ls : List Numbered) (n : ℕ) (cs : List Command) → n + length ls ≤ 16777216 → AllByRecursion (λ (l : Numbered). IsShort l.says) ls → IsWithin n cs
    → IsWithin (n + length ls) (cs ++ commands_from steps_of (replay cs) ls)
within_lines [] n cs few short within = subst (λ (l : List Command). IsWithin (n + 0) l) (sym (append_nil cs)) (let values = within.values in let messages = within.messages in record { values = omega (arith, values); messages = omega (arith, messages) })
within_lines (l ∷ ls) n cs few short within =
    let steps : List Command = steps_of (replay cs) l.says in
    let adds = line_adds cs l.says short.0 in
    let values = within.values in
    let messages = within.messages in
    let more_values = adds.values in
    let more_messages = adds.messages in
    let next : IsWithin (n + 1) (cs ++ steps) =
    record { values = omega (arith, values, more_values); messages = omega (arith, values, messages, more_messages, few) } in
    let rest = within_lines ls (n + 1) (cs ++ steps) (omega (arith, few)) short.1 next in
    let cell : replay (cs ++ steps) ≡ replay_from (replay cs) steps = replay-append cs steps empty_cell in
    let count : (n + 1) + length ls ≡ n + length (l ∷ ls) = omega arith in
    subst (λ (k : ℕ). IsWithin k (cs ++ (steps ++ commands_from steps_of (replay_from (replay cs) steps) ls))) count
    (subst (λ (m : List Command). IsWithin ((n + 1) + length ls) m) (append_assoc cs steps (commands_from steps_of (replay_from (replay cs) steps) ls))
    (subst (λ (g : Cell). IsWithin ((n + 1) + length ls) ((cs ++ steps) ++ commands_from steps_of g ls)) cell rest))

-- what the lines of a script say, and how many of them say something
script_short : (number : ℕ) (lines : List (List ℕ)) (said : List Numbered) → IsScript number lines said
    → AllByRecursion (λ (l : Numbered). IsShort l.says) said × (length said ≤ length lines)
script_short number [] said none = subst (λ (s : List Numbered). AllByRecursion (λ (l : Numbered). IsShort l.says) s × (length s ≤ 0)) (sym none) (tt, omega arith)
script_short number (l ∷ ls) said is = by_saying (λ said is. script_short (number + 1) ls said is) (said_in (words_of l)) refl is.1
  where
    by_saying : ((said : List Numbered) → IsScriptOf said_in (number + 1) ls said → AllByRecursion (λ (l : Numbered). IsShort l.says) said × (length said ≤ length ls))
        → (r : Result (Option ScriptLine) ParseFault) → said_in (words_of l) ≡ r → Says number r said (IsScriptOf said_in (number + 1) ls)
        → AllByRecursion (λ (l : Numbered). IsShort l.says) said × (length said ≤ length (l ∷ ls))
    by_saying behind (Ok None) same says = let rest = behind said says in let fewer = rest.1 in (rest.0, omega (arith, fewer))
    by_saying behind (Ok (Some x)) same says =
        let rest = behind says.0 says.2 in
        let fewer = rest.1 in
        subst (λ (s : List Numbered). AllByRecursion (λ (l : Numbered). IsShort l.says) s × (length s ≤ length (l ∷ ls))) (sym says.1)
        ((line_short number l x is.0 same, rest.0), omega (arith, fewer))
    by_saying behind (Err fault) same says = absurd says

-- each line has a number
lines_few : (number : ℕ) (lines : List (List ℕ)) (said : List Numbered) → number ≤ 16777217 → IsScript number lines said → number + length lines ≤ 16777217
lines_few number [] said low none = omega (arith, low)
lines_few number (l ∷ ls) said low is = by_saying (λ said is at. lines_few (number + 1) ls said at is) (said_in (words_of l)) is.1
  where
    here : number ≤ 16777216
    here = line_numbered number l is.0

    by_saying : ((said : List Numbered) → IsScriptOf said_in (number + 1) ls said → number + 1 ≤ 16777217 → (number + 1) + length ls ≤ 16777217)
        → (r : Result (Option ScriptLine) ParseFault) → Says number r said (IsScriptOf said_in (number + 1) ls) → number + length (l ∷ ls) ≤ 16777217
    by_saying behind (Ok None) says = let least = here in let rest = behind said says (omega (arith, least)) in omega (arith, rest)
    by_saying behind (Ok (Some x)) says = let least = here in let rest = behind says.0 says.2 (omega (arith, least)) in omega (arith, rest)
    by_saying behind (Err fault) says = absurd says

-- a script posts so few messages that there are serials left
pub serials_left : (lines : List (List ℕ)) (said : List Numbered) → IsScript 1 lines said → length (replay (commands_of said)).bag + 315 ≤ 18446744073709551615
serials_left lines said script =
    let short = script_short 1 lines said script in
    let fewer = short.1 in
    let few = lines_few 1 lines said (omega arith) script in
    let within = within_lines said 0 [] (omega (arith, few, fewer)) short.0 (record { values = omega arith; messages = omega arith }) in
    let messages : length (replay (commands_of said)).bag ≤ 865435935936 * (0 + length said) = within.messages in
    omega (arith, messages, few, fewer)

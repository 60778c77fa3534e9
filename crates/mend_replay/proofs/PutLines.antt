-- Lines that are put after others.
use Rattle.std.proofs.Common.{◌≡◌, ℕ, suc, ◌+◌, ◌-◌, ◌<◌, Bool, true, false, List, [], ◌∷◌, ◌++◌, map, length, refl, sym, ◌∙◌, ap, arith, append_assoc}
use Rattle.std.proofs.Common.{append-nil, if◌then◌else◌}
use Rattle.std.specs.Prelude.{count_by, not, ◌==◌}
use Rattle.std.proofs.lemmas.List.Sums.{sum_by-cons}
use Rattle.cds_stamps.specs.Members.{Member, members_of, others_of, secondaries_of}
use Rattle.cds_stamps.specs.declared.members.Member as declared
use Rattle.cds_stamps.specs.declared.numbers.HouseNo.{HouseNo}
use Rattle.cell_model.specs.Cells.{Cell}
use Rattle.cell_model.specs.Commands.{Command, Deliver, Epoch, Start}
use Rattle.cell_model.specs.Mending.{deliver_commands, start_commands}
use Rattle.cell_model.specs.Steps.{is_down}
use Rattle.cell_script.specs.declared.command.Command.TheVariants as script
use Rattle.cell_script.specs.declared.lists.Listed.{Listed}
use Rattle.script_answers.specs.Texts.{unwords}
use Rattle.command_lines.specs.CommandTexts.{command_words as script_words}
use Rattle.command_lines.specs.ListedMembers.{listed_others}
use Rattle.mend_replay.specs.MendLines.{command_line, command_lines, command_words}
use Rattle.mend_replay.specs.PrivateLines.{AreOrdered, IsScriptWith}
use Rattle.mend_replay.proofs.MemberKinds.{kinds_known, listed_match, once_ordered}

-- the line of one command
pub put_line : (old new : List ℕ) (c : Command) (ws : List (List ℕ)) → ws ≡ command_words c → new ≡ old ++ (unwords ws ++ 10 ∷ [])
    → IsScriptWith old new (c ∷ [])
put_line old new c ws words is =
    is ∙ ap (λ (us : List (List ℕ)). old ++ (unwords us ++ 10 ∷ [])) words
    ∙ ap (λ (l : List ℕ). old ++ l) (sym (append-nil (command_line c ++ 10 ∷ [])))

-- the line of an epoch of members that are in ascending order has the others of its master
pub put_epoch : (old new : List ℕ) (d m : ℕ) (ms : List declared.Member) (ls : List Listed) → AreOrdered (members_of ms) → ls ≡ listed_others (record { 0 = m }) ms
    → new ≡ old ++ (unwords (script_words (script.Epoch (record { 0 = d }) (record { 0 = m }) ls)) ++ 10 ∷ [])
    → IsScriptWith old new (Epoch d m (others_of m (members_of ms)) (secondaries_of (members_of ms)) ∷ [])
put_epoch old new d m ms ls ordered are is =
    let listed_so = are ∙ listed_match (secondaries_of (members_of ms)) (record { 0 = m }) ms (kinds_known (members_of ms) (once_ordered 1 0 (members_of ms) ordered)) in
    put_line old new (Epoch d m (others_of m (members_of ms)) (secondaries_of (members_of ms)))
    (script_words (script.Epoch (record { 0 = d }) (record { 0 = m }) ls))
    (ap (λ (ls : List Listed). script_words (script.Epoch (record { 0 = d }) (record { 0 = m }) ls)) listed_so) is

-- ---- one more of several

-- what is left of the lines of a list of commands, once this much is
abbrev pub Left : (all now : List ℕ) → List Command → Type 0
Left all now cs = now ++ command_lines cs ≡ all

pub left_none : (all now : List ℕ) → Left all now [] → now ≡ all
left_none all now left = sym (append-nil now) ∙ left

pub left_one : (all now next : List ℕ) (c : Command) (cs ds : List Command) → cs ≡ c ∷ ds → Left all now cs → IsScriptWith now next (c ∷ []) → Left all next ds
left_one all now next c cs ds is left put =
    ap (λ (l : List ℕ). l ++ command_lines ds) put
    ∙ append_assoc now ((command_line c ++ 10 ∷ []) ++ []) (command_lines ds)
    ∙ ap (λ (l : List ℕ). now ++ (l ++ command_lines ds)) (append-nil (command_line c ++ 10 ∷ []))
    ∙ ap (λ (es : List Command). now ++ command_lines es) (sym is) ∙ left

-- one delivery more
pub next_delivery : (first end : ℕ) → first < end → deliver_commands first (end - first) ≡ Deliver (first + 1) ∷ deliver_commands (first + 1) (end - (first + 1))
next_delivery first end less =
    ap (deliver_commands first) (let e : end - first ≡ suc (end - (first + 1)) = omega (arith, less) in e)

-- a house that is down, and one that is up
pub next_start : (g : Cell) (y : Member) (ys : List Member) → is_down g y.house ≡ true → start_commands g (y ∷ ys) ≡ Start y.house ∷ start_commands g ys
next_start g y ys down = ap (λ (b : Bool). if b then Start y.house ∷ start_commands g ys else start_commands g ys) down

pub no_start : (g : Cell) (y : Member) (ys : List Member) → is_down g y.house ≡ false → start_commands g (y ∷ ys) ≡ start_commands g ys
no_start g y ys up = ap (λ (b : Bool). if b then Start y.house ∷ start_commands g ys else start_commands g ys) up

-- ---- how many others there are

pub count_others : (m : ℕ) (ms : List Member) → count_by (λ (y : Member). not (y.house == m)) ms ≡ length (others_of m ms)
count_others m [] = refl
count_others m (y ∷ ys) =
    sum_by-cons (λ (z : Member). if not (z.house == m) then 1 else 0) y ys ∙ by_house (count_others m ys) (y.house == m)
  where
    by_house : count_by (λ (y : Member). not (y.house == m)) ys ≡ length (others_of m ys) → (b : Bool)
        → (if not b then 1 else 0) + count_by (λ (y : Member). not (y.house == m)) ys ≡ length (if b then others_of m ys else y.house ∷ others_of m ys)
    by_house rest true = omega (arith, rest)
    by_house rest false = omega (arith, rest)

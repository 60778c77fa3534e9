-- From line to line each answer that is kept stays honest.
use Rattle.std.proofs.Common.{◌≡◌, ◌⊎◌, inl, inr, ℕ, Bool, true, false, if◌then◌else◌, List, [], ◌∷◌, ◌++◌, Contains, refl, sym, ap, subst, ◌∙◌, append_assoc}
use Rattle.std.specs.Prelude.{Option, Some, None}
use Rattle.std.specs.Option.{option_map_or}
use Rattle.lru.proofs.Splits.{Contains-nil}
use Rattle.cds_stamps.specs.declared.numbers.HouseNo.{HouseNo}
use Rattle.cell_model.specs.Cells.{Cell, empty_cell}
use Rattle.cell_model.specs.Sets.{has}
use Rattle.cell_script.specs.declared.command.ScriptLine.{ScriptLine}
use Rattle.cds_cell.specs.Readings.{cell_reader}
use Rattle.script_answers.specs.declared.answer.Answer.TheVariants as answer
use Rattle.script_answers.specs.declared.answer.ScriptRefusal.TheVariants as why
use Rattle.script_answers.specs.Texts.{answer_text}
use Rattle.clerk_cache.specs.declared.clerk.Clerk.{Clerk}
use Rattle.clerk_cache.specs.declared.query.Kept.{Kept}
use Rattle.clerk_cache.specs.declared.query.Query.{Query}
use Rattle.line_forms.specs.Dialogues.{Dialogue, NumberedOf}
use Rattle.script_replay.specs.Replies.{Numbered, cell_after, run_dialogue}
use Rattle.clerk_replay.specs.Clerking.{Clerked, LowRead, clerked_after, clerk_dialogue, low_read, read_by_clerk, reply_at, start}
use Rattle.form_laws.specs.Honesty.{IsHonest, Tells, cell_after_lines, dialogue_state}
use Rattle.form_laws.proofs.Keeping.{all_keeps}

-- what is kept was given at this line, to its question
pub record IsNotedAt (number : ℕ) (s : Clerked) (l : ScriptLine) (e : Query × Kept) : Type 0 where
  pub line : number ≡ e.1.line
  pub read : LowRead
  pub asked : low_read l ≡ Some read
  pub house : e.0.prefer ≡ read.house
  pub tells : Tells (cell_reader s.cell (Some e.0.prefer.0) false) e.0 e.1.told

-- it was kept before the line, or was given there
abbrev WasOrIsNoted : ℕ → Clerked → ScriptLine → Query × Kept → Type 0
WasOrIsNoted number s l e = Contains s.clerk.kept.entries e ⊎ IsNotedAt number s l e

-- by whether the house is there
read_keeps : (number : ℕ) (s : Clerked) (l : ScriptLine) (q : LowRead) → low_read l ≡ Some q → (e : Query × Kept) → (made : Bool)
    → Contains (if made then read_by_clerk number (cell_reader s.cell (Some q.house.0) false) q.name q.attr (record s.clerk { prefer = q.house })
    else (answer.Refused why.NoHouse, s.clerk)).1.kept.entries e → WasOrIsNoted number s l e
read_keeps number s l q asked e true kept =
    let r = cell_reader s.cell (Some q.house.0) false in
    elim ((all_keeps number r q.name q.attr (record s.clerk { prefer = q.house })).kept e kept) [
      | inl before ↦ inl before
      | inr noted ↦ inr (record {
        line = sym noted.line;
        read = q;
        asked = asked;
        house = noted.house;
        tells = subst (λ (h : HouseNo). Tells (cell_reader s.cell (Some h.0) false) e.0 e.1.told) (sym noted.house) noted.tells;
      })
    ]
read_keeps number s l q asked e false kept = inl kept

-- by whether the line reads through the clerk
reply_keeps : (number : ℕ) (s : Clerked) (l : ScriptLine) (q : Option LowRead) → low_read l ≡ q → (e : Query × Kept)
    → Contains (reply_at number s l q).1.kept.entries e → WasOrIsNoted number s l e
reply_keeps number s l (Some q) asked e kept = read_keeps number s l q asked e (has q.house.0 s.cell.made) kept
reply_keeps number s l None asked e kept = inl kept

line_keeps : (number : ℕ) (s : Clerked) (l : ScriptLine) (e : Query × Kept)
    → Contains (clerked_after number s l).clerk.kept.entries e → WasOrIsNoted number s l e
line_keeps number s l e kept = reply_keeps number s l (low_read l) refl e kept

-- the state after one line more
behind_more : {S L : Type 0} (d : Dialogue S L) (s : S) (ls : List (NumberedOf L)) (l : NumberedOf L)
    → dialogue_state d s (ls ++ l ∷ []) ≡ d.after l.number (dialogue_state d s ls) l.says
behind_more d s [] l = refl
behind_more d s (x ∷ xs) l = behind_more d (d.after x.number s x.says) xs l

-- what is honest by some lines is so by more
honest_longer : (said more : List Numbered) (e : Query × Kept) → IsHonest said e → IsHonest (said ++ more) e
honest_longer said more e h = record {
  early = h.early;
  l = h.l;
  late = h.late ++ more;
  split = ap (λ (ls : List Numbered). ls ++ more) h.split ∙ append_assoc h.early (h.l ∷ h.late) more;
  line = h.line;
  read = h.read;
  asked = h.asked;
  house = h.house;
  tells = h.tells;
}

-- all that a clerk keeps is honest by these lines
abbrev AllHonest : List Numbered → Clerk → Type 0
AllHonest said c = (e : Query × Kept) → Contains c.kept.entries e → IsHonest said e

honest_on : (early : List Numbered) (l : Numbered) (s : Clerked) → s.cell ≡ cell_after_lines early → AllHonest early s.clerk
    → AllHonest (early ++ l ∷ []) (clerked_after l.number s l.says).clerk
honest_on early l s cell before e kept = elim (line_keeps l.number s l.says e kept) [
  | inl was ↦ honest_longer early (l ∷ []) e (before e was)
  | inr noted ↦ record {
    early = early;
    l = l;
    late = [];
    split = refl;
    line = noted.line;
    read = noted.read;
    asked = noted.asked;
    house = noted.house;
    tells = subst (λ (g : Cell). Tells (cell_reader g (Some e.0.prefer.0) false) e.0 e.1.told) cell noted.tells;
  }
]

-- so it stays over lines that follow
honest_from : (early late : List Numbered) (s : Clerked) → s.cell ≡ cell_after_lines early → AllHonest early s.clerk
    → AllHonest (early ++ late) (dialogue_state clerk_dialogue s late).clerk
honest_from early [] s cell before e kept = honest_longer early [] e (before e kept)
honest_from early (l ∷ ls) s cell before e kept =
    let next : Clerked = clerked_after l.number s l.says in
    let cell_next : next.cell ≡ cell_after_lines (early ++ l ∷ []) =
    ap (λ (g : Cell). cell_after g l.says) cell ∙ sym (behind_more run_dialogue empty_cell early l) in
    subst (λ (said : List Numbered). IsHonest said e) (append_assoc early (l ∷ []) ls)
    (honest_from (early ++ l ∷ []) ls next cell_next (honest_on early l s cell before) e kept)

-- from the start on
pub honest : (room : ℕ) (said : List Numbered) → AllHonest said (dialogue_state clerk_dialogue (start room) said).clerk
honest room said = honest_from [] said (start room) refl (λ e none. absurd (Contains-nil e none))

-- ---- all else

-- the cell goes on as that of `run`
pub same_cell : (s : Clerked) (said : List Numbered) → (dialogue_state clerk_dialogue s said).cell ≡ dialogue_state run_dialogue s.cell said
same_cell s [] = refl
same_cell s (l ∷ ls) = same_cell (clerked_after l.number s l.says) ls

-- a line that does not read at low confidence is answered as by `run`
pub same_text : (number : ℕ) (s : Clerked) (l : ScriptLine) → low_read l ≡ None → clerk_dialogue.text number s l ≡ run_dialogue.text number s.cell l
same_text number s l asked =
    ap (λ (q : Option LowRead). option_map_or (answer_text number) (reply_at number s l q).0 []) asked

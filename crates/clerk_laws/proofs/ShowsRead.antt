-- What a clerk reads of a house's answer is what the house has.
use Rattle.std.proofs.Common.{◌≡◌, ℕ, Bool, true, false, List, [], ◌∷◌, ◌++◌, refl, sym, ap, ◌∙◌}
use Rattle.std.specs.Prelude.{Option, Some, None, codes, is_some, is_none, not, ◌&&◌, ◌==◌, if◌then◌else◌}
use Rattle.std.specs.FinMap.{entries, get, get-entries}
use Rattle.std.specs.Option.{option_map_or}
use Rattle.attr_sets.specs.AttributeCells.{cell_values}
use Rattle.attr_sets.proofs.ShownLaws.{map_rises}
use Rattle.cds_stamps.specs.Members.{master_of, members_of}
use Rattle.tower_codec.specs.BindingReading.{cut_at_mark}
use Rattle.directory.specs.Shown.{Shown, entry_values, face_of, leads, shown_entry}
use Rattle.directory.specs.declared.entry.EntryCell.{EntryCell}
use Rattle.house_directory.specs.declared.states.DirState.{DirState}
use Rattle.house_directory.specs.declared.states.DirState.TheVariants as state
use Rattle.script_answers.specs.declared.answer.ScriptRefusal.TheVariants as why
use Rattle.cell_runs.specs.LineAnswers.{refused}
use Rattle.script_answers.specs.Texts.{each_lines}
use Rattle.house_turns.specs.Showings.{attr_shown, entry_said, entry_shown, show_said}
use Rattle.clerk_lines.specs.declared.hearing.Hearing.TheVariants.{Begun}
use Rattle.clerk_lines.specs.declared.hearing.Told.{Told}
use Rattle.clerk_lines.specs.declared.hearing.Told.TheVariants as told
use Rattle.clerk_lines.specs.declared.shown.ShownEntry.{ShownEntry}
use Rattle.clerk_lines.specs.Hearings.{is_last, told_by}
use Rattle.clerk_lines.specs.ShownTexts.{IsSayable, entry_texts, lead_text}
use Rattle.clerk_lines.proofs.ReadBack.{entry_read_back}
use Rattle.clerk_laws.specs.Faces.{IsHeardOf, IsSayableCell, IsSayableShown, IsSayableTo, live, shown_to}
use Rattle.clerk_laws.proofs.FaceLeads.{led}
use Rattle.clerk_laws.proofs.FaceValues.{attrs_as, attrs_lines, attrs_sayable, attrs_values}

-- what is heard of these lines, by what the house shows
abbrev Heard : List (List ℕ) → Option (Option EntryCell) → Type 0
Heard lines shown = (t : Told) × (told_by Begun lines ≡ Some t) × IsHeardOf shown t

-- ---- refusals

no_replica : Heard (refused why.NoReplica ∷ []) None
unfolding told_by is_last cut_at_mark
no_replica = (told.Passed, refl, refl)

not_master : Heard (refused why.NotMaster ∷ []) None
unfolding told_by is_last cut_at_mark
not_master = (told.Passed, refl, refl)

no_entry : Heard (refused why.NoSuchEntry ∷ []) (Some None)
unfolding told_by is_last cut_at_mark
no_entry = (told.Absent, refl, refl)

-- ---- an entry

both_hold : (s t : Bool) → (s && t) ≡ true → t ≡ true
both_hold true t is = is
both_hold false t is = cc

some_if : (t : Bool) (e : Shown) → is_some (if t then Some e else None) ≡ true → t ≡ true
some_if true e is = refl
some_if false e is = cc

-- an entry that shows leads on
leads_on : (e : EntryCell) → is_some (shown_entry e) ≡ true → leads e.kind (entry_values e) ≡ true
leads_on e on = both_hold (is_none e.death) (leads e.kind (entry_values e)) (some_if (is_none e.death && leads e.kind (entry_values e)) (face_of e) on)

entry_heard : (e : EntryCell) → is_some (shown_entry e) ≡ true → IsSayableCell e → Heard (entry_shown e) (Some (Some e))
entry_heard e on is =
    let to = led e.birth e.kind (entry_values e) (leads_on e on) is.led in
    let es = entries e.attrs in
    let s : ShownEntry = record { lead = to.to; attrs = attrs_as es } in
    let lines : entry_shown e ≡ entry_texts s =
    ap (λ (l : List ℕ). l ∷ (each_lines (λ name c. attr_shown name (cell_values c)) e.attrs ++ codes "end" ∷ [])) to.text
    ∙ ap (λ (ls : List (List ℕ)). lead_text to.to ∷ (ls ++ codes "end" ∷ [])) (attrs_lines es) in
    let sayable : IsSayable s = record { lead = to.sayable; attrs = attrs_sayable es is.named is.values } in (
      told.Shows s,
      ap (told_by Begun) lines ∙ entry_read_back s sayable,
      (
        s,
        refl,
        record {
          leads = to.leads;
          values = λ a. attrs_values a es (map_rises e.attrs) ∙ ap (λ (o : Option _). option_map_or cell_values o []) (sym (get-entries e.attrs a));
        },
      ),
    )

-- ---- any answer

entry_or_none : (e : EntryCell) (t : Bool) → is_some (shown_entry e) ≡ t → IsSayableShown (Some (if t then Some e else None))
    → Heard (if t then entry_shown e else refused why.NoSuchEntry ∷ []) (Some (if t then Some e else None))
entry_or_none e true on is = entry_heard e on is
entry_or_none e false off is = no_entry

name_heard : (o : Option EntryCell) → IsSayableShown (Some (live o)) → Heard (entry_said o) (Some (live o))
name_heard None is = no_entry
name_heard (Some e) is = entry_or_none e (is_some (shown_entry e)) refl is

held_heard : (t : Bool) (o : Option EntryCell) → IsSayableShown (if t then None else Some (live o))
    → Heard (if t then refused why.NotMaster ∷ [] else entry_said o) (if t then None else Some (live o))
held_heard true o is = not_master
held_heard false o is = name_heard o is

pub show_heard : (x : ℕ) (high : Bool) (name : List ℕ) (dir : Option DirState) → IsSayableTo x high name dir
    → (t : Told) × (told_by Begun (show_said x high name dir) ≡ Some t) × IsHeardOf (shown_to x high name dir) t
show_heard x high name None is = no_replica
show_heard x high name (Some (state.Gone e)) is = no_replica
show_heard x high name (Some (state.Held h)) is =
    held_heard (high && not (master_of (members_of h.members) == x)) (get h.replica.table name) is

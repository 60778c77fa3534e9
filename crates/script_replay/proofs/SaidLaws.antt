-- What is said to a question: the answer, or what becomes of the updates that it asks for.
use Rattle.std.proofs.Common.{◌≡◌, ℕ, true, List, refl, sym, ◌∙◌, ap, subst}
use Rattle.std.specs.Prelude.{Option, Some, None, Result, Ok, Err, IfOk}
use Rattle.std.specs.Option.{option_map}
use Rattle.std.specs.Result.{result_map_both}
use Rattle.std.specs.declared.alloc.AllocError.{AllocError}
use Rattle.cds_stamps.specs.Outcomes.{Answers}
use Rattle.cds_stamps.specs.declared.alloc_or.AllocOr.{AllocOr}
use Rattle.cds_stamps.specs.declared.alloc_or.AllocOr.TheVariants.{Fault, OutOfMemory}
use Rattle.directory.specs.declared.entry.Kind.{Kind}
use Rattle.directory.specs.declared.entry.Kind.TheVariants as kind
use Rattle.directory.specs.Updates.{Change}
use Rattle.cell_model.specs.Cells as model
use Rattle.resolver.specs.declared.refusal.Refusal.{Refusal}
use Rattle.resolver.specs.declared.seen.Place.{Place}
use Rattle.script_answers.specs.declared.answer.Answer.{Answer}
use Rattle.script_answers.specs.declared.answer.ScriptRefusal.{ScriptRefusal}
use Rattle.cds_cell.specs.declared.cell.Cell.{Cell}
use Rattle.cds_cell.specs.CellHouses.{is_up_state}
use Rattle.cds_cell.specs.ModelCells.{house_of}
use Rattle.ns_commands.specs.declared.updates.Updates.{Updates}
use Rattle.ns_commands.specs.Asks.{Asks, Changes, changes_in, fills, of_entry, place_to_fill, to_fill, unless}
use Rattle.script_replay.specs.declared.said.Reply.{Reply}
use Rattle.script_replay.specs.declared.said.Reply.TheVariants as reply
use Rattle.script_replay.specs.PrivateSaid.{IsAnswer, IsAsked}
use Rattle.script_replay.specs.QuestionReplies.{ActsAtUp, IsSaid}
use Rattle.script_replay.specs.Replies.{does, says}

-- an answer is what is said
pub told_said : (answer : Result Answer AllocError) (result : Result Reply AllocError) (g : model.Cell) (a : Answer)
    → IfOk result (IsAnswer answer) → IfOk answer (λ b. b ≡ a) → IfOk result (λ r. IsSaid r g (says a))
told_said answer (Err e) g a is same = tt
told_said answer (Ok (reply.Updates u)) g a is same = absurd is
told_said (Ok b) (Ok (reply.Answer c)) g a is same = let this : c ≡ b = cc in ap says (sym (this ∙ same))
told_said (Err e) (Ok (reply.Answer c)) g a is same = absurd (cc)

-- what is asked for is what is said
pub asked_said : (updates : Result Updates (AllocOr ScriptRefusal)) (result : Result Reply AllocError) (g : model.Cell) (asks : Asks)
    → IfOk result (IsAsked updates) → Answers (result_map_both changes_in (λ e. e) updates) asks → IfOk result (λ r. IsSaid r g (does g asks))
asked_said updates (Err e) g asks is same = tt
asked_said (Ok u) (Ok r) g asks is same = subst (λ (r : Reply). IsSaid r g (does g asks)) (sym is) (ap (does g) same)
asked_said (Err (Fault f)) (Ok r) g asks is same = subst (λ (r : Reply). IsSaid r g (does g asks)) (sym is) (ap (does g) same)
asked_said (Err OutOfMemory) (Ok r) g asks is same = absurd is

-- ---- houses that are up

module _ (c : Cell) where
  -- a house is up
  abbrev IsUp : ℕ → Type 0
  IsUp x = is_up_state (option_map (λ h. h.state) (house_of c.houses.items x)) ≡ true

  -- changes are asked for at a house that is up
  abbrev pub AsksUp : Asks → Type 0
  AsksUp asks = (ch : Changes) → asks ≡ Ok ch → IsUp ch.house

  -- so are updates
  pub asked_up : (updates : Result Updates (AllocOr ScriptRefusal)) (result : Result Reply AllocError) (asks : Asks)
      → IfOk result (IsAsked updates) → Answers (result_map_both changes_in (λ e. e) updates) asks → AsksUp asks → IfOk result (λ r. ActsAtUp r c)
  asked_up updates (Err e) asks is same up = tt
  asked_up (Ok u) (Ok r) asks is same up = subst (λ (r : Reply). ActsAtUp r c) (sym is) (up (changes_in u) same)
  asked_up (Err (Fault f)) (Ok r) asks is same up = subst (λ (r : Reply). ActsAtUp r c) (sym is) tt
  asked_up (Err OutOfMemory) (Ok r) asks is same up = absurd is

  fills_up : (place : Place) (list : List Change) → IsUp place.house.0 → AsksUp (fills place list)
  fills_up place list up ch is = let same : place.house.0 ≡ ch.house = cc in subst IsUp same up

  -- an entry of a place whose house is up
  pub place_up : (found : Result Place Refusal) (list : Place → List Change) → ((p : Place) → found ≡ Ok p → IsUp p.house.0)
      → AsksUp (of_entry (place_to_fill found) (λ place. fills place (list place)))
  place_up (Err r) list up ch is = absurd (cc)
  place_up (Ok p) list up ch is = by_kind p.kind is
    where
      by_kind : (k : Option Kind) → of_entry (to_fill k p) (λ place. fills place (list place)) ≡ Ok ch → IsUp ch.house
      by_kind None is = fills_up p (list p) (up p refl) ch is
      by_kind (Some kind.Object) is = fills_up p (list p) (up p refl) ch is
      by_kind (Some kind.Link) is = absurd (cc)
      by_kind (Some kind.Child) is = absurd (cc)

  -- the same after a fault
  pub unless_up : (fault : Option ScriptRefusal) (asks : Asks) → AsksUp asks → AsksUp (unless fault asks)
  unless_up None asks up ch is = up ch is
  unless_up (Some f) asks up ch is = absurd (cc)

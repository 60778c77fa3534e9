-- Orders of entries, from the first one on.
use Rattle.std.proofs.Common.{◌≡◌, ℕ, inl, inr, List, [], ◌∷◌, ◌++◌, Option, Some, refl, sym, ap, subst, ◌∙◌}
use Rattle.cell_model.specs.Cells.{Cell}
use Rattle.cell_model.specs.Commands as commands
use Rattle.cell_model.specs.Commands.{Answer, Command, Refusal}
use Rattle.cell_model.specs.Sets.{In}
use Rattle.cell_model.specs.Steps.{Outcome, answers_from, outcome}
use Rattle.cell_runs.specs.Entries.{Post, Entry, Started, Turned}
use Rattle.cell_runs.specs.Orders.{Follows, Seen, after, command_of, entries_of, line_commands}
use Rattle.cell_runs.specs.Views.{if_of, seen_at, view_from}
use Rattle.cell_runs.proofs.RunSteps.{EntryDone, Matches, posts_in, start_done, turn_done}
use Rattle.cell_runs.proofs.Worked.{seen_of}

-- commands that are these entries: each house sees its own, and no command is refused
pub record AreEntries (g : Cell) (cs : List Command) (line : List (ℕ × Entry)) : Type 0 where
  pub views : (y : ℕ) → view_from g y cs ≡ entries_of y line
  pub done : (r : Refusal) → In (commands.Refused r) (answers_from g cs) → ⊥

-- an entry, and others
entry_first : (g : Cell) (posts : List Post) (x : ℕ) (e : Entry) (line : List (ℕ × Entry)) (c d : Command) (cs : List Command)
    → (step : EntryDone g posts x e line c d) → AreEntries step.o.cell cs line → AreEntries g (c ∷ d ∷ cs) ((x, e) ∷ line)
entry_first g posts x e line c d cs step later = record {
  views = λ y.
      ap (λ (s : Option (ℕ × Entry)). if_of y s (if_of y (seen_at (outcome g c).cell d) (view_from (outcome (outcome g c).cell d).cell y cs))) step.first_seen
      ∙ ap (λ (o : Outcome). if_of y (seen_at o.cell d) (view_from (outcome o.cell d).cell y cs)) step.first_is
      ∙ ap (λ (s : Option (ℕ × Entry)). if_of y s (view_from (outcome step.middle d).cell y cs)) step.second_seen
      ∙ ap (λ (o : Outcome). if_of y (Some (x, e)) (view_from o.cell y cs)) step.second_is
      ∙ ap (if_of y (Some (x, e))) (later.views y);
  done = λ r i. refused r (subst (λ (o : Outcome). In (commands.Refused r) (o.answer ∷ answers_from o.cell (d ∷ cs))) step.first_is i);
}
  where
    last : (r : Refusal) → In (commands.Refused r) (step.o.answer ∷ answers_from step.o.cell cs) → ⊥
    last r (inl is) = step.done r (sym is)
    last r (inr i) = later.done r i

    refused : (r : Refusal) → In (commands.Refused r) (commands.Done ∷ answers_from step.middle (d ∷ cs)) → ⊥
    refused r (inl is) = absurd (cc (is))
    refused r (inr i) = last r (subst (λ (o : Outcome). In (commands.Refused r) (o.answer ∷ answers_from o.cell cs)) step.second_is i)

-- all entries that are left
pub entries_done : (line : List (ℕ × Entry)) (g : Cell) (posts : List Post) → Matches g posts line → Follows (seen_of posts g) line
    → AreEntries g (line_commands (seen_of posts g) line) line
entries_done [] g posts m follows = record { views = λ y. refl; done = λ r i. elim i [ ] }
entries_done ((x, Started image) ∷ line) g posts m follows =
    let step = start_done g posts x image line m in
    let p : List Post = posts ++ posts_in (Started image) in
    entry_first g posts x (Started image) line (commands.Crash x) (commands.Start x) (line_commands (after (seen_of posts g) x (Started image)) line) step
    (subst (λ (s : Seen). AreEntries step.o.cell (line_commands s line) line) (sym step.knows)
    (entries_done line step.o.cell p step.matches (subst (λ (s : Seen). Follows s line) step.knows follows.1)))
entries_done ((x, Turned e) ∷ line) g posts m follows =
    let step = turn_done g posts x e line m follows.0 in
    let p : List Post = posts ++ posts_in (Turned e) in
    entry_first g posts x (Turned e) line (commands.Clock x e.clock) (command_of (seen_of posts g) x e.order)
    (line_commands (after (seen_of posts g) x (Turned e)) line) step
    (subst (λ (s : Seen). AreEntries step.o.cell (line_commands s line) line) (sym step.knows)
    (entries_done line step.o.cell p step.matches (subst (λ (s : Seen). Follows s line) step.knows follows.1)))

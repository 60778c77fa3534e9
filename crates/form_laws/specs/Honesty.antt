-- Answers that a reader gave to the question that they are kept for (own, after C705, caches of
-- clerks).
use Rattle.std.specs.Prelude.{◌≡◌, ◌≢◌, ℕ, false, List, [], ◌∷◌, ◌++◌, Some, None}
use Rattle.cell_names.specs.ChildPointers.{pointer_in}
use Rattle.cell_model.specs.Cells.{Cell, empty_cell}
use Rattle.resolver.specs.Readers.{Reader, Unreachable, sight_of}
use Rattle.clerk_cache.specs.Clerks.{shown_values}
use Rattle.clerk_cache.specs.declared.query.Kept.{Kept}
use Rattle.clerk_cache.specs.declared.query.Query.{Query}
use Rattle.clerk_cache.specs.declared.query.Told.{Told}
use Rattle.clerk_cache.specs.declared.query.Told.TheVariants as told
use Rattle.cds_cell.specs.Readings.{cell_reader}
use Rattle.clerk_replay.specs.Clerking.{LowRead, low_read}
use Rattle.line_forms.specs.Dialogues.{Dialogue, NumberedOf}
use Rattle.script_replay.specs.Replies.{Numbered, run_dialogue}

-- the state after numbered lines (own)
abbrev pub dialogue_state : {S L : Type 0} → Dialogue S L → S → List (NumberedOf L) → S
dialogue_state d s [] = s
dialogue_state d s (l ∷ ls) = dialogue_state d (d.after l.number s l.says) ls

-- the cell that `run` has after lines (own)
abbrev pub cell_after_lines : List Numbered → Cell
cell_after_lines said = dialogue_state run_dialogue empty_cell said

-- a reader gives this answer to a question: what it sees of the entry, at a house that can be
-- asked; or which values of the attribute the entry shows (own, after C705, caches of clerks)
abbrev pub Tells : Reader → Query → Told → Type 0
Tells reader q (told.Sight s) = (q.attr ≡ None) × (reader.sees (pointer_in q.at) q.name ≡ sight_of s) × (sight_of s ≢ Unreachable)
Tells reader q (told.Values vs) = (attr : List ℕ) × (q.attr ≡ Some attr) × (shown_values reader (pointer_in q.at) q.name attr ≡ Some vs)

-- A question and what is kept for it. Of these lines one reads at low confidence, and prefers the
-- house of the question; what is kept has its number, and is what the reader over the cell before
-- that line tells (own, after C705, caches of clerks)
pub record IsHonest (said : List Numbered) (e : Query × Kept) : Type 0 where
  pub early : List Numbered
  pub l : Numbered
  pub late : List Numbered
  pub split : said ≡ early ++ l ∷ late
  pub line : l.number ≡ e.1.line
  pub read : LowRead
  pub asked : low_read l.says ≡ Some read
  pub house : e.0.prefer ≡ read.house
  pub tells : Tells (cell_reader (cell_after_lines early) (Some e.0.prefer.0) false) e.0 e.1.told

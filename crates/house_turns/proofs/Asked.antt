-- What a house answers to questions, by what it holds.
use Rattle.std.proofs.Common.{◌≡◌, ℕ, List, [], ◌∷◌, refl, ap}
use Rattle.std.specs.Prelude.{Option, Some, None}
use Rattle.script_answers.specs.Texts.{dump_lines}
use Rattle.script_answers.specs.declared.answer.ScriptRefusal.TheVariants as why
use Rattle.directory.specs.Shown.{shown_in}
use Rattle.house_directory.specs.DirectoryTakes.{held_in}
use Rattle.house_directory.specs.declared.states.DirState.{DirState}
use Rattle.house_directory.specs.declared.states.DirState.TheVariants as state
use Rattle.house_directory.specs.declared.states.Held.{Held}
use Rattle.cell_runs.specs.LineAnswers.{refused}
use Rattle.house_turns.specs.HouseAnswers.{dump_said, look_said, values_said}

-- a directory that is not held
pub dump_absent : (o : Option DirState) → held_in o ≡ None → dump_said o ≡ refused why.NoReplica ∷ []
dump_absent None none = refl
dump_absent (Some (state.Gone e)) none = refl
dump_absent (Some (state.Held h)) none = absurd (cc)

pub look_absent : (n a : List ℕ) (o : Option DirState) → held_in o ≡ None → look_said n a o ≡ refused why.NoReplica ∷ []
look_absent n a None none = refl
look_absent n a (Some (state.Gone e)) none = refl
look_absent n a (Some (state.Held h)) none = absurd (cc)

-- one that is
pub dump_held : (o : Option DirState) (h : Held) → held_in o ≡ Some h → dump_said o ≡ dump_lines h.epoch h.replica.all_up_to h.members h.replica.table
dump_held None h is = absurd (cc)
dump_held (Some (state.Gone e)) h is = absurd (cc)
dump_held (Some (state.Held k)) h is =
    let same : k ≡ h = cc in
    ap (λ (h : Held). dump_lines h.epoch h.replica.all_up_to h.members h.replica.table) same

pub look_held : (n a : List ℕ) (o : Option DirState) (h : Held) → held_in o ≡ Some h → look_said n a o ≡ values_said a (shown_in h.replica.table n)
look_held n a None h is = absurd (cc)
look_held n a (Some (state.Gone e)) h is = absurd (cc)
look_held n a (Some (state.Held k)) h is =
    let same : k ≡ h = cc in
    ap (λ (h : Held). values_said a (shown_in h.replica.table n)) same

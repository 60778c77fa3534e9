-- Commands change the images of houses that act in them alone, and make no other house.
use Rattle.std.proofs.Common.{◌≡◌, ℕ, ◌+◌, Bool, true, false, ◌||◌, ◌==◌, List, [], ◌∷◌, ◌++◌, map, refl, sym, ◌∙◌, ap, if◌then◌else◌}
use Rattle.std.specs.Prelude.{Option, Some, None}
use Rattle.directory.specs.Updates.{Change}
use Rattle.cell_model.specs.Cells.{Cell, Message}
use Rattle.cell_model.specs.Commands as command
use Rattle.cell_model.specs.Commands.{Answer, Command, Stamped, NewEpoch, Refusal}
use Rattle.cell_model.specs.Reached.{IsReached}
use Rattle.cell_model.specs.Sets.{has}
use Rattle.cell_model.specs.Steps.{Outcome, at_house, deliver, effect, first_refusal, is_down, lose, message_at, outcome, refusals_of, refusal_outcome, replay_from, unless}
use Rattle.cell_model.specs.Steps.{sorted_houses, left_members, member_list_of, set_clock, with_directory, with_epoch}
use Rattle.cell_model.specs.Turns.{HouseStep, accept, new_epoch, skulk, take}
use Rattle.directory.specs.Updates as updates
use Rattle.cds_stamps.specs.Members.{Member}
use Rattle.cell_model.proofs.AtHouses.{at_house-rest}
use Rattle.cell_model.proofs.Standing.{reached_lem}
use Rattle.cds_records.specs.RecordOctets.{image_octets}
use Rattle.cds_cell.specs.CommandImages.{actors, crash_losing, octets_at, serials_after}
use Rattle.cds_cell.specs.Recorded.{image_at}
use Rattle.journal_replay.specs.CellDisks.{image_in}

-- ---- houses that are made

-- the houses that were made by a command are those of before and, of some, one more, which acts in
-- it
abbrev MadeBy : Cell → Cell → List ℕ → Type 0
MadeBy g g' acts = (x : ℕ) → (has x acts ≡ false → has x g'.made ≡ has x g.made) × (has x g'.made ≡ false → has x g.made ≡ false)

same_made : (g g' : Cell) (acts : List ℕ) → g'.made ≡ g.made → MadeBy g g' acts
same_made g g' acts same x = (λ stays. ap (has x) same, λ unmade. sym (ap (has x) same) ∙ unmade)

directory_made : (o : Outcome) (d m : ℕ) (ms : List Member) (a : Answer) → (with_directory o d m ms a).cell.made ≡ o.cell.made
directory_made o d m ms (Stamped s ns) = refl
directory_made o d m ms other = refl

epoch_made : (o : Outcome) (d : ℕ) (ms : List Member) (a : Answer) → (with_epoch o d ms a).cell.made ≡ o.cell.made
epoch_made o d ms (NewEpoch k ns) = refl
epoch_made o d ms other = refl

deliver_made : (g : Cell) (o : Option Message) → (deliver g o).cell.made ≡ g.made
deliver_made g None = refl
deliver_made g (Some m) = by_down (is_down g m.receiver)
  where
    turn : Outcome
    turn = at_house g m.receiver (take (g.house m.receiver) m)

    by_down : (b : Bool) → (if b then refusal_outcome g command.Down else turn).cell.made ≡ g.made
    by_down true = refl
    by_down false = (at_house-rest g m.receiver (take (g.house m.receiver) m)).made

lose_made : (g : Cell) (n : ℕ) (o : Option Message) → (lose g n o).cell.made ≡ g.made
lose_made g n None = refl
lose_made g n (Some m) = refl

or_false : (b : Bool) → (b || false) ≡ b
or_false true = refl
or_false false = refl

or_assoc : (a b c : Bool) → ((a || b) || c) ≡ (a || (b || c))
or_assoc true b c = refl
or_assoc false b c = refl

has-append : (x : ℕ) (xs ys : List ℕ) → has x (xs ++ ys) ≡ (has x xs || has x ys)
has-append x [] ys = refl
has-append x (y ∷ xs) ys = ap (λ (b : Bool). (x == y) || b) (has-append x xs ys) ∙ sym (or_assoc (x == y) (has x xs) (has x ys))

left_of_or : (a b : Bool) → (a || b) ≡ false → a ≡ false
left_of_or true b is = absurd (cc)
left_of_or false b is = refl

effect_made : (g : Cell) (c : Command) → MadeBy g (effect g c).cell (actors g c)
effect_made g (command.House h node) = λ x. (
  λ stays. has-append x g.made (h ∷ []) ∙ ap (λ (b : Bool). has x g.made || b) stays ∙ or_false (has x g.made),
  λ unmade. left_of_or (has x g.made) (has x (h ∷ [])) (sym (has-append x g.made (h ∷ [])) ∙ unmade),
)
effect_made g (command.Clock h time) = same_made g (set_clock g h time) [] refl
effect_made g (command.Root m rs ss) = same_made g (effect g (command.Root m rs ss)).cell (m ∷ []) refl
effect_made g (command.Mkdir h d n m rs ss) =
    let turn : HouseStep = accept h (g.house h) d (updates.MakeChild n (record { dir = g.next_dir; master = m; others = sorted_houses rs })) in
    let o : Outcome = at_house g h turn in
    same_made g (effect g (command.Mkdir h d n m rs ss)).cell (h ∷ m ∷ [])
    (directory_made o g.next_dir m (member_list_of [] 1 m rs ss) o.answer ∙ (at_house-rest g h turn).made)
effect_made g (command.Repoint h d n m rs) =
    let turn : HouseStep = accept h (g.house h) d (updates.Repoint n m (sorted_houses rs)) in
    same_made g (at_house g h turn).cell (h ∷ []) (at_house-rest g h turn).made
effect_made g (command.Accept h d u) =
    let turn : HouseStep = accept h (g.house h) d u in same_made g (at_house g h turn).cell (h ∷ []) (at_house-rest g h turn).made
effect_made g (command.Epoch d m rs ss) =
    let ms : List Member = member_list_of (g.present d) (g.top d + 1) m rs ss in
    let turn : HouseStep = new_epoch m (g.house m) d (g.top d + 1) ms (left_members (g.present d) ms) in
    let o : Outcome = at_house g m turn in
    same_made g (effect g (command.Epoch d m rs ss)).cell (m ∷ []) (epoch_made o d ms o.answer ∙ (at_house-rest g m turn).made)
effect_made g (command.Skulk h d) =
    let turn : HouseStep = skulk h (g.house h) d in same_made g (at_house g h turn).cell (h ∷ []) (at_house-rest g h turn).made
effect_made g (command.Deliver n) = same_made g (effect g (command.Deliver n)).cell (actors g (command.Deliver n)) (deliver_made g (message_at g n))
effect_made g (command.Lose n) = same_made g (effect g (command.Lose n)).cell [] (lose_made g n (message_at g n))
effect_made g (command.Crash h) = same_made g (effect g (command.Crash h)).cell [] refl
effect_made g (command.Start h) = same_made g (effect g (command.Start h)).cell [] refl

pub outcome_made : (g : Cell) (c : Command) → MadeBy g (outcome g c).cell (actors g c)
outcome_made g c = by_refusal (first_refusal (refusals_of g c))
  where
    by_refusal : (o : Option Refusal) → MadeBy g (unless g o (effect g c)).cell (actors g c)
    by_refusal None = effect_made g c
    by_refusal (Some r) = same_made g g (actors g c) refl

-- ---- lists of commands

-- commands in none of which a house acts
abbrev pub Spare : Cell → List Command → ℕ → Type 0
Spare g [] x = Unit {0}
Spare g (c ∷ cs) x = (has x (actors g c) ≡ false) × Spare (outcome g c).cell cs x

module _ (stays : (g : Cell) (c : Command) (x : ℕ) → IsReached g → has x (actors g c) ≡ false → image_at (outcome g c).cell x ≡ image_at g x) where
  -- the image of a house that was made, and whether it was
  same_image : (g g' : Cell) (x : ℕ) → has x g'.made ≡ has x g.made → image_at g' x ≡ image_at g x → image_in g' x ≡ image_in g x
  same_image g g' x made image =
      ap (λ (b : Bool). if b then Some (octets_at g' x) else None) made
      ∙ ap (λ i. if has x g.made then Some (image_octets i) else None) image

  pub spared : (g : Cell) (cs : List Command) (x : ℕ) → IsReached g → Spare g cs x → image_in (replay_from g cs) x ≡ image_in g x
  spared g [] x reached spare = refl
  spared g (c ∷ cs) x reached spare =
      spared (outcome g c).cell cs x (reached_lem.after g c reached) spare.1
      ∙ same_image g (outcome g c).cell x ((outcome_made g c x).0 spare.0) (stays g c x reached spare.0)

pub still_reached : (g : Cell) (cs : List Command) → IsReached g → IsReached (replay_from g cs)
still_reached g [] reached = reached
still_reached g (c ∷ cs) reached = still_reached (outcome g c).cell cs (reached_lem.after g c reached)

pub grown : (g : Cell) (cs : List Command) (x : ℕ) → has x (replay_from g cs).made ≡ false → has x g.made ≡ false
grown g [] x unmade = unmade
grown g (c ∷ cs) x unmade = (outcome_made g c x).1 (grown (outcome g c).cell cs x unmade)

-- updates at another house
pub updates_spare : (g : Cell) (h d : ℕ) (us : List Change) (x : ℕ) → has x (h ∷ []) ≡ false → Spare g (map (command.Accept h d) us) x
updates_spare g h d [] x other = tt
updates_spare g h d (u ∷ us) x other = (other, updates_spare (outcome g (command.Accept h d u)).cell h d us x other)

-- messages that are lost, and a crash
losses_spare : (g : Cell) (ns : List ℕ) (h x : ℕ) → Spare g (map command.Lose ns ++ command.Crash h ∷ []) x
losses_spare g [] h x = (refl, tt)
losses_spare g (n ∷ ns) h x = (refl, losses_spare (outcome g (command.Lose n)).cell ns h x)

pub crash_spares : (g : Cell) (h kept x : ℕ) → Spare g (crash_losing g h kept) x
crash_spares g h kept x = losses_spare g (serials_after kept g) h x

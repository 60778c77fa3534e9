-- What comes of the act of a house, as a command of the model.
use Rattle.std.proofs.Common.{Bor, ◌≡◌, ◌≢◌, ℕ, List, [], ◌∷◌, Bool, true, false, subst, refl, sym, ◌∙◌, ap, inl, inr}
use Rattle.std.specs.Rc.{rc_slice_items}
use Rattle.std.proofs.Math.ListN.{get_or}
use Rattle.std.proofs.lemmas.Option.{slice_get_read}
use Rattle.cds_stamps.specs.declared.alloc_or.AllocOr.{AllocOr}
use Rattle.cds_stamps.specs.declared.alloc_or.AllocOr.TheVariants.{Fault}
use Rattle.record_fields.specs.Decoding.{Decodes}
use Rattle.cds_records.specs.Records as records
use Rattle.record_fields.specs.declared.fault.RecordFault.{RecordFault}
use Rattle.cds_messages.specs.declared.message.Message.{Message}
use Rattle.std.specs.Prelude.{length, Option, Some, None, Result, Ok, Err, not, is_some, option_copied, if◌then◌else◌, ◌||◌, ◌==◌, ◌-◌, slice_get}
use Rattle.cds_stamps.specs.declared.stamp.Stamp.{Stamp}
use Rattle.directory.specs.declared.update.UpdateRefusal.{UpdateRefusal}
use Rattle.directory.specs.Updates.{Change}
use Rattle.cell_model.specs.Cells as model
use Rattle.cell_model.specs.Commands as command
use Rattle.cell_model.specs.Completions.{AnswersHold}
use Rattle.cell_model.specs.Holdings.{NumbersHold}
use Rattle.cell_model.specs.Reached.{IsReached}
use Rattle.cell_model.specs.Sets.{In, has}
use Rattle.cell_model.specs.Steps.{Outcome, at_house, effect, first_refusal, is_down, is_missing, message_at, refusals_of, refusal_outcome, serials_of, stays}
use Rattle.cell_model.specs.Taking.{CanTake}
use Rattle.cell_model.specs.Turns as turns
use Rattle.cell_model.specs.Turns.{HouseStep}
use Rattle.cell_model.proofs.AtHouses.{answer_of, at_house-answer, posts_of}
use Rattle.cell_model.proofs.Completing.{answers_lem}
use Rattle.cell_model.proofs.Lists.{In-from_get, not_true, or_left}
use Rattle.cell_model.proofs.Numbers.{numbers_lem}
use Rattle.cell_model.proofs.Standing.{can_take_lem, on_reached}
use Rattle.script_answers.specs.declared.answer.Answer.{Answer}
use Rattle.script_answers.specs.declared.answer.Answer.TheVariants as answer
use Rattle.script_answers.specs.declared.answer.ScriptRefusal.{ScriptRefusal}
use Rattle.script_answers.specs.declared.answer.ScriptRefusal.TheVariants as why
use Rattle.house_directory.specs.declared.skulks.Begun.{Begun}
use Rattle.house_directory.specs.declared.taking.Taken.{Taken}
use Rattle.house_directory.specs.DirectorySteps.{IsBegunAnswer, IsStampAnswer, IsTakeAnswer}
use Rattle.clearinghouse.specs.declared.house.Clearinghouse.{Clearinghouse}
use Rattle.house_directory.specs.HouseMessages.{StandsMessage}
use Rattle.cds_cell.specs.declared.bag.Letter.{Letter}
use Rattle.cds_cell.specs.declared.cell.Cell.{Cell}
use Rattle.cds_cell.specs.declared.house.CellHouse.{CellHouse}
use Rattle.cds_cell.specs.declared.house.HouseState.TheVariants as state
use Rattle.cds_cell.specs.Bags.{StandsLetter, letter_at}
use Rattle.cds_cell.specs.CellHouses.{StandsState}
use Rattle.cds_cell.specs.PrivateActs.{ActsAt, Delivers, KeepsRest, Tells}
use Rattle.cds_cell.specs.PrivateSteps.{IsPlaceOf, IsStepAs}
use Rattle.cds_cell.specs.Scripted as script
use Rattle.cds_cell.specs.ModelCells.{Stands, StandsAs, house_of}
use Rattle.cds_cell.proofs.Bags.{letter_decodes, letter_faultless, letter_there, lost_stands}
use Rattle.cds_cell.proofs.HouseActs.{Acted, acted, house_stands, lost_elsewhere}
use Rattle.cds_cell.proofs.Houses.{has_number, place_within}
use Rattle.cds_cell.proofs.Serials.{TellsOwn, accept_tells, skulk_tells, take_tells}

-- ---- commands that nothing was said against

-- the first test does not hold, and so none of those after it
first_passed : (a : Bool) (r : command.Refusal) (ts : List (Bool × command.Refusal)) → (if a then Some r else first_refusal ts) ≡ None
    → (a ≡ false) × (first_refusal ts ≡ None)
first_passed true r ts none = absurd (cc)
first_passed false r ts none = (refl, none)

-- one of the tests of a command, none of which holds
pub passed : (ts : List (Bool × command.Refusal)) (b : Bool) (r : command.Refusal) → In (b, r) ts → first_refusal ts ≡ None → b ≡ false
passed [] b r there none = absurd there
passed (t ∷ ts) b r (inl same) none = ap (λ (t : Bool × command.Refusal). t.0) same ∙ (first_passed t.0 t.1 ts none).0
passed (t ∷ ts) b r (inr rest) none = passed ts b r rest (first_passed t.0 t.1 ts none).1

-- a house that must act is up
pub up_where : (g : model.Cell) (x : ℕ) → is_down g x ≡ false → (g.house x).up ≡ true
up_where g x up = not_true (g.house x).up up

-- a house that is missing has no place in the list
pub missing_where : (c : Cell) (g : model.Cell) (x : ℕ) → StandsAs c g → house_of c.houses.items x ≡ None → has x g.made ≡ false
missing_where c g x s none = ap (has x) s.made ∙ has_number c.houses.items x ∙ ap is_some none

-- ---- acts

-- the answer of an act tells the serial numbers of what was posted
pub told_by : (c c' : Cell) (g : model.Cell) (x : ℕ) (ns : List ℕ) (Answers : command.Answer → Type 0) (step : HouseStep)
    → Acted c' g x [] ns Answers step → TellsOwn step → Tells (at_house g x step).answer ns
told_by c c' g x ns Answers step a own =
    let posted : List ℕ = serials_of g (posts_of step) in
    subst (λ (b : command.Answer). Tells b ns) (sym (at_house-answer g x step))
    (subst (λ (ks : List ℕ). Tells (answer_of step posted) ks) (sym a.told) (own.told posted))

-- an act of a house is a command, whose effect is the house's step
pub acts_come : (c c' : Cell) (g : model.Cell) (k : command.Command) (x at : ℕ) (before ns : List ℕ) (Answers : command.Answer → Type 0) (step : ℕ → HouseStep)
    (told : Answer) → StandsAs c g → effect g k ≡ at_house g x (step x) → (g.house x).up ≡ true
    → IsPlaceOf c.houses.items x at → before ≡ [] → ActsAt c c' at before ns Answers (g.house x) step → TellsOwn (step x)
    → (Answers (at_house g x (step x)).answer → Tells (at_house g x (step x)).answer ns → script.answer_of (at_house g x (step x)).answer ≡ Some told)
    → IsStepAs told c' (effect g k)
acts_come c c' g k x at before ns Answers step told s is up place none acts own answers =
    let first : ActsAt c c' at [] ns Answers (g.house x) step = subst (λ (ns' : List ℕ). ActsAt c c' at ns' ns Answers (g.house x) step) none acts in
    let a = acted c c' g x at [] ns Answers step s place first up in
    subst (λ (o : Outcome). IsStepAs told c' o) (sym is) (record { answer = answers a.answer (told_by c c' g x ns Answers (step x) a own); stands = a.stands })

-- ---- houses that must have been made

-- the first of the houses that must have been made was made
pub made_where : (g : model.Cell) (x : ℕ) (rs : List ℕ) → is_missing g (x ∷ rs) ≡ false → has x g.made ≡ true
made_where g x rs none = not_true (has x g.made) (or_left (not (has x g.made)) (is_missing g rs) none)

-- so it has a place in the list
pub never_missing : (c : Cell) (g : model.Cell) (x : ℕ) (rs : List ℕ) → StandsAs c g → is_missing g (x ∷ rs) ≡ false → house_of c.houses.items x ≡ None → ⊥
never_missing c g x rs s none unmade =
    let made : has x g.made ≡ true = made_where g x rs none in
    let missing : has x g.made ≡ false = missing_where c g x s unmade in
    cc

-- ---- updates

-- the answer to an update that was taken
pub stamped_told : (s : Stamp) (a : command.Answer) (ns : List ℕ) → IsStampAnswer (Ok s) a → Tells a ns → script.answer_of a ≡ Some (answer.Stamped s ns)
stamped_told s (command.Stamped t ks) ns is tells = cc
stamped_told s a ns is tells = absurd is

-- the answer to an update that was refused
pub refused_told : (r : UpdateRefusal) (a : command.Answer) → IsStampAnswer (Err r) a
    → script.answer_of a ≡ Some (answer.Refused (script.update_refusal_of r))
refused_told r (command.Refused (command.Update q)) is = ap (λ r. Some (answer.Refused (script.update_refusal_of r))) (sym is)
refused_told r a is = absurd is

module _ (c c' : Cell) (g : model.Cell) (x d : ℕ) (u : Change) (s : Stands c g) (none : first_refusal (refusals_of g (command.Accept x d u)) ≡ None) where
  -- the house of an update was made
  pub accept_placed : house_of c.houses.items x ≡ None → ⊥
  accept_placed unmade =
      never_missing c g x [] s.stands (passed (refusals_of g (command.Accept x d u)) (is_missing g (x ∷ [])) command.NoHouse (inr (inl refl)) none) unmade

  up : (g.house x).up ≡ true
  up = up_where g x (passed (refusals_of g (command.Accept x d u)) (is_down g x) command.Down (inr (inr (inl refl))) none)

  -- an update that was taken
  pub accept_taken : (at : ℕ) (before ns : List ℕ) (t : Stamp) (r : Result Stamp UpdateRefusal) → IsPlaceOf c.houses.items x at → before ≡ [] → r ≡ Ok t
      → ActsAt c c' at before ns (IsStampAnswer r) (g.house x) (λ h. turns.accept h (g.house x) d u)
      → IsStepAs (answer.Stamped t ns) c' (effect g (command.Accept x d u))
  accept_taken at before ns t r place first is acts =
      acts_come c c' g (command.Accept x d u) x at before ns (IsStampAnswer r) (λ h. turns.accept h (g.house x) d u) (answer.Stamped t ns) s.stands refl
      up place first acts (accept_tells x (g.house x) d u)
      (λ fits tells. stamped_told t _ ns (subst (λ r. IsStampAnswer r (at_house g x (turns.accept x (g.house x) d u)).answer) is fits) tells)

  -- an update that was refused
  pub accept_refused : (at : ℕ) (before ns : List ℕ) (q : UpdateRefusal) (told : ScriptRefusal) (r : Result Stamp UpdateRefusal) → IsPlaceOf c.houses.items x at
      → before ≡ [] → r ≡ Err q → told ≡ script.update_refusal_of q
      → ActsAt c c' at before ns (IsStampAnswer r) (g.house x) (λ h. turns.accept h (g.house x) d u)
      → IsStepAs (answer.Refused told) c' (effect g (command.Accept x d u))
  accept_refused at before ns q told r place first is same acts =
      acts_come c c' g (command.Accept x d u) x at before ns (IsStampAnswer r) (λ h. turns.accept h (g.house x) d u) (answer.Refused told) s.stands refl
      up place first acts (accept_tells x (g.house x) d u)
      (λ fits tells. refused_told q _ (subst (λ r. IsStampAnswer r (at_house g x (turns.accept x (g.house x) d u)).answer) is fits)
      ∙ ap (λ (why : ScriptRefusal). Some (answer.Refused why)) (sym same))

-- ---- skulks

module _ (c c' : Cell) (g : model.Cell) (x d : ℕ) (s : Stands c g) (none : first_refusal (refusals_of g (command.Skulk x d)) ≡ None) where
  -- the house of a skulk was made
  pub skulk_placed : house_of c.houses.items x ≡ None → ⊥
  skulk_placed unmade =
      never_missing c g x [] s.stands (passed (refusals_of g (command.Skulk x d)) (is_missing g (x ∷ [])) command.NoHouse (inr (inl refl)) none) unmade

  -- a skulk that begins, or is refused
  pub skulk_comes : (at : ℕ) (before ns : List ℕ) (b : Result Begun UpdateRefusal) (told : Answer) → IsPlaceOf c.houses.items x at → before ≡ []
      → ActsAt c c' at before ns (IsBegunAnswer b) (g.house x) (λ h. turns.skulk h (g.house x) d)
      → ((a : command.Answer) → IsBegunAnswer b a → Tells a ns → script.answer_of a ≡ Some told)
      → IsStepAs told c' (effect g (command.Skulk x d))
  skulk_comes at before ns b told place first acts answers =
      let up = up_where g x (passed (refusals_of g (command.Skulk x d)) (is_down g x) command.Down (inr (inr (inl refl))) none) in
      acts_come c c' g (command.Skulk x d) x at before ns (IsBegunAnswer b) (λ h. turns.skulk h (g.house x) d) told s.stands refl up place first acts
      (skulk_tells x (g.house x) d) (answers (at_house g x (turns.skulk x (g.house x) d)).answer)

-- ---- messages

-- the receiver of a message that was posted can take it
pub can_take : (g : model.Cell) (n : ℕ) (m : model.Message) → IsReached g → message_at g n ≡ Some m → CanTake (g.house m.receiver) m
can_take g n m reached there =
    on_reached (λ (z : model.Cell). In m z.bag → CanTake (z.house m.receiver) m) (λ commands. can_take_lem commands m) g reached
    (posted ((n == 0) || has n g.lost) there)
  where
    posted : (b : Bool) → (if b then None else slice_get g.bag (n - 1)) ≡ Some m → In m g.bag
    posted true is = absurd (cc)
    posted false is = In-from_get m g.bag (n - 1) is

-- a message that its receiver takes, or does not
pub take_comes : (c c' : Cell) (g : model.Cell) (n at : ℕ) (m : model.Message) (before ns : List ℕ) (t : Taken) (told : Answer) → Stands c g
    → message_at g n ≡ Some m → (g.house m.receiver).up ≡ true → IsPlaceOf c.houses.items m.receiver at → before ≡ []
    → (CanTake (g.house m.receiver) m → ActsAt c c' at before ns (IsTakeAnswer t) (g.house m.receiver) (λ h. turns.take (g.house m.receiver) m))
    → ((a : command.Answer) → IsTakeAnswer t a → a ≢ command.Foreign → Tells a ns → script.answer_of a ≡ Some told)
    → IsStepAs told c' (effect g (command.Deliver n))
take_comes c c' g n at m before ns t told s there up place first acts answers =
    let now : model.House = g.house m.receiver in
    let is : effect g (command.Deliver n) ≡ at_house g m.receiver (turns.take now m) = rw (there, up) refl in
    let own : (at_house g m.receiver (turns.take now m)).answer ≢ command.Foreign =
    λ foreign. (on_reached_answers g (command.Deliver n) s.reached).not_foreign (ap (λ (o : Outcome). o.answer) is ∙ foreign) in
    acts_come c c' g (command.Deliver n) m.receiver at before ns (IsTakeAnswer t) (λ h. turns.take now m) told s.stands is up place first
    (acts (can_take g n m s.reached there)) (take_tells now m) (λ is tells. answers _ is own tells)
  where
    on_reached_answers : (g : model.Cell) (k : command.Command) → IsReached g → AnswersHold g k
    on_reached_answers g k reached = on_reached (λ (z : model.Cell). AnswersHold z k) (λ commands. answers_lem commands k) g reached

-- ---- houses that go down and start

-- a house that is to go down was made, and is up
pub crash_placed : (c : Cell) (g : model.Cell) (x : ℕ) → Stands c g → first_refusal (refusals_of g (command.Crash x)) ≡ None
    → house_of c.houses.items x ≡ None → ⊥
crash_placed c g x s none unmade =
    never_missing c g x [] s.stands (passed (refusals_of g (command.Crash x)) (is_missing g (x ∷ [])) command.NoHouse (inl refl) none) unmade

-- a house is up where its crash is not refused
pub crash_up : (g : model.Cell) (x : ℕ) → first_refusal (refusals_of g (command.Crash x)) ≡ None → (g.house x).up ≡ true
crash_up g x none = up_where g x (passed (refusals_of g (command.Crash x)) (is_down g x) command.Down (inr (inl refl)) none)

-- a house that is to start was made, and is down
pub start_placed : (c : Cell) (g : model.Cell) (x : ℕ) → Stands c g → first_refusal (refusals_of g (command.Start x)) ≡ None
    → house_of c.houses.items x ≡ None → ⊥
start_placed c g x s none unmade =
    never_missing c g x [] s.stands (passed (refusals_of g (command.Start x)) (is_missing g (x ∷ [])) command.NoHouse (inl refl) none) unmade

-- a house is down where its start is not refused
pub start_down : (g : model.Cell) (x : ℕ) → first_refusal (refusals_of g (command.Start x)) ≡ None → (g.house x).up ≡ false
start_down g x none = down ((g.house x).up) (passed (refusals_of g (command.Start x)) (not (is_down g x)) command.Up (inr (inl refl)) none)
  where
    down : (b : Bool) → not (not b) ≡ false → b ≡ false
    down true is = is
    down false is = is

-- the receiver of a message that is down is told so
pub down_comes : (c : Cell) (g : model.Cell) (n : ℕ) (m : model.Message) → Stands c g → message_at g n ≡ Some m → (g.house m.receiver).up ≡ false
    → IsStepAs (answer.Refused why.Down) c (effect g (command.Deliver n))
down_comes c g n m s there down =
    let is : effect g (command.Deliver n) ≡ refusal_outcome g command.Down = rw (there, down) refl in
    subst (λ (o : Outcome). IsStepAs (answer.Refused why.Down) c o) (sym is) (record { answer = refl; stands = s.stands })

-- so is one that was not made
pub unmade_down : (c : Cell) (g : model.Cell) (x : ℕ) → Stands c g → house_of c.houses.items x ≡ None → (g.house x).up ≡ false
unmade_down c g x s none =
    ap (λ (h : model.House). h.up) ((on_reached NumbersHold numbers_lem g s.reached).unmade x (missing_where c g x s.stands none))

-- ---- deliveries

module _ (c : Cell) (g : model.Cell) (n : ℕ) (l : Letter) (s : Stands c g) (there : Some l ≡ letter_at c.bag n) where
  known : (m : model.Message) × (message_at g n ≡ Some m) × StandsLetter l m
  known = letter_there c.bag g n l s.stands.bag (sym there)

  receiver : known.0.receiver ≡ l.to.0
  receiver = known.2.stands.head.receiver

  -- the receiver of a letter was not made
  pub letter_unmade : house_of c.houses.items l.to.0 ≡ None → IsStepAs (answer.Refused why.Down) c (effect g (command.Deliver n))
  letter_unmade none =
      let unmade : house_of c.houses.items known.0.receiver ≡ None = ap (λ x. house_of c.houses.items x) receiver ∙ none in
      down_comes c g n known.0 s known.1 (unmade_down c g known.0.receiver s unmade)

  module _ (at : ℕ) (h : CellHouse) (place : IsPlaceOf c.houses.items l.to.0 at) (here : h ≡ get_or c.houses.items at h) where
    place_there : IsPlaceOf c.houses.items known.0.receiver at
    place_there = subst (λ x. IsPlaceOf c.houses.items x at) (sym receiver) place

    stands_there : StandsState h.house h.state (g.house known.0.receiver)
    stands_there =
        (house_stands c g known.0.receiver at h s.stands place_there
        (slice_get_read c.houses.items (length c.houses.items) at h refl (place_within c.houses.items known.0.receiver at place_there) here)).state

    -- it is down
    pub letter_down : (octets : List ℕ) → h.state ≡ state.Down octets → IsStepAs (answer.Refused why.Down) c (effect g (command.Deliver n))
    letter_down octets is =
        down_comes c g n known.0 s known.1 (subst (λ x. StandsState h.house x (g.house known.0.receiver)) is stands_there).0

    -- it is up, and gets what is decoded
    pub letter_comes : (home : Clearinghouse) (r : Result (Message × ℕ) (AllocOr RecordFault)) (d : Message × ℕ) → h.state ≡ state.Up home
        → Decodes records.message (rc_slice_items l.shared) r → r ≡ Ok d → Delivers c g n at d.0
    letter_comes home r d is decodes ok =
        let message = letter_decodes l known.0 r known.2 decodes d ok in record {
          it = known.0;
          there = known.1;
          up = (subst (λ x. StandsState h.house x (g.house known.0.receiver)) is stands_there).0;
          place = place_there;
          stands = subst (λ x. StandsMessage x d.0 known.0) (sym receiver) message.0;
          valid = message.1;
        }

  -- no fault is found in it
  pub letter_sound : (r : Result (Message × ℕ) (AllocOr RecordFault)) (f : RecordFault) → Decodes records.message (rc_slice_items l.shared) r
      → r ≡ Err (Fault f) → ⊥
  letter_sound r f decodes err = letter_faultless l known.0 r known.2 decodes f err

-- ---- losses

-- a message that is lost
pub lose_comes : (c d : Cell) (g : model.Cell) (n : ℕ) (r : Option (Bor Letter)) → Stands c g → option_copied r ≡ letter_at c.bag n → is_some r ≡ true
    → d.houses ≡ c.houses → KeepsRest c d → d.bag.posted ≡ c.bag.posted → ((q : ℕ) → letter_at d.bag q ≡ (if q == n then None else letter_at c.bag q))
    → IsStepAs answer.Done d (effect g (command.Lose n))
lose_comes c d g n None s there some houses rest posted letters = absurd (cc)
lose_comes c d g n (Some r) s there some houses rest posted letters =
    let known = letter_there c.bag g n r.now s.stands.bag (sym there) in
    let g' : model.Cell = record g { lost = n ∷ g.lost } in
    let is : effect g (command.Lose n) ≡ stays g' command.Done = rw known.1 refl in
    subst (λ (z : Outcome). IsStepAs answer.Done d z) (sym is)
    (record {
      answer = refl;
      stands = lost_elsewhere c d g n s.stands houses rest (lost_stands c.bag d.bag g n known.0 s.stands.bag known.1 posted letters);
    })

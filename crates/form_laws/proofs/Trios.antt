-- Three houses that hold one directory at its first epoch, and what a turn of one of them leaves.
use Rattle.std.proofs.Common.{◌≡◌, ℕ, ◌+◌, ◌<◌, ◌≤◌, true, false, List, [], ◌∷◌, ◌++◌, Option, refl, ap, ◌∙◌, subst, arith, ⊎_elim}
use Rattle.cds_stamps.specs.declared.members.MemberKind.TheVariants.{Master, ReadOnly}
use Rattle.cds_stamps.specs.declared.stamp.Stamp.{Stamp}
use Rattle.cds_stamps.specs.Members.{Member, is_listed}
use Rattle.directory.specs.Histories.{Mark}
use Rattle.cell_model.specs.Cells.{Phase, Replica, Held, House, Message, Cell, empty_cell}
use Rattle.cell_model.specs.Commands.{Command, Answer, Accepted, Deliver}
use Rattle.cell_model.specs.Sets.{In, has}
use Rattle.cell_model.specs.Turns.{with_slot, turn_without_updates, take}
use Rattle.cell_model.specs.Steps.{Outcome, outcome, replay, accepted_updates, serials_of}
use Rattle.cell_model.specs.Mending.{HasWorked}
use Rattle.cell_model.proofs.Lists.{append_nil, In-append_cases}
use Rattle.cell_model.proofs.Views.{put_at, put_same}
use Rattle.cell_model.proofs.Runs.{replay-append, accepted-append}
use Rattle.cell_model.proofs.Deliveries.{Waiting, delivered, waiting_next}
use Rattle.cell_model.proofs.Readiness.{changed}
use Rattle.form_laws.proofs.Goings.{Goes, goes_first, with_answer}

-- the list of the three: house 1 is the master
abbrev pub trio : List Member
trio = record { house = 1; since = 1; kind = Master } ∷ record { house = 2; since = 1; kind = ReadOnly } ∷ record { house = 3; since = 1; kind = ReadOnly } ∷ []

-- a replica at epoch 1 with that list
abbrev pub replica : List Mark → Option Stamp → Phase → Replica
replica h a p = record { epoch = 1; members = trio; history = h; all_up_to = a; phase = p }

-- ---- the commands so far

-- commands lead to the cell, of which these updates were accepted
pub record Past (log : List Accepted) (g : Cell) : Type 0 where
  pub commands : List Command
  pub leads : replay commands ≡ g
  pub logged : accepted_updates commands ≡ log

-- one command more
pub past_step : (log : List Accepted) (g : Cell) (c : Command) (o : Outcome) → outcome g c ≡ o → Past log g → Past (log ++ o.accepted) o.cell
past_step log g c o e p = record {
  commands = p.commands ++ c ∷ [];
  leads = replay-append p.commands (c ∷ []) empty_cell ∙ ap (λ (z : Cell). (outcome z c).cell) p.leads ∙ ap (λ (z : Outcome). z.cell) e;
  logged = accepted-append p.commands (c ∷ []) empty_cell
      ∙ ap (λ (l : List Accepted). accepted_updates p.commands ++ l)
      (append_nil (outcome (replay p.commands) c).accepted ∙ ap (λ (z : Cell). (outcome z c).accepted) p.leads ∙ ap (λ (z : Outcome). z.accepted) e)
      ∙ ap (λ (l : List Accepted). l ++ o.accepted) p.logged;
}

-- ---- the three houses

-- a house that is up, with clock 0, a floor of at most this, and a replica at epoch 1
pub record Seated (floor : ℕ) (now : House) : Type 0 where
  pub up : now.up ≡ true
  pub clock : now.clock ≡ 0
  pub low : now.floor ≤ floor
  pub history : List Mark
  pub up_to : Option Stamp
  pub phase : Phase
  pub held : now.slots 1 ≡ Held (replica history up_to phase)

-- the update is one of house 1
abbrev pub IsOwn : Accepted → Type 0
IsOwn a = (a.by ≡ 1) × (a.since ≡ 1) × (a.dir ≡ 1)

-- the three houses are seated, house 1 alone accepted updates, and no message after serial p is
-- lost
pub record Steady (floor : ℕ) (log : List Accepted) (p : ℕ) (g : Cell) : Type 0 where
  pub past : Past log g
  pub own : (a : Accepted) → In a log → IsOwn a
  pub made : has 1 g.made ≡ true
  pub known : g.top 1 ≡ 1
  pub seat : (x : ℕ) → is_listed x trio ≡ true → Seated floor (g.house x)
  pub lost : (n : ℕ) → p < n → has n g.lost ≡ false

-- a house that is seated is so below a higher floor
pub seated_below : (f f' : ℕ) (now : House) → f ≤ f' → Seated f now → Seated f' now
seated_below f f' now le s = record {
  up = s.up;
  clock = s.clock;
  low = omega (arith, s.low);
  history = s.history;
  up_to = s.up_to;
  phase = s.phase;
  held = s.held;
}

-- and so are the three houses
pub steady_below : (f f' : ℕ) (log : List Accepted) (p : ℕ) (g : Cell) → f ≤ f' → Steady f log p g → Steady f' log p g
steady_below f f' log p g le s = record {
  past = s.past;
  own = s.own;
  made = s.made;
  known = s.known;
  seat = λ x l. seated_below f f' (g.house x) le (s.seat x l);
  lost = s.lost;
}

-- a turn of one of the houses, which holds this then
pub turned_steady : (f f' : ℕ) (log new : List Accepted) (p : ℕ) (g : Cell) (c : Command) (y floor : ℕ) (h : List Mark) (a : Option Stamp) (ph : Phase)
    (posts : List Message) (answer : Answer)
    → outcome g c ≡ record { cell = changed g y 1 floor (replica h a ph) posts; answer = answer; accepted = new }
    → is_listed y trio ≡ true → floor ≤ f' → f ≤ f' → ((b : Accepted) → In b new → IsOwn b) → Steady f log p g
    → Steady f' (log ++ new) p (changed g y 1 floor (replica h a ph) posts)
turned_steady f f' log new p g c y floor h a ph posts answer e listed low le own s =
    let now : House = with_slot (g.house y) 1 floor (Held (replica h a ph)) in
    record {
      past = past_step log g c _ e s.past;
      own = λ b i. ⊎_elim (λ was. s.own b was) (λ is. own b is) (In-append_cases b log new i);
      made = s.made;
      known = s.known;
      seat = put_at (λ x (v : House). is_listed x trio ≡ true → Seated f' v) g.house y now
          (λ l. record {
            up = (s.seat y l).up;
            clock = (s.seat y l).clock;
            low = low;
            history = h;
            up_to = a;
            phase = ph;
            held = put_same (g.house y).slots 1 (Held (replica h a ph));
          }) (λ x _ l. seated_below f f' (g.house x) le (s.seat x l));
      lost = s.lost;
    }

-- a turn in which no update is accepted
pub quiet_steady : (f f' : ℕ) (log : List Accepted) (p : ℕ) (g : Cell) (c : Command) (y floor : ℕ) (h : List Mark) (a : Option Stamp) (ph : Phase)
    (posts : List Message) (answer : Answer)
    → outcome g c ≡ record { cell = changed g y 1 floor (replica h a ph) posts; answer = answer; accepted = [] }
    → is_listed y trio ≡ true → floor ≤ f' → f ≤ f' → Steady f log p g → Steady f' log p (changed g y 1 floor (replica h a ph) posts)
quiet_steady f f' log p g c y floor h a ph posts answer e listed low le s =
    subst (λ (l : List Accepted). Steady f' l p (changed g y 1 floor (replica h a ph) posts)) (append_nil log)
    (turned_steady f f' log [] p g c y floor h a ph posts answer e listed low le (λ b i. elim i [ ]) s)

-- the next delivery, which its receiver takes so, and what comes after it
pub deliver_run : (f p q : ℕ) (log : List Accepted) (g : Cell) (m : Message) (ms : List Message) (floor : ℕ) (h : List Mark) (a : Option Stamp) (ph : Phase)
    (posts : List Message) (answer : List ℕ → Answer) (cs : List Command) (n : ℕ) (S : Cell → Type 0)
    → Steady f log p g → Waiting g q (m ∷ ms) → is_listed m.receiver trio ≡ true → floor ≤ f
    → take (g.house m.receiver) m ≡ turn_without_updates (with_slot (g.house m.receiver) 1 floor (Held (replica h a ph))) posts answer
    → HasWorked (answer (serials_of g posts))
    → (Steady f log p (changed g m.receiver 1 floor (replica h a ph) posts)
    → Waiting (changed g m.receiver 1 floor (replica h a ph) posts) (q + 1) (ms ++ posts)
    → Goes (changed g m.receiver 1 floor (replica h a ph) posts) cs n S)
    → Goes g (Deliver (q + 1) ∷ cs) (with_answer (answer (serials_of g posts)) n) S
deliver_run f p q log g m ms floor h a ph posts answer cs n S s w listed low t works rest =
    let e = delivered g q m ms (turn_without_updates (with_slot (g.house m.receiver) 1 floor (Held (replica h a ph))) posts answer) w (s.seat m.receiver listed).up t in
    let g' : Cell = changed g m.receiver 1 floor (replica h a ph) posts in
    let le : f ≤ f = omega arith in
    goes_first g (Deliver (q + 1)) cs n S _ e works refl
    (rest (quiet_steady f f log p g (Deliver (q + 1)) m.receiver floor h a ph posts (answer (serials_of g posts)) e listed low le s)
    (waiting_next g g' q m ms posts w refl refl))

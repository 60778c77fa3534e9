-- A skulk of the three houses: ten messages, each of them taken, and then none waits.
use Rattle.std.proofs.Common.{◌≡◌, ◌≢◌, ℕ, ◌+◌, ◌≤◌, true, false, List, [], ◌∷◌, length, Option, refl, ap, ◌∙◌, arith}
use Rattle.cds_stamps.specs.declared.stamp.Stamp.{Stamp}
use Rattle.directory.specs.Histories.{Mark}
use Rattle.cell_model.specs.Cells.{Replica, Idle, Gathering, Spreading, Copy, Gather, Gathered, Spread, SpreadAck, Advance, Message, Cell, IsHeld}
use Rattle.cell_model.specs.Commands.{Accepted, Taken, Complete}
use Rattle.cell_model.specs.Turns.{floor_after, take_in, copy_of, merge_copy, later_up_to, to_others, reply}
use Rattle.cell_model.specs.Mending.{deliver_commands}
use Rattle.cell_model.proofs.Lists.{append_nil}
use Rattle.cell_model.proofs.Deliveries.{Waiting}
use Rattle.cell_model.proofs.Readiness.{letter, held_here, held_there, gather_taken, spread_taken, answer_taken, ack_taken}
use Rattle.form_laws.proofs.Goings.{Goes, goes_none}
use Rattle.form_laws.proofs.Trios.{trio, replica, Steady, deliver_run}

-- the houses are steady, and so many messages were posted
pub record Filled (f : ℕ) (log : List Accepted) (p n : ℕ) (g : Cell) : Type 0 where
  pub steady : Steady f log p g
  pub count : length g.bag ≡ n

-- where nothing waits after serial q, q messages were posted
pub none_waits : (g : Cell) (q : ℕ) → Waiting g q [] → length g.bag ≡ q
none_waits g q w = ap length (w.bag ∙ append_nil w.before) ∙ w.count

module _ (f p n : ℕ) (log : List Accepted) (t : Stamp) where
  -- the last house hears that all is complete
  last_advance : (g : Cell) (q x : ℕ) → Steady f log p g → q + 1 ≡ n → x ≤ f → Waiting g q (letter 1 1 3 1 x (Advance t) ∷ [])
      → Goes g (deliver_commands q 1) 0 (Filled f log p n)
  last_advance g q x s e low w =
      let z : Message = letter 1 1 3 1 x (Advance t) in
      let y = s.seat 3 refl in
      let fl : floor_after (g.house 3) z ≤ f = omega (arith, y.low) in
      deliver_run f p q log g z [] (floor_after (g.house 3) z) y.history (later_up_to y.up_to t) y.phase [] Taken [] 0 (Filled f log p n) s w refl fl
      (ap (take_in (g.house 3) z (Advance t)) y.held) tt
      (λ s' w'. goes_none _ (Filled f log p n) (record { steady = s'; count = none_waits _ (q + 1) w' ∙ e }))

  -- both houses do
  advances : (g : Cell) (q x : ℕ) → Steady f log p g → q + 2 ≡ n → x ≤ f → Waiting g q (letter 1 1 2 1 x (Advance t) ∷ letter 1 1 3 1 x (Advance t) ∷ [])
      → Goes g (deliver_commands q 2) 0 (Filled f log p n)
  advances g q x s e low w =
      let z : Message = letter 1 1 2 1 x (Advance t) in
      let y = s.seat 2 refl in
      let fl : floor_after (g.house 2) z ≤ f = omega (arith, y.low) in
      let more : (q + 1) + 1 ≡ n = omega arith in
      deliver_run f p q log g z (letter 1 1 3 1 x (Advance t) ∷ []) (floor_after (g.house 2) z) y.history (later_up_to y.up_to t) y.phase [] Taken
      (deliver_commands (q + 1) 1) 0 (Filled f log p n) s w refl fl
      (ap (take_in (g.house 2) z (Advance t)) y.held) tt
      (λ s' w'. last_advance _ (q + 1) x s' more low w')

  -- the last answer of the second round completes the skulk
  completed : (g : Cell) (q x : ℕ) (h : List Mark) (a : Option Stamp) → Steady f log p g → IsHeld g 1 1 (replica h a (Spreading t (2 ∷ []))) → q + 3 ≡ n
      → x ≤ f → Waiting g q (letter 1 1 1 3 x (SpreadAck t) ∷ []) → Goes g (deliver_commands q 3) 1 (Filled f log p n)
  completed g q x h a s at e low w =
      let z : Message = letter 1 1 1 3 x (SpreadAck t) in
      let y = s.seat 1 refl in
      let fl : floor_after (g.house 1) z ≤ f = omega (arith, y.low) in
      let more : (q + 1) + 2 ≡ n = omega arith in
      deliver_run f p q log g z [] (floor_after (g.house 1) z) h (later_up_to a t) Idle
      (to_others (g.house 1) z (replica h a (Spreading t (2 ∷ []))) (Advance t)) (Complete t) (deliver_commands (q + 1) 2) 0 (Filled f log p n) s w refl fl
      (ack_taken 1 1 trio 1 t (2 ∷ []) (g.house 1) 3 x (replica h a (Spreading t (2 ∷ []))) true refl at refl refl refl refl) tt
      (λ s' w'. advances _ (q + 1) (floor_after (g.house 1) z) s' more fl w')

  -- the first answer of the second round
  first_ack : (g : Cell) (q x x' : ℕ) (h : List Mark) (a : Option Stamp) → Steady f log p g → IsHeld g 1 1 (replica h a (Spreading t [])) → q + 4 ≡ n
      → x ≤ f → x' ≤ f → Waiting g q (letter 1 1 1 2 x (SpreadAck t) ∷ letter 1 1 1 3 x' (SpreadAck t) ∷ []) → Goes g (deliver_commands q 4) 1 (Filled f log p n)
  first_ack g q x x' h a s at e low low' w =
      let z : Message = letter 1 1 1 2 x (SpreadAck t) in
      let y = s.seat 1 refl in
      let fl : floor_after (g.house 1) z ≤ f = omega (arith, y.low) in
      let more : (q + 1) + 3 ≡ n = omega arith in
      deliver_run f p q log g z (letter 1 1 1 3 x' (SpreadAck t) ∷ []) (floor_after (g.house 1) z) h a (Spreading t (2 ∷ []))
      [] Taken (deliver_commands (q + 1) 3) 1 (Filled f log p n) s w refl fl
      (ack_taken 1 1 trio 1 t [] (g.house 1) 2 x (replica h a (Spreading t [])) false refl at refl refl refl refl) tt
      (λ s' w'. completed _ (q + 1) x' h a s' (held_here g 1 1 (floor_after (g.house 1) z) (replica h a (Spreading t (2 ∷ []))) []) more low' w')

  -- house 3 takes what the master has
  second_spread : (g : Cell) (q x x' : ℕ) (c : Copy) (h : List Mark) (a : Option Stamp) → Steady f log p g → IsHeld g 1 1 (replica h a (Spreading t []))
      → q + 5 ≡ n → x ≤ f → x' ≤ f → Waiting g q (letter 1 1 3 1 x (Spread t c) ∷ letter 1 1 1 2 x' (SpreadAck t) ∷ [])
      → Goes g (deliver_commands q 5) 1 (Filled f log p n)
  second_spread g q x x' c h a s at e low low' w =
      let z : Message = letter 1 1 3 1 x (Spread t c) in
      let y = s.seat 3 refl in
      let fl : floor_after (g.house 3) z ≤ f = omega (arith, y.low) in
      let more : (q + 1) + 4 ≡ n = omega arith in
      let apart : 1 ≢ 3 = grind arith in
      let r : Replica = merge_copy (replica y.history y.up_to y.phase) c in
      let posts : List Message = reply (g.house 3) z (SpreadAck t) in
      deliver_run f p q log g z (letter 1 1 1 2 x' (SpreadAck t) ∷ []) (floor_after (g.house 3) z) r.history r.all_up_to r.phase posts Taken
      (deliver_commands (q + 1) 4) 1 (Filled f log p n) s w refl fl
      (spread_taken 1 1 trio 1 t c (g.house 3) 3 x (replica y.history y.up_to y.phase) refl y.held refl refl) tt
      (λ s' w'. first_ack _ (q + 1) x' (floor_after (g.house 3) z) h a s'
      (held_there g 3 1 (floor_after (g.house 3) z) r posts 1 (replica h a (Spreading t [])) apart at) more low' fl w')

  -- house 2 does
  first_spread : (g : Cell) (q x : ℕ) (c : Copy) (h : List Mark) (a : Option Stamp) → Steady f log p g → IsHeld g 1 1 (replica h a (Spreading t []))
      → q + 6 ≡ n → x ≤ f → Waiting g q (letter 1 1 2 1 x (Spread t c) ∷ letter 1 1 3 1 x (Spread t c) ∷ []) → Goes g (deliver_commands q 6) 1 (Filled f log p n)
  first_spread g q x c h a s at e low w =
      let z : Message = letter 1 1 2 1 x (Spread t c) in
      let y = s.seat 2 refl in
      let fl : floor_after (g.house 2) z ≤ f = omega (arith, y.low) in
      let more : (q + 1) + 5 ≡ n = omega arith in
      let apart : 1 ≢ 2 = grind arith in
      let r : Replica = merge_copy (replica y.history y.up_to y.phase) c in
      let posts : List Message = reply (g.house 2) z (SpreadAck t) in
      deliver_run f p q log g z (letter 1 1 3 1 x (Spread t c) ∷ []) (floor_after (g.house 2) z) r.history r.all_up_to r.phase posts Taken
      (deliver_commands (q + 1) 5) 1 (Filled f log p n) s w refl fl
      (spread_taken 1 1 trio 1 t c (g.house 2) 2 x (replica y.history y.up_to y.phase) refl y.held refl refl) tt
      (λ s' w'. second_spread _ (q + 1) x (floor_after (g.house 2) z) c h a s'
      (held_there g 2 1 (floor_after (g.house 2) z) r posts 1 (replica h a (Spreading t [])) apart at) more low fl w')

  -- the last answer of the first round begins the second
  last_gathered : (g : Cell) (q x : ℕ) (c : Copy) (h : List Mark) (a : Option Stamp) → Steady f log p g → IsHeld g 1 1 (replica h a (Gathering t (2 ∷ [])))
      → q + 7 ≡ n → x ≤ f → Waiting g q (letter 1 1 1 3 x (Gathered t c) ∷ []) → Goes g (deliver_commands q 7) 1 (Filled f log p n)
  last_gathered g q x c h a s at e low w =
      let z : Message = letter 1 1 1 3 x (Gathered t c) in
      let y = s.seat 1 refl in
      let fl : floor_after (g.house 1) z ≤ f = omega (arith, y.low) in
      let more : (q + 1) + 6 ≡ n = omega arith in
      let r : Replica = merge_copy (replica h a (Gathering t (2 ∷ []))) c in
      let posts : List Message = to_others (g.house 1) z (replica h a (Gathering t (2 ∷ []))) (Spread t (copy_of r)) in
      deliver_run f p q log g z [] (floor_after (g.house 1) z) r.history r.all_up_to (Spreading t []) posts Taken
      (deliver_commands (q + 1) 6) 1 (Filled f log p n) s w refl fl
      (answer_taken 1 1 trio 1 t c (2 ∷ []) (g.house 1) 3 x (replica h a (Gathering t (2 ∷ []))) true refl at refl refl refl refl) tt
      (λ s' w'. first_spread _ (q + 1) (floor_after (g.house 1) z) (copy_of r) r.history r.all_up_to s'
      (held_here g 1 1 (floor_after (g.house 1) z) (replica r.history r.all_up_to (Spreading t [])) posts) more fl w')

  -- the first answer of the first round
  first_gathered : (g : Cell) (q x x' : ℕ) (c c' : Copy) (h : List Mark) (a : Option Stamp) → Steady f log p g → IsHeld g 1 1 (replica h a (Gathering t []))
      → q + 8 ≡ n → x ≤ f → x' ≤ f → Waiting g q (letter 1 1 1 2 x (Gathered t c) ∷ letter 1 1 1 3 x' (Gathered t c') ∷ [])
      → Goes g (deliver_commands q 8) 1 (Filled f log p n)
  first_gathered g q x x' c c' h a s at e low low' w =
      let z : Message = letter 1 1 1 2 x (Gathered t c) in
      let y = s.seat 1 refl in
      let fl : floor_after (g.house 1) z ≤ f = omega (arith, y.low) in
      let more : (q + 1) + 7 ≡ n = omega arith in
      let r : Replica = merge_copy (replica h a (Gathering t [])) c in
      deliver_run f p q log g z (letter 1 1 1 3 x' (Gathered t c') ∷ []) (floor_after (g.house 1) z) r.history r.all_up_to (Gathering t (2 ∷ [])) [] Taken
      (deliver_commands (q + 1) 7) 1 (Filled f log p n) s w refl fl
      (answer_taken 1 1 trio 1 t c [] (g.house 1) 2 x (replica h a (Gathering t [])) false refl at refl refl refl refl) tt
      (λ s' w'. last_gathered _ (q + 1) x' c' r.history r.all_up_to s'
      (held_here g 1 1 (floor_after (g.house 1) z) (replica r.history r.all_up_to (Gathering t (2 ∷ []))) []) more low' w')

  -- house 3 answers with what it has
  second_gather : (g : Cell) (q x x' : ℕ) (c : Copy) (h : List Mark) (a : Option Stamp) → Steady f log p g → IsHeld g 1 1 (replica h a (Gathering t []))
      → q + 9 ≡ n → x ≤ f → x' ≤ f → Waiting g q (letter 1 1 3 1 x (Gather t) ∷ letter 1 1 1 2 x' (Gathered t c) ∷ [])
      → Goes g (deliver_commands q 9) 1 (Filled f log p n)
  second_gather g q x x' c h a s at e low low' w =
      let z : Message = letter 1 1 3 1 x (Gather t) in
      let y = s.seat 3 refl in
      let fl : floor_after (g.house 3) z ≤ f = omega (arith, y.low) in
      let more : (q + 1) + 8 ≡ n = omega arith in
      let apart : 1 ≢ 3 = grind arith in
      let r : Replica = replica y.history y.up_to y.phase in
      let posts : List Message = reply (g.house 3) z (Gathered t (copy_of r)) in
      deliver_run f p q log g z (letter 1 1 1 2 x' (Gathered t c) ∷ []) (floor_after (g.house 3) z) y.history y.up_to y.phase posts Taken
      (deliver_commands (q + 1) 8) 1 (Filled f log p n) s w refl fl
      (gather_taken 1 1 trio 1 t (g.house 3) 3 x r refl y.held refl refl) tt
      (λ s' w'. first_gathered _ (q + 1) x' (floor_after (g.house 3) z) c (copy_of r) h a s'
      (held_there g 3 1 (floor_after (g.house 3) z) r posts 1 (replica h a (Gathering t [])) apart at) more low' fl w')

  -- house 2 does
  pub first_gather : (g : Cell) (q x : ℕ) (h : List Mark) (a : Option Stamp) → Steady f log p g → IsHeld g 1 1 (replica h a (Gathering t []))
      → q + 10 ≡ n → x ≤ f → Waiting g q (letter 1 1 2 1 x (Gather t) ∷ letter 1 1 3 1 x (Gather t) ∷ []) → Goes g (deliver_commands q 10) 1 (Filled f log p n)
  first_gather g q x h a s at e low w =
      let z : Message = letter 1 1 2 1 x (Gather t) in
      let y = s.seat 2 refl in
      let fl : floor_after (g.house 2) z ≤ f = omega (arith, y.low) in
      let more : (q + 1) + 9 ≡ n = omega arith in
      let apart : 1 ≢ 2 = grind arith in
      let r : Replica = replica y.history y.up_to y.phase in
      let posts : List Message = reply (g.house 2) z (Gathered t (copy_of r)) in
      deliver_run f p q log g z (letter 1 1 3 1 x (Gather t) ∷ []) (floor_after (g.house 2) z) y.history y.up_to y.phase posts Taken
      (deliver_commands (q + 1) 9) 1 (Filled f log p n) s w refl fl
      (gather_taken 1 1 trio 1 t (g.house 2) 2 x r refl y.held refl refl) tt
      (λ s' w'. second_gather _ (q + 1) x (floor_after (g.house 2) z) (copy_of r) h a s'
      (held_there g 2 1 (floor_after (g.house 2) z) r posts 1 (replica h a (Gathering t [])) apart at) more low fl w')

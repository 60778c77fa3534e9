-- Over whole runs.
use Rattle.std.proofs.Common.{◌≡◌, ℕ, ◌≤◌, Bool, true, false, eqb, cond, List, [], ◌∷◌, ◌++◌, refl, sym, ap, ◌∙◌, subst, arith, append_assoc}
use Rattle.cds_stamps.specs.Members.{Member}
use Rattle.cell_model.specs.Cells.{Cell, empty_cell}
use Rattle.cell_model.specs.Commands.{Command, Accepted}
use Rattle.cell_model.specs.Steps.{outcome, replay_from, replay, accepted_from, accepted_updates}
use Rattle.cell_model.specs.Agreement.{place_of}
use Rattle.cell_model.proofs.Lists.{append_nil}
use Rattle.cell_model.proofs.Terms.{Listed}
use Rattle.cell_model.proofs.Facts.{view, Roll}
use Rattle.cell_model.proofs.Moves.{outcome_steps}
use Rattle.cell_model.proofs.Wholes.{Plain, Ends, stay, next, step_onward, run_onward, empty_plain, home_of, home_right}
use Rattle.cell_model.proofs.Passages.{Fit, Passage, passage, Reaching, reaching_kept}

-- commands run one list after the other
pub replay-append : (cs ds : List Command) (g : Cell) → replay_from g (cs ++ ds) ≡ replay_from (replay_from g cs) ds
replay-append [] ds g = refl
replay-append (c ∷ cs) ds g = replay-append cs ds (outcome g c).cell

-- and so do their accepted updates come
pub accepted-append : (cs ds : List Command) (g : Cell) → accepted_from g (cs ++ ds) ≡ accepted_from g cs ++ accepted_from (replay_from g cs) ds
accepted-append [] ds g = refl
accepted-append (c ∷ cs) ds g = ap (λ (l : List Accepted). (outcome g c).accepted ++ l) (accepted-append cs ds (outcome g c).cell)
    ∙ sym (append_assoc (outcome g c).accepted (accepted_from (outcome g c).cell cs) (accepted_from (replay_from (outcome g c).cell cs) ds))

-- ---- what a run says of a directory

-- the member list of each epoch of a run
abbrev pub lists_of : ℕ → List Command → Cell → ℕ → List Member
lists_of d [] g e = g.present d
lists_of d (c ∷ cs) g e = cond (eqb e (g.top d)) (g.present d) (lists_of d cs (outcome g c).cell e)

lists_here : (d : ℕ) (cs : List Command) (g : Cell) → lists_of d cs g (g.top d) ≡ g.present d
lists_here d [] g = refl
lists_here d (c ∷ cs) g = let q : eqb (g.top d) (g.top d) ≡ true = grind arith in
    ap (λ (b : Bool). cond b (g.present d) (lists_of d cs (outcome g c).cell (g.top d))) q

lists_step : (d : ℕ) (g g' : Cell) (rest : List Member) (b : Bool) → eqb (g'.top d) (g.top d) ≡ b → Ends d g g' → rest ≡ g'.present d
    → cond b (g.present d) rest ≡ g'.present d
lists_step d g g' rest false q e h = h
lists_step d g g' rest true q (stay e p) h = sym p
lists_step d g g' rest true q (next lt) h = let n : g'.top d ≡ g.top d = grind arith in absurd (omega arith)

lists_fit : (d : ℕ) (early late : List Command) (g : Cell) → Plain g
    → lists_of d (early ++ late) g ((replay_from g early).top d) ≡ (replay_from g early).present d
lists_fit d [] late g p = lists_here d late g
lists_fit d (c ∷ cs) late g p =
    let o = step_onward g c p in
    lists_step d g (replay_from (outcome g c).cell cs) (lists_of d (cs ++ late) (outcome g c).cell ((replay_from (outcome g c).cell cs).top d))
    (eqb ((replay_from (outcome g c).cell cs).top d) (g.top d)) refl ((run_onward (c ∷ cs) g p).ends d) (lists_fit d cs late (outcome g c).cell o.plain)

-- what a run says of a directory: its member lists, and the house of each node
abbrev pub roll_of : ℕ → List Command → Roll
roll_of d all = record { dir = d; list = lists_of d all empty_cell; home = home_of (replay all) }

-- what the run says fits each cell of it
pub fit_at : (d : ℕ) (all early late : List Command) → early ++ late ≡ all → Fit (roll_of d all) (replay early)
fit_at d all early late e =
    let here = run_onward early empty_cell empty_plain in
    let rest = run_onward late (replay early) here.plain in
    let last : replay_from (replay early) late ≡ replay all = sym (replay-append early late empty_cell) ∙ ap replay e in
    record {
      plain = here.plain;
      homes = λ x m. subst (λ (z : Cell). home_of z ((replay early).house x).node ≡ x) last
          (home_right (replay early) (replay_from (replay early) late) rest.plain rest x m);
      present = sym (subst (λ (l : List Command). lists_of d l empty_cell ((replay early).top d) ≡ (replay early).present d) e
          (lists_fit d early late empty_cell empty_plain));
    }

-- ---- the invariant at each cell of a run

empty_reaching : (roll : Roll) → [] ≡ roll.list 0 → Reaching roll (view roll.dir empty_cell) []
empty_reaching roll none = record {
  sound = record {
    good = record {
      none = λ x s l. no_member x s (subst (λ (z : List Member). Listed z x s) (sym none) l);
      order = λ e x s le l. absurd (at_zero e x s le l);
      term = λ d e x s de le sd l. absurd (at_zero e x s le l);
      chain = λ e low le. absurd (omega arith);
    };
    present = none;
    held = λ x r h. absurd (cc);
    gone = λ x e h. absurd (cc);
    messages = λ m i. elim i [ ];
    heads = λ e le. absurd (omega arith);
  };
  rounds = λ h r at. absurd (cc);
  known = record {
    only = λ x r h. absurd (cc);
    only_m = λ m i. elim i [ ];
    up = λ a i. elim i [ ];
    term = λ a i. elim i [ ];
    all = λ a r i. elim i [ ];
    well = λ a i. elim i [ ];
    origin = λ x r h. absurd (cc);
    origin_m = λ m i. elim i [ ];
  };
}
  where
    no_member : (x s : ℕ) → Listed [] x s → ⊥
    no_member x s l = let z : false ≡ true = l.0 in cc

    at_zero : (e x s : ℕ) → e ≤ 0 → Listed (roll.list e) x s → ⊥
    at_zero e x s le l = let z : e ≡ 0 = omega arith in no_member x s (subst (λ (y : List Member). Listed y x s) (ap roll.list z ∙ sym none) l)

-- a step of the run
pub step_passage : (d : ℕ) (all early late : List Command) (c : Command) → early ++ c ∷ late ≡ all
    → Reaching (roll_of d all) (view d (replay early)) (accepted_updates early)
    → Passage (roll_of d all) (view d (replay early)) (view d (outcome (replay early) c).cell) (outcome (replay early) c).accepted
step_passage d all early late c e r =
    let g = replay early in
    let o = outcome g c in
    let after : replay (early ++ c ∷ []) ≡ o.cell = replay-append early (c ∷ []) empty_cell in
    let f' = subst (λ (z : Cell). Fit (roll_of d all) z) after (fit_at d all (early ++ c ∷ []) late (append_assoc early (c ∷ []) late ∙ e)) in
    passage (roll_of d all) g o.cell (place_of g c) o.answer o.accepted (fit_at d all early (c ∷ late) e) f' r.sound (outcome_steps g c)

pub run_reaching : (d : ℕ) (all early mid late : List Command) → early ++ (mid ++ late) ≡ all
    → Reaching (roll_of d all) (view d (replay early)) (accepted_updates early) → Reaching (roll_of d all) (view d (replay (early ++ mid))) (accepted_updates (early ++ mid))
run_reaching d all early [] late e r = subst (λ (l : List Command). Reaching (roll_of d all) (view d (replay l)) (accepted_updates l)) (sym (append_nil early)) r
run_reaching d all early (c ∷ mid) late e r =
    let g = replay early in
    let o = outcome g c in
    let p = step_passage d all early (mid ++ late) c e r in
    let r' = reaching_kept (roll_of d all) (view d g) (view d o.cell) o.accepted (accepted_updates early) p r in
    let cell : replay (early ++ c ∷ []) ≡ o.cell = replay-append early (c ∷ []) empty_cell in
    let log : accepted_updates (early ++ c ∷ []) ≡ accepted_updates early ++ o.accepted = accepted-append early (c ∷ []) empty_cell
    ∙ ap (λ (l : List Accepted). accepted_updates early ++ l) (append_nil o.accepted) in
    let here : Reaching (roll_of d all) (view d (replay (early ++ c ∷ []))) (accepted_updates (early ++ c ∷ [])) =
    subst (λ (z : Cell). Reaching (roll_of d all) (view d z) (accepted_updates (early ++ c ∷ []))) (sym cell)
    (subst (λ (l : List Accepted). Reaching (roll_of d all) (view d o.cell) l) (sym log) r') in
    subst (λ (l : List Command). Reaching (roll_of d all) (view d (replay l)) (accepted_updates l)) (append_assoc early (c ∷ []) mid)
    (run_reaching d all (early ++ c ∷ []) mid late (append_assoc early (c ∷ []) (mid ++ late) ∙ e) here)

-- every cell of a run, in each directory
pub reaching_at : (d : ℕ) (all early late : List Command) → early ++ late ≡ all → Reaching (roll_of d all) (view d (replay early)) (accepted_updates early)
reaching_at d all early late e = run_reaching d all [] early late e (empty_reaching (roll_of d all) (sym (lists_fit d [] all empty_cell empty_plain)))

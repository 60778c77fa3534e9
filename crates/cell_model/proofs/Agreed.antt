-- From a skulk that completes to houses that agree: by the theorem of convergence.
use Rattle.std.proofs.Common.{◌≡◌, ◌≢◌, ℕ, ◌≤◌, true, List, [], ◌∷◌, ◌++◌, length, Some, refl, sym, ap, ◌∙◌, subst, arith, append_assoc}
use Rattle.cds_stamps.specs.declared.stamp.Stamp.{Stamp}
use Rattle.cds_stamps.specs.Members.{Member, master_of, is_listed}
use Rattle.cell_model.specs.Cells.{Phase, Idle, Gathering, Spreading, Replica, Cell, IsHeld, empty_cell}
use Rattle.cell_model.specs.Commands.{Command, Complete}
use Rattle.cell_model.specs.Turns.{running_skulk_stamp}
use Rattle.cell_model.specs.Steps.{outcome, replay_from, replay, accepted_updates}
use Rattle.cell_model.specs.Agreement.{place_of, Agrees}
use Rattle.cell_model.specs.Mending.{IsIdleBy, IsAgreedBy, IsSettled, SkulkCompletes, skulking_at}
use Rattle.cell_model.proofs.Lists.{append_nil}
use Rattle.cell_model.proofs.Bounds.{not_idle, same_held}
use Rattle.cell_model.proofs.Runs.{replay-append, roll_of}
use Rattle.cell_model.proofs.NeverComes.{reaching_last}
use Rattle.cell_model.proofs.Agreeing.{converges_lem}
use Rattle.cell_model.proofs.Deliveries.{Finish, Waiting}
use Rattle.cell_model.proofs.Readiness.{Ready}
use Rattle.cell_model.proofs.PresentLists.{Tidy, tidy_lem, others_once}
use Rattle.cell_model.proofs.ReadySkulks.{Skulked, CanSkulk, skulk_finishes}

-- where the last command completes the skulk t at m, the houses that hold the directory at that
-- epoch agree up to t
agreed_at : (early : List Command) (last : Command) (t : Stamp) (ns : List ℕ) (d k : ℕ) (ms : List Member)
    → (outcome (replay early) last).answer ≡ Complete t ns → place_of (replay early) last ≡ Some (master_of ms, d)
    → ((x : ℕ) (q : Replica) → is_listed x ms ≡ true → IsHeld (replay (early ++ last ∷ [])) x d q → q.epoch ≡ k) → is_listed (master_of ms) ms ≡ true
    → IsAgreedBy (early ++ last ∷ []) d t ms
agreed_at early last t ns d k ms answer place epochs listed =
    let all : List Command = early ++ last ∷ [] in
    let w = converges_lem all early [] last t ns refl answer in
    let same : Some (w.0, w.1) ≡ Some (master_of ms, d) = sym w.3 ∙ place in
    let pair : (w.0, w.1) ≡ (master_of ms, d) = cc in
    let v : (r : Replica) × IsHeld (replay all) (master_of ms) d r
    × ((x : ℕ) (q : Replica) → IsHeld (replay all) x d q → r.epoch ≤ q.epoch → Agrees d t (accepted_updates all) (accepted_updates all) r.history x q) =
    subst (λ (p : ℕ × ℕ). (r : Replica) × IsHeld (replay all) p.0 p.1 r
    × ((x : ℕ) (q : Replica) → IsHeld (replay all) x p.1 q → r.epoch ≤ q.epoch → Agrees p.1 t (accepted_updates all) (accepted_updates all) r.history x q))
    pair (w.2, w.4, w.5) in
    record {
      replica = v.0;
      held = v.1;
      agree = λ x q l at. v.2 x q at (omega (arith, epochs (master_of ms) v.0 listed v.1, epochs x q l at));
    }

-- where no skulk has a stamp, none runs
idle_when : (p : Phase) → ((t : Stamp) → running_skulk_stamp p ≡ Some t → ⊥) → p ≡ Idle
idle_when Idle none = refl
idle_when (Gathering t a) none = absurd (none t refl)
idle_when (Spreading t a) none = absurd (none t refl)

-- where nothing runs at the master, nothing runs at any house
idle_all : (all : List Command) (d m k : ℕ) (ms now : List Member) → master_of now ≡ m → ((x : ℕ) → is_listed x ms ≡ true → is_listed x now ≡ true)
    → Skulked d m k now (replay all) → IsIdleBy (replay all) d ms
idle_all all d m k ms now head kept s x q l at = idle_when q.phase runs
  where
    runs : (t : Stamp) → running_skulk_stamp q.phase ≡ Some t → ⊥
    runs t run =
        let h = s.ready.holds x (kept x l) in
        let same : q.members ≡ now = ap (λ (r : Replica). r.members) (same_held _ q h.0 at h.1) ∙ h.3 in
        let here : x ≡ m = sym (((reaching_last all d).sound.held x q at).phase t run).0 ∙ ap master_of same ∙ head in
        let one : q ≡ s.replica = same_held _ q s.replica (subst (λ (z : ℕ). IsHeld (replay all) z d q) here at) s.held in
        not_idle q.phase t (ap (λ (r : Replica). r.phase) one ∙ s.idle) run

-- what is left of commands that complete a skulk: the houses of a list hold its epoch, run nothing,
-- and agree
pub settles : (all next : List Command) (d k : ℕ) (t : Stamp) (ms now : List Member) → is_listed (master_of ms) ms ≡ true
    → master_of now ≡ master_of ms → ((x : ℕ) → is_listed x ms ≡ true → is_listed x now ≡ true)
    → Finish (replay all) (master_of ms) d next t (Skulked d (master_of ms) k now) → IsSettled all next d k t ms
settles all next d k t ms now listed head kept f =
    let c = f.completes in
    let over : Skulked d (master_of ms) k now (replay (all ++ next)) =
    subst (λ (g : Cell). Skulked d (master_of ms) k now g) (sym (replay-append all next empty_cell)) f.state in
    let ready = over.ready in
    let here : replay (all ++ c.early) ≡ replay_from (replay all) c.early = replay-append all c.early empty_cell in
    let parts : (all ++ c.early) ++ c.last ∷ [] ≡ all ++ next =
    append_assoc all c.early (c.last ∷ []) ∙ ap (λ (l : List Command). all ++ l) c.parts in
    let epochs : (x : ℕ) (q : Replica) → is_listed x ms ≡ true → IsHeld (replay (all ++ next)) x d q → q.epoch ≡ k =
    λ x q l at. let h = ready.holds x (kept x l) in ap (λ (r : Replica). r.epoch) (same_held _ q h.0 at h.1) ∙ h.2 in
    record {
      completes = c;
      held = λ x l. let h = ready.holds x (kept x l) in (h.0, h.1, h.2);
      idle = idle_all (all ++ next) d (master_of ms) k ms now head kept over;
      agreed = subst (λ (l : List Command). IsAgreedBy l d t ms) parts
          (agreed_at (all ++ c.early) c.last t c.serials d k ms
          (subst (λ (g : Cell). (outcome g c.last).answer ≡ Complete t c.serials) (sym here) c.answer)
          (subst (λ (g : Cell). place_of g c.last ≡ Some (master_of ms, d)) (sym here) c.place)
          (subst (λ (l : List Command). (x : ℕ) (q : Replica) → is_listed x ms ≡ true → IsHeld (replay l) x d q → q.epoch ≡ k) (sym parts) epochs) listed);
    }

-- nothing waits after the last message
pub waiting_none : (g : Cell) → Tidy g → Waiting g (length g.bag) []
waiting_none g v = record { before = g.bag; bag = sym (append_nil g.bag); count = refl; lost = v.lost }

-- an epoch from 1 on is one
pub some_epoch : (n : ℕ) → 1 ≤ n → n ≢ 0
some_epoch n low e = omega (arith, low, e)

-- where the houses of the present list are ready, a skulk and its messages are enough
pub ready_lem : (all : List Command) (d : ℕ) → SkulkCompletes all d
ready_lem all d t r stamp =
    let g = replay all in
    let ms : List Member = g.present d in
    let m : ℕ = master_of ms in
    let k : ℕ = g.top d in
    let v = tidy_lem all in
    let p = v.lists d in
    let some = some_epoch k r.known in
    let s = (reaching_last all d).sound in
    let listed = p.headed some in
    let ready : Ready d k ms g = record {
      up = r.up;
      holds = λ x l. let h = r.held x l in (h.0, h.1, h.2, (s.held x h.0 h.1).members ∙ ap (roll_of d all).list h.2 ∙ sym s.present);
    } in
    let can : CanSkulk d m k ms (Some t) (length g.bag) g = record {
      ready = ready;
      waiting = waiting_none g v;
      known = some;
      made = p.known m listed;
      stamp = stamp;
    } in
    settles all (skulking_at g d) d k t ms ms listed refl (λ x l. l) (skulk_finishes d m k ms t listed refl (others_once m ms p.once) g (length g.bag) can)

-- The master of a list that a house holds accepts updates.
use Rattle.std.proofs.Common.{◌≡◌, ℕ, ◌+◌, ◌⊎◌, inl, inr, Bool, true, false, List, [], ◌∷◌, map, refl, sym, ap, ◌∙◌, subst, ⊎_elim}
use Rattle.std.specs.Prelude.{Option, if◌then◌else◌, ◌==◌, ◌&&◌, ◌||◌}
use Rattle.cds_stamps.specs.declared.members.MemberKind.TheVariants.{Master, ReadOnly, Secondary}
use Rattle.cds_stamps.specs.Members.{Member, accepts_updates, is_accepting, is_listed, master_of, since_in}
use Rattle.cell_model.specs.Agreement.{place_of}
use Rattle.cell_model.specs.Cells.{Cell, IsHeld, Replica, empty_cell, put}
use Rattle.cell_model.specs.Commands.{Accepted, Answer, Command}
use Rattle.cell_model.specs.Reached.{IsReached}
use Rattle.cell_model.specs.Sets.{has}
use Rattle.cell_model.specs.Steps.{sorted_houses, kind_among, member_list_of, outcome, replay}
use Rattle.cell_model.proofs.Moves.{Move, Steps, acts, clocks, crashes, crowns, founds, houses, loses, mkdirs, one, outcome_steps, starts, stays}
use Rattle.cell_model.proofs.NeverComes.{reaching_last}
use Rattle.cell_model.proofs.Runs.{lists_of}
use Rattle.cell_model.proofs.Standing.{on_reached}
use Rattle.cell_model.proofs.Terms.{master_listed, master_new}
use Rattle.cell_model.proofs.Views.{put_at}

-- ---- lists

-- the house of this number, which a new list has as its master, accepts updates if it is listed
named_accepts : (old : List Member) (k m : ℕ) (ss hs : List ℕ)
    → is_listed m (map (λ x. record { house = x; since = since_in old x k; kind = kind_among m ss x }) hs) ≡ true
    → is_accepting m (map (λ x. record { house = x; since = since_in old x k; kind = kind_among m ss x }) hs) ≡ true
named_accepts old k m ss [] is = absurd (cc)
named_accepts old k m ss (h ∷ hs) is = by_test (h == m) (named_accepts old k m ss hs) is
  where
    listed : List Member
    listed = map (λ x. record { house = x; since = since_in old x k; kind = kind_among m ss x }) hs

    by_test : (b : Bool) → (is_listed m listed ≡ true → is_accepting m listed ≡ true) → (b || is_listed m listed) ≡ true
        → ((b && accepts_updates (if b then Master else (if has h ss then Secondary else ReadOnly))) || is_accepting m listed) ≡ true
    by_test true rest is = refl
    by_test false rest is = rest is

-- so the master of a new list does
listing_accepts : (old : List Member) (k m : ℕ) (rs ss : List ℕ) → is_accepting (master_of (member_list_of old k m rs ss)) (member_list_of old k m rs ss) ≡ true
listing_accepts old k m rs ss =
    ap (λ x. is_accepting x (member_list_of old k m rs ss)) (master_new old k m rs ss)
    ∙ named_accepts old k m ss (sorted_houses (m ∷ rs)) (master_listed old k m rs ss)

-- nobody is listed, or the master accepts updates
abbrev HasMaster : List Member → Type 0
HasMaster ms = (ms ≡ []) ⊎ (is_accepting (master_of ms) ms ≡ true)

listing_has : (old : List Member) (k m : ℕ) (rs ss : List ℕ) → HasMaster (member_list_of old k m rs ss)
listing_has old k m rs ss = inr (listing_accepts old k m rs ss)

-- ---- cells

-- so it is with each list that the console knows
abbrev HasMasters : Cell → Type 0
HasMasters g = (d : ℕ) → HasMaster (g.present d)

put_masters : (present : ℕ → List Member) (d : ℕ) (ms : List Member) → ((e : ℕ) → HasMaster (present e)) → HasMaster ms
    → (e : ℕ) → HasMaster (put present d ms e)
put_masters present d ms all it = put_at (λ e v. HasMaster v) present d ms it (λ e apart. all e)

move_masters : (g g' : Cell) (p : Option (ℕ × ℕ)) (a : Answer) (n : List Accepted) → HasMasters g → Move g p g' a n → HasMasters g'
move_masters g g' p a n all (stays b quiet) = all
move_masters g g' p a n all (houses h node free) = all
move_masters g g' p a n all (clocks h time made) = all
move_masters g g' p a n all (loses i) = all
move_masters g g' p a n all (crashes h up) = all
move_masters g g' p a n all (starts h made) = all
move_masters g g' p a n all (acts h d at floor o posts b l act) = all
move_masters g g' p a n all (founds d m rs ss ns root up none) = put_masters g.present d (member_list_of [] 1 m rs ss) all (listing_has [] 1 m rs ss)
move_masters g g' p a n all (crowns d m rs ss r up known at l since) =
    put_masters g.present d (member_list_of (g.present d) (g.top d + 1) m rs ss) all (listing_has (g.present d) (g.top d + 1) m rs ss)

step_masters : (g g' : Cell) (p : Option (ℕ × ℕ)) (a : Answer) (n : List Accepted) → HasMasters g → Steps g p g' a n → HasMasters g'
step_masters g g' p a n all (one _ _ _ m) = move_masters g g' p a n all m
step_masters g g' p a n all (mkdirs h d m u rs ss r s ns at i fine up known) =
    put_masters g.present g.next_dir (member_list_of [] 1 m rs ss) all (listing_has [] 1 m rs ss)

-- and with the list of each epoch of a run
lists_masters : (d : ℕ) (cs : List Command) (g : Cell) → HasMasters g → (e : ℕ) → HasMaster (lists_of d cs g e)
lists_masters d [] g all e = all d
lists_masters d (c ∷ cs) g all e =
    by_test (e == g.top d)
    (lists_masters d cs (outcome g c).cell
    (step_masters g (outcome g c).cell (place_of g c) (outcome g c).answer (outcome g c).accepted all (outcome_steps g c)) e)
  where
    by_test : (b : Bool) → HasMaster (lists_of d cs (outcome g c).cell e) → HasMaster (if b then g.present d else lists_of d cs (outcome g c).cell e)
    by_test true rest = all d
    by_test false rest = rest

-- ---- what houses hold

run_accepts : (commands : List Command) (x d : ℕ) (r : Replica) → IsHeld (replay commands) x d r → is_accepting (master_of r.members) r.members ≡ true
run_accepts commands x d r held =
    let ok = (reaching_last commands d).sound.held x r held in
    let listed : is_listed x r.members ≡ true = ap (is_listed x) ok.members ∙ ok.listed.1.0 in
    ⊎_elim
    (λ (none : lists_of d commands empty_cell r.epoch ≡ []). let empty : r.members ≡ [] = ok.members ∙ none in
    absurd (nobody (subst (λ (ms : List Member). is_listed x ms ≡ true) empty listed)))
    (λ some. subst (λ (ms : List Member). is_accepting (master_of ms) ms ≡ true) (sym ok.members) some)
    (lists_masters d commands empty_cell (λ e. inl refl) r.epoch)
  where
    nobody : is_listed x [] ≡ true → ⊥
    nobody is = absurd (cc)

-- a house that holds a directory, whose master it is by the list that it holds, accepts updates
pub held_accepts : (g : Cell) (x d : ℕ) (r : Replica) → IsReached g → IsHeld g x d r → master_of r.members ≡ x → is_accepting x r.members ≡ true
held_accepts g x d r reached held master =
    subst (λ (y : ℕ). is_accepting y r.members ≡ true) master
    (on_reached (λ (z : Cell). IsHeld z x d r → is_accepting (master_of r.members) r.members ≡ true) (λ commands. run_accepts commands x d r) g reached held)

-- Houses, nodes and directory numbers over a run.
use Rattle.std.proofs.Common.{◌≡◌, ◌≢◌, ℕ, ◌+◌, ◌<◌, ◌≤◌, ◌⊎◌, inl, inr, Bool, true, false}
use Rattle.std.proofs.Common.{◌||◌, eqb, cond, List, [], ◌∷◌, ◌++◌, refl, sym, ap, ◌∙◌}
use Rattle.std.proofs.Common.{subst, arith, ⊎_elim, le_refl, le_trans}
use Rattle.std.proofs.lemmas.Bool.{cases_lt}
use Rattle.cds_stamps.specs.Members.{Member}
use Rattle.cell_model.specs.Cells.{Slot, Absent, House, Message, Cell, put, no_house, empty_cell}
use Rattle.cell_model.specs.Commands.{Answer, Accepted, Command}
use Rattle.cell_model.specs.Sets.{has}
use Rattle.cell_model.specs.Turns.{with_slot}
use Rattle.cell_model.specs.Steps.{move_house, cell_with_directory, outcome, replay_from}
use Rattle.cell_model.specs.Agreement.{place_of}
use Rattle.std.specs.Prelude.{Option}
use Rattle.cell_model.proofs.Lists.{eq_from, eq_to, or_cases, or_left, or_right, or_true}
use Rattle.cell_model.proofs.Views.{put_at, put_same, put_other}
use Rattle.cell_model.proofs.EpochFrames.{Whole}
use Rattle.cell_model.proofs.MoveFrames.{taken_not, act_rises}
use Rattle.cell_model.proofs.Moves.{IsUp, Act, accepts, skulks, lone, updates, gives, gathers, turns, gathers_again, spreads, acks_early, acks}
use Rattle.cell_model.proofs.Moves.{completes, advances, copies, keeps, leaves, Move, stays, houses, clocks, loses, crashes, starts, acts, founds}
use Rattle.cell_model.proofs.Moves.{crowns, Steps, one, mkdirs, outcome_steps}

-- what holds of every cell that is reached, but for the house of each node
pub record Plain (g : Cell) : Type 0 where
  pub two : 2 ≤ g.next_dir
  pub unmade : (x : ℕ) → has x g.made ≡ false → g.house x ≡ no_house
  pub unknown : (d : ℕ) → g.next_dir ≤ d → g.top d ≡ 0
  pub bare : (d : ℕ) → g.top d ≡ 0 → g.present d ≡ []
  pub nodes : (x y : ℕ) → has x g.made ≡ true → has y g.made ≡ true → (g.house x).node ≡ (g.house y).node → x ≡ y

-- what holds of houses at large, with the house of each node
pub whole_of : (home : ℕ → ℕ) (g : Cell) → Plain g → ((x : ℕ) → has x g.made ≡ true → home (g.house x).node ≡ x) → Whole home g
whole_of home g p h = record { two = p.two; unmade = p.unmade; at_home = h; unknown = p.unknown; bare = p.bare }

-- the last epoch of a directory does not fall, and its list stays
pub data Ends (d : ℕ) (g g' : Cell) : Type 0 where
  stay : g'.top d ≡ g.top d → g'.present d ≡ g.present d → Ends d g g'
  next : g.top d < g'.top d → Ends d g g'

-- what each step keeps of houses and directories at large
pub record Onward (g g' : Cell) : Type 0 where
  pub plain : Plain g'
  pub kept : (x : ℕ) → has x g.made ≡ true → (has x g'.made ≡ true) × ((g'.house x).node ≡ (g.house x).node)
  pub ends : (d : ℕ) → Ends d g g'
  pub rises : (x : ℕ) → (g.house x).floor ≤ (g'.house x).floor

pub ends_trans : (d : ℕ) (g g1 g2 : Cell) → Ends d g g1 → Ends d g1 g2 → Ends d g g2
ends_trans d g g1 g2 (stay e p) (stay e' p') = stay (e' ∙ e) (p' ∙ p)
ends_trans d g g1 g2 (stay e p) (next lt) = next (omega arith)
ends_trans d g g1 g2 (next lt) (stay e p) = next (omega arith)
ends_trans d g g1 g2 (next lt) (next lt') = next (omega arith)

pub onward_trans : (g g1 g2 : Cell) → Onward g g1 → Onward g1 g2 → Onward g g2
onward_trans g g1 g2 a b = record {
  plain = b.plain;
  kept = λ x m. let p = a.kept x m in let q = b.kept x p.0 in (q.0, q.1 ∙ p.1);
  ends = λ d. ends_trans d g g1 g2 (a.ends d) (b.ends d);
  rises = λ x. le_trans (a.rises x) (b.rises x);
}

pub onward_same : (g : Cell) → Plain g → Onward g g
onward_same g p = record { plain = p; kept = λ x m. (m, refl); ends = λ d. stay refl refl; rises = λ x. le_refl _ }

-- a house that is up was made
pub up_made : (g : Cell) (h : ℕ) → Plain g → IsUp g h → has h g.made ≡ true
up_made g h p up = go (has h g.made) refl
  where
    go : (b : Bool) → has h g.made ≡ b → has h g.made ≡ true
    go true e = e
    go false e = let z : (g.house h).up ≡ false = ap (λ (v : House). v.up) (p.unmade h e) in absurd (cc)

-- a house that was made changes, but for its node
changed : (g : Cell) (h : ℕ) (now : House) (bag : List Message) (lost : List ℕ) (top : ℕ → ℕ) (present : ℕ → List Member) (nd : ℕ) → Plain g
    → has h g.made ≡ true → now.node ≡ (g.house h).node → (g.house h).floor ≤ now.floor → 2 ≤ nd → ((d : ℕ) → nd ≤ d → top d ≡ 0)
    → ((d : ℕ) → top d ≡ 0 → present d ≡ []) → ((d : ℕ) → ((top d ≡ g.top d) × (present d ≡ g.present d)) ⊎ (g.top d < top d))
    → Onward g (record { made = g.made; house = put g.house h now; bag = bag; lost = lost; top = top; present = present; next_dir = nd })
changed g h now bag lost top present nd p made same le two unknown bare ends = record {
  plain = record {
    two = two;
    unmade = put_at (λ x v. has x g.made ≡ false → v ≡ no_house) g.house h now (λ e. absurd (cc)) (λ x _ e. p.unmade x e);
    unknown = unknown;
    bare = bare;
    nodes = λ x y mx my e. p.nodes x y mx my (sym (node x) ∙ e ∙ node y);
  };
  kept = λ x m. (m, node x);
  ends = λ d. ⊎_elim (λ (w : (top d ≡ g.top d) × (present d ≡ g.present d)). stay w.0 w.1) (λ lt. next lt) (ends d);
  rises = put_at (λ x v. (g.house x).floor ≤ v.floor) g.house h now le (λ x _. le_refl _);
}
  where
    node : (x : ℕ) → (put g.house h now x).node ≡ (g.house x).node
    node = put_at (λ x v. v.node ≡ (g.house x).node) g.house h now same (λ x _. refl)

-- a change of one house keeps it
pub moved_onward : (g : Cell) (h : ℕ) (now : House) (posts : List Message) → Plain g → has h g.made ≡ true → now.node ≡ (g.house h).node
    → (g.house h).floor ≤ now.floor → Onward g (move_house g h now posts)
moved_onward g h now posts p made same le =
    changed g h now (g.bag ++ posts) g.lost g.top g.present g.next_dir p made same le p.two p.unknown p.bare (λ d. inl (refl, refl))

-- the last epoch and the list of one directory were set
set_ends : (top : ℕ → ℕ) (present : ℕ → List Member) (d k : ℕ) (ms : List Member) → top d < k → (e : ℕ)
    → ((put top d k e ≡ top e) × (put present d ms e ≡ present e)) ⊎ (top e < put top d k e)
set_ends top present d k ms lt e = go (eqb e d) refl
  where
    go : (b : Bool) → eqb e d ≡ b → ((cond b k (top e) ≡ top e) × (cond b ms (present e) ≡ present e)) ⊎ (top e < cond b k (top e))
    go true q = inr (subst (λ (z : ℕ). top z < k) (sym (eq_from e d q)) lt)
    go false q = inl (refl, refl)

set_bare : (top : ℕ → ℕ) (present : ℕ → List Member) (d k : ℕ) (ms : List Member) → 0 < k → ((e : ℕ) → top e ≡ 0 → present e ≡ []) → (e : ℕ)
    → put top d k e ≡ 0 → put present d ms e ≡ []
set_bare top present d k ms lt bare e = go (eqb e d)
  where
    go : (b : Bool) → cond b k (top e) ≡ 0 → cond b ms (present e) ≡ []
    go true q = absurd (omega arith)
    go false q = bare e q

set_unknown : (top : ℕ → ℕ) (d k nd : ℕ) → d < nd → ((e : ℕ) → nd ≤ e → top e ≡ 0) → (e : ℕ) → nd ≤ e → put top d k e ≡ 0
set_unknown top d k nd lt unknown e le = let n : e ≢ d = grind arith in put_other top d k e n ∙ unknown e le

-- a new directory keeps it
pub founded_onward : (g : Cell) (d m : ℕ) (ms : List Member) (nd : ℕ) → Plain g → has m g.made ≡ true → g.top d ≡ 0 → d < nd → g.next_dir ≤ nd
    → Onward g (record (cell_with_directory g d m ms) { next_dir = nd })
founded_onward g d m ms nd p made none lt le =
    changed g m _ _ g.lost (put g.top d 1) (put g.present d ms) nd p made refl (le_refl _) (le_trans p.two le)
    (set_unknown g.top d 1 nd lt (λ e z. p.unknown e (le_trans le z)))
    (set_bare g.top g.present d 1 ms (omega arith) p.bare)
    (set_ends g.top g.present d 1 ms (omega arith))

-- an act is that of a house that is up
pub act_up : (g : Cell) (h d floor : ℕ) (o : Slot) (posts : List Message) (a : Answer) (n : List Accepted) → Act g h d floor o posts a n → IsUp g h
act_up g h d floor o posts a n (accepts _ _ c r s ns i fine) = i.up
act_up g h d floor o posts a n (skulks _ _ r t ns i head) = i.up
act_up g h d floor o posts a n (lone _ _ r t i head alone) = i.up
act_up g h d floor o posts a n (updates m marks r ns k) = k.up
act_up g h d floor o posts a n (gives m t r ns k) = k.up
act_up g h d floor o posts a n (gathers m t copy l r ns k run) = k.up
act_up g h d floor o posts a n (turns m t copy l r ns k run all) = k.up
act_up g h d floor o posts a n (gathers_again m t copy l r ns k run) = k.up
act_up g h d floor o posts a n (spreads m t copy r ns k) = k.up
act_up g h d floor o posts a n (acks_early m t l r ns k run) = k.up
act_up g h d floor o posts a n (acks m t l r ns k run) = k.up
act_up g h d floor o posts a n (completes m t l r ns k run all) = k.up
act_up g h d floor o posts a n (advances m t r ns k) = k.up
act_up g h d floor o posts a n (copies m ms copy ns en low) = en.up
act_up g h d floor o posts a n (keeps m ms copy r ns en at le since) = en.up
act_up g h d floor o posts a n (leaves m ns en low) = en.up

-- a house more
has_more : (x h : ℕ) (xs : List ℕ) → has x (xs ++ h ∷ []) ≡ (has x xs || eqb x h)
has_more x h [] = last (eqb x h)
  where
    last : (b : Bool) → (b || false) ≡ (false || b)
    last true = refl
    last false = refl
has_more x h (y ∷ xs) = step (eqb x y) (has_more x h xs)
  where
    step : (b : Bool) → has x (xs ++ h ∷ []) ≡ (has x xs || eqb x h) → (b || has x (xs ++ h ∷ [])) ≡ ((b || has x xs) || eqb x h)
    step true e = refl
    step false e = e

module _ (g : Cell) (h node : ℕ) (p : Plain g) (new : has h g.made ≡ false) (free : (x : ℕ) → has x g.made ≡ true → (g.house x).node ≢ node) where
  abbrev now : House
  now = record { node = node; clock = 0; floor = 0; up = true; slots = λ d. Absent }

  was : (x : ℕ) → has x (g.made ++ h ∷ []) ≡ true → (x ≢ h) → has x g.made ≡ true
  was x e n = ⊎_elim (λ z. z) (λ z. absurd (n (eq_from x h z))) (or_cases (has x g.made) (eqb x h) (sym (has_more x h g.made) ∙ e))

  not_new : (x : ℕ) → has x g.made ≡ true → x ≢ h
  not_new x e q = let z : has h g.made ≡ true = subst (λ (y : ℕ). has y g.made ≡ true) q e in absurd (cc)

  old_node : (x : ℕ) → has x g.made ≡ true → (put g.house h now x).node ≡ (g.house x).node
  old_node x e = ap (λ (v : House). v.node) (put_other g.house h now x (not_new x e))

  new_node : (put g.house h now h).node ≡ node
  new_node = ap (λ (v : House). v.node) (put_same g.house h now)

  nodes' : (x y : ℕ) → has x (g.made ++ h ∷ []) ≡ true → has y (g.made ++ h ∷ []) ≡ true → (put g.house h now x).node ≡ (put g.house h now y).node → x ≡ y
  nodes' x y mx my e = go (eqb x h) refl (eqb y h) refl
    where
      go : (b : Bool) → eqb x h ≡ b → (c : Bool) → eqb y h ≡ c → x ≡ y
      go true q true r = eq_from x h q ∙ sym (eq_from y h r)
      go true q false r =
          let n : y ≢ h = grind arith in
          let z : (g.house y).node ≡ node = sym (old_node y (was y my n)) ∙ sym e ∙ ap (λ (k : ℕ). (put g.house h now k).node) (eq_from x h q) ∙ new_node in
          absurd (free y (was y my n) z)
      go false q true r =
          let n : x ≢ h = grind arith in
          let z : (g.house x).node ≡ node = sym (old_node x (was x mx n)) ∙ e ∙ ap (λ (k : ℕ). (put g.house h now k).node) (eq_from y h r) ∙ new_node in
          absurd (free x (was x mx n) z)
      go false q false r =
          let n : x ≢ h = grind arith in
          let k : y ≢ h = grind arith in
          p.nodes x y (was x mx n) (was y my k) (sym (old_node x (was x mx n)) ∙ e ∙ old_node y (was y my k))

  houses_onward : Onward g (record g { made = g.made ++ h ∷ []; house = put g.house h now })
  houses_onward = record {
    plain = record {
      two = p.two;
      unmade = λ x e.
          let parts : (has x g.made || eqb x h) ≡ false = sym (has_more x h g.made) ∙ e in
          let other : eqb x h ≡ false = or_right (has x g.made) _ parts in
          let n : x ≢ h = grind arith in
          put_other g.house h now x n ∙ p.unmade x (or_left _ (eqb x h) parts);
      unknown = p.unknown;
      bare = p.bare;
      nodes = nodes';
    };
    kept = λ x m. (has_more x h g.made ∙ ap (λ (b : Bool). b || eqb x h) m, old_node x m);
    ends = λ d. stay refl refl;
    rises = put_at (λ x v. (g.house x).floor ≤ v.floor) g.house h now (omega (arith, ap (λ (v : House). v.floor) (p.unmade h new))) (λ x _. le_refl _);
  }

move_onward : (g g' : Cell) (pl : Option (ℕ × ℕ)) (a : Answer) (n : List Accepted) → Plain g → Move g pl g' a n → Onward g g'
move_onward g g' pl a n p (stays b q) = onward_same g p
move_onward g g' pl a n p (houses h node free) = let z = taken_not g h node g.made free in houses_onward g h node p z.0 z.1
move_onward g g' pl a n p (clocks h time made) =
    changed g h (record (g.house h) { clock = time }) g.bag g.lost g.top g.present g.next_dir p made refl (le_refl _) p.two p.unknown p.bare
    (λ d. inl (refl, refl))
move_onward g g' pl a n p (loses i) =
    record {
      plain = record { two = p.two; unmade = p.unmade; unknown = p.unknown; bare = p.bare; nodes = p.nodes };
      kept = λ x m. (m, refl);
      ends =
          λ d. stay refl refl;
      rises = λ x. le_refl _;
    }
move_onward g g' pl a n p (crashes h up) = moved_onward g h _ [] p (up_made g h p up) refl (le_refl _)
move_onward g g' pl a n p (starts h made) = moved_onward g h _ [] p made refl (le_refl _)
move_onward g g' pl a n p (acts h d _ floor o posts b l act) =
    moved_onward g h (with_slot (g.house h) d floor o) posts p (up_made g h p (act_up g h d floor o posts b l act)) refl (act_rises g h d floor o posts b l act)
move_onward g g' pl a n p (founds d m rs ss ns root up none) = founded_onward g d m _ g.next_dir p (up_made g m p up) none (omega (arith, root, p.two)) (le_refl _)
move_onward g g' pl a n p (crowns d m rs ss r up known at l since) =
    let lt : d < g.next_dir = ⊎_elim (λ z. z) (λ (ge : g.next_dir ≤ d). absurd (known (p.unknown d ge))) (cases_lt d g.next_dir) in
    changed g m _ _ g.lost (put g.top d (g.top d + 1)) (put g.present d _) g.next_dir p (up_made g m p up) refl (le_refl _) p.two
    (set_unknown g.top d (g.top d + 1) g.next_dir lt p.unknown)
    (set_bare g.top g.present d (g.top d + 1) _ (omega arith) p.bare)
    (set_ends g.top g.present d (g.top d + 1) _ (omega arith))

pub steps_onward : (g g' : Cell) (pl : Option (ℕ × ℕ)) (a : Answer) (n : List Accepted) → Plain g → Steps g pl g' a n → Onward g g'
steps_onward g g' pl a n p (one _ _ _ m) = move_onward g g' pl a n p m
steps_onward g g' pl a n p (mkdirs h d m u rs ss r s ns at i fine up known) =
    let made = up_made g h p i.up in
    let first = moved_onward g h _ _ p made refl (act_rises g h d s.time _ _ _ n (accepts h d u r s ns i fine)) in
    onward_trans g _ _ first (founded_onward _ g.next_dir m _ (g.next_dir + 1) first.plain (up_made g m p up) (p.unknown g.next_dir (le_refl _)) (omega arith)
    (omega arith))

-- each command keeps it
pub step_onward : (g : Cell) (c : Command) → Plain g → Onward g (outcome g c).cell
step_onward g c p = steps_onward g (outcome g c).cell (place_of g c) (outcome g c).answer (outcome g c).accepted p (outcome_steps g c)

-- and so does a list of commands
pub run_onward : (cs : List Command) (g : Cell) → Plain g → Onward g (replay_from g cs)
run_onward [] g p = onward_same g p
run_onward (c ∷ cs) g p = let o = step_onward g c p in onward_trans g (outcome g c).cell _ o (run_onward cs (outcome g c).cell o.plain)

-- it holds of the empty cell
pub empty_plain : Plain empty_cell
empty_plain = record { two = le_refl _; unmade = λ x e. refl; unknown = λ d le. refl; bare = λ d e. refl; nodes = λ x y mx. absurd (cc) }

-- ---- the house of each node

abbrev pub home_in : (ℕ → House) → List ℕ → ℕ → ℕ
home_in f [] node = 0
home_in f (x ∷ xs) node = cond (eqb (f x).node node) x (home_in f xs node)

-- the house of each node, among those that were made
abbrev pub home_of : Cell → ℕ → ℕ
home_of g = home_in g.house g.made

home_found : (f : ℕ → House) (xs : List ℕ) (x : ℕ) → ((y : ℕ) → has y xs ≡ true → (f y).node ≡ (f x).node → y ≡ x) → has x xs ≡ true
    → home_in f xs (f x).node ≡ x
home_found f [] x only e = absurd (cc)
home_found f (y ∷ xs) x only e = go (eqb (f y).node (f x).node) refl (home_found f xs x (λ z m. only z (or_true (eqb z y) _ m)))
  where
    self : has y (y ∷ xs) ≡ true
    self = let q : eqb y y ≡ true = eq_to y y refl in ap (λ (b : Bool). b || has y xs) q

    go : (b : Bool) → eqb (f y).node (f x).node ≡ b → (has x xs ≡ true → home_in f xs (f x).node ≡ x) → cond b y (home_in f xs (f x).node) ≡ x
    go true q rest = only y self (eq_from _ _ q)
    go false q rest = rest (⊎_elim (λ z. let same : x ≡ y = eq_from x y z in let n : (f y).node ≢ (f x).node = grind arith in
        absurd (n (ap (λ (k : ℕ). (f k).node) (sym same)))) (λ z. z) (or_cases (eqb x y) (has x xs) e))

-- in a later cell each house that was made is the house of its node
pub home_right : (g g' : Cell) → Plain g' → Onward g g' → (x : ℕ) → has x g.made ≡ true → home_of g' (g.house x).node ≡ x
home_right g g' p o x m =
    let k = o.kept x m in
    ap (home_of g') (sym k.1) ∙ home_found g'.house g'.made x (λ y my e. p.nodes y x my k.0 e) k.0

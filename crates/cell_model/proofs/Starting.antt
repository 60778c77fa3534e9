-- The houses of a list are started, each that is down.
use Rattle.std.proofs.Common.{◌≡◌, ℕ, inl, inr, Bool, true, false, ◌||◌, not, cond, List, [], ◌∷◌, refl, sym, ap, ◌∙◌}
use Rattle.std.proofs.Common.{subst}
use Rattle.cds_stamps.specs.Members.{Member}
use Rattle.cell_model.specs.Cells.{House, Cell}
use Rattle.cell_model.specs.Commands.{Start, Done}
use Rattle.cell_model.specs.Sets.{In, has}
use Rattle.cell_model.specs.Turns.{stamp_at, started_house}
use Rattle.cell_model.specs.Steps.{is_missing, is_down, stays, outcome, start}
use Rattle.cell_model.specs.Mending.{start_commands}
use Rattle.cell_model.proofs.Lists.{append_nil}
use Rattle.cell_model.proofs.Views.{put_at, put_same, put_other}
use Rattle.cell_model.proofs.Deliveries.{Run, run_none, run_first, run_map, not_refused}
use Rattle.cell_model.proofs.Answerings.{Once}
use Rattle.cell_model.proofs.PresentLists.{houses_of}

-- a cell that differs from g in which houses are up
pub record Alike (g h : Cell) : Type 0 where
  pub made : h.made ≡ g.made
  pub bag : h.bag ≡ g.bag
  pub lost : h.lost ≡ g.lost
  pub top : h.top ≡ g.top
  pub present : h.present ≡ g.present
  pub slots : (x : ℕ) → (h.house x).slots ≡ (g.house x).slots
  pub stamps : (x : ℕ) → stamp_at (h.house x) ≡ stamp_at (g.house x)

-- a cell is like itself
pub alike_self : (g : Cell) → Alike g g
alike_self g = record { made = refl; bag = refl; lost = refl; top = refl; present = refl; slots = λ x. refl; stamps = λ x. refl }

alike_start : (g h : Cell) (y : ℕ) → Alike g h → Alike g (start h y)
alike_start g h y a = record {
  made = a.made;
  bag = append_nil h.bag ∙ a.bag;
  lost = a.lost;
  top = a.top;
  present = a.present;
  slots = put_at (λ x (w : House). w.slots ≡ (g.house x).slots) h.house y (started_house (h.house y)) (a.slots y) (λ x _. a.slots x);
  stamps = put_at (λ x (w : House). stamp_at w ≡ stamp_at (g.house x)) h.house y (started_house (h.house y)) (a.stamps y) (λ x _. a.stamps x);
}

-- from h on these houses were started: the cell is like g, they are up, and so is each that was
pub record Started (g h : Cell) (ys : List Member) (c : Cell) : Type 0 where
  pub alike : Alike g c
  pub up : (x : ℕ) → In x (houses_of ys) → (c.house x).up ≡ true
  pub stay : (x : ℕ) → (h.house x).up ≡ true → (c.house x).up ≡ true

started_up : (h : Cell) (y x : ℕ) → (h.house x).up ≡ true → ((start h y).house x).up ≡ true
started_up h y x up = put_at (λ z (w : House). (h.house z).up ≡ true → w.up ≡ true) h.house y (started_house (h.house y)) (λ _. refl) (λ z _ e. e) x up

started_here : (h : Cell) (y : ℕ) → ((start h y).house y).up ≡ true
started_here h y = ap (λ (w : House). w.up) (put_same h.house y (started_house (h.house y)))

start_works : (h : Cell) (y : ℕ) → has y h.made ≡ true → (h.house y).up ≡ false → outcome h (Start y) ≡ stays (start h y) Done
start_works h y made down =
    let missing : is_missing h (y ∷ []) ≡ false = ap (λ (b : Bool). not b || false) made in
    let up : not (is_down h y) ≡ false = ap (λ (b : Bool). not (not b)) down in
    not_refused h (Start y) (missing, (up, tt))

-- what is asked of the houses of a list, in a cell from which they are started
abbrev AsIn : (g : Cell) → List Member → Cell → Type 0
AsIn g ys h = (x : ℕ) → In x (houses_of ys) → (h.house x).up ≡ (g.house x).up

-- one of them was up
started_first : (g h : Cell) (y : Member) (ys : List Member) (c : Cell) → (h.house y.house).up ≡ true → Started g h ys c → Started g h (y ∷ ys) c
started_first g h y ys c here s = record { alike = s.alike; up = by_house; stay = s.stay }
  where
    by_house : (x : ℕ) → In x (houses_of (y ∷ ys)) → (c.house x).up ≡ true
    by_house x (inl e) = subst (λ (z : ℕ). (c.house z).up ≡ true) (sym e) (s.stay y.house here)
    by_house x (inr i) = s.up x i

-- one of them was down, and was started
started_then : (g h : Cell) (y : Member) (ys : List Member) (c : Cell) → Started g (start h y.house) ys c → Started g h (y ∷ ys) c
started_then g h y ys c s =
    let w = started_first g (start h y.house) y ys c (started_here h y.house) s in
    record { alike = w.alike; up = w.up; stay = λ x u. w.stay x (started_up h y.house x u) }

as_in_start : (g h : Cell) (y : Member) (ys : List Member) → (In y.house (houses_of ys) → ⊥) → AsIn g (y ∷ ys) h → AsIn g ys (start h y.house)
as_in_start g h y ys once same x i =
    ap (λ (w : House). w.up) (put_other h.house y.house (started_house (h.house y.house)) x (λ q. once (subst (λ (z : ℕ). In z (houses_of ys)) q i)))
    ∙ same x (inr i)

-- `start` for each of the houses that is down in g, from a cell like g in which they are up or down
-- as in g
pub start_run : (g : Cell) (ys : List Member) (h : Cell) → Once (houses_of ys) → ((x : ℕ) → In x (houses_of ys) → has x g.made ≡ true) → Alike g h
    → AsIn g ys h → Run h (start_commands g ys) (Started g h ys)
start_run g [] h once made a same = run_none h (Started g h []) (record { alike = a; up = λ x i. elim i [ ]; stay = λ x e. e })
start_run g (y ∷ ys) h once made a same =
    by_state (g.house y.house).up refl
    (λ k b s. start_run g ys k once.1 (λ x i. made x (inr i)) b s)
  where
    by_state : (b : Bool) → (g.house y.house).up ≡ b → ((k : Cell) → Alike g k → AsIn g ys k → Run k (start_commands g ys) (Started g k ys))
        → Run h (cond (not b) (Start y.house ∷ start_commands g ys) (start_commands g ys)) (Started g h (y ∷ ys))
    by_state true e rest =
        run_map h (start_commands g ys) (Started g h ys) (Started g h (y ∷ ys)) (rest h a (λ x i. same x (inr i)))
        (λ c s. started_first g h y ys c (same y.house (inl refl) ∙ e) s)
    by_state false e rest =
        let h' : Cell = start h y.house in
        let there : has y.house h.made ≡ true = ap (has y.house) a.made ∙ made y.house (inl refl) in
        run_first h (Start y.house) (start_commands g ys) (Started g h (y ∷ ys)) (stays h' Done)
        (start_works h y.house there (same y.house (inl refl) ∙ e)) tt
        (run_map h' (start_commands g ys) (Started g h' ys) (Started g h (y ∷ ys))
        (rest h' (alike_start g h y.house a) (as_in_start g h y ys once.0 same)) (λ c s. started_then g h y ys c s))

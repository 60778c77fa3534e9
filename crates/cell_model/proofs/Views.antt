-- A cell as each of its directories sees it, after a change of one house.
use Rattle.std.proofs.Common.{◌≡◌, ◌≢◌, ℕ, ◌⊎◌, inl, inr, Bool, true, false, eqb, cond, List, [], ◌∷◌, ◌++◌, refl, sym, ap, ◌∙◌, subst, arith}
use Rattle.cds_stamps.specs.Members.{Member}
use Rattle.cell_model.specs.Cells.{Slot, House, Body, Message, Cell, put}
use Rattle.cell_model.specs.Sets.{In}
use Rattle.cell_model.specs.Turns.{to_each}
use Rattle.cell_model.specs.Steps.{move_house}
use Rattle.cell_model.proofs.Lists.{eq_from, eq_to, In-map}
use Rattle.cell_model.proofs.Facts.{Seat, View, of_dir, seat, view}

-- ---- functions with one value changed

-- a fact of each value, after a change of one
pub put_at : {A : Type 0} (P : ℕ → A → Type 0) (f : ℕ → A) (h : ℕ) (v : A) → P h v → ((x : ℕ) → x ≢ h → P x (f x)) → (x : ℕ) → P x (put f h v x)
put_at {A} P f h v at other x = go (eqb x h) refl
  where
    go : (b : Bool) → eqb x h ≡ b → P x (cond b v (f x))
    go true e = subst (λ (z : ℕ). P z v) (sym (eq_from x h e)) at
    go false e = let n : x ≢ h = grind arith in other x n

-- the new value at the place of the change
pub put_same : {A : Type 0} (f : ℕ → A) (h : ℕ) (v : A) → put f h v h ≡ v
put_same {A} f h v = let e : eqb h h ≡ true = eq_to h h refl in ap (λ (b : Bool). cond {A = A} b v (f h)) e

-- the old value at every other place
pub put_other : {A : Type 0} (f : ℕ → A) (h : ℕ) (v : A) (x : ℕ) → x ≢ h → put f h v x ≡ f x
put_other {A} f h v x n = let e : eqb x h ≡ false = grind arith in ap (λ (b : Bool). cond {A = A} b v (f x)) e

-- what holds of the new value holds at that place
pub put_back : {A : Type 0} (P : A → Type 0) (f : ℕ → A) (h : ℕ) (v : A) → P v → P (put f h v h)
put_back P f h v p = subst P (sym (put_same f h v)) p

-- ---- messages of a directory

pub of_dir-append : (d : ℕ) (xs ys : List Message) → of_dir d (xs ++ ys) ≡ of_dir d xs ++ of_dir d ys
of_dir-append d [] ys = refl
of_dir-append d (m ∷ xs) ys = step (eqb m.dir d) (of_dir-append d xs ys)
  where
    step : (b : Bool) → of_dir d (xs ++ ys) ≡ of_dir d xs ++ of_dir d ys
        → cond b (m ∷ of_dir d (xs ++ ys)) (of_dir d (xs ++ ys)) ≡ cond b (m ∷ of_dir d xs) (of_dir d xs) ++ of_dir d ys
    step true ih = ap (λ (l : List Message). m ∷ l) ih
    step false ih = ih

-- each message is of this directory
abbrev pub AllOf : ℕ → List Message → Type 0
AllOf d ms = (m : Message) → In m ms → m.dir ≡ d

-- messages that are all of a directory are its messages
pub of_dir-all : (d : ℕ) (ms : List Message) → AllOf d ms → of_dir d ms ≡ ms
of_dir-all d [] all = refl
of_dir-all d (m ∷ ms) all =
    let e : eqb m.dir d ≡ true = eq_to m.dir d (all m (inl refl)) in
    ap (λ (b : Bool). cond b (m ∷ of_dir d ms) (of_dir d ms)) e ∙ ap (λ (l : List Message). m ∷ l) (of_dir-all d ms (λ p i. all p (inr i)))

-- messages that are all of another directory are none of its
pub of_dir-none : (d d' : ℕ) (ms : List Message) → d' ≢ d → AllOf d' ms → of_dir d ms ≡ []
of_dir-none d d' [] n all = refl
of_dir-none d d' (m ∷ ms) n all =
    let at : m.dir ≡ d' = all m (inl refl) in
    let e : eqb m.dir d ≡ false = grind arith in
    ap (λ (b : Bool). cond b (m ∷ of_dir d ms) (of_dir d ms)) e ∙ of_dir-none d d' ms n (λ p i. all p (inr i))

-- a message of the directory is among its messages
pub In-of_dir : (d : ℕ) (ms : List Message) (m : Message) → In m ms → m.dir ≡ d → In m (of_dir d ms)
In-of_dir d [] m i e = i
In-of_dir d (x ∷ ms) m i e = go (eqb x.dir d) refl i (λ j. In-of_dir d ms m j e)
  where
    go : (b : Bool) → eqb x.dir d ≡ b → (m ≡ x) ⊎ In m ms → (In m ms → In m (of_dir d ms)) → In m (cond b (x ∷ of_dir d ms) (of_dir d ms))
    go true q (inl s) rest = inl s
    go true q (inr j) rest = inr (rest j)
    go false q (inl s) rest = let z : x.dir ≡ d = ap (λ (y : Message). y.dir) (sym s) ∙ e in let n : x.dir ≢ d = grind arith in absurd (n z)
    go false q (inr j) rest = rest j

-- and one of its messages is a message of the directory
pub In-from_dir : (d : ℕ) (ms : List Message) (m : Message) → In m (of_dir d ms) → In m ms × (m.dir ≡ d)
In-from_dir d [] m i = elim i [ ]
In-from_dir d (x ∷ ms) m i = go (eqb x.dir d) refl i (In-from_dir d ms m)
  where
    go : (b : Bool) → eqb x.dir d ≡ b → In m (cond b (x ∷ of_dir d ms) (of_dir d ms)) → (In m (of_dir d ms) → In m ms × (m.dir ≡ d))
        → In m (x ∷ ms) × (m.dir ≡ d)
    go true q (inl s) rest = (inl s, ap (λ (y : Message). y.dir) s ∙ eq_from x.dir d q)
    go true q (inr j) rest = let w = rest j in (inr w.0, w.1)
    go false q j rest = let w = rest j in (inr w.0, w.1)

-- messages to each of some houses are of one directory
pub to_each-dir : (rs : List ℕ) (d sender epoch floor : ℕ) (b : Body) → AllOf d (to_each rs d sender epoch floor b)
to_each-dir rs d sender epoch floor b m i =
    let w = In-map (λ (x : ℕ). record { receiver = x; dir = d; sender = sender; epoch = epoch; floor = floor; body = b }) m rs i in
    ap (λ (z : Message). z.dir) w.2

-- ---- views

-- a view with one seat changed, messages posted, and the console's epoch and list
abbrev pub altered : View → (h floor : ℕ) → Slot → List Message → (top : ℕ) → List Member → View
altered v h floor slot posts top present =
    record { house = put v.house h (record { floor = floor; slot = slot }); bag = v.bag ++ posts; top = top; present = present }

-- views are equal where seats, messages, last epoch and list are
pub same_view : (v w : View) → ((x : ℕ) → v.house x ≡ w.house x) → v.bag ≡ w.bag → v.top ≡ w.top → v.present ≡ w.present → v ≡ w
same_view v w a b c d = λ i. record { house = λ x. a x i; bag = b i; top = c i; present = d i }

-- the seats after a change of one house
pub seat_put : (g : Cell) (h : ℕ) (now : House) (d x : ℕ)
    → record { floor = (put g.house h now x).floor; slot = (put g.house h now x).slots d }
    ≡ put (seat d g) h (record { floor = now.floor; slot = now.slots d }) x
seat_put g h now d x = go (eqb x h)
  where
    to_seat : House → Seat
    to_seat v = record { floor = v.floor; slot = v.slots d }

    go : (b : Bool) → record { floor = (cond b now (g.house x)).floor; slot = (cond b now (g.house x)).slots d }
        ≡ cond b (record { floor = now.floor; slot = now.slots d }) (seat d g x)
    go true = refl
    go false = refl

-- a change of one house, seen from a directory
pub view_moved : (g : Cell) (h : ℕ) (now : House) (posts : List Message) (top : ℕ → ℕ) (present : ℕ → List Member) (d : ℕ)
    → view d (record (move_house g h now posts) { top = top; present = present }) ≡ altered (view d g) h now.floor (now.slots d) (of_dir d posts) (top d) (present d)
view_moved g h now posts top present d = same_view _ _ (seat_put g h now d) (of_dir-append d g.bag posts) refl refl

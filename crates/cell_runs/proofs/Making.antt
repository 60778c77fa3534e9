-- The houses of a cell are made first, and nobody sees that.
use Rattle.std.proofs.Common.{◌≡◌, ◌≢◌, ℕ, ◌⊎◌, inl, inr, Bool, true, false, ◌||◌, eqb, List, [], ◌∷◌, ◌++◌, map, refl, sym, ap, subst, ◌∙◌, arith, append_assoc}
use Rattle.std.specs.List.{list_any}
use Rattle.cell_model.specs.Cells.{Cell, House, Message, empty_cell}
use Rattle.cell_model.specs.Commands as commands
use Rattle.cell_model.specs.Commands.{Answer, Command, Refusal}
use Rattle.cell_model.specs.Reached.{IsReached}
use Rattle.cell_model.specs.Sets.{In, has}
use Rattle.cell_model.specs.Steps as steps
use Rattle.cell_model.specs.Steps.{Outcome, answers_from, is_taken, outcome, stands_twice, stays}
use Rattle.cell_model.proofs.Deliveries.{not_refused}
use Rattle.cell_model.proofs.Lists.{In-append_cases, In-from_has, append_nil, has-from_In, or_left, or_right}
use Rattle.cell_model.proofs.Standing.{reached_lem}
use Rattle.cell_model.proofs.Views.{put_other, put_same}
use Rattle.cell_runs.specs.Entries.{Entry}
use Rattle.cell_runs.specs.HonestRuns.{IsHonest}
use Rattle.cell_runs.specs.Orders.{AreRuns, IsOrderOf, Follows, MadeHouse, Seen, commands_of, house_commands, line_commands, new_house, nothing_seen, numbers_in}
use Rattle.cell_runs.specs.OrderSteps.{ArePosts}
use Rattle.cell_runs.specs.Views.{view_from}
use Rattle.cell_runs.proofs.RunSteps.{Matches}
use Rattle.cell_runs.proofs.Runs.{AreEntries, entries_done}
use Rattle.cell_runs.proofs.Worked.{seen_of}

-- the nodes of houses
abbrev nodes_in : List MadeHouse → List ℕ
nodes_in = map (λ h. h.node)

-- a house of the cell is one of these, and new
record IsNew (g : Cell) (all : List MadeHouse) (x : ℕ) : Type 0 where
  one : MadeHouse
  among : In one all
  number : one.house ≡ x
  is : g.house x ≡ new_house one.node

-- the houses that are left to make are others, with other nodes
record Differs (g : Cell) (x : ℕ) (h : MadeHouse) : Type 0 where
  number : x ≢ h.house
  node : (g.house x).node ≢ h.node

-- a cell in which all of these houses are made but the last ones, which are left
record Making (g : Cell) (left all : List MadeHouse) : Type 0 where
  reached : IsReached g
  made : g.made ++ numbers_in left ≡ numbers_in all
  part : (h : MadeHouse) → In h left → In h all
  new : (x : ℕ) → has x g.made ≡ true → IsNew g all x
  differs : (x : ℕ) → has x g.made ≡ true → (h : MadeHouse) → In h left → Differs g x h
  numbers : stands_twice (numbers_in left) ≡ false
  nodes : stands_twice (nodes_in left) ≡ false
  bare : seen_of [] g ≡ nothing_seen g.made
  bag : g.bag ≡ []
  lost : g.lost ≡ []

none_taken : (f : ℕ → Bool) (xs : List ℕ) → ((x : ℕ) → In x xs → f x ≡ false) → list_any f xs ≡ false
none_taken f [] none = refl
none_taken f (x ∷ xs) none = ap (λ (b : Bool). b || list_any f xs) (none x (inl refl)) ∙ none_taken f xs (λ y i. none y (inr i))

-- numbers that differ
no_eq : (x y : ℕ) → x ≢ y → eqb x y ≡ false
no_eq x y apart = grind (arith, apart)

-- a number that is none of these
apart_from : (f : MadeHouse → ℕ) (n : ℕ) (hs : List MadeHouse) → has n (map f hs) ≡ false → (h : MadeHouse) → In h hs → n ≢ f h
apart_from f n [] none h i same = elim i [ ]
apart_from f n (k ∷ hs) none h (inl is) same =
    let here : eqb n (f k) ≡ false = or_left (eqb n (f k)) (has n (map f hs)) none in
    let z : n ≡ f k = same ∙ ap f is in
    absurd (let e : eqb n (f k) ≡ true = grind (arith, z) in cc (e, here))
apart_from f n (k ∷ hs) none h (inr i) same = apart_from f n hs (or_right (eqb n (f k)) (has n (map f hs)) none) h i same

-- one house is made
module _ (g : Cell) (h : MadeHouse) (left all : List MadeHouse) (m : Making g (h ∷ left) all) where
  abbrev next : Cell
  next = steps.new_house g h.house h.node

  free : is_taken g h.house h.node ≡ false
  free = none_taken (λ x. eqb x h.house || eqb (g.house x).node h.node) g.made (λ x i.
      let d = m.differs x (has-from_In x g.made i) h (inl refl) in
      ap (λ (b : Bool). b || eqb (g.house x).node h.node) (no_eq x h.house d.number) ∙ no_eq (g.house x).node h.node d.node)

  house_is : outcome g (commands.House h.house h.node) ≡ stays next commands.Done
  house_is = not_refused g (commands.House h.house h.node) (free, tt)

  old_there : (x : ℕ) → has x g.made ≡ true → next.house x ≡ g.house x
  old_there x is = put_other g.house h.house (new_house h.node) x (m.differs x is h (inl refl)).number

  -- what holds of the houses of before and of the new one holds of each
  of_each : (P : ℕ → Type 0) → ((x : ℕ) → has x g.made ≡ true → P x) → P h.house → (x : ℕ) → has x next.made ≡ true → P x
  of_each P old new x is = by (In-append_cases x g.made (h.house ∷ []) (In-from_has x next.made is))
    where
      by : In x g.made ⊎ In x (h.house ∷ []) → P x
      by (inl i) = old x (has-from_In x g.made i)
      by (inr (inl same)) = subst P (sym same) new
      by (inr (inr i)) = elim i [ ]

  making_next : Making next left all
  making_next = record {
    reached = subst (λ (o : Outcome). IsReached o.cell) house_is (reached_lem.after g (commands.House h.house h.node) m.reached);
    made = append_assoc g.made (h.house ∷ []) (numbers_in left) ∙ m.made;
    part = λ k i. m.part k (inr i);
    new = of_each (IsNew next all)
        (λ x is. let n = m.new x is in record { one = n.one; among = n.among; number = n.number; is = old_there x is ∙ n.is })
        (record { one = h; among = m.part h (inl refl); number = refl; is = put_same g.house h.house (new_house h.node) });
    differs = of_each (λ (x : ℕ). (k : MadeHouse) → In k left → Differs next x k)
        (λ x is k i. let d = m.differs x is k (inr i) in
        record { number = d.number; node = subst (λ (z : House). z.node ≢ k.node) (sym (old_there x is)) d.node })
        (λ k i. record {
          number = apart_from (λ j. j.house) h.house left (or_left (has h.house (numbers_in left)) (stands_twice (numbers_in left)) m.numbers) k i;
          node = subst (λ (z : House). z.node ≢ k.node) (sym (put_same g.house h.house (new_house h.node)))
              (apart_from (λ j. j.node) h.node left (or_left (has h.node (nodes_in left)) (stands_twice (nodes_in left)) m.nodes) k i);
        });
    numbers = or_right (has h.house (numbers_in left)) (stands_twice (numbers_in left)) m.numbers;
    nodes = or_right (has h.node (nodes_in left)) (stands_twice (nodes_in left)) m.nodes;
    bare = λ i. record (m.bare i) { made = next.made };
    bag = m.bag;
    lost = m.lost;
  }

-- all houses are made: what is seen and refused from here on is that of the cell with all of them
record AllMade (g : Cell) (left all : List MadeHouse) : Type 0 where
  cell : Cell
  making : Making cell [] all
  views : (y : ℕ) (cs : List Command) → view_from g y (house_commands left ++ cs) ≡ view_from cell y cs
  refused : (r : Refusal) (cs : List Command) → In (commands.Refused r) (answers_from g (house_commands left ++ cs)) → In (commands.Refused r) (answers_from cell cs)

all_made : (left : List MadeHouse) (g : Cell) (all : List MadeHouse) → Making g left all → AllMade g left all
all_made [] g all m = record { cell = g; making = m; views = λ y cs. refl; refused = λ r cs i. i }
all_made (h ∷ left) g all m =
    let rest = all_made left (steps.new_house g h.house h.node) all (making_next g h left all m) in
    let is = house_is g h left all m in
    record {
      cell = rest.cell;
      making = rest.making;
      views = λ y cs. ap (λ (o : Outcome). view_from o.cell y (house_commands left ++ cs)) is ∙ rest.views y cs;
      refused = λ r cs i. rest.refused r cs
          (after_done r (house_commands left ++ cs) (subst (λ (o : Outcome). In (commands.Refused r) (o.answer ∷ answers_from o.cell (house_commands left ++ cs))) is i));
    }
  where
    after_done : (r : Refusal) (cs : List Command) → In (commands.Refused r) (commands.Done ∷ answers_from (steps.new_house g h.house h.node) cs)
        → In (commands.Refused r) (answers_from (steps.new_house g h.house h.node) cs)
    after_done r cs (inl is) = absurd (cc (is))
    after_done r cs (inr i) = i

-- ---- the law

module _ (houses : List MadeHouse) (logs : ℕ → List Entry) (line : List (ℕ × Entry)) (runs : AreRuns houses logs) (order : IsOrderOf houses logs line) where
  first : Making empty_cell houses houses
  first = record {
    reached = reached_lem.empty;
    made = refl;
    part = λ h i. i;
    new = λ x is. absurd (cc (is));
    differs = λ x is. absurd (cc (is));
    numbers = runs.numbers;
    nodes = runs.nodes;
    bare = refl;
    bag = refl;
    lost = refl;
  }

  made : AllMade empty_cell houses houses
  made = all_made houses empty_cell houses first

  abbrev g : Cell
  g = made.cell

  made_are : g.made ≡ numbers_in houses
  made_are = sym (append_nil g.made) ∙ made.making.made

  known : seen_of [] g ≡ nothing_seen (numbers_in houses)
  known = made.making.bare ∙ ap nothing_seen made_are

  matches : Matches g [] line
  matches = record {
    reached = made.making.reached;
    up = λ x is. ap (λ (h : House). h.up) (made.making.new x is).is;
    lost = made.making.lost;
    bag = subst (λ (l : List Message). ArePosts [] l) (sym made.making.bag) tt;
    honest = λ x is.
        let n = made.making.new x is in
        let its : IsHonest x (new_house n.one.node) (logs x) = subst (λ (y : ℕ). IsHonest y (new_house n.one.node) (logs y)) n.number (runs.honest n.one n.among) in
        subst (IsHonest x (g.house x)) (sym (order.merge x)) (subst (λ (h : House). IsHonest x h (logs x)) (sym n.is) its);
    others = λ x none. order.merge x ∙ runs.others x (ap (has x) (sym made_are) ∙ none);
  }

  entries : AreEntries g (line_commands (nothing_seen (numbers_in houses)) line) line
  entries =
      subst (λ (s : Seen). Follows s line → AreEntries g (line_commands s line) line) known
      (entries_done line g [] matches) order.follows

  -- each house sees its own entries
  pub own_entries : (x : ℕ) → view_from empty_cell x (commands_of houses line) ≡ logs x
  own_entries x = made.views x (line_commands (nothing_seen (numbers_in houses)) line) ∙ entries.views x ∙ order.merge x

  -- no command is refused
  pub none_refused : (r : Refusal) → In (commands.Refused r) (answers_from empty_cell (commands_of houses line)) → ⊥
  none_refused r i = entries.done r (made.refused r (line_commands (nothing_seen (numbers_in houses)) line) i)

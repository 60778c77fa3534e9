-- What comes of a child and its directory, and of other houses of a child, as commands of the
-- model.
use Rattle.std.proofs.Common.{◌≡◌, ◌≢◌, ℕ, zero, suc, ◌+◌, ◌≤◌, List, [], ◌∷◌, ◌++◌, Bool, true, false, length, subst, refl, sym, ◌∙◌, ap, arith, inl, inr}
use Rattle.std.specs.Prelude.{Option, Some, None, Result, Ok, Err, ◌==◌, ◌||◌}
use Rattle.std.proofs.lemmas.Bool.Decides.{nat_tests}
use Rattle.cds_stamps.specs.declared.numbers.DirId.{DirId}
use Rattle.cds_stamps.specs.declared.stamp.Stamp.{Stamp}
use Rattle.cds_stamps.specs.Members.{Member, master_of}
use Rattle.directory.specs.declared.update.UpdateRefusal.{UpdateRefusal}
use Rattle.directory.specs.Updates as updates
use Rattle.directory.specs.Updates.{Change}
use Rattle.cell_model.specs.Cells as model
use Rattle.cell_model.specs.Cells.{House, Replica, Slot, put}
use Rattle.cell_model.specs.Commands as command
use Rattle.cell_model.specs.Holdings.{NumbersHold}
use Rattle.cell_model.specs.Sets.{has}
use Rattle.cell_model.specs.Steps.{Outcome, sorted_houses, at_house, effect, first_refusal, is_bad_list, is_down, is_missing, is_unknown}
use Rattle.cell_model.specs.Steps.{member_list_of, refusals_of, serials_of, with_directory}
use Rattle.cell_model.specs.Turns as turns
use Rattle.cell_model.proofs.AtHouses.{at_house-here, at_house-rest, at_house-there, house_after}
use Rattle.cell_model.proofs.Lists.{or_left, or_right}
use Rattle.cell_model.proofs.Numbers.{numbers_lem}
use Rattle.cell_model.proofs.Standing.{on_reached}
use Rattle.cell_model.proofs.Terms.{master_new}
use Rattle.cell_model.proofs.Views.{put_other}
use Rattle.script_answers.specs.declared.answer.Answer.TheVariants as answer
use Rattle.script_answers.specs.declared.answer.ScriptRefusal.{ScriptRefusal}
use Rattle.house_directory.specs.DirectorySteps.{IsStampAnswer}
use Rattle.cds_cell.specs.declared.cell.Cell.{Cell}
use Rattle.cds_cell.specs.declared.console.Listing.{Listing}
use Rattle.cds_cell.specs.PrivateActs.{ActsAt, CanFound, Founds, GrowsByOne, KeepsRest, Tells, child_outcome}
use Rattle.cds_cell.specs.PrivateSteps.{IsPlaceOf, IsStepAs, Leaves}
use Rattle.cds_cell.specs.Scripted as script
use Rattle.cds_cell.specs.ModelCells.{Stands, StandsAs, StandsListing, directory_of, greatest_epoch, house_of}
use Rattle.cds_cell.proofs.ActSteps.{made_where, never_missing, passed, refused_told, told_by, up_where}
use Rattle.cds_cell.proofs.HouseActs.{Acted, acted}
use Rattle.cds_cell.proofs.Serials.{accept_tells}

-- ---- an update leaves other directories

-- the house after it is up if it was, and has of another directory what it had
record LeavesSlot (now next : House) (e : ℕ) : Type 0 where
  pub up : next.up ≡ now.up
  pub slot : next.slots e ≡ now.slots e

at_stamp : (h : ℕ) (now : House) (d e : ℕ) (u : Change) (r : Replica) (o : Option UpdateRefusal) (t : Option Stamp) → e ≢ d
    → LeavesSlot now (house_after now (turns.unless_refused o (turns.accept_at h now d u r t))) e
at_stamp h now d e u r (Some q) t apart = record { up = refl; slot = refl }
at_stamp h now d e u r None None apart = record { up = refl; slot = refl }
at_stamp h now d e u r None (Some s) apart = record { up = refl; slot = put_other now.slots d _ e apart }

in_slot : (h : ℕ) (now : House) (d e : ℕ) (u : Change) (s : Slot) → e ≢ d → LeavesSlot now (house_after now (turns.accept_in h now d u s)) e
in_slot h now d e u model.Absent apart = record { up = refl; slot = refl }
in_slot h now d e u (model.Gone k) apart = record { up = refl; slot = refl }
in_slot h now d e u (model.Held r) apart = at_stamp h now d e u r (turns.update_refusal h u r) (turns.stamp_at now) apart

-- a house that can make a directory can do so after an update of another one
pub founds_after : (g : model.Cell) (x d e m : ℕ) (u : Change) → e ≢ d → CanFound g e m → CanFound (at_house g x (turns.accept x (g.house x) d u)).cell e m
founds_after g x d e m u apart can = by (m == x) refl
  where
    by : (b : Bool) → (m == x) ≡ b → CanFound (at_house g x (turns.accept x (g.house x) d u)).cell e m
    by true on =
        let step = turns.accept x (g.house x) d u in
        let same : x ≡ m = grind (arith, nat_tests, on) in
        let here : (at_house g x step).cell.house m ≡ house_after (g.house x) step =
        ap (λ y. (at_house g x step).cell.house y) (sym same) ∙ at_house-here g x step in
        let kept = in_slot x (g.house x) d e u ((g.house x).slots d) apart in
        record {
          made = ap (λ ms. has m ms) (at_house-rest g x step).made ∙ can.made;
          up = ap (λ (h : House). h.up) here ∙ kept.up ∙ ap (λ y. (g.house y).up) same ∙ can.up;
          absent = ap (λ (h : House). h.slots e) here ∙ kept.slot ∙ ap (λ y. (g.house y).slots e) same ∙ can.absent;
        }
    by false off =
        let step = turns.accept x (g.house x) d u in
        let other : m ≢ x = grind (arith, nat_tests, off) in
        let there = at_house-there g x step m other in
        record {
          made = ap (λ ms. has m ms) (at_house-rest g x step).made ∙ can.made;
          up = ap (λ (h : House). h.up) there ∙ can.up;
          absent = ap (λ (h : House). h.slots e) there ∙ can.absent;
        }

-- ---- the child and its directory

-- no directory is made where the update is refused
with_directory-refused : (o : Outcome) (d m : ℕ) (ms : List Member) (r : UpdateRefusal) (a : command.Answer) → IsStampAnswer (Err r) a
    → with_directory o d m ms a ≡ o
with_directory-refused o d m ms r (command.Stamped s ns) is = absurd is
with_directory-refused o d m ms r a is = refl

-- the directory of a child that was made
made_step : (c : Cell) (o : Outcome) (d : DirId) (ms : List Member) (s : Stamp) (before ns : List ℕ) (a : command.Answer) → IsStampAnswer (Ok s) a
    → Tells a before → 1 ≤ d.0 → Founds c o.cell d.0 ms before ns → IsStepAs (answer.Made d s ns) c (with_directory o d.0 (master_of ms) ms a)
made_step c o d ms s before ns (command.Stamped t ks) is tells low founds = record {
  answer = ap (λ (t : Stamp). Some (answer.Made d t (ks ++ joins))) (sym is)
      ∙ ap (λ (ks : List ℕ). Some (answer.Made d s (ks ++ joins))) tells
      ∙ ap (λ (ns : List ℕ). Some (answer.Made d s ns)) (sym founds.told);
  stands = founds.stands (d.0 + 1) (omega (arith, low));
}
  where
    joins : List ℕ
    joins = serials_of o.cell (turns.first_joins (o.cell.house (master_of ms)).floor d.0 (master_of ms) ms)
made_step c o d ms s before ns a is tells low founds = absurd is

module _ (c c' : Cell) (g : model.Cell) (x at d : ℕ) (u : Change) (child : DirId) (ms : List Member) (before ns : List ℕ) (r : Result Stamp UpdateRefusal)
    (s : StandsAs c g) (place : IsPlaceOf c.houses.items x at) (up : (g.house x).up ≡ true) (first : before ≡ [])
    (acts : ActsAt c c' at before ns (IsStampAnswer r) (g.house x) (λ h. turns.accept h (g.house x) d u)) where
  abbrev step : turns.HouseStep
  step = turns.accept x (g.house x) d u

  -- the update at the house, and the cell that it leads to
  pub child_acted : Acted c' g x [] ns (IsStampAnswer r) step
  child_acted =
      acted c c' g x at [] ns (IsStampAnswer r) (λ h. turns.accept h (g.house x) d u) s place
      (subst (λ (ks : List ℕ). ActsAt c c' at ks ns (IsStampAnswer r) (g.house x) (λ h. turns.accept h (g.house x) d u)) first acts) up

  -- a child that is refused
  pub child_refused : (q : UpdateRefusal) (told : ScriptRefusal) → r ≡ Err q → told ≡ script.update_refusal_of q
      → IsStepAs (answer.Refused told) c' (child_outcome g x d u child.0 ms)
  child_refused q told is same =
      let o : Outcome = at_house g x step in
      let fits : IsStampAnswer (Err q) o.answer = subst (λ r. IsStampAnswer r o.answer) is child_acted.answer in
      subst (λ (z : Outcome). IsStepAs (answer.Refused told) c' z) (sym (with_directory-refused o child.0 (master_of ms) ms q o.answer fits))
      (record { answer = refused_told q o.answer fits ∙ ap (λ (w : ScriptRefusal). Some (answer.Refused w)) (sym same); stands = child_acted.stands })

  -- a child that is made
  pub child_made : (c'' : Cell) (t : Stamp) (after : List ℕ) → r ≡ Ok t → 1 ≤ child.0 → Founds c'' (at_house g x step).cell child.0 ms ns after
      → IsStepAs (answer.Made child t after) c'' (child_outcome g x d u child.0 ms)
  child_made c'' t after is low founds =
      let o : Outcome = at_house g x step in
      let fits : IsStampAnswer (Ok t) o.answer = subst (λ r. IsStampAnswer r o.answer) is child_acted.answer in
      made_step c'' o child ms t ns after o.answer fits (told_by c c' g x ns (IsStampAnswer r) step child_acted (accept_tells x (g.house x) d u)) low founds

-- a child and its directory are a step of a cell at most
pub child_leaves : (c d e : Cell) (child : DirId) (t : Stamp) (ns : List ℕ) → KeepsRest c d → d.bag.posted ≤ c.bag.posted + 64 → e.spent ≡ d.spent
    → GrowsByOne d e → Leaves c e (Ok (answer.Made child t ns))
child_leaves c d e child t ns rest few spent grows =
    let count : length d.directories.items ≡ length c.directories.items = ap (λ v. length v.items) rest.directories in
    let top : greatest_epoch d.directories.items ≡ greatest_epoch c.directories.items = ap (λ v. greatest_epoch v.items) rest.directories in
    let messages = grows.messages in
    let directories = grows.directories in
    let epochs = grows.epochs in
    record {
      spent = spent ∙ rest.spent;
      grows = record { messages = omega (arith, messages, few); directories = omega (arith, directories, count); epochs = omega (arith, epochs, top) };
      same = tt;
    }

-- ---- as commands

module _ (c : Cell) (g : model.Cell) (h d m : ℕ) (n rs ss : List ℕ) (s : Stands c g)
    (none : first_refusal (refusals_of g (command.Mkdir h d n m rs ss)) ≡ None) where
  abbrev tests : List (Bool × command.Refusal)
  tests = refusals_of g (command.Mkdir h d n m rs ss)

  missing : is_missing g (h ∷ m ∷ rs) ≡ false
  missing = passed tests (is_missing g (h ∷ m ∷ rs)) command.NoHouse (inr (inl refl)) none

  -- the house was made
  pub mkdir_placed : house_of c.houses.items h ≡ None → ⊥
  mkdir_placed unmade = never_missing c g h (m ∷ rs) s.stands missing unmade

  -- the list is not a bad one
  pub mkdir_listed : is_bad_list (m ∷ rs) ≡ false
  mkdir_listed = passed tests (is_bad_list (m ∷ rs)) command.BadMembers (inr (inr (inl refl))) none

  down : (is_down g h || is_down g m) ≡ false
  down = passed tests (is_down g h || is_down g m) command.Down (inr (inr (inr (inl refl)))) none

  -- it is up
  pub mkdir_up : (g.house h).up ≡ true
  mkdir_up = up_where g h (or_left (is_down g h) (is_down g m) down)

  known : is_unknown g d ≡ false
  known = passed tests (is_unknown g d) command.NoDirectory (inl refl) none

  -- the child has the next number
  pub child_next : (k : ℕ) → k ≡ length c.directories.items + 1 → k ≡ g.next_dir
  child_next k is =
      let some : 1 ≤ length c.directories.items = listed c.directories.items d known (s.stands.directories d) in
      is ∙ (let next = s.stands.next in omega (arith, next, some))
    where
      listed : (ls : List Listing) (d : ℕ) → is_unknown g d ≡ false → StandsListing (directory_of ls d) g d → 1 ≤ length ls
      listed [] zero known stands = absurd (let is : is_unknown g zero ≡ true = rw stands refl in cc (is, known))
      listed [] (suc i) known stands = absurd (let is : is_unknown g (suc i) ≡ true = rw stands refl in cc (is, known))
      listed (l ∷ ls) d known stands = omega arith

  -- it is another directory
  pub child_apart : (k : ℕ) → k ≡ g.next_dir → k ≢ d
  child_apart k is same =
      let top : g.top d ≡ 0 = (on_reached NumbersHold numbers_lem g s.reached).unknown d (inr (let e = same in omega (arith, is, e))) in
      let unknown : is_unknown g d ≡ true = rw top refl in
      cc

  -- its master can make it
  pub child_can : (k x : ℕ) → k ≡ g.next_dir → x ≡ m → CanFound g k x
  child_can k x is same =
      let numbers = on_reached NumbersHold numbers_lem g s.reached in
      let top : g.top k ≡ 0 = numbers.unknown k (inr (omega (arith, is))) in
      record {
        made = ap (λ x. has x g.made) same ∙ made_where g m rs (or_right _ _ missing);
        up = ap (λ x. (g.house x).up) same ∙ up_where g m (or_right (is_down g h) (is_down g m) down);
        absent = (numbers.nothing k top).absent x;
      }

  -- what is done is the command
  pub mkdir_is : (k : ℕ) (u : Change) (ms : List Member) → k ≡ g.next_dir → u ≡ updates.MakeChild n (record { dir = k; master = m; others = sorted_houses rs })
      → ms ≡ member_list_of [] 1 m rs ss → child_outcome g h d u k ms ≡ effect g (command.Mkdir h d n m rs ss)
  mkdir_is k u ms next is members =
      let list : List Member = member_list_of [] 1 m rs ss in
      ap (λ (u : Change). child_outcome g h d u k ms) is
      ∙ ap (λ ms. child_outcome g h d (updates.MakeChild n (record { dir = k; master = m; others = sorted_houses rs })) k ms) members
      ∙ ap (λ k. child_outcome g h d (updates.MakeChild n (record { dir = k; master = m; others = sorted_houses rs })) k list) next
      ∙ ap (λ x. done x) (master_new [] 1 m rs ss)
    where
      done : ℕ → Outcome
      done x =
          let u : Change = updates.MakeChild n (record { dir = g.next_dir; master = m; others = sorted_houses rs }) in
          let o : Outcome = at_house g h (turns.accept h (g.house h) d u) in
          with_directory o g.next_dir x (member_list_of [] 1 m rs ss) o.answer

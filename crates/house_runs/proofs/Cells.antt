-- The folders of several houses.
use Rattle.std.proofs.Common.{◌≡◌, ℕ, inl, inr, true, false, List, [], ◌∷◌, refl, sym, ap, subst, ◌∙◌, arith}
use Rattle.std.specs.Prelude.{◌==◌}
use Rattle.std.proofs.lemmas.Bool.Decides.{nat_tests}
use Rattle.cell_model.specs.Agreement.{Converges}
use Rattle.cell_model.specs.Cells.{empty_cell}
use Rattle.cell_model.specs.Sets.{In, has}
use Rattle.cell_model.specs.Steps.{stands_twice}
use Rattle.cell_model.proofs.Lists.{or_left, or_right}
use Rattle.cell_runs.specs.Entries.{Entry}
use Rattle.cell_runs.specs.HonestRuns.{IsHonest}
use Rattle.cell_runs.specs.Orders.{AreRuns, IsOrderOf, MadeHouse, NoneRefused, commands_of, new_house, numbers_in}
use Rattle.cell_runs.specs.Views.{view_from}
use Rattle.house_runs.specs.Folders.{FolderSegment, folder_bodies}
use Rattle.house_runs.specs.Runs.{AreFolders, AreHonest, AreOfCell, HouseRun, TellNoRun, TellRun, TellRuns, TellWithout, entries_at, houses_in}
use Rattle.house_runs.proofs.Segments.{TellHouseOrNone, folders_tell}

-- the records of folders tell runs of honest houses
record TellAll (folders : List (List FolderSegment)) : Type 0 where
  runs : List HouseRun
  tell : TellRuns folders runs
  honest : AreHonest runs

tell_all : (folders : List (List FolderSegment)) → AreFolders folders → TellAll folders
tell_all [] are = record { runs = []; tell = TellNoRun; honest = tt }
tell_all (f ∷ fs) are = by (folders_tell f are.0) (tell_all fs are.1)
  where
    by : TellHouseOrNone (folder_bodies f) → TellAll fs → TellAll (f ∷ fs)
    by (inl none) rest = record { runs = rest.runs; tell = TellWithout f fs rest.runs none rest.tell; honest = rest.honest }
    by (inr t) rest =
        let r : HouseRun = record { made = t.made; entries = t.entries } in
        record { runs = r ∷ rest.runs; tell = TellRun f fs r rest.runs t.tell rest.tell; honest = (t.honest, rest.honest) }

-- the entries of a house that is first
entries_first : (r : HouseRun) (rs : List HouseRun) (x : ℕ) → r.made.house ≡ x → entries_at (r ∷ rs) x ≡ r.entries
entries_first r rs x is = let on : (r.made.house == x) ≡ true = grind (arith, nat_tests, is) in rw on refl

-- and of another one
entries_later : (r : HouseRun) (rs : List HouseRun) (x : ℕ) → (r.made.house == x) ≡ false → entries_at (r ∷ rs) x ≡ entries_at rs x
entries_later r rs x off = rw off refl

-- a house has the entries of its run, if no number is there twice
own_entries : (rs : List HouseRun) → stands_twice (numbers_in (houses_in rs)) ≡ false → AreHonest rs → (h : MadeHouse) → In h (houses_in rs)
    → IsHonest h.house (new_house h.node) (entries_at rs h.house)
own_entries [] once honest h i = elim i [ ]
own_entries (r ∷ rs) once honest h (inl is) =
    let own : IsHonest h.house (new_house h.node) r.entries = subst (λ (k : MadeHouse). IsHonest k.house (new_house k.node) r.entries) (sym is) honest.0 in
    subst (IsHonest h.house (new_house h.node)) (sym (entries_first r rs h.house (ap (λ (k : MadeHouse). k.house) (sym is)))) own
own_entries (r ∷ rs) once honest h (inr i) =
    let others : stands_twice (numbers_in (houses_in rs)) ≡ false =
    or_right (has r.made.house (numbers_in (houses_in rs))) (stands_twice (numbers_in (houses_in rs))) once in
    let first : has r.made.house (numbers_in (houses_in rs)) ≡ false =
    or_left (has r.made.house (numbers_in (houses_in rs))) (stands_twice (numbers_in (houses_in rs))) once in
    subst (IsHonest h.house (new_house h.node)) (sym (entries_later r rs h.house (apart (houses_in rs) i first))) (own_entries rs others honest.1 h i)
  where
    apart : (hs : List MadeHouse) → In h hs → has r.made.house (numbers_in hs) ≡ false → (r.made.house == h.house) ≡ false
    apart [] i none = elim i [ ]
    apart (k ∷ ks) (inl is) none = subst (λ (j : MadeHouse). (r.made.house == j.house) ≡ false) (sym is) (or_left (r.made.house == k.house) (has r.made.house (numbers_in ks)) none)
    apart (k ∷ ks) (inr i) none = apart ks i (or_right (r.made.house == k.house) (has r.made.house (numbers_in ks)) none)

-- a number of no house has no entries
no_entries : (rs : List HouseRun) (x : ℕ) → has x (numbers_in (houses_in rs)) ≡ false → entries_at rs x ≡ []
no_entries [] x none = refl
no_entries (r ∷ rs) x none =
    let off : (x == r.made.house) ≡ false = or_left (x == r.made.house) (has x (numbers_in (houses_in rs))) none in
    let turned : (r.made.house == x) ≡ false = grind (arith, nat_tests, off) in
    entries_later r rs x turned ∙ no_entries rs x (or_right (x == r.made.house) (has x (numbers_in (houses_in rs))) none)

-- folders are those of a cell, by the law of honest houses
module _ (views : (houses : List MadeHouse) (logs : ℕ → List Entry) (line : List (ℕ × Entry)) → AreRuns houses logs → IsOrderOf houses logs line
    → (x : ℕ) → view_from empty_cell x (commands_of houses line) ≡ logs x)
    (done : (houses : List MadeHouse) (logs : ℕ → List Entry) (line : List (ℕ × Entry)) → AreRuns houses logs → IsOrderOf houses logs line
    → NoneRefused (commands_of houses line))
    (settled : (houses : List MadeHouse) (line : List (ℕ × Entry)) → Converges (commands_of houses line)) where
  pub are_of_cell : (folders : List (List FolderSegment)) → AreFolders folders → AreOfCell folders
  are_of_cell folders are =
      let all = tell_all folders are in
      record {
        runs = all.runs;
        tell = all.tell;
        honest = all.honest;
        cell = λ distinct line order.
            let logs : ℕ → List Entry = entries_at all.runs in
            let runs : AreRuns (houses_in all.runs) logs = record {
              numbers = distinct.numbers;
              nodes = distinct.nodes;
              honest = own_entries all.runs distinct.numbers all.honest;
              others = no_entries all.runs;
            } in
            record {
              views = views (houses_in all.runs) logs line runs order;
              done = done (houses_in all.runs) logs line runs order;
              settled = settled (houses_in all.runs) line;
            };
      }

-- A clearinghouse that starts of what it kept, and whose skulks run on.
use Rattle.std.proofs.Common.{◌≡◌, T, Bool, true, false, cond, List, [], ◌∷◌, Option, Some, None, refl, sym, ap, subst, ◌∙◌}
use Rattle.std.specs.Prelude.{filter_map}
use Rattle.std.specs.List.{cons_option}
use Rattle.std.specs.Option.{option_map, option_or}
use Rattle.std.specs.Ordering.{eq_by_cmp, is_eq}
use Rattle.std.specs.Cmp.{tied_itself}
use Rattle.std.specs.FinMap.{FinMap, entries, entries_sorted, find, get, get-entries, get-insert, insert, is_sorted, same_map}
use Rattle.std.specs.FinMap.Entries.{below_all}
use Rattle.cds_stamps.specs.declared.numbers.DirId.{DirId}
use Rattle.cds_stamps.specs.Keyed.{ties_are_equal}
use Rattle.cds_messages.specs.Dirs.{dir_cmp, dir_total, dir_exact}
use Rattle.record_fields.proofs.Ascending.{first_of, less, second_of}
use Rattle.skulk_core.specs.declared.skulk.Skulk.{Skulk}
use Rattle.skulk_core.specs.declared.skulk.Skulk.TheVariants as skulk
use Rattle.house_directory.specs.declared.states.Held.{Held}
use Rattle.house_directory.specs.declared.states.DirState.{DirState}
use Rattle.house_directory.specs.declared.states.DirState.TheVariants as state
use Rattle.house_directory.specs.DirectoryTakes.{held_in}
use Rattle.house_directory.proofs.Maps.{unchanged}
use Rattle.clearinghouse.specs.declared.running.Round.TheVariants as round
use Rattle.clearinghouse.specs.declared.running.RunningSkulk.{RunningSkulk}
use Rattle.clearinghouse.specs.declared.house.Clearinghouse.{Clearinghouse}
use Rattle.clearinghouse.specs.HouseImages.{dirs_with, house_after_restart, running_at, running_skulk, skulks_of, with_skulk, with_skulks}
use Rattle.clearinghouse.specs.LawfulHouses.{IsLawful}
use Rattle.clearinghouse.proofs.Restarting.{again, floor_stays, got_again}

abbrev Dirs : Type 0
Dirs = FinMap dir_cmp DirState

-- directories whose skulks run on
abbrev runs_in : List RunningSkulk → Dirs → Dirs
runs_in [] m = m
runs_in (r ∷ rs) m = runs_in rs (dirs_with r (held_in (get m r.dir)) m)

only_dirs : (rs : List RunningSkulk) (c : Clearinghouse) → with_skulks rs c ≡ record c { dirs = runs_in rs c.dirs }
only_dirs [] c = refl
only_dirs (r ∷ rs) c = only_dirs rs (with_skulk r c)

-- ---- one directory

abbrev runs_if : Option RunningSkulk → Dirs → Dirs
runs_if None m = m
runs_if (Some r) m = dirs_with r (held_in (get m r.dir)) m

runs_next : (o : Option RunningSkulk) (rs : List RunningSkulk) (m : Dirs) → runs_in (cons_option o rs) m ≡ runs_in rs (runs_if o m)
runs_next None rs m = refl
runs_next (Some r) rs m = refl

held_runs : (dir : DirId) (h : Held) (s : Skulk) (m : Dirs) → get m dir ≡ Some (state.Held (record h { skulk = skulk.Idle }))
    → runs_if (running_skulk dir s) m ≡ insert m dir (state.Held (record h { skulk = s }))
held_runs dir h skulk.Idle m is = sym (unchanged m dir (state.Held (record h { skulk = skulk.Idle })) is)
held_runs dir h (skulk.Gathering t who) m is =
    ap (λ o. dirs_with (record { dir = dir; round = round.Gather; t = t; answered = who }) (held_in o) m) is
held_runs dir h (skulk.Spreading t who) m is =
    ap (λ o. dirs_with (record { dir = dir; round = round.Spread; t = t; answered = who }) (held_in o) m) is

-- what a house has of a directory after a crash and a start, and with its skulk that runs on
one_runs : (e : DirId × DirState) (m : Dirs) → get m e.0 ≡ Some (again e.1) → runs_if (running_at e) m ≡ insert m e.0 e.1
one_runs (dir, state.Held h) m is = held_runs dir h h.skulk m is
one_runs (dir, state.Gone e) m is = sym (unchanged m dir (state.Gone e) is)

-- ---- all of them

-- each of these directories is as after a crash and a start
abbrev AreAgain : List (DirId × DirState) → Dirs → Type 0
AreAgain es m = (q : DirId) (s : DirState) → find dir_cmp q es ≡ Some s → get m q ≡ Some (again s)

-- what is below all keys is not found
not_found : (q : DirId) (es : List (DirId × DirState)) → T (below_all dir_cmp q es) → find dir_cmp q es ≡ None
not_found q [] p = refl
not_found q (e ∷ es) p =
    ap (λ r. cond (is_eq r) (Some e.1) (find dir_cmp q es)) (less (dir_cmp q e.0) (first_of _ _ p)) ∙ not_found q es (second_of _ _ p)

module _ (e : DirId × DirState) (es : List (DirId × DirState)) (below : T (below_all dir_cmp e.0 es)) where
  absent : (q : DirId) → eq_by_cmp dir_cmp q e.0 ≡ true → find dir_cmp q es ≡ None
  absent q same = not_found q es (subst (λ k. T (below_all dir_cmp k es)) (sym (ties_are_equal dir_exact q e.0 same)) below)

  others_again : (m : Dirs) → AreAgain (e ∷ es) m → AreAgain es (insert m e.0 e.1)
  others_again m are q s found = get-insert dir_total m e.0 e.1 q ∙ by (eq_by_cmp dir_cmp q e.0) refl
    where
      by : (b : Bool) → eq_by_cmp dir_cmp q e.0 ≡ b → cond b (Some e.1) (get m q) ≡ Some (again s)
      by true same = let none : None ≡ Some s = sym (absent q same) ∙ found in absurd (cc)
      by false other = are q s (ap (λ b. cond b (Some e.1) (find dir_cmp q es)) other ∙ found)

  found_then : (m : Dirs) (q : DirId) → option_or (find dir_cmp q es) (get (insert m e.0 e.1) q) ≡ option_or (find dir_cmp q (e ∷ es)) (get m q)
  found_then m q = ap (option_or (find dir_cmp q es)) (get-insert dir_total m e.0 e.1 q) ∙ by (eq_by_cmp dir_cmp q e.0) refl
    where
      by : (b : Bool) → eq_by_cmp dir_cmp q e.0 ≡ b
          → option_or (find dir_cmp q es) (cond b (Some e.1) (get m q)) ≡ option_or (cond b (Some e.1) (find dir_cmp q es)) (get m q)
      by true same = ap (λ o. option_or o (Some e.1)) (absent q same)
      by false other = refl

all_run : (es : List (DirId × DirState)) (m : Dirs) → T (is_sorted dir_cmp es) → AreAgain es m → (q : DirId)
    → get (runs_in (filter_map running_at es) m) q ≡ option_or (find dir_cmp q es) (get m q)
all_run [] m sorted are q = refl
all_run (e ∷ es) m sorted are q =
    let below = first_of _ _ sorted in
    let here = are e.0 e.1 (ap (λ r. cond (is_eq r) (Some e.1) (find dir_cmp e.0 es)) (tied_itself dir_total e.0)) in
    ap (λ n. get n q) (runs_next (running_at e) (filter_map running_at es) m ∙ ap (runs_in (filter_map running_at es)) (one_runs e m here))
    ∙ all_run es (insert m e.0 e.1) (second_of _ _ sorted) (others_again e es below m are) q
    ∙ found_then e es below m q

-- ---- the house

same_dirs : (c : Clearinghouse) → runs_in (skulks_of c) (house_after_restart c).dirs ≡ c.dirs
same_dirs c = same_map dir_total dir_exact _ _ (λ q.
    all_run (entries c.dirs) (house_after_restart c).dirs (entries_sorted c.dirs) are q
    ∙ ap (λ o. option_or o (get (house_after_restart c).dirs q)) (sym (get-entries c.dirs q))
    ∙ ap (option_or (get c.dirs q)) (got_again c q) ∙ first_or (get c.dirs q))
  where
    are : AreAgain (entries c.dirs) (house_after_restart c).dirs
    are q s found = got_again c q ∙ ap (option_map again) (get-entries c.dirs q ∙ found)

    first_or : (o : Option DirState) → option_or o (option_map again o) ≡ o
    first_or None = refl
    first_or (Some s) = refl

-- a house that starts of what it kept, and whose skulks run on, is as it was, and not spent
pub goes_on : (c : Clearinghouse) → IsLawful c → with_skulks (skulks_of c) (house_after_restart c) ≡ record c { spent = false }
goes_on c lawful =
    only_dirs (skulks_of c) (house_after_restart c)
    ∙ (λ i. record { house = c.house; node = c.node; floor = floor_stays c lawful i; dirs = same_dirs c i; spent = false })

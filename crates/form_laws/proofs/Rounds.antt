-- The entries, rounds and skulks of the script: from cells in which the sixteen entries live, each
-- leads to such cells.
use Rattle.std.proofs.Common.{◌≡◌, ℕ, ◌+◌, ◌*◌, ◌<◌, ◌≤◌, zero, suc, Bool, true, false, List, [], ◌∷◌, ◌++◌, length, map, None, refl, sym, ap, ◌∙◌, subst}
use Rattle.std.proofs.Common.{arith, length-append}
use Rattle.std.specs.Prelude.{◌==◌, nat_lt, codes, count_by, if◌then◌else◌}
use Rattle.std.specs.List.{range_with_len, flat_map}
use Rattle.cds_stamps.specs.Stamps.{last_time}
use Rattle.directory.specs.Shown.{refusal_of}
use Rattle.directory.specs.Updates.{Change, Create, Delete, Add, Remove, changed_name}
use Rattle.cell_model.specs.Cells.{Cell}
use Rattle.cell_model.specs.Commands as model
use Rattle.cell_model.specs.Commands.{Accepted, Skulk, Deliver, Lose}
use Rattle.cell_model.specs.Mending.{deliver_commands}
use Rattle.cell_script.specs.Generated.{Part, laid_out, nobody, the_first, entry_name, entry, drawn_entry, drawn_value, drawn_change, is_told}
use Rattle.cell_script.specs.Generated.{value_added, value_removed, value_round, new_entry_round, change_round, skulk, skulk_if}
use Rattle.cell_script.specs.Generated.{ends_with_skulk, round_of}
use Rattle.cds_cell.specs.Scripted.{step_of}
use Rattle.form_laws.specs.Unrefused.{is_skulk}
use Rattle.form_laws.proofs.Goings.{Goes, goes_none, goes_append, count_more, count_append}
use Rattle.form_laws.proofs.SkulkRuns.{Filled}
use Rattle.form_laws.proofs.Shows.{shows, After}
use Rattle.form_laws.proofs.Stamps.{skulk_run}
use Rattle.form_laws.proofs.Entries.{And, named_after, AllLive, Making, AllBut, create_free, delete_free, add_free, remove_free, added_all, removed_all}
use Rattle.form_laws.proofs.Entries.{made_next, deleted_one, made_again}
use Rattle.form_laws.proofs.Parts.{steps_of, laid_steps, skulks_of, Between, nothing_waits, close_run, Leads, one_update, two_updates}

-- ---- each part

module _ (P Q : List Accepted → Type 0) (u : Change) (k : ℕ) (low : k < 16) (about : changed_name u ≡ entry_name k)
    (free : (log : List Accepted) → P log → refusal_of (shows log (changed_name u)) u ≡ None)
    (after : (log log' : List Accepted) → P log → After log u log' → Q log') where
  still_free : (log : List Accepted) → And P log → refusal_of (shows log (changed_name u)) u ≡ None
  still_free log h = free log h.0

  still_after : (log log' : List Accepted) → And P log → After log u log' → And Q log'
  still_after log log' h w = (after log log' h.0 w, named_after log log' u k low about w (free log h.0) h.1)

-- the next entry is made
pub entry_leads : (j : ℕ) → j < 16 → Leads (entry j) (And (Making j)) (And (Making (j + 1)))
entry_leads j low f p g left b =
    let free : (log : List Accepted) → Making j log → refusal_of (shows log (entry_name j)) (Create (entry_name j)) ≡ None =
    λ log m. create_free log (entry_name j) (m.absent j (omega arith) low) in
    let after : (log log' : List Accepted) → Making j log → After log (Create (entry_name j)) log' → Making (j + 1) log' =
    λ log log' m w. made_next j low log log' m w in
    one_update (And (Making j)) (And (Making (j + 1))) (Create (entry_name j))
    (still_free (Making j) (Making (j + 1)) (Create (entry_name j)) j low refl free after)
    (still_after (Making j) (Making (j + 1)) (Create (entry_name j)) j low refl free after) false f p g left b

value_leads : (k v : ℕ) (adds told : Bool) → k < 16
    → Leads (record {
      commands = (if adds then value_added k v else value_removed k v) ∷ [];
      delivered = if told then the_first else nobody;
      posted = 2;
    }) (And AllLive) (And AllLive)
value_leads k v true told low f p g left b =
    let u : Change = Add (entry_name k) (codes "A") (v ∷ []) in
    let free : (log : List Accepted) → AllLive log → refusal_of (shows log (entry_name k)) u ≡ None =
    λ log all. add_free log (entry_name k) (v ∷ []) (all k low) in
    let after : (log log' : List Accepted) → AllLive log → After log u log' → AllLive log' = λ log log' all w. added_all k (v ∷ []) low log log' all w in
    one_update (And AllLive) (And AllLive) u (still_free AllLive AllLive u k low refl free after) (still_after AllLive AllLive u k low refl free after) told
    f p g left b
value_leads k v false told low f p g left b =
    let u : Change = Remove (entry_name k) (codes "A") (v ∷ []) in
    let free : (log : List Accepted) → AllLive log → refusal_of (shows log (entry_name k)) u ≡ None =
    λ log all. remove_free log (entry_name k) (v ∷ []) (all k low) in
    let after : (log log' : List Accepted) → AllLive log → After log u log' → AllLive log' = λ log log' all w. removed_all k (v ∷ []) low log log' all w in
    one_update (And AllLive) (And AllLive) u (still_free AllLive AllLive u k low refl free after) (still_after AllLive AllLive u k low refl free after) told
    f p g left b

renewed_leads : (k : ℕ) (told : Bool) → k < 16 → (f p : ℕ) (g : Cell) → f + 2 ≤ last_time → Between f p (And AllLive) g
    → Goes g (model.Accept 1 1 (Delete (entry_name k)) ∷ model.Accept 1 1 (Create (entry_name k))
    ∷ (map Deliver ((if told then (λ (first : ℕ). first ∷ (first + 2) ∷ []) else nobody) (p + 1)) ++ map Lose (range_with_len (p + 1) 4)))
    0 (Between (f + 2) (p + 4) (And AllLive))
renewed_leads k told low f p g left b =
    let u : Change = Delete (entry_name k) in
    let u' : Change = Create (entry_name k) in
    let free : (log : List Accepted) → AllLive log → refusal_of (shows log (entry_name k)) u ≡ None = λ log all. delete_free log (entry_name k) (all k low) in
    let after : (log log' : List Accepted) → AllLive log → After log u log' → AllBut k log' = λ log log' all w. deleted_one k low log log' all w in
    let free' : (log : List Accepted) → AllBut k log → refusal_of (shows log (entry_name k)) u' ≡ None =
    λ log but. create_free log (entry_name k) but.absent in
    let after' : (log log' : List Accepted) → AllBut k log → After log u' log' → AllLive log' = λ log log' but w. made_again k log log' but w in
    two_updates (And AllLive) (And (AllBut k)) (And AllLive) u u'
    (still_free AllLive (AllBut k) u k low refl free after) (still_after AllLive (AllBut k) u k low refl free after)
    (still_free (AllBut k) AllLive u' k low refl free' after') (still_after (AllBut k) AllLive u' k low refl free' after') told f p g left b

-- a round changes a value, or makes an entry anew
change_leads : (x : ℕ) → Leads (change_round x) (And AllLive) (And AllLive)
change_leads x = go (drawn_change x == 7)
  where
    low : drawn_entry x < 16
    low = omega arith

    go : (anew : Bool) → Leads (if anew then new_entry_round x else value_round x) (And AllLive) (And AllLive)
    go true = renewed_leads (drawn_entry x) (is_told x) low
    go false = value_leads (drawn_entry x) (drawn_value x) (nat_lt (drawn_change x) 5) (is_told x) low

row_of_deliveries : (n p : ℕ) → map Deliver (range_with_len (p + 1) n) ≡ deliver_commands p n
row_of_deliveries zero p = refl
row_of_deliveries (suc n) p = ap (λ (l : List model.Command). Deliver (p + 1) ∷ l) (row_of_deliveries n (p + 1))

-- a skulk completes
skulk_leads : Leads skulk (And AllLive) (And AllLive)
skulk_leads f p g left b =
    let le : f + 1 ≤ f + 2 = omega arith in
    let lost : List model.Command = map Lose (range_with_len (p + 1) 10) in
    subst (λ (l : List model.Command). Goes g (Skulk 1 1 ∷ (l ++ lost)) 1 (Between (f + 2) (p + 10) (And AllLive))) (sym (row_of_deliveries 10 p))
    (goes_append g (Skulk 1 1 ∷ deliver_commands p 10) lost 1 0 (Filled (f + 1) b.log p (p + 10)) (Between (f + 2) (p + 10) (And AllLive))
    (skulk_run f p b.log g b.filled.steady (omega (arith, left)) (nothing_waits f p b.log g b.filled))
    (λ z h. close_run 10 (f + 1) (f + 2) b.log p (And AllLive) z h.steady h.count le b.entries))

-- ---- all parts

-- each of these parts leads so
abbrev pub AllLead : List Part → Type 0
AllLead [] = Unit {0}
AllLead (r ∷ rs) = Leads r (And AllLive) (And AllLive) × AllLead rs

all_lead-append : (rs qs : List Part) → AllLead rs → AllLead qs → AllLead (rs ++ qs)
all_lead-append [] qs a b = b
all_lead-append (r ∷ rs) qs a b = (a.0, all_lead-append rs qs a.1 b)

skulk_if-lead : (due : Bool) → AllLead (skulk_if due)
skulk_if-lead true = (skulk_leads, tt)
skulk_if-lead false = tt

skulk_if-few : (due : Bool) → length (skulk_if due) ≤ 1
skulk_if-few true = omega arith
skulk_if-few false = omega arith

-- the parts of rounds do
pub rounds_lead : (last : ℕ) (rs : List (ℕ × ℕ)) → AllLead (flat_map (round_of last) rs)
rounds_lead last [] = tt
rounds_lead last ((r, x) ∷ rs) =
    (change_leads x, all_lead-append (skulk_if (ends_with_skulk last r)) _ (skulk_if-lead (ends_with_skulk last r)) (rounds_lead last rs))

-- there are at most two a round
pub rounds_few : (last : ℕ) (rs : List (ℕ × ℕ)) → length (flat_map (round_of last) rs) ≤ 2 * length rs
rounds_few last [] = omega arith
rounds_few last ((r, x) ∷ rs) =
    omega (
      arith,
      rounds_few last rs,
      skulk_if-few (ends_with_skulk last r),
      length-append (skulk_if (ends_with_skulk last r)) (flat_map (round_of last) rs),
    )

-- how many skulks these parts begin
abbrev pub skulks_in : List Part → ℕ
skulks_in [] = 0
skulks_in (r ∷ rs) = skulks_of r + skulks_in rs

none_delivered : (ns : List ℕ) → count_by is_skulk (map Deliver ns) ≡ 0
none_delivered [] = refl
none_delivered (n ∷ ns) = count_more is_skulk (Deliver n) (map Deliver ns) ∙ none_delivered ns

none_lost : (ns : List ℕ) → count_by is_skulk (map Lose ns) ≡ 0
none_lost [] = refl
none_lost (n ∷ ns) = count_more is_skulk (Lose n) (map Lose ns) ∙ none_lost ns

-- the steps of the parts begin so many
pub skulks_laid : (first : ℕ) (rs : List Part) → count_by is_skulk (map step_of (laid_out first rs)) ≡ skulks_in rs
skulks_laid first [] = refl
skulks_laid first (r ∷ rs) =
    let cs : List model.Command = map step_of r.commands in
    let ds : List model.Command = map Deliver (r.delivered first) in
    let ls : List model.Command = map Lose (range_with_len first r.posted) in
    let rest : List model.Command = map step_of (laid_out (first + r.posted) rs) in
    let a = ap (count_by is_skulk) (laid_steps first r rs) in
    let b = count_append is_skulk (cs ++ (ds ++ ls)) rest in
    let c = count_append is_skulk cs (ds ++ ls) in
    let d = count_append is_skulk ds ls in
    omega (arith, a, b, c, d, none_delivered (r.delivered first), none_lost (range_with_len first r.posted), skulks_laid (first + r.posted) rs)

-- the sixteen entries live, with some floor, after some messages
abbrev pub LiveSomewhere : Cell → Type 0
LiveSomewhere g = (f p : ℕ) × Between f p (And AllLive) g

-- the parts work one after the other, as long as stamps are left
pub parts_run : (rs : List Part) → AllLead rs → (f p : ℕ) (g : Cell) → f + 2 * length rs ≤ last_time → Between f p (And AllLive) g
    → Goes g (map step_of (laid_out (p + 1) rs)) (skulks_in rs) LiveSomewhere
parts_run [] all f p g left b = goes_none g LiveSomewhere (f, p, b)
parts_run (r ∷ rs) all f p g left b =
    let next : (p + r.posted) + 1 ≡ (p + 1) + r.posted = omega arith in
    subst (λ (l : List model.Command). Goes g l (skulks_of r + skulks_in rs) LiveSomewhere) (sym (laid_steps (p + 1) r rs))
    (goes_append g (steps_of r (p + 1)) (map step_of (laid_out ((p + 1) + r.posted) rs)) (skulks_of r) (skulks_in rs)
    (Between (f + 2) (p + r.posted) (And AllLive)) LiveSomewhere (all.0 f p g (omega (arith, left)) b)
    (λ h c. subst (λ (n : ℕ). Goes h (map step_of (laid_out n rs)) (skulks_in rs) LiveSomewhere) next
    (parts_run rs all.1 (f + 2) (p + r.posted) h (omega (arith, left)) c)))

-- so they do after the making of the entries from number j on
pub making_run : (c j : ℕ) (rs : List Part) → j + c ≡ 16 → AllLead rs → (f p : ℕ) (g : Cell) → f + (2 * c + 2 * length rs) ≤ last_time
    → Between f p (And (Making j)) g
    → Goes g (map step_of (laid_out (p + 1) (map entry (range_with_len j c) ++ rs))) (skulks_in (map entry (range_with_len j c) ++ rs)) LiveSomewhere
making_run zero j rs e all f p g left b =
    let whole : j ≡ 16 = omega arith in
    parts_run rs all f p g (omega (arith, left)) (record {
      log = b.log;
      filled = b.filled;
      entries = (λ k lt. (b.entries.0).live k (omega arith), b.entries.1);
    })
making_run (suc c) j rs e all f p g left b =
    let qs : List Part = map entry (range_with_len (j + 1) c) ++ rs in
    let next : (p + 2) + 1 ≡ (p + 1) + 2 = omega arith in
    subst (λ (l : List model.Command). Goes g l (0 + skulks_in qs) LiveSomewhere) (sym (laid_steps (p + 1) (entry j) qs))
    (goes_append g (steps_of (entry j) (p + 1)) (map step_of (laid_out ((p + 1) + 2) qs)) 0 (skulks_in qs) (Between (f + 2) (p + 2) (And (Making (j + 1))))
    LiveSomewhere (entry_leads j (omega arith) f p g (omega (arith, left)) b)
    (λ h d. subst (λ (n : ℕ). Goes h (map step_of (laid_out n qs)) (skulks_in qs) LiveSomewhere) next
    (making_run c (j + 1) rs (omega arith) all (f + 2) (p + 2) h (omega (arith, left)) d)))

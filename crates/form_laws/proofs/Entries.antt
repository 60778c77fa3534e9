-- The sixteen entries of the script: which of them live, before and after an update.
use Rattle.std.proofs.Common.{◌≡◌, ◌≢◌, ℕ, ◌+◌, ◌<◌, ◌≤◌, ◌⊎◌, inl, inr, Bool, true, false, List, Option, Some, None, refl, sym, ap, ◌∙◌, subst, arith}
use Rattle.std.proofs.Common.{⊎_elim}
use Rattle.std.specs.Prelude.{codes, IsSome}
use Rattle.std.specs.Fmt.{decimal}
use Rattle.std.proofs.lemmas.Bool.{cases_lt, false≢true}
use Rattle.std.proofs.lemmas.Fmt.{decimal_injective}
use Rattle.cds_stamps.specs.Keyed.{ties_are_equal}
use Rattle.cds_stamps.specs.Octets.{is_octets, octets_exact}
use Rattle.directory.specs.Shown.{Shown, refusal_of}
use Rattle.directory.specs.Updates.{Change, Create, Delete, Add, Remove, changed_name}
use Rattle.directory.proofs.FragmentLaws.{same_octets}
use Rattle.cell_model.specs.Commands.{Accepted}
use Rattle.cell_script.specs.Generated.{entry_name}
use Rattle.form_laws.proofs.Shows.{shows, After, Live, other_shown, live_same, created, deleted, value_added, value_removed}

-- ---- names

-- two numbers below 16 name two entries
pub names_apart : (j k : ℕ) → j < 16 → k < 16 → j ≢ k → entry_name j ≢ entry_name k
names_apart j k low low' apart e =
    let digits : decimal j ≡ decimal k = cc in
    apart (decimal_injective j k (omega arith) (omega arith) digits)

-- a name is this one, or another
same_or_not : (q n : List ℕ) → (q ≡ n) ⊎ (q ≢ n)
same_or_not q n = go (is_octets q n) refl
  where
    go : (b : Bool) → is_octets q n ≡ b → (q ≡ n) ⊎ (q ≢ n)
    go true e = inl (ties_are_equal octets_exact q n e)
    go false e = inr (λ same. false≢true (sym e ∙ ap (λ (z : List ℕ). is_octets z n) same ∙ same_octets n))

-- ---- what lives on

-- what lives does so after an update, where the entry of that does
live_after : (log log' : List Accepted) (u : Change) → After log u log' → refusal_of (shows log (changed_name u)) u ≡ None
    → (Live log (changed_name u) → Live log' (changed_name u)) → (q : List ℕ) → Live log q → Live log' q
live_after log log' u w free here q l = ⊎_elim
    (λ (e : q ≡ changed_name u). subst (λ (z : List ℕ). Live log' z) (sym e) (here (subst (λ (z : List ℕ). Live log z) e l)))
    (λ (n : q ≢ changed_name u). live_same log log' q (other_shown log log' u q w free n) l)
    (same_or_not q (changed_name u))

-- each of the sixteen lives
abbrev pub AllLive : List Accepted → Type 0
AllLive log = (k : ℕ) → k < 16 → Live log (entry_name k)

-- those before number j live, and the others do not show
pub record Making (j : ℕ) (log : List Accepted) : Type 0 where
  pub live : (k : ℕ) → k < j → Live log (entry_name k)
  pub absent : (k : ℕ) → j ≤ k → k < 16 → shows log (entry_name k) ≡ None

-- each of the sixteen but number k lives, and that does not show
pub record AllBut (k : ℕ) (log : List Accepted) : Type 0 where
  pub live : (i : ℕ) → i < 16 → i ≢ k → Live log (entry_name i)
  pub absent : shows log (entry_name k) ≡ None

-- each name that shows is one of the sixteen
abbrev pub IsNamed : List Accepted → Type 0
IsNamed log = (q : List ℕ) → IsSome (shows log q) → (k : ℕ) × (k < 16) × (q ≡ entry_name k)

-- so it is after an update of one of them
pub named_after : (log log' : List Accepted) (u : Change) (k : ℕ) → k < 16 → changed_name u ≡ entry_name k → After log u log'
    → refusal_of (shows log (changed_name u)) u ≡ None → IsNamed log → IsNamed log'
named_after log log' u k low about w free named q some = ⊎_elim
    (λ (e : q ≡ changed_name u). (k, low, e ∙ about))
    (λ (n : q ≢ changed_name u). named q (subst IsSome (other_shown log log' u q w free n) some))
    (same_or_not q (changed_name u))

-- this holds, and no other name shows
abbrev pub And : (List Accepted → Type 0) → List Accepted → Type 0
And P log = P log × IsNamed log

-- ---- which updates are not refused

-- an entry that does not show is made
pub create_free : (log : List Accepted) (n : List ℕ) → shows log n ≡ None → refusal_of (shows log n) (Create n) ≡ None
create_free log n e = ap (λ (o : Option Shown). refusal_of o (Create n)) e

-- one that lives is deleted
pub delete_free : (log : List Accepted) (n : List ℕ) → Live log n → refusal_of (shows log n) (Delete n) ≡ None
delete_free log n l =
    ap (λ (o : Option Shown). refusal_of o (Delete n)) l.shows_it
    ∙ ap (λ k. refusal_of (Some (record { birth = l.entry.birth; kind = k; values = l.entry.values })) (Delete n)) l.object

-- it gets a value
pub add_free : (log : List Accepted) (n v : List ℕ) → Live log n → refusal_of (shows log n) (Add n (codes "A") v) ≡ None
add_free log n v l = ap (λ (o : Option Shown). refusal_of o (Add n (codes "A") v)) l.shows_it

-- and loses one
pub remove_free : (log : List Accepted) (n v : List ℕ) → Live log n → refusal_of (shows log n) (Remove n (codes "A") v) ≡ None
remove_free log n v l = ap (λ (o : Option Shown). refusal_of o (Remove n (codes "A") v)) l.shows_it

-- ---- what each update leaves

-- a value more leaves all alive
pub added_all : (k : ℕ) (v : List ℕ) → k < 16 → (log log' : List Accepted) → AllLive log → After log (Add (entry_name k) (codes "A") v) log' → AllLive log'
added_all k v low log log' all w i lt =
    live_after log log' (Add (entry_name k) (codes "A") v) w (add_free log (entry_name k) v (all k low))
    (value_added log log' (entry_name k) (codes "A") v refl w) (entry_name i) (all i lt)

-- and so does a value less
pub removed_all : (k : ℕ) (v : List ℕ) → k < 16 → (log log' : List Accepted) → AllLive log → After log (Remove (entry_name k) (codes "A") v) log' → AllLive log'
removed_all k v low log log' all w i lt =
    live_after log log' (Remove (entry_name k) (codes "A") v) w (remove_free log (entry_name k) v (all k low))
    (value_removed log log' (entry_name k) (codes "A") v refl w) (entry_name i) (all i lt)

-- the next entry is made
pub made_next : (j : ℕ) → j < 16 → (log log' : List Accepted) → Making j log → After log (Create (entry_name j)) log' → Making (j + 1) log'
made_next j low log log' m w =
    let free = create_free log (entry_name j) (m.absent j (omega arith) low) in
    let here = created log log' (entry_name j) w in
    record {
      live = λ k lt. ⊎_elim
          (λ (before : k < j). live_after log log' (Create (entry_name j)) w free (λ _. here) (entry_name k) (m.live k before))
          (λ (not_before : j ≤ k). let same : j ≡ k = omega arith in subst (λ (i : ℕ). Live log' (entry_name i)) same here)
          (cases_lt k j);
      absent = λ k le lt.
          let apart : k ≢ j = omega arith in
          other_shown log log' (Create (entry_name j)) (entry_name k) w free (names_apart k j lt low apart) ∙ m.absent k (omega arith) lt;
    }

-- an entry is deleted, and the others live on
pub deleted_one : (k : ℕ) → k < 16 → (log log' : List Accepted) → AllLive log → After log (Delete (entry_name k)) log' → AllBut k log'
deleted_one k low log log' all w = record {
  live = λ i lt apart. live_same log log' (entry_name i)
      (other_shown log log' (Delete (entry_name k)) (entry_name i) w (delete_free log (entry_name k) (all k low)) (names_apart i k lt low apart)) (all i lt);
  absent = deleted log log' (entry_name k) w (all k low);
}

-- it is made again
pub made_again : (k : ℕ) (log log' : List Accepted) → AllBut k log → After log (Create (entry_name k)) log' → AllLive log'
made_again k log log' b w i lt =
    let free = create_free log (entry_name k) b.absent in
    let here = created log log' (entry_name k) w in
    ⊎_elim (λ (same : i ≡ k). subst (λ (z : ℕ). Live log' (entry_name z)) (sym same) here)
    (λ (apart : i ≢ k). live_after log log' (Create (entry_name k)) w free (λ _. here) (entry_name i) (b.live i lt apart))
    (equal_or_not i k)
  where
    equal_or_not : (a b : ℕ) → (a ≡ b) ⊎ (a ≢ b)
    equal_or_not a b = ⊎_elim (λ (lt : a < b). inr (λ e. omega (arith, e)))
        (λ (le : b ≤ a). ⊎_elim (λ (lt : b < a). inr (λ e. omega (arith, e))) (λ (le' : a ≤ b). inl (omega arith)) (cases_lt b a)) (cases_lt a b)

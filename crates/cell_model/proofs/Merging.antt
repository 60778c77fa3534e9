-- Whatever a message adds can be merged.
use Rattle.std.proofs.Common.{◌≡◌, ℕ, zero, suc, length, ◌<◌, ◌≤◌, ◌⊎◌, inl, inr, Bool, true, false, ◌||◌, cond, List, [], ◌∷◌, ◌++◌, Option, Some}
use Rattle.std.proofs.Common.{None, refl, sym, ap, ◌∙◌, subst, arith, ⊎_elim, le_trans}
use Rattle.std.specs.List.{filter, list_any, AllByRecursion, Contains}
use Rattle.std.specs.Bool.{IsTrue}
use Rattle.std.specs.Prelude.{slice_index_or}
use Rattle.std.proofs.lemmas.Bool.{cases_lt}
use Rattle.cds_stamps.specs.declared.stamp.Stamp.{Stamp}
use Rattle.cds_stamps.specs.Stamps.{is_up_to, is_stamp}
use Rattle.cds_stamps.specs.Octets.{is_octets}
use Rattle.cds_stamps.specs.Members.{Member, since_in}
use Rattle.attr_sets.proofs.Greatest.{Contains-head, Contains-tail}
use Rattle.directory.specs.declared.entry.Kind.{Kind}
use Rattle.directory.specs.Histories.{Mark, Birth, stamp_in, name_in, born_in, up_to, is_birth, IsHistory}
use Rattle.cell_model.specs.Cells.{Replica, Body, Message}
use Rattle.cell_model.specs.Bodies.{marks_in, up_to_in}
use Rattle.cell_model.specs.Commands.{Command, Accepted}
use Rattle.cell_model.specs.Sets.{In, IsPart, IsUpTo}
use Rattle.cell_model.specs.Steps.{replay, accepted_updates}
use Rattle.cell_model.specs.Merges.{Adds, of_update, of_gathered, of_spread, of_join, MergesHold}
use Rattle.cell_model.specs.Skulks.{IsCompleted}
use Rattle.cell_model.proofs.Lists.{append_nil, In-append_left, In-append_right, In-append_cases}
use Rattle.cell_model.proofs.Terms.{Listed}
use Rattle.cell_model.proofs.Facts.{View, view, IsPosted, Holds, Roll, Kind as KindOf, Sound}
use Rattle.cell_model.proofs.Bounds.{reached_held, was_member}
use Rattle.cell_model.proofs.SecondRound.{Done}
use Rattle.cell_model.proofs.Marks.{WellMade}
use Rattle.cell_model.proofs.Deletions.{same_octets, same_stamp, both_true}
use Rattle.cell_model.proofs.Views.{In-of_dir}
use Rattle.cell_model.proofs.Known.{Closed, Origin}
use Rattle.cell_model.proofs.Lifts.{later_is}
use Rattle.cell_model.proofs.Passages.{Reaching}
use Rattle.cell_model.proofs.Runs.{roll_of}
use Rattle.cell_model.proofs.Issues.{logged_at}
use Rattle.cell_model.proofs.Advances.{completed_done, advances_lem}
use Rattle.cell_model.proofs.NeverComes.{reaching_last}

-- ---- what a receiver lacks

-- a message that a house joins in has no mark up to t that the house lacks
premise : (roll : Roll) (g : View) (k : ℕ) (t : Stamp) (all : List Mark) (m : Message) (x : ℕ) (q : Replica) (j : Mark) → Sound roll g
    → Done roll g k t all → IsPosted g m → k ≤ m.epoch → Holds g x q → (b : ℕ) → Listed (roll.list m.epoch) x b → b ≤ q.epoch → In j (marks_in m.body)
    → IsUpTo (stamp_in j) t → In j q.history
premise roll g k t all m x q j s d at le h b l cont i up =
    let high : k ≤ q.epoch = ⊎_elim
    (λ (low : q.epoch < k).
    let was = was_member roll g.top k m.epoch x q.epoch b s.good le (s.messages m at).top l cont (omega arith) in
    reached_held k _ q h (d.bounded.members x b was))
    (λ z. z)
    (cases_lt q.epoch k) in
    d.kept x q j h high (d.bounded.within_m m j at le i up) up

-- a mark of those up to t
pub In-filter : (t : Stamp) (h : List Mark) (k : Mark) → In k (filter (λ m. is_up_to t (stamp_in m)) h) → In k h × IsUpTo (stamp_in k) t
In-filter t [] k i = elim i [ ]
In-filter t (m ∷ h) k i = go (is_up_to t (stamp_in m)) refl i (In-filter t h k)
  where
    go : (b : Bool) → is_up_to t (stamp_in m) ≡ b → In k (cond b (m ∷ filter (λ z. is_up_to t (stamp_in z)) h) (filter (λ z. is_up_to t (stamp_in z)) h))
        → (In k (filter (λ z. is_up_to t (stamp_in z)) h) → In k h × IsUpTo (stamp_in k) t) → In k (m ∷ h) × IsUpTo (stamp_in k) t
    go true e (inl s) rest = (inl s, subst (λ (z : Mark). IsUpTo (stamp_in z) t) (sym s) e)
    go true e (inr j) rest = let w = rest j in (inr w.0, w.1)
    go false e j rest = let w = rest j in (inr w.0, w.1)

-- ---- histories

all_of : (P : Mark → Type 0) (h : List Mark) → ((k : Mark) → In k h → P k) → AllByRecursion P h
all_of P [] f = tt
all_of P (k ∷ h) f = (f k (inl refl), all_of P h (λ j i. f j (inr i)))

any_of : (p : Mark → Bool) (h : List Mark) (k : Mark) → In k h → p k ≡ true → list_any p h ≡ true
any_of p [] k i e = elim i [ ]
any_of p (m ∷ h) k (inl s) e = ap (λ (b : Bool). b || list_any p h) (ap p (sym s) ∙ e)
any_of p (m ∷ h) k (inr i) e = back (p m) (any_of p h k i e)
  where
    back : (b : Bool) → list_any p h ≡ true → (b || list_any p h) ≡ true
    back true q = refl
    back false q = q

contains_at : (h : List Mark) (k : Mark) (n : ℕ) → n < length h → slice_index_or h n k ≡ k → In k h
contains_at [] k n lt e = absurd (omega arith)
contains_at (m ∷ h) k zero lt e = inl (sym e)
contains_at (m ∷ h) k (suc n) lt e = inr (contains_at h k n (omega arith) e)

-- a mark that is in a list
pub contains_in : (h : List Mark) (k : Mark) → Contains h k → In k h
contains_in h k c = contains_at h k c.0 c.1 c.2

-- a mark that is in a list is at some place of it
pub in_contains : (h : List Mark) (k : Mark) → In k h → Contains h k
in_contains [] k i = elim i [ ]
in_contains (m ∷ h) k (inl is) = subst (Contains (m ∷ h)) (sym is) (Contains-head m h)
in_contains (m ∷ h) k (inr i) = Contains-tail m h k (in_contains h k i)

-- marks that have their births, in order and of one kind are a history
pub is_history : (h : List Mark) → ((k : Mark) → In k h → (j : Kind) × In (Birth (name_in k) j (born_in k)) h)
    → ((k : Mark) → In k h → IsUpTo (born_in k) (stamp_in k)) → ((n : List ℕ) (c : Stamp) (j k : Kind) → In (Birth n j c) h → In (Birth n k c) h → j ≡ k)
    → IsHistory h
is_history h births order kinds = record {
  births = all_of (λ k. list_any (is_birth (name_in k) (born_in k)) h ≡ true) h (λ k i.
      let b = births k i in
      any_of (is_birth (name_in k) (born_in k)) h (Birth (name_in k) b.0 (born_in k)) b.1
      (both_true (is_octets (name_in k) (name_in k)) (is_stamp (born_in k) (born_in k)) (same_octets (name_in k)) (same_stamp (born_in k))));
  ordered = all_of (λ k. IsTrue (is_up_to (stamp_in k) (born_in k))) h (λ k i. order k i);
  kinds = λ n c j k a b. kinds n c j k (contains_in h (Birth n j c) a) (contains_in h (Birth n k c) b);
}

-- marks of accepted updates, each whole, are a history
module _ (d : ℕ) (log : List Accepted) (well : (a : Accepted) → In a log → a.dir ≡ d → WellMade a.stamp a.marks) (once : (a b : Accepted) → In a log
    → In b log → a.stamp ≡ b.stamp → a ≡ b) where
  pub closed_history : (h : List Mark) → Closed d log h → ((k : Mark) → In k h → Origin d log k) → IsHistory h
  closed_history h closed origin =
      is_history h
      (λ k i. let w = closed k i in let b = (well w.by w.logged w.dir).births k w.has in (b.0, w.part _ b.1))
      (λ k i. let w = closed k i in (well w.by w.logged w.dir).ordered k w.has)
      (λ n c j k ij ik.
      let a = origin (Birth n j c) ij in
      let b = origin (Birth n k c) ik in
      let same : a.by ≡ b.by = once a.by b.by a.logged b.logged (sym a.stamp ∙ b.stamp) in
      (well a.by a.logged a.dir).kinds n c j k a.has (subst (λ (z : Accepted). In (Birth n k c) z.marks) (sym same) b.has))

  -- and so is the union of two
  pub closed_both : (h g : List Mark) → Closed d log h → Closed d log g → Closed d log (h ++ g)
  closed_both h g a b k i = ⊎_elim
      (λ l. let w = a k l in record { by = w.by; logged = w.logged; dir = w.dir; has = w.has; part = λ j ij. In-append_left j h g (w.part j ij) })
      (λ r. let w = b k r in record { by = w.by; logged = w.logged; dir = w.dir; has = w.has; part = λ j ij. In-append_right j h g (w.part j ij) })
      (In-append_cases k h g i)

-- ---- what messages add

-- what is known of a message that adds marks to a replica
record Added (m : Message) (r : Replica) (marks : List Mark) (t : Option Stamp) : Type 0 where
  same : marks ≡ marks_in m.body
  behind : r.epoch ≤ m.epoch
  sources : (s : Stamp) → t ≡ Some s → (r.all_up_to ≡ Some s) ⊎ (up_to_in m.body ≡ Some s)

adds_known : (m : Message) (r : Replica) (marks : List Mark) (t : Option Stamp) → Adds m r marks t → Added m r marks t
adds_known m r marks t (of_update _ is e) = record { same = sym (ap marks_in is); behind = omega arith; sources = λ s q. inl q }
adds_known m r marks t (of_gathered u copy is e) =
    record {
      same = sym (ap marks_in is);
      behind = omega arith;
      sources =
          λ s q. ⊎_elim (λ l. inl l) (λ l. inr (ap up_to_in is ∙ l)) (later_is r.all_up_to copy.all_up_to s q);
    }
adds_known m r marks t (of_spread u copy is e) =
    record {
      same = sym (ap marks_in is);
      behind = omega arith;
      sources =
          λ s q. ⊎_elim (λ l. inl l) (λ l. inr (ap up_to_in is ∙ l)) (later_is r.all_up_to copy.all_up_to s q);
    }
adds_known m r marks t (of_join ms copy is le since) =
    record {
      same = sym (ap marks_in is);
      behind = le;
      sources =
          λ s q. ⊎_elim (λ l. inl l) (λ l. inr (ap up_to_in is ∙ l)) (later_is r.all_up_to copy.all_up_to s q);
    }

-- the receiver was listed in the message's epoch since its own or an earlier one
own_term : (roll : Roll) (v : View) (m : Message) (r : Replica) → Sound roll v → Holds v m.receiver r → m.epoch ≡ r.epoch
    → (b : ℕ) × Listed (roll.list m.epoch) m.receiver b × (b ≤ r.epoch)
own_term roll v m r s at e =
    let ok = s.held m.receiver r at in (
      ok.listed.0,
      subst (λ (k : ℕ). Listed (roll.list k) m.receiver ok.listed.0) (sym e) ok.listed.1,
      s.good.order r.epoch m.receiver ok.listed.0 ok.top ok.listed.1,
    )

adds_term : (roll : Roll) (v : View) (m : Message) (r : Replica) (marks : List Mark) (t : Option Stamp) → Sound roll v → IsPosted v m
    → Holds v m.receiver r → Adds m r marks t → (b : ℕ) × Listed (roll.list m.epoch) m.receiver b × (b ≤ r.epoch)
adds_term roll v m r marks t s i at (of_update _ is e) = own_term roll v m r s at e
adds_term roll v m r marks t s i at (of_gathered u copy is e) = own_term roll v m r s at e
adds_term roll v m r marks t s i at (of_spread u copy is e) = own_term roll v m r s at e
adds_term roll v m r marks t s i at (of_join ms copy is le since) =
    let k : (ms ≡ roll.list m.epoch) × ((b : ℕ) × Listed (roll.list m.epoch) m.receiver b) = subst (λ (b : Body). KindOf roll m b) is (s.messages m i).kind in
    (since_in ms m.receiver 0, (k.1.1.0, ap (λ (z : List Member). since_in z m.receiver 0) (sym k.0)), since)

-- so it is at each moment of a run
pub merges_lem : (commands : List Command) → MergesHold commands
merges_lem commands m r marks t i at a = record {
  covered = λ k c. in_contains r.history k (cover t refl k (contains_in (up_to marks t) k c));
  mine = closed_history m.dir (accepted_updates commands) here.known.well once r.history mine (here.known.origin m.receiver r at);
  theirs = closed_history m.dir (accepted_updates commands) here.known.well once marks theirs its;
  both = closed_history m.dir (accepted_updates commands) here.known.well once (r.history ++ marks)
      (closed_both m.dir (accepted_updates commands) here.known.well once r.history marks mine theirs)
      (λ k ik. ⊎_elim (here.known.origin m.receiver r at k) (its k) (In-append_cases k r.history marks ik));
}
  where
    here : Reaching (roll_of m.dir commands) (view m.dir (replay commands)) (accepted_updates commands)
    here = reaching_last commands m.dir

    posted : IsPosted (view m.dir (replay commands)) m
    posted = In-of_dir m.dir (replay commands).bag m i refl

    added : Added m r marks t
    added = adds_known m r marks t a

    once : (a b : Accepted) → In a (accepted_updates commands) → In b (accepted_updates commands) → a.stamp ≡ b.stamp → a ≡ b
    once = (logged_at commands).once

    mine : Closed m.dir (accepted_updates commands) r.history
    mine = (reaching_last commands m.dir).known.only m.receiver r at

    theirs : Closed m.dir (accepted_updates commands) marks
    theirs = subst (λ (z : List Mark). Closed m.dir (accepted_updates commands) z) (sym (adds_known m r marks t a).same)
        ((reaching_last commands m.dir).known.only_m m (In-of_dir m.dir (replay commands).bag m i refl))

    its : (k : Mark) → In k marks → Origin m.dir (accepted_updates commands) k
    its k ik = (reaching_last commands m.dir).known.origin_m m (In-of_dir m.dir (replay commands).bag m i refl) k
        (subst (λ (z : List Mark). In k z) (adds_known m r marks t a).same ik)

    -- the skulk of an AllUpTo of the receiver or the message
    skulk : (s : Stamp) → t ≡ Some s → (k : ℕ) × (k ≤ m.epoch) × IsCompleted commands m.dir s k
    skulk s e = ⊎_elim
        (λ l. let w = (advances_lem commands).houses m.receiver m.dir r s at l in (w.0, le_trans w.1 (adds_known m r marks t a).behind, w.2))
        (λ l. (advances_lem commands).messages m s i l)
        ((adds_known m r marks t a).sources s e)

    cover : (o : Option Stamp) → t ≡ o → IsPart (up_to marks o) r.history
    cover None e k ik = elim ik [ ]
    cover (Some s) e k ik =
        let w = In-filter s marks k ik in
        let c = skulk s e in
        let done = completed_done m.dir commands commands [] s c.0 (append_nil commands) c.2 in
        let term = adds_term (roll_of m.dir commands) (view m.dir (replay commands)) m r marks t (reaching_last commands m.dir).sound
        (In-of_dir m.dir (replay commands).bag m i refl) at a in
        premise (roll_of m.dir commands) (view m.dir (replay commands)) c.0 s done.0 m m.receiver r k (reaching_last commands m.dir).sound done.1
        (In-of_dir m.dir (replay commands).bag m i refl) c.1 at term.0 term.1 term.2 (subst (λ (z : List Mark). In k z) (adds_known m r marks t a).same w.0)
        w.1

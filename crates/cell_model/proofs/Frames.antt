-- What any step leaves in a directory, from its move.
use Rattle.std.proofs.Common.{◌≡◌, ℕ, suc, ◌≤◌, ◌⊎◌, inl, inr, List, [], ◌∷◌, Some, refl, sym, ◌∙◌, subst, arith, ⊎_elim, le_refl}
use Rattle.cds_stamps.specs.Members.{Member, master_of}
use Rattle.directory.specs.Histories.{Mark}
use Rattle.cell_model.specs.Cells.{Idle, Replica, Slot, Gone, Held, Copy, Body, Leave, Message}
use Rattle.cell_model.specs.Commands.{Accepted}
use Rattle.cell_model.specs.Sets.{In, IsPart}
use Rattle.cell_model.specs.Turns.{copy_of, to_each}
use Rattle.cell_model.proofs.Lists.{In-append_left, In-append_cases, In-map}
use Rattle.cell_model.proofs.Terms.{Listed}
use Rattle.cell_model.proofs.Facts.{Seat, View, IsPosted, Holds, Roll, marks_in, copy_in, Reached, Good, Sound, Turn, same, idle, Past, grew, Came}
use Rattle.cell_model.proofs.Facts.{own, NewKind, Brings, New, Frame}
use Rattle.cell_model.proofs.Bounds.{reached_held}
use Rattle.cell_model.proofs.Views.{put_at, put_back, altered}

-- what a change of one seat owes
pub record Owed (roll : Roll) (g g' : View) (new : List Accepted) (h floor : ℕ) (slot : Slot) : Type 0 where
  pub rises : (g.house h).floor ≤ floor
  pub climbs : (e : ℕ) → Reached e (g.house h).slot → Reached e slot
  pub past : (r' : Replica) → slot ≡ Held r' → Past roll g g' h floor r'
  pub comes : (r' : Replica) (k : Mark) → slot ≡ Held r' → In k r'.history → Came roll g g' new h floor r' k
  pub next : (r : Replica) → Holds g h r → ((r' : Replica) × (slot ≡ Held r')) ⊎ ((e : ℕ) × (slot ≡ Gone e))
  pub gone : (e : ℕ) → slot ≡ Gone e → ((g.house h).slot ≡ Gone e) ⊎ ((m : Message) × IsPosted g m × (m.body ≡ Leave) × (m.epoch ≡ e) × (m.receiver ≡ h))

module _ (roll : Roll) (g : View) (new : List Accepted) (h floor : ℕ) (slot : Slot) (posts : List Message) (top : ℕ) (present : List Member)
    (s : Sound roll g) where
  abbrev after : View
  after = altered g h floor slot posts top present

  -- one seat that changes as it may, and messages that may be posted, frame the step
  pub altered_frame : Owed roll g after new h floor slot → ((m : Message) → In m posts → New roll g after new m) → g.top ≤ top → Good roll top
      → present ≡ roll.list top → ((e : ℕ) → suc e ≤ top → (suc e ≤ g.top) ⊎ Reached (suc e) (after.house (master_of (roll.list (suc e)))).slot)
      → Frame roll g after new
  altered_frame o post le good fit heads =
      let now : Seat = record { floor = floor; slot = slot } in
      record {
        rises = put_at (λ x v. (g.house x).floor ≤ v.floor) g.house h now o.rises (λ x _. le_refl _);
        climbs = put_at (λ x v. (e : ℕ) → Reached e (g.house x).slot → Reached e v.slot) g.house h now o.climbs (λ x _ e z. z);
        past = put_at (λ x v. (r' : Replica) → v.slot ≡ Held r' → Past roll g after x v.floor r') g.house h now o.past
            (λ x _ r' e. grew r' e refl refl (λ k z. z) (same refl));
        comes = put_at (λ x v. (r' : Replica) (k : Mark) → v.slot ≡ Held r' → In k r'.history
            → Came roll g after new x v.floor r' k) g.house h now o.comes
            (λ x _ r' k e i. own r' e i (le_refl _) (λ b l. s.good.order r'.epoch x b (s.held x r' e).top l) (λ j z. z));
        next = put_at (λ x v. (r : Replica) → Holds g x r → ((r' : Replica) × (v.slot ≡ Held r')) ⊎ ((e : ℕ) × (v.slot ≡ Gone e))) g.house h now o.next
            (λ x _ r e. inl (r, e));
        gone = put_at (λ x v. (e : ℕ) → v.slot ≡ Gone e → ((g.house x).slot ≡ Gone e)
            ⊎ ((m : Message) × IsPosted g m × (m.body ≡ Leave) × (m.epoch ≡ e) × (m.receiver ≡ x))) g.house h now o.gone (λ x _ e z. inl z);
        stays = λ m i. In-append_left m g.bag posts i;
        posts = λ m i. ⊎_elim (λ was. inl was) (λ n. inr (post m n)) (In-append_cases m g.bag posts i);
        top = le;
        good = good;
        present = fit;
        heads = heads;
      }

  -- where the marks of a posted message come from
  abbrev Source : Replica → Body → Type 0
  Source q b = IsPart q.history (marks_in b) ⊎ ((k : Mark) → In k (marks_in b) → Brings roll.dir new (marks_in b) k)

  -- the copy in a posted message is that of its sender
  abbrev CopyOf : Replica → Body → Type 0
  CopyOf q b = (c : Copy) → copy_in b ≡ Some c → c ≡ copy_of q

  -- a posted message
  pub new_post : (q : Replica) → slot ≡ Held q → (dir receiver epoch floor' : ℕ) (b : Body) → q.epoch ≡ epoch → floor' ≡ floor
      → IsPart (marks_in b) q.history → Source q b → CopyOf q b
      → NewKind roll g (record { receiver = receiver; dir = dir; sender = h; epoch = epoch; floor = floor'; body = b }) q b
      → New roll g after new (record { receiver = receiver; dir = dir; sender = h; epoch = epoch; floor = floor'; body = b })
  new_post q e dir receiver epoch floor' b ep fl marks source copy kind =
      let now : Seat = record { floor = floor; slot = slot } in
      record {
        q = q;
        held = put_back (λ v. v.slot ≡ Held q) g.house h now e;
        epoch = ep;
        floor = put_back (λ v. floor' ≡ v.floor) g.house h now fl;
        marks = marks;
        source = source;
        copied = copy;
        kind = kind;
      }

  -- a message to each of some houses is one that may be posted
  pub new_each : (q : Replica) → slot ≡ Held q → (rs : List ℕ) (dir epoch floor' : ℕ) (b : Body) → q.epoch ≡ epoch → floor' ≡ floor
      → IsPart (marks_in b) q.history → Source q b → CopyOf q b
      → ((r : ℕ) → In r rs → NewKind roll g (record { receiver = r; dir = dir; sender = h; epoch = epoch; floor = floor'; body = b }) q b) → (m : Message)
      → In m (to_each rs dir h epoch floor' b) → New roll g after new m
  new_each q e rs dir epoch floor' b ep fl marks source copy kind m i =
      let w = In-map (λ (x : ℕ). record { receiver = x; dir = dir; sender = h; epoch = epoch; floor = floor'; body = b }) m rs i in
      subst (λ (z : Message). New roll g after new z) (sym w.2) (new_post q e dir w.0 epoch floor' b ep fl marks source copy (kind w.0 w.1))

  pub no_post : (m : Message) → In m [] → New roll g after new m
  no_post m i = elim i [ ]

  -- so is one message alone
  pub one_post : (p : Message) → New roll g after new p → (m : Message) → In m (p ∷ []) → New roll g after new m
  one_post p n m (inl e) = subst (λ (z : Message). New roll g after new z) (sym e) n
  one_post p n m (inr i) = elim i [ ]

  -- a house that stays in its epoch, or comes to hold the directory
  pub held_owed : (q : Replica) → slot ≡ Held q → (g.house h).floor ≤ floor → ((e : ℕ) → Reached e (g.house h).slot → e ≤ q.epoch)
      → Past roll g after h floor q → ((k : Mark) → In k q.history → Came roll g after new h floor q k) → Owed roll g after new h floor slot
  held_owed q is le up past come = record {
    rises = le;
    climbs = λ e z. subst (λ (o : Slot). Reached e o) (sym is) (up e z);
    past = λ r' e. let same_r : q ≡ r' = cc in subst (λ (z : Replica). Past roll g after h floor z) same_r past;
    comes = λ r' k e i. let same_r : q ≡ r' = cc in subst (λ (z : Replica). In k z.history → Came roll g after new h floor z k) same_r (come k) i;
    next = λ _ _. inl (q, is);
    gone = λ e z. absurd (cc);
  }

  -- its epoch stays
  pub grown_owed : (r q : Replica) → slot ≡ Held q → Holds g h r → (g.house h).floor ≤ floor → r.epoch ≡ q.epoch → q.members ≡ r.members
      → IsPart r.history q.history → Turn roll g h floor r q → ((k : Mark) → In k q.history → In k r.history ⊎ Came roll g after new h floor q k)
      → Owed roll g after new h floor slot
  grown_owed r q is at le e mem sub turn come =
      held_owed q is le (λ d z. let w = reached_held d _ r at z in omega arith) (grew r at e mem sub turn)
      (λ k i. ⊎_elim (λ l.
      own r at l (omega arith) (λ b lb. s.good.order r.epoch h b (s.held h r at).top (subst (λ (z : ℕ). Listed (roll.list z) h b) (sym e) lb)) sub) (λ c. c)
      (come k i))

module _ (roll : Roll) (g : View) (s : Sound roll g) where
  -- a floor rises, and no more
  pub risen_frame : (h floor : ℕ) → (g.house h).floor ≤ floor → (new : List Accepted) → Frame roll g (altered g h floor (g.house h).slot [] g.top g.present) new
  risen_frame h floor le new =
      altered_frame roll g new h floor (g.house h).slot [] g.top g.present s
      (record {
        rises = le;
        climbs = λ e z. z;
        past = λ r' e. grew r' e refl refl (λ k z. z) (same refl);
        comes = λ r' k e i. own r' e i (le_refl _) (λ b l. s.good.order r'.epoch h b (s.held h r' e).top l) (λ j z. z);
        next = λ r e. inl (r, e);
        gone = λ e z. inl z;
      })
      (λ m i. elim i [ ]) (le_refl _) s.good s.present (λ e z. inl z)

  -- a slot with another phase, or the same
  pub crash_frame : (h : ℕ) (o o' : Slot) → (g.house h).slot ≡ o → (o' ≡ o) ⊎ ((r : Replica) × (o ≡ Held r) × (o' ≡ Held (record r { phase = Idle })))
      → Frame roll g (altered g h (g.house h).floor o' [] g.top g.present) []
  crash_frame h o o' e (inl z) = subst (λ (y : Slot). Frame roll g (altered g h (g.house h).floor y [] g.top g.present) []) (e
      ∙ sym z) (risen_frame h (g.house h).floor (le_refl _) [])
  crash_frame h o o' e (inr w) =
      let q : Replica = record w.0 { phase = Idle } in
      altered_frame roll g [] h (g.house h).floor o' [] g.top g.present s
      (grown_owed roll g [] h (g.house h).floor o' [] g.top g.present s w.0 q w.2 (e ∙ w.1) (le_refl _) refl refl (λ k i. i) (idle refl) (λ k i. inl i))
      (no_post roll g [] h (g.house h).floor o' [] g.top g.present s) (le_refl _) s.good s.present (λ e z. inl z)

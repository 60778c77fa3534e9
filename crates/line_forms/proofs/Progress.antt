-- How a run goes on step by step, a line or a tower at a time, and how it ends.
use Rattle.std.proofs.Common.{◌≡◌, ◌⊎◌, inl, inr, ⊎_elim, ℕ, ◌+◌, ◌≤◌, ◌<◌, Bool, List, []}
use Rattle.std.proofs.Common.{◌++◌, length, take, drop, refl, sym, ◌∙◌, ap, subst, arith}
use Rattle.std.proofs.Common.{append_assoc, append-nil, length-append, take-append-drop, length-take}
use Rattle.std.specs.Prelude.{Option, None, Some, IfSome, IsTrue}
use Rattle.std.specs.Io.KnownBytes.{Consumes, Appends}
use Rattle.cds_base.specs.Counts.{Rose}
use Rattle.cds_base.specs.SourceReading.{GrowsByReading}
use Rattle.cds_base.proofs.KnownOctets.{appends_none, appends_more, consumes_self, consumes_more}
use Rattle.line_forms.specs.Demand.{Demand, IsUnbroken, with_front}
use Rattle.line_forms.specs.Readings.{Reading}
use Rattle.line_forms.specs.declared.endings.Status.{Status}
use Rattle.line_forms.specs.declared.endings.Status.TheVariants.{Ok as AllRead, Usage, BadInput, ReadFault, WriteFault, OutOfMemory, JournalFull}
use Rattle.reply_buffer.specs.Waiting.{Flushes}
use Rattle.cds_base.specs.RunEnds.{IsFront}
use Rattle.line_forms.specs.Runs.{Wrote, IsWhole, IsFaulty, IsFilled, IsBody, WroteAllBefore, IsPart, IsCutShort}
use Rattle.line_forms.specs.Runs.{WroteSoon, AnswersFront}
use Rattle.line_forms.specs.Endings.{IsDue, IsQueued, Finishes, StopsWith, side, between, EndsBetween}

-- ---- fronts

front_more : (xs ys zs : List ℕ) → IsFront xs ys → IsFront xs (ys ++ zs)
front_more xs ys zs front = (front.0 ++ zs, ap (λ (l : List ℕ). l ++ zs) front.1 ∙ append_assoc xs front.0 zs)

front_over : (xs ys zs : List ℕ) → IsFront xs ys → IsFront ys zs → IsFront xs zs
front_over xs ys zs first second = (first.0 ++ second.0, second.1 ∙ ap (λ (l : List ℕ). l ++ second.0) first.1 ∙ append_assoc xs first.0 second.0)

front_self : (xs : List ℕ) → IsFront xs xs
front_self xs = ([], sym (append-nil xs))

taken_front : (out waits : List ℕ) (k : ℕ) → IsFront (out ++ take k waits) (out ++ waits)
taken_front out waits k = (drop k waits, ap (λ (l : List ℕ). out ++ l) (sym (take-append-drop k waits)) ∙ sym (append_assoc out (take k waits) (drop k waits)))

part_of : (Done : Type 0) (d : Demand) (xs ys : List ℕ) → IsFront xs ys → IsPart Done d ys → IsPart Done d xs
part_of Done d xs ys front (inl part) = inl (front_over xs ys d.body front part)
part_of Done d xs ys front (inr part) = inr (part.0, front_over xs ys (d.body ++ d.end) front part.1)

-- a front of a part that is shorter than it is cut short
cut_of : (Done : Type 0) (d : Demand) (xs ys : List ℕ) → IsFront xs ys → length xs < length ys → IsPart Done d ys → IsCutShort Done d xs
cut_of Done d xs ys front less (inl part) =
    let size = ap length part.1 in
    inl (front_over xs ys d.body front part, omega (arith, less, size, length-append ys part.0))
cut_of Done d xs ys front less (inr part) =
    let size = ap length part.1.1 in
    inr (part.0, (front_over xs ys (d.body ++ d.end) front part.1, omega (arith, less, size, length-append ys part.1.0)))

-- what is due in full is due in part
due_part : (A : List ℕ → Type 0) (Done : Type 0) (status : Status) (d : Demand) (text : List ℕ) → IsDue A Done status d text → IsPart Done d text
due_part A Done AllRead d text due = inr (due.0, subst (IsFront text) due.1.1 (front_self text))
due_part A Done BadInput d text (inl due) = inl (subst (IsFront text) due.1 (front_self text))
due_part A Done BadInput d text (inr due) = inr (due.1, subst (IsFront text) due.2 (front_self text))
due_part A Done OutOfMemory d text due = due.0
due_part A Done JournalFull d text due = inl (subst (IsFront text) due.1 (front_self text))
due_part A Done Usage d text due = absurd due
due_part A Done ReadFault d text due = absurd due
due_part A Done WriteFault d text due = absurd due

-- ---- octets read

-- what is held then was held before or was read
pub reads_on : (first left left' : Option (List ℕ)) (consumed held held' : List ℕ) → Consumes first left (consumed ++ held)
    → GrowsByReading left left' held held' → Consumes first left' (consumed ++ held')
reads_on first left left' consumed held held' taken grows =
    subst (Consumes first left') (append_assoc consumed held grows.read ∙ ap (λ (l : List ℕ). consumed ++ l) (sym grows.grown))
    (consumes_more first left left' (consumed ++ held) grows.read taken grows.taken)

-- nothing is read from a source that is untouched
same_size : (left : List ℕ) (read : List ℕ) → left ≡ read ++ left → length read ≡ 0
same_size left read is = let size = ap length is in omega (arith, size, length-append read left)

untouched : (left left' : Option (List ℕ)) (held held' : List ℕ) → left' ≡ left → GrowsByReading left left' held held'
    → IfSome left (λ _. length held' ≡ length held)
untouched None left' held held' same grows = tt
untouched (Some xs) left' held held' same grows =
    let taken : Consumes (Some xs) (Some xs) grows.read = subst (λ l. Consumes (Some xs) l grows.read) same grows.taken in
    let none = same_size xs grows.read taken in
    let grown = ap length grows.grown in
    omega (arith, none, grown, length-append held grows.read)

if_some : {X : Type 0} {P Q : Type 0} (o : Option X) → IfSome o (λ _. P) → (P → Q) → IfSome o (λ _. Q)
if_some None p f = tt
if_some (Some x) p f = f p

if_both : {X : Type 0} {P Q R : Type 0} (o : Option X) → IfSome o (λ _. P) → IfSome o (λ _. Q) → (P → Q → R) → IfSome o (λ _. R)
if_both None p q f = tt
if_both (Some x) p q f = f p q

-- the source told what it had left, if it told at first
told : (P : Type 0) (first left : Option (List ℕ)) (xs : List ℕ) → Consumes first left xs → IfSome left (λ _. P) → IfSome first (λ _. P)
told P None left xs taken p = tt
told P (Some a) None xs taken p = absurd taken
told P (Some a) (Some b) xs taken p = p

-- ---- what is taken, and waits for its text to be written

-- one line or tower is first, and not much after it with what is held, where the source tells
pub record Leads (form : Reading) (first : Option (List ℕ)) (since held : List ℕ) : Type 0 where
  pub one : List ℕ
  pub more : List ℕ
  pub at_once : form.is_taken_at_once one
  pub split : since ≡ one ++ more
  pub close : IfSome first (λ _. length more + length held ≤ form.read_ahead)

abbrev pub IsNear : Reading → Option (List ℕ) → (since held : List ℕ) → Type 0
IsNear form first since held = (since ≡ []) ⊎ Leads form first since held

-- What was read and what was written: all that the octets in front demand went out
pub record Pending (form : Reading) (first left old new : Option (List ℕ)) (held : List ℕ) : Type 0 where
  pub front : List ℕ
  pub since : List ℕ
  pub out : List ℕ
  pub demand : Demand
  pub taken : Consumes first left ((front ++ since) ++ held)
  pub written : Appends old new out
  pub demands : form.demands front demand
  pub answered : IsFront demand.body out
  pub near : IsNear form first since held
  pub few : length held ≤ form.read_ahead

-- what was taken so far, and what it demands in front of what follows; After says what that demands
pub record Reached (form : Reading) (first left old new : Option (List ℕ)) (held waits : List ℕ) (Behind : List ℕ → Demand → Type 0) : Type 0 where
  pub pending : Pending form first left old new held
  pub so_far : (r : List ℕ) (d : Demand) → Behind r d → form.demands ((pending.front ++ pending.since) ++ r) (with_front (pending.out ++ waits) d)

-- where nothing follows, no text is due whatever follows, and no fault shows
pub record StopsHere (Behind : List ℕ → Demand → Type 0) : Type 0 where
  pub demand : Demand
  pub behind : Behind [] demand
  pub none : demand.body ≡ []
  pub unbroken : IsUnbroken demand.verdict

-- the same octets demand the same
pub moved : (form : Reading) (xs ys : List ℕ) (d e : Demand) → xs ≡ ys → d ≡ e → form.demands xs d → form.demands ys e
moved form xs ys d e octets same demands = subst (λ (l : List ℕ). form.demands l e) octets (subst (form.demands xs) same demands)

-- a text in front of another text in front
pub front_front : (xs ys : List ℕ) (d : Demand) → with_front xs (with_front ys d) ≡ with_front (xs ++ ys) d
front_front xs ys d = λ i. record { body = sym (append_assoc xs ys d.body) i; end = d.end; verdict = d.verdict }

-- nothing was taken yet, and nothing waits
abbrev pub started : (form : Reading) (first old : Option (List ℕ)) (held waits : List ℕ) (Behind : List ℕ → Demand → Type 0) → held ≡ [] → waits ≡ []
    → ((r : List ℕ) (d : Demand) → Behind r d → form.demands r d) → StopsHere Behind → Reached form first first old old held waits Behind
started form first old held waits Behind none nothing whole stop = record {
  pending = record {
    front = [];
    since = [];
    out = [];
    demand = stop.demand;
    taken = subst (Consumes first first) (sym none) (consumes_self first);
    written = appends_none old;
    demands = whole [] stop.demand stop.behind;
    answered = ([], sym (append-nil stop.demand.body ∙ stop.none));
    near = inl refl;
    few = let size = ap length none in omega (arith, size);
  };
  so_far = λ r d behind. moved form r r d (with_front waits d) refl (ap (λ (w : List ℕ). with_front w d) (sym nothing)) (whole r d behind);
}

-- what waits is nothing, and so is what was taken for it; or the next line is there
pub record Turn (form : Reading) (first left old new : Option (List ℕ)) (held waits : List ℕ) (Behind : List ℕ → Demand
    → Type 0) (Ready : Type 0) : Type 0 where
  pub reached : Reached form first left old new held waits Behind
  pub turn : ((reached.pending.since ≡ []) × (waits ≡ [])) ⊎ Ready

module _ (form : Reading) (first left old new : Option (List ℕ)) (held waits : List ℕ) (Behind : List ℕ → Demand
    → Type 0) (reached : Reached form first left old new held waits Behind) where
  abbrev now : Pending form first left old new held
  now = reached.pending

  abbrev consumed : List ℕ
  consumed = now.front ++ now.since

  -- ---- texts go out

  -- all that waited went out, so that nothing waits for its text
  abbrev pub all_out : (new' : Option (List ℕ)) (sent : List ℕ) (Ready : Type 0) → Appends new new' sent → waits ≡ sent → StopsHere Behind
      → Turn form first left old new' held [] Behind Ready
  all_out new' sent Ready went same stop = record {
    reached = record {
      pending = record {
        front = consumed;
        since = [];
        out = now.out ++ sent;
        demand = with_front (now.out ++ waits) stop.demand;
        taken = subst (λ (c : List ℕ). Consumes first left (c ++ held)) (sym (append-nil consumed)) now.taken;
        written = appends_more old new new' now.out sent now.written went;
        demands = moved form (consumed ++ []) consumed (with_front (now.out ++ waits) stop.demand) (with_front (now.out ++ waits) stop.demand)
            (append-nil consumed) refl (reached.so_far [] stop.demand stop.behind);
        answered = ([], sent_body ∙ sym (append-nil ((now.out ++ waits) ++ stop.demand.body)));
        near = inl refl;
        few = now.few;
      };
      so_far = λ r d behind.
          moved form (consumed ++ r) ((consumed ++ []) ++ r) (with_front (now.out ++ waits) d) (with_front ((now.out ++ sent) ++ []) d)
          (ap (λ (c : List ℕ). c ++ r) (sym (append-nil consumed)))
          (ap (λ (w : List ℕ). with_front (now.out ++ w) d) same ∙ ap (λ (w : List ℕ). with_front w d) (sym (append-nil (now.out ++ sent))))
          (reached.so_far r d behind);
    };
    turn = inl (refl, refl);
  }
    where
      sent_body : now.out ++ sent ≡ (now.out ++ waits) ++ stop.demand.body
      sent_body = ap (λ (w : List ℕ). now.out ++ w) (sym same) ∙ sym (append-nil (now.out ++ waits))
          ∙ ap (λ (w : List ℕ). (now.out ++ waits) ++ w) (sym stop.none)

  -- a part of what waited went out
  some_out : (new' : Option (List ℕ)) (sent waits' : List ℕ) → Appends new new' sent → waits ≡ sent ++ waits'
      → Reached form first left old new' held waits' Behind
  some_out new' sent waits' went split = record {
    pending = record {
      front = now.front;
      since = now.since;
      out = now.out ++ sent;
      demand = now.demand;
      taken = now.taken;
      written = appends_more old new new' now.out sent now.written went;
      demands = now.demands;
      answered = front_more now.demand.body now.out sent now.answered;
      near = now.near;
      few = now.few;
    };
    so_far = λ r d behind.
        moved form (consumed ++ r) (consumed ++ r) (with_front (now.out ++ waits) d) (with_front ((now.out ++ sent) ++ waits') d) refl
        (ap (λ (w : List ℕ). with_front w d) (ap (λ (w : List ℕ). now.out ++ w) split ∙ sym (append_assoc now.out sent waits')))
        (reached.so_far r d behind);
  }

  -- with what waits, all that was taken is answered
  pub answers_taken : (left' : Option (List ℕ)) (one behind : List ℕ) → StopsHere Behind → Consumes first left' (consumed ++ (one ++ behind))
      → (one ≡ []) ⊎ form.is_taken_at_once one → length behind ≤ form.read_ahead → AnswersFront form first left' (now.out ++ waits)
  answers_taken left' one behind stop taken at_once few = record {
    front = consumed;
    one = one;
    behind = behind;
    demand = with_front (now.out ++ waits) stop.demand;
    taken = taken;
    demands = moved form (consumed ++ []) consumed (with_front (now.out ++ waits) stop.demand) (with_front (now.out ++ waits) stop.demand)
        (append-nil consumed) refl (reached.so_far [] stop.demand stop.behind);
    due = (sym (ap (λ (l : List ℕ). (now.out ++ waits) ++ l) stop.none ∙ append-nil (now.out ++ waits)), stop.unbroken);
    at_once = at_once;
    soon = few;
  }

  -- ---- one more line or tower is taken

  module _ (left' : Option (List ℕ)) (held' one : List ℕ) (at_once : form.is_taken_at_once one) (grows : GrowsByReading left left' held (one ++ held'))
      (few : length held' ≤ form.read_ahead) (turn : (now.since ≡ []) ⊎ (left' ≡ left)) where
    -- it is the first that waits, or one more after that one
    leads_alone : now.since ≡ [] → Leads form first (now.since ++ one) held'
    leads_alone none = record {
      one = one;
      more = [];
      at_once = at_once;
      split = ap (λ (s : List ℕ). s ++ one) none ∙ sym (append-nil one);
      close = if_told first few;
    }
      where
        if_told : {X : Type 0} (o : Option X) → length held' ≤ form.read_ahead → IfSome o (λ _. 0 + length held' ≤ form.read_ahead)
        if_told None le = tt
        if_told (Some x) le = omega (arith, le)

    leads_on : Leads form first now.since held → left' ≡ left → Leads form first (now.since ++ one) held'
    leads_on leads same = record {
      one = leads.one;
      more = leads.more ++ one;
      at_once = leads.at_once;
      split = ap (λ (s : List ℕ). s ++ one) leads.split ∙ append_assoc leads.one leads.more one;
      close = if_both first leads.close (told (length (one ++ held') ≡ length held) first left (consumed ++ held) now.taken
          (untouched left left' held (one ++ held') same grows)) (λ close size.
          omega (arith, close, size, length-append leads.more one, length-append one held'));
    }

    pub near_one : IsNear form first (now.since ++ one) held'
    near_one = inr (⊎_elim leads_alone (λ same. ⊎_elim leads_alone (λ leads. leads_on leads same) now.near) turn)

    -- what was read and written, with it
    abbrev pub one_taken : Pending form first left' old new held'
    one_taken = record {
      front = now.front;
      since = now.since ++ one;
      out = now.out;
      demand = now.demand;
      taken =
          subst (λ (c : List ℕ). Consumes first left' (c ++ held')) (append_assoc now.front now.since one)
          (subst (Consumes first left') (sym (append_assoc consumed one held')) (reads_on first left left' consumed held (one ++ held') now.taken grows));
      written = now.written;
      demands = now.demands;
      answered = now.answered;
      near = near_one;
      few = few;
    }

    -- what it and all after it demand
    pub demands_with : (r : List ℕ) (d : Demand) → Behind (one ++ r) d
        → form.demands ((one_taken.front ++ one_taken.since) ++ r) (with_front (now.out ++ waits) d)
    demands_with r d behind =
        moved form (consumed ++ (one ++ r)) ((now.front ++ (now.since ++ one)) ++ r) (with_front (now.out ++ waits) d) (with_front (now.out ++ waits) d)
        (sym (append_assoc consumed one r) ∙ ap (λ (c : List ℕ). c ++ r) (append_assoc now.front now.since one)) refl (reached.so_far (one ++ r) d behind)

    -- the run goes on after it
    abbrev pub goes_on : (text waits' : List ℕ) (Behind' : List ℕ → Demand → Type 0)
        → ((r : List ℕ) (d : Demand) → Behind' r d → Behind (one ++ r) (with_front text d)) → waits' ≡ waits ++ text
        → Reached form first left' old new held' waits' Behind'
    goes_on text waits' Behind' step waiting = record {
      pending = one_taken;
      so_far = λ r d behind.
          moved form ((one_taken.front ++ one_taken.since) ++ r) ((one_taken.front ++ one_taken.since) ++ r)
          (with_front (now.out ++ waits) (with_front text d)) (with_front (now.out ++ waits') d) refl
          (front_front (now.out ++ waits) text d ∙ ap (λ (w : List ℕ). with_front w d) (append_assoc now.out waits text
          ∙ ap (λ (w : List ℕ). now.out ++ w) (sym waiting)))
          (demands_with r (with_front text d) (step r d behind));
    }

  -- ---- nothing more is taken

  module _ (left' : Option (List ℕ)) (held' : List ℕ) (grows : GrowsByReading left left' held held') (few : length held' ≤ form.read_ahead)
      (turn : (now.since ≡ []) ⊎ (left' ≡ left)) where
    pub near_more : IsNear form first now.since held'
    near_more =
        ⊎_elim inl (λ same. ⊎_elim inl (λ leads. inr (record {
          one = leads.one;
          more = leads.more;
          at_once = leads.at_once;
          split = leads.split;
          close = if_both first leads.close (told (length held' ≡ length held) first left (consumed ++ held) now.taken
              (untouched left left' held held' same grows)) (λ close size. omega (arith, close, size));
        })) now.near) turn

    -- more was read, and nothing more taken
    abbrev pub more_read : Pending form first left' old new held'
    more_read = record {
      front = now.front;
      since = now.since;
      out = now.out;
      demand = now.demand;
      taken = reads_on first left left' consumed held held' now.taken grows;
      written = now.written;
      demands = now.demands;
      answered = now.answered;
      near = near_more;
      few = few;
    }

    -- what was taken stays where more is read
    abbrev pub reached_more : Reached form first left' old new held' waits Behind
    reached_more = record { pending = more_read; so_far = reached.so_far }

-- ---- the ending

module _ (form : Reading) (first left' old new : Option (List ℕ)) (held : List ℕ) (now : Pending form first left' old new held) where
  abbrev pub all_read : List ℕ
  all_read = (now.front ++ now.since) ++ held

  abbrev Done : Type 0
  Done = form.has_read_all left'

  soon_of : (l : Option (List ℕ)) (new' : Option (List ℕ)) (reads reads' writes writes' : ℕ) (one behind text : List ℕ)
      → Consumes l left' (now.front ++ (one ++ behind)) → Appends old new' text → IsFront now.demand.body text
      → (one ≡ []) ⊎ form.is_taken_at_once one → IfSome l (λ _. length behind ≤ form.read_ahead)
      → WroteSoon form (between (side l reads) (side left' reads') (side old writes) (side new' writes'))
  soon_of None new' reads reads' writes writes' one behind text taken written answered at_once close = record {
    front = now.front;
    one = one;
    behind = [];
    text = text;
    demand = now.demand;
    taken = tt;
    written = written;
    demands = now.demands;
    answered = answered;
    at_once = at_once;
    soon = omega arith;
  }
  soon_of (Some xs) new' reads reads' writes writes' one behind text taken written answered at_once close = record {
    front = now.front;
    one = one;
    behind = behind;
    text = text;
    demand = now.demand;
    taken = taken;
    written = written;
    demands = now.demands;
    answered = answered;
    at_once = at_once;
    soon = close;
  }

  soon : (new' : Option (List ℕ)) (reads reads' writes writes' : ℕ) (sent : List ℕ) → Appends new new' sent
      → WroteSoon form (between (side first reads) (side left' reads') (side old writes) (side new' writes'))
  soon new' reads reads' writes writes' sent went = near_soon now.near
    where
      text : List ℕ
      text = now.out ++ sent

      written : Appends old new' (now.out ++ sent)
      written = appends_more old new new' now.out sent now.written went

      answered : IsFront now.demand.body (now.out ++ sent)
      answered = front_more now.demand.body now.out sent now.answered

      near_soon : IsNear form first now.since held
          → WroteSoon form (between (side first reads) (side left' reads') (side old writes) (side new' writes'))
      near_soon (inl none) =
          soon_of first new' reads reads' writes writes' [] held (now.out ++ sent)
          (subst (λ (c : List ℕ). Consumes first left' (c ++ held)) (ap (λ (s : List ℕ). now.front ++ s) none ∙ append-nil now.front) now.taken)
          written answered (inl refl) (always first now.few)
        where
          always : {X P : Type 0} (o : Option X) → P → IfSome o (λ _. P)
          always None p = tt
          always (Some x) p = p
      near_soon (inr leads) =
          soon_of first new' reads reads' writes writes' leads.one (leads.more ++ held) (now.out ++ sent)
          (subst (Consumes first left')
          (ap (λ (s : List ℕ). (now.front ++ s) ++ held) leads.split ∙ append_assoc now.front (leads.one ++ leads.more) held
          ∙ ap (λ (l : List ℕ). now.front ++ l) (append_assoc leads.one leads.more held))
          now.taken)
          written answered (inr leads.at_once)
          (if_some first leads.close (λ close. omega (arith, close, length-append leads.more held)))

  module _ (d : Demand) (demands : form.demands all_read d) where
    -- a write failed, with what waited
    pub write_failed : (new' : Option (List ℕ)) (waits : List ℕ) (k : ℕ) (writes writes' : ℕ) (reads reads' : ℕ) → (k < length waits)
        × Appends new new' (take k waits) → IsPart Done d (now.out ++ waits) → Rose writes writes' → reads' ≡ reads
        → EndsBetween form (side first reads) (side left' reads') (side old writes) (side new' writes') WriteFault
    write_failed new' waits k writes writes' reads reads' (few, went) part rose calm = (
      record {
        read = all_read;
        text = now.out ++ take k waits;
        demand = d;
        taken = now.taken;
        written = appends_more old new new' now.out (take k waits) now.written went;
        demands = demands;
        due = cut_of Done d (now.out ++ take k waits) (now.out ++ waits) (taken_front now.out waits k)
            (omega (arith, few, length-append now.out (take k waits), length-append now.out waits, length-take k waits)) part;
      },
      soon new' reads reads' writes writes' (take k waits) went,
      (rose, calm),
    )

    wrote : (new' : Option (List ℕ)) (reads reads' writes writes' : ℕ) (waits : List ℕ) (P : Demand → List ℕ → Type 0)
        → Appends new new' waits → P d (now.out ++ waits)
        → Wrote form (between (side first reads) (side left' reads') (side old writes) (side new' writes')) P
    wrote new' reads reads' writes writes' waits P went due = record {
      read = all_read;
      text = now.out ++ waits;
      demand = d;
      taken = now.taken;
      written = appends_more old new new' now.out waits now.written went;
      demands = demands;
      due = due;
    }

    rose_from : (a b c : ℕ) → b ≡ a → Rose b c → Rose a c
    rose_from a b c same rose = omega (arith, same, rose)

    abbrev Answered : List ℕ → Type 0
    Answered = AnswersFront form first left'

    -- what waits goes out, and the run ends
    pub finishes : (new' : Option (List ℕ)) (waits : List ℕ) (status result : Status) (reads reads' writes mid writes' : ℕ)
        → IsDue Answered Done status d (now.out ++ waits)
        → Finishes (side new mid) (side new' writes') waits status result → reads' ≡ reads → mid ≡ writes
        → EndsBetween form (side first reads) (side left' reads') (side old writes) (side new' writes') result
    finishes new' waits status result reads reads' writes mid writes' due (inr failed) calm same =
        subst (EndsBetween form (side first reads) (side left' reads') (side old writes) (side new' writes')) (sym failed.0)
        (write_failed new' waits failed.1.0 writes writes' reads reads' (failed.1.1, failed.1.2) (due_part Answered Done status d (now.out ++ waits) due)
        (rose_from writes mid writes' same failed.2) calm)
    finishes new' waits status result reads reads' writes mid writes' due (inl done) calm same =
        subst (EndsBetween form (side first reads) (side left' reads') (side old writes) (side new' writes')) (sym done.0) (by_status status due)
      where
        by_status : (s : Status) → IsDue Answered Done s d (now.out ++ waits)
            → EndsBetween form (side first reads) (side left' reads') (side old writes) (side new' writes') s
        by_status AllRead due = (due.0, wrote new' reads reads' writes writes' waits IsWhole done.1 due.1, (calm, done.2 ∙ same))
        by_status BadInput due = (wrote new' reads reads' writes writes' waits (IsFaulty Done) done.1 due, (calm, done.2 ∙ same))
        by_status OutOfMemory due = (
          wrote new' reads reads' writes writes' waits (IsPart Done) done.1 due.0,
          (now.out ++ waits, appends_more old new new' now.out waits now.written done.1, due.1),
          (calm, done.2 ∙ same),
        )
        by_status JournalFull due = (wrote new' reads reads' writes writes' waits IsFilled done.1 due, (calm, done.2 ∙ same))
        by_status Usage due = absurd due
        by_status ReadFault due = absurd due
        by_status WriteFault due = absurd due

    -- the same with a last text, where there was memory for it
    pub stops_with : (new' : Option (List ℕ)) (text waits : List ℕ) (status result : Status) (reads reads' writes mid writes' : ℕ)
        → IsDue Answered Done status d (now.out ++ (waits ++ text)) → Answered (now.out ++ waits)
        → StopsWith (side new mid) (side new' writes') status text waits result → reads' ≡ reads → mid ≡ writes
        → EndsBetween form (side first reads) (side left' reads') (side old writes) (side new' writes') result
    stops_with new' text waits status result reads reads' writes mid writes' due answered stops calm same = by_memory stops.2
      where
        by_memory : IsQueued status text waits stops.1 stops.0 → EndsBetween form (side first reads) (side left' reads') (side old writes) (side new' writes') result
        by_memory (inl is) =
            finishes new' stops.1 stops.0 result reads reads' writes mid writes'
            (subst (λ (s : Status). IsDue Answered Done s d (now.out ++ stops.1)) (sym is.0)
            (subst (λ (w : List ℕ). IsDue Answered Done status d (now.out ++ w)) (sym is.1) due)) stops.3 calm same
        by_memory (inr is) =
            finishes new' stops.1 stops.0 result reads reads' writes mid writes'
            (subst (λ (s : Status). IsDue Answered Done s d (now.out ++ stops.1)) (sym is.0)
            (subst (λ (w : List ℕ). IsPart Done d (now.out ++ w) × Answered (now.out ++ w)) (sym is.1) (
              part_of Done d (now.out ++ waits) (now.out ++ (waits ++ text)) (text, sym (append_assoc now.out waits text))
                  (due_part Answered Done status d (now.out ++ (waits ++ text)) due),
              answered,
            ))) stops.3 calm same

    -- all of the body is out, where nothing more came
    pub wrote_all : form.came_late all_read [] → IsBody d now.out → (reads reads' writes writes' : ℕ)
        → WroteAllBefore form (between (side first reads) (side left' reads') (side old writes) (side new writes'))
    wrote_all late due reads reads' writes writes' = record {
      octets = all_read;
      came = [];
      text = now.out;
      demand = d;
      with_came = d;
      taken = subst (Consumes first left') (sym (append-nil all_read)) now.taken;
      written = now.written;
      demands = demands;
      due = due;
      late = late;
      later = subst (λ (l : List ℕ). form.demands l d) (sym (append-nil all_read)) demands;
      stays = ([], sym due.0 ∙ sym (append-nil now.out));
    }

  -- a read failed, where nothing waited
  pub read_failed : (reads reads' writes writes' : ℕ)
      → WroteAllBefore form (between (side first reads) (side left' reads') (side old writes) (side new writes')) → Rose reads reads' → writes' ≡ writes
      → EndsBetween form (side first reads) (side left' reads') (side old writes) (side new writes') ReadFault
  read_failed reads reads' writes writes' wrote rose quiet =
      (wrote, soon new reads reads' writes writes' [] (appends_none new), (rose, quiet))

-- what waited went out before the next line, unless that is there and little waits
pub flushed_before : (form : Reading) (first left old new new' : Option (List ℕ)) (held waits waits' : List ℕ) (Behind : List ℕ → Demand
    → Type 0) (ready : Bool) (Ready : Type 0)
    → Reached form first left old new held waits Behind → StopsHere Behind → Flushes new new' waits waits' ready → (IsTrue ready → Ready)
    → Turn form first left old new' held waits' Behind Ready
flushed_before form first left old new new' held waits waits' Behind ready Ready reached stop writes means = by_whole writes.whole
  where
    by_whole : (waits' ≡ []) ⊎ (IsTrue ready × (length waits' < 65536)) → Turn form first left old new' held waits' Behind Ready
    by_whole (inl none) =
        let sent_all : waits ≡ writes.sent = writes.split ∙ ap (λ (w : List ℕ). writes.sent ++ w) none ∙ append-nil writes.sent in
        subst (λ (w : List ℕ). Turn form first left old new' held w Behind Ready) (sym none)
        (all_out form first left old new held waits Behind reached new' writes.sent Ready writes.written sent_all stop)
    by_whole (inr there) = record {
      reached = some_out form first left old new held waits Behind reached new' writes.sent waits' writes.written
          writes.split;
      turn = inr (means there.0);
    }

-- The work of one line, and of several lines one after another.
use Rattle.std.proofs.Common.{◌≡◌, ℕ, ◌+◌, List, [], ◌∷◌, ◌++◌, length, refl, sym, ◌∙◌, ap, subst, append_assoc, append-nil, arith}
use Rattle.std.specs.Prelude.{Option}
use Rattle.std.specs.Io.KnownBytes.{Appends}
use Rattle.cds_base.proofs.KnownOctets.{appends_more, appends_none}
use Rattle.house_journal.specs.declared.disk.Disk.{Ghosts}
use Rattle.house_journal.specs.Journals.{LeavesOnly}
use Rattle.house_journal.proofs.Moments.{goes_over, weaker}
use Rattle.house_segments.specs.Segments.{HasBodies, IsAt, disk_of}
use Rattle.house_segments.specs.declared.segment.Segment.{Segment}
use Rattle.house_serving.specs.Serving.{HasFront, LinesDone, Work, deed, first_records, lines_done}
use Rattle.house_serving.specs.Turns.{Dialogue, Replying, Turn, bodies_in, bodies_of, lines_text, texts_of}
use Rattle.house_serving.proofs.Fronts.{front_later, front_more, front_none, left_at, unmoved}

-- ---- lists of turns

pub bodies-append : (xs ys : List Turn) → bodies_of (xs ++ ys) ≡ bodies_of xs ++ bodies_of ys
bodies-append [] ys = refl
bodies-append (t ∷ xs) ys =
    ap (λ (l : List (List ℕ)). bodies_in t.said.body ++ l) (bodies-append xs ys) ∙ sym (append_assoc (bodies_in t.said.body) (bodies_of xs) (bodies_of ys))

pub texts-append : (xs ys : List Turn) → texts_of (xs ++ ys) ≡ texts_of xs ++ texts_of ys
texts-append [] ys = refl
texts-append (t ∷ xs) ys =
    ap (λ (l : List ℕ). t.said.text ++ l) (texts-append xs ys) ∙ sym (append_assoc t.said.text (texts_of xs) (texts_of ys))

pub lines-append : (xs ys : List Turn) → lines_text (xs ++ ys) ≡ lines_text xs ++ lines_text ys
lines-append [] ys = refl
lines-append (t ∷ xs) ys =
    ap (λ (l : List ℕ). (t.line ++ 10 ∷ []) ++ l) (lines-append xs ys) ∙ sym (append_assoc (t.line ++ 10 ∷ []) (lines_text xs) (lines_text ys))

module _ {H : Type 0} (responds : Replying H) where
  -- more lines
  pub talks_on : (number : ℕ) (house mid at : H) (xs ys : List Turn) → Dialogue responds number house xs mid
      → Dialogue responds (number + length xs) mid ys at → Dialogue responds number house (xs ++ ys) at
  talks_on number house mid at [] ys first then =
      let same : number + 0 ≡ number = omega arith in
      subst (λ (h : H). Dialogue responds number h ys at) first (subst (λ (n : ℕ). Dialogue responds n mid ys at) same then)
  talks_on number house mid at (t ∷ xs) ys first then =
      let same : number + length (t ∷ xs) ≡ number + 1 + length xs = omega arith in (
        first.0,
        first.1,
        talks_on (number + 1) first.0 mid at xs ys first.2 (subst (λ (n : ℕ). Dialogue responds n mid ys at) same then),
      )

-- ---- work

module _ {H D : Type 0} (responds : Replying H) (g : Ghosts D) (before : List ℕ) (bodies : List (List ℕ)) where
  -- nothing was done yet, and this was written
  pub no_work : ((d : D) (c : List ℕ) → g.left_since d (g.moment d) c → g.may_leave d c) → (number : ℕ) (house : H) (s : Segment D) → IsAt g s before bodies
      → (written written' : Option (List ℕ)) (text : List ℕ) → Appends written written' text
      → Work responds g (first_records before bodies) number (deed house (disk_of s) (disk_of s) written written') (lines_done [] [] text house)
  no_work only number house s at written written' text wrote = record {
    talk = refl;
    wrote = wrote;
    crash = unmoved g before bodies only [] s at;
    acknowledged = λ c left. subst (λ (l : List (List ℕ)). HasFront before l [] c) (sym (append-nil bodies)) (front_none before bodies [] c (left_at g before bodies s at c left));
  }

  -- a record was put, or may have been, and nothing was said
  pub open_work : (number : ℕ) (house : H) (disk disk' : D) (over : List (List ℕ)) → LeavesOnly g disk disk' (HasFront before bodies over)
      → ((c : List ℕ) → g.may_leave disk' c → HasFront before bodies over c) → (written : Option (List ℕ))
      → Work responds g (first_records before bodies) number (deed house disk disk' written written) (lines_done [] over [] house)
  open_work number house disk disk' over crash left written = record {
    talk = refl;
    wrote = appends_none written;
    crash = crash;
    acknowledged = λ c l. subst (λ (b : List (List ℕ)). HasFront before b over c) (sym (append-nil bodies)) (left c l);
  }

  -- a line was done, and this was written
  pub line_work : (number : ℕ) (house house' : H) (t : Turn) → responds house number t.line t.said house' → (disk : D) (s' : Segment D)
      → LeavesOnly g disk (disk_of s') (HasFront before bodies (bodies_in t.said.body)) → IsAt g s' before (bodies ++ bodies_in t.said.body)
      → (written written' : Option (List ℕ)) (text : List ℕ) → Appends written written' text
      → Work responds g (first_records before bodies) number (deed house disk (disk_of s') written written') (lines_done (t ∷ []) [] text house')
  line_work number house house' t does disk s' crash at written written' text wrote =
      let one : bodies_in t.said.body ++ [] ≡ bodies_in t.said.body = append-nil (bodies_in t.said.body) in
      record {
        talk = (house', does, refl);
        wrote = wrote;
        crash = weaker g (HasFront before bodies (bodies_in t.said.body)) (HasFront before bodies ((bodies_in t.said.body ++ []) ++ [])) disk (disk_of s')
            (λ c is. front_more before bodies (bodies_in t.said.body ++ []) [] c (front_more before bodies (bodies_in t.said.body) [] c is)) crash;
        acknowledged = λ c left.
            front_none before (bodies ++ (bodies_in t.said.body ++ [])) [] c
            (subst (λ (l : List (List ℕ)). HasBodies before (bodies ++ l) c) (sym one) (left_at g before (bodies ++ bodies_in t.said.body) s' at c left));
      }

  -- work after work
  pub works_on : (number : ℕ) (house mid : H) (disk disk' disk'' : D) (written written' written'' : Option (List ℕ)) (xs : List Turn) (text : List ℕ)
      (done : LinesDone H) → Work responds g (first_records before bodies) number (deed house disk disk' written written') (lines_done xs [] text mid)
      → Work responds g (first_records before (bodies ++ bodies_of xs)) (number + length xs) (deed mid disk' disk'' written' written'') done
      → Work responds g (first_records before bodies) number (deed house disk disk'' written written'') (lines_done (xs ++ done.turns) done.over (text ++ done.text) done.at)
  works_on number house mid disk disk' disk'' written written' written'' xs text done first then =
      let all : List (List ℕ) = bodies_of (xs ++ done.turns) ++ done.over in
      let later : (c : List ℕ) → HasFront before (bodies ++ bodies_of xs) (bodies_of done.turns ++ done.over) c → HasFront before bodies all c =
      λ c is. subst (λ (l : List (List ℕ)). HasFront before bodies l c)
      (sym (append_assoc (bodies_of xs) (bodies_of done.turns) done.over) ∙ ap (λ (l : List (List ℕ)). l ++ done.over) (sym (bodies-append xs done.turns)))
      (front_later before bodies (bodies_of xs) (bodies_of done.turns ++ done.over) c is) in
      let sooner : (c : List ℕ) → HasFront before bodies (bodies_of xs ++ []) c → HasFront before bodies all c =
      λ c is. subst (λ (l : List (List ℕ)). HasFront before bodies l c)
      (ap (λ (l : List (List ℕ)). l ++ (bodies_of done.turns ++ done.over)) (append-nil (bodies_of xs))
      ∙ sym (append_assoc (bodies_of xs) (bodies_of done.turns) done.over) ∙ ap (λ (l : List (List ℕ)). l ++ done.over) (sym (bodies-append xs done.turns)))
      (front_more before bodies (bodies_of xs ++ []) (bodies_of done.turns ++ done.over) c is) in
      record {
        talk = talks_on responds number house mid done.at xs done.turns first.talk then.talk;
        wrote = appends_more written written' written'' text done.text first.wrote then.wrote;
        crash = goes_over g (HasFront before bodies all) disk disk' disk''
            (weaker g (HasFront before bodies (bodies_of xs ++ [])) (HasFront before bodies all) disk disk' sooner first.crash)
            (weaker g (HasFront before (bodies ++ bodies_of xs) (bodies_of done.turns ++ done.over)) (HasFront before bodies all) disk' disk'' later then.crash);
        acknowledged = λ c left.
            subst (λ (l : List (List ℕ)). HasFront before l done.over c)
            (append_assoc bodies (bodies_of xs) (bodies_of done.turns) ∙ ap (λ (l : List (List ℕ)). bodies ++ l) (sym (bodies-append xs done.turns)))
            (then.acknowledged c left);
      }

  -- more was written
  pub said_more : (number : ℕ) (house at : H) (disk disk' : D) (written written' written'' : Option (List ℕ)) (turns : List Turn) (over : List (List ℕ))
      (text more : List ℕ) → Work responds g (first_records before bodies) number (deed house disk disk' written written') (lines_done turns over text at) → Appends written' written'' more
      → Work responds g (first_records before bodies) number (deed house disk disk' written written'') (lines_done turns over (text ++ more) at)
  said_more number house at disk disk' written written' written'' turns over text more work wrote = record {
    talk = work.talk;
    wrote = appends_more written written' written'' text more work.wrote wrote;
    crash = work.crash;
    acknowledged = work.acknowledged;
  }

  -- the same work by other names
  pub work_so : (number : ℕ) (house at at' : H) (disk disk' : D) (written written' : Option (List ℕ)) (turns : List Turn) (over over' : List (List ℕ))
      (text text' : List ℕ) → Work responds g (first_records before bodies) number (deed house disk disk' written written') (lines_done turns over text at) → over ≡ over' → text ≡ text' → at ≡ at'
      → Work responds g (first_records before bodies) number (deed house disk disk' written written') (lines_done turns over' text' at')
  work_so number house at at' disk disk' written written' turns over over' text text' work same_over same_text same_at =
      subst (λ (h : H). Work responds g (first_records before bodies) number (deed house disk disk' written written') (lines_done turns over' text' h)) same_at
      (subst (λ (t : List ℕ). Work responds g (first_records before bodies) number (deed house disk disk' written written') (lines_done turns over' t at)) same_text
      (subst (λ (o : List (List ℕ)). Work responds g (first_records before bodies) number (deed house disk disk' written written') (lines_done turns o text at)) same_over work))

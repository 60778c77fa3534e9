-- The records of a house, one after the other, and which one can be the next.
use Rattle.std.proofs.Common.{◌≡◌, ℕ, ◌+◌, inl, inr, ◌⊎◌, List, [], ◌∷◌, ◌++◌, Option, Some, None, refl, sym, ◌∙◌, ap, subst, arith, append_assoc}
use Rattle.std.specs.Prelude.{All, codes, decimal, is_none, option_copied}
use Rattle.std.proofs.lemmas.List.Elements.{All-cons, All-head, All-nil, All-tail}
use Rattle.house_entries.specs.Bodies.{IsBody}
use Rattle.house_entries.specs.declared.body.Body.{Body}
use Rattle.house_entries.proofs.BodyLemmas.{one_record}
use Rattle.house_logs.specs.declared.log.LogEntry.{LogEntry}
use Rattle.house_logs.specs.declared.log.LogEntry.TheVariants as entry
use Rattle.house_logs.specs.declared.log.Making.{Making}
use Rattle.house_logs.specs.declared.reader.LogReader.{LogReader}
use Rattle.house_logs.specs.Faults.{HasLast}
use Rattle.house_logs.specs.Logs.{AreOfHouse, Begins, IsLogOf, IsNew, making_text}
use Rattle.house_logs.specs.PrivateReads.{AsMaking, AsNew, AsSegment, AsStart, AsTurn, CanFollow, IsDue, known_in}
use Rattle.house_logs.specs.Reads.{HasRead, HasReadOf, told_of}
use Rattle.house_logs.specs.Records.{AreRecords, CanBe, Follows, OfEntry, OfMaking, SegmentRecord, Shows, StartRecord, Told, TurnRecord, image_of, running_text, segment_text, with_image}
use Rattle.house_logs.specs.TurnTexts.{turn_text}

-- ---- a journal, record by record

-- a journal by recursion: records that are new, then the one that makes the house, then others
abbrev pub Log : List (List ℕ) → Told → Type 0
Log [] s = ⊥
Log (b ∷ bs) s = (IsNew b × Log bs s) ⊎ ((begun : Told) × Begins b begun × AreRecords begun bs s)

to_log : (news : List (List ℕ)) (first : List ℕ) (others : List (List ℕ)) (begun s : Told) → All IsNew news → Begins first begun
    → AreRecords begun others s → Log (news ++ first ∷ others) s
to_log [] first others begun s new begins records = inr (begun, begins, records)
to_log (n ∷ news) first others begun s new begins records =
    inl (All-head IsNew n news new, to_log news first others begun s (All-tail IsNew n news new) begins records)

pub log_of : (bodies : List (List ℕ)) (s : Told) → IsLogOf bodies s → Log bodies s
log_of bodies s is = subst (λ (l : List (List ℕ)). Log l s) (sym is.parts) (to_log is.news is.first is.others is.begun s is.are_new is.begins is.records)

pub from_log : (bodies : List (List ℕ)) (s : Told) → Log bodies s → IsLogOf bodies s
from_log [] s log = absurd log
from_log (b ∷ bs) s (inl p) =
    let r = from_log bs s p.1 in
    record {
      news = b ∷ r.news;
      first = r.first;
      others = r.others;
      begun = r.begun;
      parts = ap (λ (l : List (List ℕ)). b ∷ l) r.parts;
      are_new = All-cons IsNew b r.news p.0 r.are_new;
      begins = r.begins;
      records = r.records;
    }
from_log (b ∷ bs) s (inr p) = record {
  news = [];
  first = b;
  others = bs;
  begun = p.0;
  parts = refl;
  are_new = All-nil IsNew;
  begins = p.1;
  records = p.2;
}

-- the record that makes a house is none of a process without one
pub no_first : (b : List ℕ) (s : Told) → IsNew b → Begins b s → ⊥
no_first b s new begins =
    let one = one_record b 0 0 (codes "new" ++ 10 ∷ []) None 1 0 (making_text begins.line) None new begins.body_is in
    let number = one.0 in
    absurd (omega (arith, number))

pub no_log : (bodies : List (List ℕ)) (s : Told) → All IsNew bodies → Log bodies s → ⊥
no_log [] s new log = absurd log
no_log (b ∷ bs) s new (inl p) = no_log bs s (All-tail IsNew b bs new) p.1
no_log (b ∷ bs) s new (inr p) = no_first b p.0 (All-head IsNew b bs new) p.1

new_last : (bodies : List (List ℕ)) (o : List ℕ) → All IsNew (bodies ++ o ∷ []) → IsNew o
new_last [] o new = All-head IsNew o [] new
new_last (b ∷ bs) o new = new_last bs o (All-tail IsNew b (bs ++ o ∷ []) new)

new_front : (bodies others : List (List ℕ)) → All IsNew (bodies ++ others) → All IsNew bodies
new_front [] others new = All-nil IsNew
new_front (b ∷ bs) others new =
    All-cons IsNew b bs (All-head IsNew b (bs ++ others) new) (new_front bs others (All-tail IsNew b (bs ++ others) new))

-- ---- what is known after records

-- the image of the last entry, or of the making, if one is known
abbrev pub known : Told → Option (List ℕ)
known s = known_in s.image s.entries

known_last : (image : Option (List ℕ)) (front : List LogEntry) (e : LogEntry) → known_in image (front ++ e ∷ []) ≡ image_of e
known_last image [] e = refl
known_last image (f ∷ front) e = known_last (image_of f) front e

pub known_end : (image : Option (List ℕ)) (es front : List LogEntry) (e : LogEntry) → es ≡ front ++ e ∷ [] → known_in image es ≡ image_of e
known_end image es front e is = ap (λ (l : List LogEntry). known_in image l) is ∙ known_last image front e

shown_image : (image : List ℕ) (e : LogEntry) → image_of (with_image image e) ≡ Some image
shown_image image (entry.Started other) = refl
shown_image image (entry.Turned t) = refl

-- what a record shows is known then, and could be before
record IsShown (s : Told) (image : List ℕ) (end : Told) : Type 0 where
  pub could : CanBe (known s) image
  pub is : known end ≡ Some image
  pub number : end.number ≡ s.number
  pub clock : end.clock ≡ s.clock
  pub turn : end.turn ≡ s.turn

is_shown : (s : Told) (image : List ℕ) (end : Told) → Shows s image end → IsShown s image end
is_shown s image end (OfMaking none can is) = record {
  could = subst (λ (es : List LogEntry). CanBe (known_in s.image es) image) (sym none) can;
  is = ap known is ∙ ap (λ (es : List LogEntry). known_in (Some image) es) none;
  number = ap (λ (t : Told). t.number) is;
  clock = ap (λ (t : Told). t.clock) is;
  turn = ap (λ (t : Told). t.turn) is;
}
is_shown s image end (OfEntry front e parts can is) = record {
  could = subst (λ (o : Option (List ℕ)). CanBe o image) (sym (known_end s.image s.entries front e parts)) can;
  is = ap known is ∙ known_last s.image front (with_image image e) ∙ shown_image image e;
  number = ap (λ (t : Told). t.number) is;
  clock = ap (λ (t : Told). t.clock) is;
  turn = ap (λ (t : Told). t.turn) is;
}

-- the text of the last turn after a record: its own, if it shows no image
abbrev turn_after : (image : Option (List ℕ)) → (text turn : List ℕ) → List ℕ
turn_after None text turn = text
turn_after (Some image) text turn = turn

-- a record has the number and the clock that are the last ones then, and the image that is known
record HasFields (s : Told) (b : List ℕ) (end : Told) : Type 0 where
  pub text : List ℕ
  pub body : IsBody b end.number end.clock text (known end)
  pub turn : end.turn ≡ turn_after (known end) text s.turn

fields_with : (s end : Told) (b text : List ℕ) (number clock : ℕ) (image : Option (List ℕ)) → IsBody b number clock text image
    → end.number ≡ number → end.clock ≡ clock → known end ≡ image → end.turn ≡ turn_after image text s.turn → HasFields s b end
fields_with s end b text number clock image is numbered timed shown turn = record {
  text = text;
  body =
      subst (λ (n : ℕ). IsBody b n end.clock text (known end)) (sym numbered)
      (subst (λ (c : ℕ). IsBody b number c text (known end)) (sym timed)
      (subst (λ (i : Option (List ℕ)). IsBody b number clock text i) (sym shown) is));
  turn = turn ∙ ap (λ (i : Option (List ℕ)). turn_after i text s.turn) (sym shown);
}

fields_of : (s : Told) (b : List ℕ) (end : Told) → Follows s b end → HasFields s b end
fields_of s b end (TurnRecord line t says body is) =
    fields_with s end b (turn_text line t.posts.items t.answer) (s.number + 1) t.clock None body.is (ap (λ (z : Told). z.number) is)
    (ap (λ (z : Told). z.clock) is) (ap known is ∙ known_last s.image s.entries (entry.Turned t) ∙ body.bare) (ap (λ (z : Told). z.turn) is)
fields_of s b end (StartRecord image body is) =
    fields_with s end b (codes "start" ++ (10 ∷ s.turn)) (s.number + 1) 0 (Some image) body (ap (λ (z : Told). z.number) is)
    (ap (λ (z : Told). z.clock) is) (ap known is ∙ known_last s.image s.entries (entry.Started image)) (ap (λ (z : Told). z.turn) is)
fields_of s b end (SegmentRecord image body shows) =
    let shown = is_shown s image end shows in
    fields_with s end b _ s.number s.clock (Some image) body.is shown.number shown.clock shown.is shown.turn

-- ---- records say one thing

-- of both one thing is known, and one record is the next
pub record AreAlike (s t : Told) : Type 0 where
  pub number : s.number ≡ t.number
  pub clock : s.clock ≡ t.clock
  pub turn : s.turn ≡ t.turn
  pub shown : known s ≡ known t

none_known : (s : Told) → s.image ≡ None → s.entries ≡ [] → known s ≡ None
none_known s bare alone =
    ap (λ (o : Option (List ℕ)). known_in o s.entries) bare ∙ ap (λ (es : List LogEntry). known_in None es) alone

alike_begun : (b : List ℕ) (s t : Told) → Begins b s → Begins b t → AreAlike s t
alike_begun b s t one other =
    let same = one_record b 1 0 (making_text one.line) None 1 0 (making_text other.line) None one.body_is other.body_is in
    record {
      number = one.number ∙ sym other.number;
      clock = one.clock ∙ sym other.clock;
      turn = one.turn ∙ same.2 ∙ sym other.turn;
      shown = none_known s one.bare one.alone ∙ sym (none_known t other.bare other.alone);
    }

alike_after : (s t : Told) (b : List ℕ) (s' t' : Told) → AreAlike s t → Follows s b s' → Follows t b t' → AreAlike s' t'
alike_after s t b s' t' so one other =
    let f = fields_of s b s' one in
    let g = fields_of t b t' other in
    let same = one_record b s'.number s'.clock f.text (known s') t'.number t'.clock g.text (known t') f.body g.body in
    record {
      number = same.0;
      clock = same.1;
      turn = f.turn ∙ (λ i. turn_after (same.3 i) (same.2 i) (so.turn i)) ∙ sym g.turn;
      shown = same.3;
    }

-- a record comes after what is known of a journal
pub record ComesNext (s : Told) (o : List ℕ) (end : Told) : Type 0 where
  pub mid : Told
  pub alike : AreAlike s mid
  pub follows : Follows mid o end

next_of : (bs : List (List ℕ)) (o : List ℕ) (a a' s s' : Told) → AreAlike a a' → AreRecords a bs s → AreRecords a' (bs ++ o ∷ []) s' → ComesNext s o s'
next_of [] o a a' s s' so all all' = record {
  mid = a';
  alike = subst (λ (z : Told). AreAlike z a') (sym all) so;
  follows = subst (λ (z : Told). Follows a' o z) (sym all'.2) all'.1;
}
next_of (b ∷ bs) o a a' s s' so all all' = next_of bs o all.0 all'.0 s s' (alike_after a a' b all.0 all'.0 so all.1 all'.1) all.2 all'.2

next_told : (bodies : List (List ℕ)) (o : List ℕ) (s s' : Told) → Log bodies s → Log (bodies ++ o ∷ []) s' → ComesNext s o s'
next_told [] o s s' log log' = absurd log
next_told (b ∷ bs) o s s' (inl p) (inl q) = next_told bs o s s' p.1 q.1
next_told (b ∷ bs) o s s' (inl p) (inr q) = absurd (no_first b q.0 p.0 q.1)
next_told (b ∷ bs) o s s' (inr p) (inl q) = absurd (no_first b p.0 q.0 p.1)
next_told (b ∷ bs) o s s' (inr p) (inr q) = next_of bs o p.0 q.0 s s' (alike_begun b p.0 q.0 p.1 q.1) p.2 q.2

-- the first one of a house
first_told : (bodies : List (List ℕ)) (o : List ℕ) (s : Told) → All IsNew bodies → Log (bodies ++ o ∷ []) s → (begun : Told) × Begins o begun
first_told [] o s new (inl p) = absurd p.1
first_told [] o s new (inr p) = (p.0, p.1)
first_told (b ∷ bs) o s new (inl p) = first_told bs o s (All-tail IsNew b bs new) p.1
first_told (b ∷ bs) o s new (inr p) = absurd (no_first b p.0 (All-head IsNew b bs new) p.1)

-- ---- each record has a body

pub record HasBody (o : List ℕ) : Type 0 where
  pub number : ℕ
  pub clock : ℕ
  pub text : List ℕ
  pub image : Option (List ℕ)
  pub is : IsBody o number clock text image

records_body : (bs : List (List ℕ)) (o : List ℕ) (a s : Told) → AreRecords a (bs ++ o ∷ []) s → HasBody o
records_body [] o a s all =
    let f = fields_of a o all.0 all.1 in
    record { number = all.0.number; clock = all.0.clock; text = f.text; image = known all.0; is = f.body }
records_body (b ∷ bs) o a s all = records_body bs o all.0 s all.2

log_body : (bodies : List (List ℕ)) (o : List ℕ) (s : Told) → Log (bodies ++ o ∷ []) s → HasBody o
log_body [] o s (inl p) = absurd p.1
log_body [] o s (inr p) = record { number = 1; clock = 0; text = making_text p.1.line; image = None; is = p.1.body_is }
log_body (b ∷ bs) o s (inl p) = log_body bs o s p.1
log_body (b ∷ bs) o s (inr p) = records_body bs o p.0 s p.2

house_body : (bodies : List (List ℕ)) (o : List ℕ) → AreOfHouse (bodies ++ o ∷ []) → HasBody o
house_body bodies o (inl new) = record { number = 0; clock = 0; text = codes "new" ++ 10 ∷ []; image = None; is = new_last bodies o new }
house_body bodies o (inr p) = log_body bodies o p.0 (log_of (bodies ++ o ∷ []) p.0 p.1)

-- octets of no record are no next one
pub no_body : (bodies : List (List ℕ)) (o : List ℕ)
    → ((number clock : ℕ) (text : List ℕ) (image : Option (List ℕ)) → ¬ IsBody o number clock text image) → ¬ AreOfHouse (bodies ++ o ∷ [])
no_body bodies o none is = let b = house_body bodies o is in none b.number b.clock b.text b.image b.is

-- ---- the front of a journal

records_front : (bs others : List (List ℕ)) (a s : Told) → AreRecords a (bs ++ others) s → (mid : Told) × AreRecords a bs mid
records_front [] others a s all = (a, refl)
records_front (b ∷ bs) others a s all = let rest = records_front bs others all.0 s all.2 in (rest.0, (all.0, all.1, rest.1))

log_front : (bodies others : List (List ℕ)) (s : Told) → Log (bodies ++ others) s → All IsNew bodies ⊎ ((mid : Told) × Log bodies mid)
log_front [] others s log = inl (All-nil IsNew)
log_front (b ∷ bs) others s (inr p) = let rest = records_front bs others p.0 s p.2 in inr (rest.0, inr (p.0, p.1, rest.1))
log_front (b ∷ bs) others s (inl p) = by (log_front bs others s p.1)
  where
    by : All IsNew bs ⊎ ((mid : Told) × Log bs mid) → All IsNew (b ∷ bs) ⊎ ((mid : Told) × Log (b ∷ bs) mid)
    by (inl new) = inl (All-cons IsNew b bs p.0 new)
    by (inr q) = inr (q.0, inl (p.0, q.1))

-- the first records of a journal are those of one
pub house_front : (bodies others : List (List ℕ)) → AreOfHouse (bodies ++ others) → AreOfHouse bodies
house_front bodies others (inl new) = inl (new_front bodies others new)
house_front bodies others (inr p) = by (log_front bodies others p.0 (log_of (bodies ++ others) p.0 p.1))
  where
    by : All IsNew bodies ⊎ ((mid : Told) × Log bodies mid) → AreOfHouse bodies
    by (inl new) = inl new
    by (inr q) = inr (q.0, from_log bodies q.0 q.1)

-- ---- what can be next after what was read

segment_parts : (number : ℕ) (rest : List ℕ) → codes "segment " ++ (decimal number ++ (10 ∷ rest)) ≡ (codes "segment " ++ (decimal number ++ 10 ∷ [])) ++ rest
segment_parts number rest =
    sym (append_assoc (codes "segment ") (decimal number ++ 10 ∷ []) rest
    ∙ ap (λ (l : List ℕ). codes "segment " ++ l) (append_assoc (decimal number) (10 ∷ []) rest))

follow_turns : (r : LogReader) (m : Making) (o : List ℕ) (b : Body) (end : Told) → r.made ≡ Some m → IsDue o b → (next : ComesNext (told_of m r) o end)
    → Follows next.mid o end → CanFollow r b
follow_turns r m o b end made due next (TurnRecord line t says body is) =
    let same = one_record o b.number b.clock b.text.now (option_copied b.image) (next.mid.number + 1) t.clock (turn_text line t.posts.items t.answer) None due body.is in
    AsTurn record {
      some = ap is_none made;
      line = line;
      turn = t;
      says = says;
      number = same.0 ∙ ap (λ (n : ℕ). n + 1) (sym next.alike.number);
      text = same.2;
      bare = same.3;
    }
follow_turns r m o b end made due next (StartRecord image body is) =
    let same = one_record o b.number b.clock b.text.now (option_copied b.image) (next.mid.number + 1) 0 (codes "start" ++ (10 ∷ next.mid.turn)) (Some image) due body in
    AsStart record {
      some = ap is_none made;
      image = image;
      number = same.0 ∙ ap (λ (n : ℕ). n + 1) (sym next.alike.number);
      clock = same.1;
      text = same.2 ∙ ap (λ (t : List ℕ). codes "start" ++ (10 ∷ t)) (sym next.alike.turn);
      shows = same.3;
    }
follow_turns r m o b end made due next (SegmentRecord image body shows) =
    let same = one_record o b.number b.clock b.text.now (option_copied b.image) next.mid.number next.mid.clock
    (segment_text next.mid body.running) (Some image) due body.is in
    let shown = is_shown next.mid image end shows in
    AsSegment record {
      some = ap is_none made;
      image = image;
      rest = running_text body.running ++ next.mid.turn;
      number = same.0 ∙ sym next.alike.number;
      clock = same.1 ∙ sym next.alike.clock;
      text =
          same.2
          ∙ segment_parts next.mid.number (running_text body.running ++ next.mid.turn)
          ∙ ap (λ (n : ℕ). (codes "segment " ++ (decimal n ++ 10 ∷ [])) ++ (running_text body.running ++ next.mid.turn)) (sym next.alike.number);
      after = record {
        lines = body.running;
        each = body.lines;
        are = ap (λ (t : List ℕ). running_text body.running ++ t) (sym next.alike.turn);
      };
      shows = same.3;
      known = subst (λ (i : Option (List ℕ)). CanBe i image) (sym next.alike.shown) shown.could;
    }

pub could_follow : (r : LogReader) (bodies : List (List ℕ)) (o : List ℕ) (b : Body) → HasRead r bodies → IsDue o b → AreOfHouse (bodies ++ o ∷ []) → CanFollow r b
could_follow r bodies o b has due is = by r.made refl has.is is
  where
    by : (m : Option Making) → r.made ≡ m → HasReadOf m r bodies → AreOfHouse (bodies ++ o ∷ []) → CanFollow r b
    by None none read (inl new) =
        let same = one_record o b.number b.clock b.text.now (option_copied b.image) 0 0 (codes "new" ++ 10 ∷ []) None due (new_last bodies o new) in
        AsNew record { none = none; last = read.1; number = same.0; clock = same.1; text = same.2; bare = same.3 }
    by None none read (inr p) =
        let first = first_told bodies o p.0 read.0 (log_of (bodies ++ o ∷ []) p.0 p.1) in
        let begins = first.1 in
        let same = one_record o b.number b.clock b.text.now (option_copied b.image) 1 0 (making_text begins.line) None due begins.body_is in
        AsMaking record {
          none = none;
          line = begins.line;
          no_end = begins.no_end;
          makes = (first.0.house, first.0.node, begins.says);
          number = same.0 ∙ ap (λ (n : ℕ). n + 1) (sym read.1);
          clock = same.1;
          text = same.2;
          bare = same.3;
        }
    by (Some m) made read (inl new) = absurd (no_log bodies (told_of m r) (new_front bodies (o ∷ []) new) (log_of bodies (told_of m r) read))
    by (Some m) made read (inr p) =
        let next = next_told bodies o (told_of m r) p.0 (log_of bodies (told_of m r) read) (log_of (bodies ++ o ∷ []) p.0 p.1) in
        follow_turns r m o b p.0 made due next next.follows

-- what is not, is none of the journal
pub no_next : (r : LogReader) (bodies : List (List ℕ)) (o : List ℕ) (b : Body) → HasRead r bodies → IsDue o b → ¬ CanFollow r b
    → ¬ AreOfHouse (bodies ++ o ∷ [])
no_next r bodies o b has due none is = none (could_follow r bodies o b has due is)

-- the number of the last entry that was read
pub has_last : (r : LogReader) (bodies : List (List ℕ)) → HasRead r bodies → HasLast bodies r.number
has_last r bodies has = by r.made has.is
  where
    by : (m : Option Making) → HasReadOf m r bodies → HasLast bodies r.number
    by None read = inl (read.0, read.1)
    by (Some m) read = inr (told_of m r, read, refl)

-- What comparisons of the replay and an entry imply.
use Rattle.std.proofs.Common.{◌≡◌, ◌≢◌, ◌<◌, ◌≤◌, ℕ, zero, suc, ◌+◌, ◌-◌, Bool, true, false, ◌||◌, ◌==◌, cond, List, [], ◌∷◌, ◌++◌, drop, length, map, Option, Some, None, refl, sym, subst, ◌∙◌, ap, arith, rules, add-one}
use Rattle.std.specs.Prelude.{slice_get, slice_index}
use Rattle.std.specs.Bool.{Decides, OnTrue}
use Rattle.std.specs.Cmp.Rules.{comparing}
use Rattle.std.specs.List.{list_any}
use Rattle.cds_stamps.specs.Members.{is_listed, members_of}
use Rattle.cds_stamps.specs.contracts.members.MemberPartialEq.TheImpl.{eq-value}
use Rattle.cds_stamps.specs.declared.members.Member.{Member}
use Rattle.cds_stamps.specs.declared.numbers.DirId.{DirId}
use Rattle.cds_stamps.specs.declared.numbers.EpochNo.{EpochNo}
use Rattle.cds_stamps.specs.declared.numbers.HouseNo.{HouseNo}
use Rattle.std.proofs.lemmas.Grind.{common_steps}
use Rattle.std.specs.Option.{option_and_then, option_map}
use Rattle.cell_model.specs.Cells.{Cell, Message}
use Rattle.cell_model.specs.Commands as model
use Rattle.cell_model.specs.Steps.{left_members, message_at}
use Rattle.cell_model.specs.Sets.{has}
use Rattle.cds_cell.specs.ConsoleLists.{IsListed}
use Rattle.cds_cell.specs.Recorded.{octets_of}
use Rattle.cds_cell.specs.Scripted.{answer_of}
use Rattle.cell_runs.specs.LineAnswers.{answer_said}
use Rattle.cell_runs.specs.Views as views
use Rattle.cell_runs.specs.Views.{is_turn, or_none}
use Rattle.script_answers.specs.Texts.{answer_line}
use Rattle.script_answers.specs.declared.answer.Answer.{Answer}
use Rattle.house_directory.specs.HouseMessages.{numbers_of}
use Rattle.house_lines.specs.declared.line.EpochList.{EpochList}
use Rattle.house_logs.specs.declared.log.PostedOctets.{PostedOctets}
use Rattle.house_lines.specs.declared.line.HouseOrder.TheVariants as order
use Rattle.cds_explain.specs.LoggedEntries.{post_of}
use Rattle.cds_explain.specs.PrivateComparing.{ArePostedAfter, IsPosted, own_of}
use Rattle.cds_explain.specs.PrivateConsole.{IsListedAs}

-- ---- answers

own_is : {A : Type 0} {x y : A} → Some x ≡ Some y → x ≡ y
own_is is = cc

-- an answer that a house has by itself is that of a turn of the model
pub own_turn : (m : model.Answer) (a own : Answer) → answer_of m ≡ Some a → own_of a ≡ Some own → (is_turn m ≡ true) × (answer_said m ≡ answer_line own)
own_turn m a own told owns = by m (ap (option_and_then own_of) told ∙ owns)
  where
    by : (m : model.Answer) → option_and_then own_of (answer_of m) ≡ Some own → (is_turn m ≡ true) × (answer_said m ≡ answer_line own)
    by model.Done is = absurd (cc (is))
    by (model.Posted ns) is = (refl, ap answer_line (own_is is))
    by (model.Made d s ns) is = (refl, ap answer_line (own_is is))
    by (model.Stamped s ns) is = (refl, ap answer_line (own_is is))
    by (model.NewEpoch e ns) is = (refl, ap answer_line (own_is is))
    by (model.Taken ns) is = (refl, ap answer_line (own_is is))
    by (model.Late k e) is = absurd (cc (is))
    by (model.Early k e) is = absurd (cc (is))
    by (model.Stale t r) is = absurd (cc (is))
    by model.NoReplica is = absurd (cc (is))
    by model.Foreign is = absurd (cc (is))
    by (model.Complete t ns) is = (refl, ap answer_line (own_is is))
    by (model.Refused r) is = absurd (cc (is))

-- ---- messages

-- what a cell says of a serial number, by its receiver and its octets
pub posted_is : (g : Cell) (n to : ℕ) (octets : List ℕ) → option_map (λ (m : Message). m.receiver) (message_at g n) ≡ Some to
    → option_and_then octets_of (message_at g n) ≡ Some octets → IsPosted g n to octets
posted_is g n to octets receiver has_octets = by (message_at g n) refl receiver has_octets
  where
    by : (o : Option Message) → message_at g n ≡ o → option_map (λ (m : Message). m.receiver) o ≡ Some to → option_and_then octets_of o ≡ Some octets
        → IsPosted g n to octets
    by None is receiver has_octets = absurd (cc (receiver))
    by (Some m) is receiver has_octets = record { m = m; there = is; receiver = (let e : m.receiver ≡ to = cc in e); octets_are = has_octets }

-- a message that is there is in the bag
in_bag : (g : Cell) (n : ℕ) (m : Message) → message_at g (n + 1) ≡ Some m → slice_get g.bag n ≡ Some m
in_bag g n m is = by ((n + 1 == 0) || has (n + 1) g.lost) is
  where
    next : n + 1 - 1 ≡ n
    next = omega arith

    by : (b : Bool) → cond b None (slice_get g.bag (n + 1 - 1)) ≡ Some m → slice_get g.bag n ≡ Some m
    by true is = absurd (cc (is))
    by false is = ap (slice_get g.bag) (sym next) ∙ is

-- a list from a place on begins with what is there
drop_suc : {A : Type 0} (xs : List A) (n : ℕ) (x : A) → slice_get xs n ≡ Some x → drop n xs ≡ x ∷ drop (suc n) xs
drop_suc [] n x is = absurd (cc (is))
drop_suc {A = A} (y ∷ ys) zero x is = ap (λ (a : A). a ∷ ys) (own_is is)
drop_suc (y ∷ ys) (suc n) x is = drop_suc ys n x is

drop_get : {A : Type 0} (xs : List A) (n : ℕ) (x : A) → slice_get xs n ≡ Some x → drop n xs ≡ x ∷ drop (n + 1) xs
drop_get xs n x is = rw add-one (drop_suc xs n x is)

none_left : {A : Type 0} (xs : List A) (n : ℕ) → length xs ≡ n → drop n xs ≡ []
none_left xs n is = grind (arith, common_steps)

-- messages that are those after the first ones are the rest of the bag
pub posted_rest : (g : Cell) (n : ℕ) (ps : List PostedOctets) → ArePostedAfter g n ps → map views.post_of (drop n g.bag) ≡ map post_of ps
posted_rest g n [] all = ap (map views.post_of) (none_left g.bag n all)
posted_rest g n (p ∷ ps) all =
    ap (map views.post_of) (drop_get g.bag n one.m (in_bag g n one.m one.there))
    ∙ (λ j. same j ∷ posted_rest g (n + 1) ps all.1 j)
  where
    one : IsPosted g (n + 1) p.to.0 p.octets
    one = all.0

    same : views.post_of one.m ≡ post_of p
    same j = record { to = one.receiver j; octets = ap or_none one.octets_are j }

-- a message that is not there
pub not_received : (g : Cell) (n to : ℕ) (octets : List ℕ) → None ≡ option_map (λ (m : Message). m.receiver) (message_at g n) → ¬ IsPosted g n to octets
not_received g n to octets none is =
    let some = none ∙ ap (option_map (λ (m : Message). m.receiver)) is.there in
    absurd (cc (some))

pub no_message : (g : Cell) (n to : ℕ) (octets : List ℕ) → None ≡ option_and_then octets_of (message_at g n) → ¬ IsPosted g n to octets
no_message g n to octets none is =
    let some = none ∙ ap (option_and_then octets_of) is.there ∙ is.octets_are in
    absurd (cc (some))

-- one that is there has one receiver, and one list of octets
pub receiver_of : (g : Cell) (n to to' : ℕ) (octets : List ℕ) → Some to' ≡ option_map (λ (m : Message). m.receiver) (message_at g n) → IsPosted g n to octets
    → to' ≡ to
receiver_of g n to to' octets some is = own_is (some ∙ ap (option_map (λ (m : Message). m.receiver)) is.there) ∙ is.receiver

pub octets_in : (g : Cell) (n to : ℕ) (octets octets' : List ℕ) → Some octets' ≡ option_and_then octets_of (message_at g n) → IsPosted g n to octets
    → octets' ≡ octets
octets_in g n to octets octets' some is = own_is (some ∙ ap (option_and_then octets_of) is.there ∙ is.octets_are)

-- messages are those after the first ones if the rest are those after more
pub record PostAlike (g : Cell) (first : ℕ) (posts : List PostedOctets) (n : ℕ) (rest : List PostedOctets) : Type 0 where
  pub to : ArePostedAfter g first posts → ArePostedAfter g n rest
  pub back : ArePostedAfter g n rest → ArePostedAfter g first posts

pub post_none : (g : Cell) (first : ℕ) (posts : List PostedOctets) → PostAlike g first posts first posts
post_none g first posts = record { to = λ is. is; back = λ is. is }

pub post_more : (g : Cell) (first : ℕ) (posts rest behind : List PostedOctets) (n next : ℕ) (p : PostedOctets) → PostAlike g first posts n rest
    → rest ≡ p ∷ behind → next ≡ n + 1 → IsPosted g next p.to.0 p.octets → PostAlike g first posts next behind
post_more g first posts rest behind n next p so is after one = record {
  to = λ all. subst (λ (k : ℕ). ArePostedAfter g k behind) (sym after) (subst (λ (l : List PostedOctets). ArePostedAfter g n l) is (so.to all)).1;
  back = λ all. so.back (subst (λ (l : List PostedOctets). ArePostedAfter g n l) (sym is)
      (subst (λ (k : ℕ). IsPosted g k p.to.0 p.octets) after one, subst (λ (k : ℕ). ArePostedAfter g k behind) after all));
}

-- one of them is not there
pub post_other : (g : Cell) (first : ℕ) (posts rest behind : List PostedOctets) (n next : ℕ) (p : PostedOctets) → PostAlike g first posts n rest
    → rest ≡ p ∷ behind → next ≡ n + 1 → ¬ IsPosted g next p.to.0 p.octets → ¬ ArePostedAfter g first posts
post_other g first posts rest behind n next p so is after none all =
    none (subst (λ (k : ℕ). IsPosted g k p.to.0 p.octets) (sym after) (subst (λ (l : List PostedOctets). ArePostedAfter g n l) is (so.to all)).0)

-- there are no more serial numbers
past_all : {A : Type 0} (xs : List A) (n : ℕ) (x : A) → slice_get xs n ≡ Some x → n < length xs
past_all [] n x is = absurd (cc (is))
past_all (y ∷ ys) zero x is = omega arith
past_all (y ∷ ys) (suc n) x is = let less = past_all ys n x is in omega (arith, less)

pub post_past : (g : Cell) (first : ℕ) (posts rest behind : List PostedOctets) (n : ℕ) (p : PostedOctets) → PostAlike g first posts n rest
    → rest ≡ p ∷ behind → length g.bag ≤ n → ¬ ArePostedAfter g first posts
post_past g first posts rest behind n p so is few all =
    let one = (subst (λ (l : List PostedOctets). ArePostedAfter g n l) is (so.to all)).0 in
    let less = past_all g.bag n one.m (in_bag g n one.m one.there) in
    absurd (omega (arith, few, less))

-- ---- members

-- a house that one of these members has is listed
pub listed_any : (x : ℕ) (ms : List Member) → list_any (λ m. m.house.0 == x) ms ≡ is_listed x (members_of ms)
listed_any x [] = refl
listed_any x (m ∷ ms) = ap (λ (b : Bool). (m.house.0 == x) || b) (listed_any x ms)

-- what `==` says of two members
pub member_is : (a b : Member) → Decides (eq-value.it a b) (a ≡ b)
member_is a b = search (comparing, rules)

-- those that leave are these if the rest of them are the rest
pub record LeaveAlike (before : List Member) (left : List HouseNo) (rest : List Member) (leaving : List HouseNo) (now : List Member) : Type 0 where
  pub to : left_members (members_of before) (members_of now) ≡ numbers_of left → left_members (members_of rest) (members_of now) ≡ numbers_of leaving
  pub back : left_members (members_of rest) (members_of now) ≡ numbers_of leaving → left_members (members_of before) (members_of now) ≡ numbers_of left

pub leave_none : (before now : List Member) (left : List HouseNo) → LeaveAlike before left before left now
leave_none before now left = record { to = λ is. is; back = λ is. is }

-- a member stays
stays_here : (m : Member) (ms now : List Member) → is_listed m.house.0 (members_of now) ≡ true
    → left_members (members_of (m ∷ ms)) (members_of now) ≡ left_members (members_of ms) (members_of now)
stays_here m ms now here = rw here refl

leaves_here : (m : Member) (ms now : List Member) → is_listed m.house.0 (members_of now) ≡ false
    → left_members (members_of (m ∷ ms)) (members_of now) ≡ m.house.0 ∷ left_members (members_of ms) (members_of now)
leaves_here m ms now gone = rw gone refl

pub leave_stays : (before rest behind now : List Member) (left leaving : List HouseNo) (m : Member) → LeaveAlike before left rest leaving now
    → rest ≡ m ∷ behind → is_listed m.house.0 (members_of now) ≡ true → LeaveAlike before left behind leaving now
leave_stays before rest behind now left leaving m so is here =
    let same : left_members (members_of rest) (members_of now) ≡ left_members (members_of behind) (members_of now) =
    ap (λ (l : List Member). left_members (members_of l) (members_of now)) is ∙ stays_here m behind now here in
    record { to = λ all. sym same ∙ so.to all; back = λ all. so.back (same ∙ all) }

pub leave_goes : (before rest behind now : List Member) (left leaving others : List HouseNo) (m : Member) (h : HouseNo) → LeaveAlike before left rest leaving now
    → rest ≡ m ∷ behind → is_listed m.house.0 (members_of now) ≡ false → leaving ≡ h ∷ others → h.0 ≡ m.house.0 → LeaveAlike before left behind others now
leave_goes before rest behind now left leaving others m h so is gone first same =
    let here : left_members (members_of rest) (members_of now) ≡ m.house.0 ∷ left_members (members_of behind) (members_of now) =
    ap (λ (l : List Member). left_members (members_of l) (members_of now)) is ∙ leaves_here m behind now gone in
    let there : numbers_of leaving ≡ m.house.0 ∷ numbers_of others = ap numbers_of first ∙ ap (λ (n : ℕ). n ∷ numbers_of others) same in
    record {
      to = λ all. ap (λ (l : List ℕ). drop 1 l) (sym here ∙ so.to all ∙ there);
      back = λ all. so.back (here ∙ ap (λ (l : List ℕ). m.house.0 ∷ l) all ∙ sym there);
    }

-- another house leaves first, or none
pub leave_other : (before rest behind now : List Member) (left leaving : List HouseNo) (m : Member) → LeaveAlike before left rest leaving now
    → rest ≡ m ∷ behind → is_listed m.house.0 (members_of now) ≡ false → ((others : List HouseNo) → leaving ≡ m.house ∷ others → ⊥)
    → left_members (members_of before) (members_of now) ≢ numbers_of left
leave_other before rest behind now left leaving m so is gone other all =
    none_other leaving (sym (ap (λ (l : List Member). left_members (members_of l) (members_of now)) is ∙ leaves_here m behind now gone) ∙ so.to all) other
  where
    none_other : (hs : List HouseNo) → m.house.0 ∷ left_members (members_of behind) (members_of now) ≡ numbers_of hs
        → ((others : List HouseNo) → hs ≡ m.house ∷ others → ⊥) → ⊥
    none_other [] same other = absurd (cc (same))
    none_other (h ∷ hs) same other =
        let first : m.house.0 ≡ h.0 = ap (λ (l : List ℕ). slice_index l 0) same in
        other hs (λ i. (record { 0 = sym first i }) ∷ hs)

-- the console lists the members of an epoch, and those that leave are the ones that were found
pub listed_as : (g : Cell) (d : DirId) (k : EpochNo) (list : EpochList) (before ms : List Member) (e : ℕ) (found : Bool) → IsListed g d.0 e (members_of ms)
    → ms ≡ list.members → OnTrue found (left_members (members_of before) (members_of ms) ≡ numbers_of list.leaving)
    → OnTrue found (IsListedAs g (order.Epoch d k list) (members_of before))
listed_as g d k list before ms e false is same left = tt
listed_as g d k list before ms e true is same left =
    (is.present ∙ ap members_of same, ap (λ (m : List Member). left_members (members_of before) (members_of m)) (sym same) ∙ left)

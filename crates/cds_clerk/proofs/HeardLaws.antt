-- What is seen by what was heard, and readers that agree with it.
use Rattle.std.proofs.Common.{◌≡◌, ◌<◌, ℕ, zero, suc, Bool, true, false, List, [], ◌∷◌, length, map, refl, sym, ap, subst, ◌∙◌, arith}
use Rattle.std.proofs.Math.ListN.{get_or}
use Rattle.std.proofs.lemmas.Bool.Decides.{nat_tests}
use Rattle.std.specs.Prelude.{◌==◌, ◌||◌, IfSome, Option, Some, None, unwrap_or}
use Rattle.std.specs.List.{list_any}
use Rattle.cds_stamps.specs.declared.numbers.HouseNo.{HouseNo}
use Rattle.cell_names.specs.ChildPointers.{Pointer}
use Rattle.resolver.specs.declared.seen.Found.{Found}
use Rattle.resolver.specs.declared.seen.Seen.{Seen}
use Rattle.resolver.specs.declared.walk.End.{End}
use Rattle.resolver.specs.declared.walk.End.TheVariants as ends
use Rattle.resolver.specs.Readers.{Reader, Sight, Unreachable, sight_of}
use Rattle.resolver.specs.SeenEnds.{IsSeen, IsSeenEnd}
use Rattle.resolver.specs.Walks.{Walker, Ends, EndsFrom, found_of}
use Rattle.resolver.specs.WalkEnds.{end_of, walk_end}
use Rattle.resolver.specs.PassWords.{first_walker}
use Rattle.resolver.specs.WalkEndProofs.{one_end, some_end}
use Rattle.script_answers.specs.declared.answer.Answer.{Answer}
use Rattle.clerk_lines.specs.declared.hearing.Told.TheVariants as told
use Rattle.clerk_lines.specs.ShownEntries.{attr_values}
use Rattle.cds_clerk.specs.declared.heard.Heard.{Heard}
use Rattle.cds_clerk.specs.declared.heard.Lack.{Lack}
use Rattle.cds_clerk.specs.declared.heard.Looked.{Looked}
use Rattle.cds_clerk.specs.declared.heard.Looked.TheVariants as looked
use Rattle.cds_clerk.specs.declared.walking.Walked.{Walked}
use Rattle.cds_clerk.specs.declared.walking.Walked.TheVariants as walked
use Rattle.cds_clerk.specs.Agreements.{Agrees, IfEnded, IfWants, IsNeeded}
use Rattle.cds_clerk.specs.Heards.{IfLacks, IfSeen, IsAmong, heard_root, heard_sight, heard_values, sight_after, told_of, values_told}
use Rattle.cds_clerk.specs.HeardProofs.{sight_told}
use Rattle.cds_clerk.specs.Readings.{IfFound, IsShown, least_reader, values_read}

-- ---- looks

-- a look that sees something, or lacks it, does so whatever later ones see
pub stays : (l : Looked) (a b : Option Sight) → sight_after (Some l) a ≡ sight_after (Some l) b
stays (looked.Seen s) a b = refl
stays (looked.Lacks x) a b = refl

-- what such a look sees
pub look_sees : (l : Looked) (later seen : Option Sight) → seen ≡ sight_after (Some l) later → IfSeen l (λ s. seen ≡ Some (sight_of s))
look_sees (looked.Seen s) later seen is = is
look_sees (looked.Lacks x) later seen is = tt

-- what is known of a look that sees this
pub if_seen : (l : Looked) (s : Seen) (P : Seen → Type 0) → l ≡ looked.Seen s → IfSeen l P → P s
if_seen l s P is there = subst (λ (k : Looked). IfSeen k P) is there

-- what is known of a look that lacks what this house says
pub if_lacks : (l : Looked) (x : HouseNo) (P : HouseNo → Type 0) → l ≡ looked.Lacks x → IfLacks l P → P x
if_lacks l x P is there = subst (λ (k : Looked). IfLacks k P) is there

-- a number is the same as itself
same_number : (n : ℕ) → (n == n) ≡ true
same_number n = grind (arith, nat_tests)

one_more : (a b : Bool) → b ≡ true → (a || b) ≡ true
one_more true b is = refl
one_more false b is = is

first_one : (a b : Bool) → a ≡ true → (a || b) ≡ true
first_one true b is = refl
first_one false b is = absurd (cc)

-- the house at a place of a list is among them
among_at : (houses : List HouseNo) (i : ℕ) (d : HouseNo) → i < length houses → IsAmong (get_or houses i d).0 (map (λ h. h.0) houses)
among_at [] i d under = absurd (omega arith)
among_at (h ∷ hs) zero d under =
    first_one (h.0 == h.0) (list_any (λ y. y == h.0) (map (λ h. h.0) hs)) (same_number h.0)
among_at (h ∷ hs) (suc i) d under =
    one_more (h.0 == (get_or hs i d).0) (list_any (λ y. y == (get_or hs i d).0) (map (λ h. h.0) hs)) (among_at hs i d (omega arith))

-- so is what a look lacks, if it lacks what that house says
pub lacks_among : (o : Option Looked) (l : Looked) (houses : List HouseNo) (i : ℕ) (d : HouseNo) → o ≡ Some l → i < length houses
    → IfSome o (λ l. IfLacks l (λ x. x.0 ≡ (get_or houses i d).0)) → IfLacks l (λ x. IsAmong x.0 (map (λ h. h.0) houses))
lacks_among None l houses i d is under of_house = absurd (cc)
lacks_among (Some k) l houses i d is under of_house = by_look l (subst (λ (o : Option Looked). IfSome o (λ l. IfLacks l (λ x. x.0 ≡ (get_or houses i d).0))) is of_house)
  where
    by_look : (l : Looked) → IfLacks l (λ x. x.0 ≡ (get_or houses i d).0) → IfLacks l (λ x. IsAmong x.0 (map (λ h. h.0) houses))
    by_look (looked.Seen s) same = tt
    by_look (looked.Lacks x) same = subst (λ (n : ℕ). IsAmong n (map (λ h. h.0) houses)) (sym same) (among_at houses i d under)

-- ---- walks

-- a walk that begins at the root directory of a reader
pub rooted : (r : Reader) (last : Bool) (name : List (List ℕ)) (root : Pointer) (w : Walker) (e : End) → r.root ≡ Some root → w ≡ first_walker root name
    → EndsFrom r last w e → Ends r last name e
rooted r last name root w e is_root first ends =
    let there : EndsFrom r last (first_walker root name) e = subst (λ (v : Walker). EndsFrom r last v e) first ends in
    subst (λ (at : Option Pointer). EndsFrom r last (record { name = name; at = at; done = 0; came_up = name ∷ []; links = 0 }) e) (sym is_root) there

-- likewise of all readers that agree with what was heard
pub rooted_walk : (h : Heard) (last : Bool) (name : List (List ℕ)) (root : Pointer) (w : Walker) (x : Walked) → heard_root h.root ≡ Some (Some root)
    → w ≡ first_walker root name → IfEnded x (λ e. (r : Reader) → Agrees r h → EndsFrom r last w e)
    → IfEnded x (λ e. (r : Reader) → Agrees r h → Ends r last name e)
rooted_walk h last name root w (walked.Ended e) there first ends = λ r agrees. rooted r last name root w e (agrees.root (Some root) there) first (ends r agrees)
rooted_walk h last name root w walked.LacksRoot there first ends = tt
rooted_walk h last name root w (walked.Lacks q) there first ends = tt

-- what a walk needs from where it begins, it needs from the root directory on
pub needed_from : (h : Heard) (last : Bool) (name : List (List ℕ)) (root : Pointer) (w : Walker) (x : Walked) → heard_root h.root ≡ Some (Some root)
    → w ≡ first_walker root name → IfWants x (IsNeeded h last w)
    → IfWants x (λ q. (other : Pointer) → heard_root h.root ≡ Some (Some other) → IsNeeded h last (first_walker other name) q)
needed_from h last name root w (walked.Ended e) there first needs = tt
needed_from h last name root w walked.LacksRoot there first needs = tt
needed_from h last name root w (walked.Lacks q) there first needs = λ other is.
    let same : root ≡ other = one_root root other (sym there ∙ is) in
    subst (λ (v : Walker). IsNeeded h last v q) (first ∙ ap (λ (p : Pointer). first_walker p name) same) needs
  where
    one_root : (p q : Pointer) → ◌≡◌ {A = Option (Option Pointer)} (Some (Some p)) (Some (Some q)) → p ≡ q
    one_root p q e = cc (e)

-- what is known of a walk that comes to its end
pub if_ended : (x : Walked) (e : End) (P : End → Type 0) → x ≡ walked.Ended e → IfEnded x P → P e
if_ended x e P is there = subst (λ (y : Walked). IfEnded y P) is there

-- what is known of a walk that lacks this
pub if_wants : (x : Walked) (q : Lack) (P : Lack → Type 0) → x ≡ walked.Lacks q → IfWants x P → P q
if_wants x q P is there = subst (λ (y : Walked). IfWants y P) is there

-- ---- one reader that agrees

or_is : {A : Type 0} (o : Option A) (d x : A) → o ≡ Some x → unwrap_or o d ≡ x
or_is None d x is = cc
or_is (Some y) d x is = cc

pub least_agrees : (h : Heard) → Agrees (least_reader h) h
least_agrees h = record {
  root = λ p is. or_is (heard_root h.root) None p is;
  sees = λ at name s is. or_is (heard_sight h at name) Unreachable s is;
  values = λ f attr vs is. or_is (heard_values h f attr) [] vs is;
}

-- of an entry that was shown readers that agree tell the same values
pub values_alike : (h : Heard) (r : Reader) → Agrees r h → (e : Found) (attr : List ℕ) → IsShown h e → r.values e attr ≡ (least_reader h).values e attr
values_alike h r agrees e attr shown =
    let vs : List (List ℕ) = attr_values attr shown.entry.attrs in
    let heard : heard_values h e attr ≡ Some vs = ap (λ o. values_told o attr) shown.told in
    agrees.values e attr vs heard ∙ sym ((least_agrees h).values e attr vs heard)

-- ---- entries that were shown

found_shown : (h : Heard) (last : Bool) (f : Found) → IsSeen (least_reader h) last f → IsShown h f
found_shown h last f seen =
    let shown = sight_told h seen.at f.name f.house.0 f.kind seen.seen in
    record { entry = shown.0; told = subst (λ (d : ℕ). told_of h.answers d f.house.0 f.name ≡ Some (told.Shows shown.0)) seen.dir shown.1 }

-- an entry that a walk finds over what was heard was shown by its house
pub ended_shown : (h : Heard) (last : Bool) (e : End) → IsSeenEnd (least_reader h) last e → IfFound e (IsShown h)
ended_shown h last (ends.Found f) seen = found_shown h last f seen
ended_shown h last (ends.Missing place done) seen = tt
ended_shown h last (ends.Refused why) seen = tt

-- an end to which a walk comes is its end
pub end_is : (r : Reader) (last : Bool) (name : List (List ℕ)) (e : End) → Ends r last name e → end_of r last name ≡ e
unfolding end_of
end_is r last name e there = one_end (some_end r last name).1 there

-- the answer to a read, by the end of the walk
pub read_so : (r : Reader) (attr : List ℕ) (name : List (List ℕ)) (e : End) (a : Answer) → Ends r true name e → a ≡ values_read r attr (found_of e)
    → a ≡ values_read r attr (walk_end r true name)
read_so r attr name e a there is = is ∙ ap (λ (x : End). values_read r attr (found_of x)) (sym (end_is r true name e there))

-- A house of the model, and a message, that a lawful clearinghouse and any message look like.
use Rattle.std.proofs.Common.{◌≡◌, ℕ, zero, suc, ◌+◌, ◌^◌, ◌<◌, Bool, true, false, ◌||◌, ◌==◌, List, [], ◌∷◌, length, Option, Some, None}
use Rattle.std.proofs.Common.{refl, sym, ap, subst, ◌∙◌, arith}
use Rattle.std.specs.Prelude.{IfSome, if◌then◌else◌, slice_get}
use Rattle.std.specs.FinMap.{entries, get}
use Rattle.std.specs.List.{AllByRecursion}
use Rattle.std.specs.Option.{option_map}
use Rattle.std.proofs.lemmas.Bool.Decides.{nat_tests}
use Rattle.cds_stamps.specs.declared.members.Member as declared
use Rattle.cds_stamps.specs.declared.numbers.DirId.{DirId}
use Rattle.cds_stamps.specs.declared.stamp.Stamp.{Stamp}
use Rattle.cds_stamps.specs.declared.mask.MemberMask.{MemberMask}
use Rattle.cds_stamps.specs.Joins.{EachValue}
use Rattle.cds_stamps.specs.Members.{Member, members_of, members_fault, first_unordered, is_listed, place_of}
use Rattle.cds_stamps.specs.Places.{has_place}
use Rattle.cds_stamps.proofs.Masks.{same_place, other_place}
use Rattle.purge_rule.proofs.MapValues.{each_entry}
use Rattle.skulk_core.specs.declared.skulk.Skulk.{Skulk}
use Rattle.skulk_core.specs.declared.skulk.Skulk.TheVariants as skulk
use Rattle.skulk_core.specs.MasterRounds.{IsRound, running_stamp}
use Rattle.cds_messages.specs.Dirs.{dir_total, dir_exact}
use Rattle.cds_records.specs.RecordRanges.{FitsDir, FitsImage}
use Rattle.record_fields.specs.FieldRanges.{ItemsFit}
use Rattle.cds_messages.specs.declared.message.Message.{Message}
use Rattle.cds_messages.specs.declared.message.Body.{Body}
use Rattle.cds_messages.specs.declared.message.Body.TheVariants as body
use Rattle.cell_model.specs.Cells as model
use Rattle.cell_model.specs.Sets.{has}
use Rattle.cell_model.proofs.Lists.{eq_from}
use Rattle.clearinghouse.specs.declared.house.Clearinghouse.{Clearinghouse}
use Rattle.house_directory.specs.declared.states.DirState.{DirState}
use Rattle.house_directory.specs.declared.states.DirState.TheVariants as state
use Rattle.house_directory.specs.declared.states.Held.{Held}
use Rattle.clearinghouse.specs.HouseImages.{image_of, kept_of}
use Rattle.house_directory.specs.LawfulDirectories.{RunsSkulk}
use Rattle.clearinghouse.specs.LawfulHouses.{IsLawful}
use Rattle.house_directory.specs.HouseMessages.{LooksBody, LooksMessage}
use Rattle.house_directory.specs.ModelReplicas.{LooksSlot, StandsPhase, StandsRound}
use Rattle.clearinghouse.specs.ModelHouses.{LooksHouse}
use Rattle.house_directory.proofs.Phases.{above, at_place, ordered, placed, rest_ordered, rest_unlisted}
use Rattle.clearinghouse.proofs.Starting.{got_kept}

-- ---- who has answered

-- the houses at the places that pass the test
abbrev houses_at : (ℕ → Bool) → List Member → List ℕ
houses_at test [] = []
houses_at test (y ∷ ys) = if test 0 then y.house ∷ houses_at (λ p. test (suc p)) ys else houses_at (λ p. test (suc p)) ys

-- a house that is not listed is not among them
none_at : (x : ℕ) (test : ℕ → Bool) (ms : List Member) → is_listed x ms ≡ false → has x (houses_at test ms) ≡ false
none_at x test [] h = refl
none_at x test (y ∷ ys) h = by (y.house == x) refl (none_at x (λ p. test (suc p)) ys) (test 0)
  where
    by : (b : Bool) → (y.house == x) ≡ b → (is_listed x ys ≡ false → has x (houses_at (λ p. test (suc p)) ys) ≡ false) → (t : Bool)
        → has x (if t then y.house ∷ houses_at (λ p. test (suc p)) ys else houses_at (λ p. test (suc p)) ys) ≡ false
    by true is rest t = absurd (let e : true ≡ false = ap (λ b. b || is_listed x ys) (sym is) ∙ h in cc)
    by false is rest true =
        ap (λ b. b || has x (houses_at (λ p. test (suc p)) ys)) (other_place x y.house (λ e. absurd (grind (arith, nat_tests))))
        ∙ rest (ap (λ b. b || is_listed x ys) (sym is) ∙ h)
    by false is rest false = rest (ap (λ b. b || is_listed x ys) (sym is) ∙ h)

-- the house of a place is among them exactly where the place passes
at_test : (place least : ℕ) (ms : List Member) → first_unordered place least ms ≡ None → (test : ℕ → Bool) (p : ℕ) (m : Member) → slice_get ms p ≡ Some m
    → has m.house (houses_at test ms) ≡ test p
at_test place least [] sorted test p m is = absurd (cc)
at_test place least (y ∷ ys) sorted test zero m is =
    let own : y ≡ m = cc in
    subst (λ (m : Member). has m.house (houses_at test (y ∷ ys)) ≡ test 0) own (by (test 0))
  where
    by : (t : Bool) → has y.house (if t then y.house ∷ houses_at (λ p. test (suc p)) ys else houses_at (λ p. test (suc p)) ys) ≡ t
    by true = ap (λ b. b || has y.house (houses_at (λ p. test (suc p)) ys)) (same_place y.house y.house refl)
    by false = none_at y.house (λ p. test (suc p)) ys (rest_unlisted (place + 1) y.house ys (rest_ordered place least y ys sorted))
at_test place least (y ∷ ys) sorted test (suc q) m is =
    by (at_test (place + 1) (y.house + 1) ys (rest_ordered place least y ys sorted) (λ p. test (suc p)) q m is) (test 0)
  where
    by : has m.house (houses_at (λ p. test (suc p)) ys) ≡ test (suc q) → (t : Bool)
        → has m.house (if t then y.house ∷ houses_at (λ p. test (suc p)) ys else houses_at (λ p. test (suc p)) ys) ≡ test (suc q)
    by rest true =
        let high = above (place + 1) (y.house + 1) ys (rest_ordered place least y ys sorted) q m is in
        ap (λ b. b || has m.house (houses_at (λ p. test (suc p)) ys)) (other_place m.house y.house (λ e. absurd (omega (arith, high, e)))) ∙ rest
    by rest false = rest

-- ---- phases

-- the phase of the model that names the houses whose places the mask has
abbrev phase_of : List Member → Skulk → model.Phase
phase_of ms skulk.Idle = model.Idle
phase_of ms (skulk.Gathering t mask) = model.Gathering t (houses_at (has_place mask) ms)
phase_of ms (skulk.Spreading t mask) = model.Spreading t (houses_at (has_place mask) ms)

module _ (me floor : ℕ) (ms : List declared.Member) (lawful : members_fault (members_of ms) ≡ None) where
  round_looks : (t : Stamp) (mask : MemberMask) (place : ℕ) → place_of me (members_of ms) ≡ Some place → IsRound (length ms) place mask
      → StandsRound me (members_of ms) t mask t (houses_at (has_place mask) (members_of ms))
  round_looks t mask place here round = record {
    listed = placed me place (members_of ms) here;
    stamp = refl;
    places = λ p m got. by p m got (m.house == me) refl;
  }
    where
      by : (p : ℕ) (m : Member) → slice_get (members_of ms) p ≡ Some m → (b : Bool) → (m.house == me) ≡ b
          → has_place mask p ≡ (b || has m.house (houses_at (has_place mask) (members_of ms)))
      by p m got true is =
          let same : p ≡ place = eq_from p place (at_place me (members_of ms) lawful me place here p m got ∙ is) in
          ap (has_place mask) same ∙ round.master
      by p m got false is = sym (at_test 1 0 (members_of ms) (ordered me (members_of ms) lawful) (has_place mask) p m got)

  phase_looks : (s : Skulk) → ((t : Stamp) → running_stamp s ≡ Some t → RunsSkulk me floor ms s t) → StandsPhase me (members_of ms) s (phase_of (members_of ms) s)
  phase_looks skulk.Idle runs = tt
  phase_looks (skulk.Gathering t mask) runs = let w = runs t refl in round_looks t mask w.place w.member w.round
  phase_looks (skulk.Spreading t mask) runs = let w = runs t refl in round_looks t mask w.place w.member w.round

-- ---- houses

-- a replica of the model with the epoch, the members and the phase of what is held
abbrev replica_like : Held → model.Replica
replica_like h =
    record { epoch = h.epoch.0; members = members_of h.members; history = []; all_up_to = None; phase = phase_of (members_of h.members) h.skulk }

abbrev slot_like : Option DirState → model.Slot
slot_like None = model.Absent
slot_like (Some (state.Gone e)) = model.Gone e.0
slot_like (Some (state.Held h)) = model.Held (replica_like h)

-- a house of the model with what a clearinghouse has of each directory, but for the histories
abbrev house_like : Clearinghouse → model.House
house_like c = record { node = c.node; clock = 0; floor = c.floor.time; up = true; slots = λ d. slot_like (get c.dirs (record { 0 = d })) }

contents_fit : {K X : Type 0} (P : K → Type 0) (Q : X → Type 0) (es : List (K × X)) → ItemsFit P Q es → AllByRecursion (λ e. Q e.1) es
contents_fit P Q [] h = tt
contents_fit P Q (e ∷ es) h = (h.0.1, contents_fit P Q es h.1)

-- the members of what is held are a member list
members_lawful : (c : Clearinghouse) (q : DirId) (h : Held) → FitsImage (image_of c) → get c.dirs q ≡ Some (state.Held h)
    → members_fault (members_of h.members) ≡ None
members_lawful c q h fits is =
    let each : EachValue FitsDir (image_of c).dirs =
    (each_entry dir_total dir_exact FitsDir (image_of c).dirs).1
    (contents_fit (λ (d : DirId). d.0 < 2 ^ 32) FitsDir (entries (image_of c).dirs) fits.dirs.each) in
    let here : IfSome (option_map kept_of (Some (state.Held h))) FitsDir =
    subst (λ o. IfSome (option_map kept_of o) FitsDir) is (subst (λ o. IfSome o FitsDir) (got_kept c q) (each q)) in
    here.1.lawful

-- a lawful clearinghouse looks like that house in each directory
pub house_looks : (c : Clearinghouse) → IsLawful c → FitsImage (image_of c) → (now : model.House) × ((dir : DirId) → LooksHouse c dir now)
house_looks c lawful fits = (house_like c, λ dir. at dir (get c.dirs dir) refl)
  where
    at : (dir : DirId) (o : Option DirState) → get c.dirs dir ≡ o → LooksSlot c.house.0 o (slot_like o)
    at dir None is = tt
    at dir (Some (state.Gone e)) is = refl
    at dir (Some (state.Held h)) is = record {
      epoch = refl;
      members = refl;
      phase = phase_looks c.house.0 c.floor.time h.members (members_lawful c dir h fits is) h.skulk (lawful dir h is).skulk;
    }

-- ---- messages

abbrev body_like : Body → model.Body
body_like (body.Update f) = model.Update []
body_like (body.Gather t) = model.Gather t
body_like (body.Gathered t r) = model.Gathered t (record { history = []; all_up_to = None })
body_like (body.Spread t r) = model.Spread t (record { history = []; all_up_to = None })
body_like (body.SpreadAck t) = model.SpreadAck t
body_like (body.Advance t) = model.Advance t
body_like (body.Join ms r) = model.Join (members_of ms) (record { history = []; all_up_to = None })
body_like body.Leave = model.Leave

looks_so : (b : Body) → LooksBody b (body_like b)
looks_so (body.Update f) = tt
looks_so (body.Gather t) = refl
looks_so (body.Gathered t r) = refl
looks_so (body.Spread t r) = refl
looks_so (body.SpreadAck t) = refl
looks_so (body.Advance t) = refl
looks_so (body.Join ms r) = refl
looks_so body.Leave = tt

-- a message to a house looks like one of the model
pub message_looks_so : (to : ℕ) (m : Message) → (n : model.Message) × LooksMessage to m n
message_looks_so to m = (
  record { receiver = to; dir = m.dir.0; sender = m.from.0; epoch = m.epoch.0; floor = m.floor; body = body_like m.body },
  record { head = record { receiver = refl; dir = refl; sender = refl; epoch = refl; floor = refl }; body = looks_so m.body },
)

-- A clearinghouse that crashes and starts again, beside the house of the model that does so.
use Rattle.std.proofs.Common.{◌≡◌, ℕ, ◌≤◌, Option, Some, None, refl, sym, ap, subst, ◌∙◌, arith}
use Rattle.std.specs.Prelude.{Bool, IfSome}
use Rattle.std.specs.FinMap.{get}
use Rattle.std.specs.Option.{option_map}
use Rattle.cds_stamps.specs.declared.numbers.DirId.{DirId}
use Rattle.cds_stamps.specs.declared.stamp.Stamp.{Stamp}
use Rattle.purge_rule.specs.Latest.{ReplicaUpTo, StampUpTo}
use Rattle.purge_rule.proofs.MapValues.{greatest_value-≤}
use Rattle.purge_rule.proofs.Times.{latest_time-≤}
use Rattle.purge_rule.proofs.MergeLaws.{purged-up_to}
use Rattle.cds_messages.specs.Dirs.{dir_total, dir_exact}
use Rattle.cds_messages.specs.declared.image.ImageDir.{ImageDir}
use Rattle.cell_model.specs.Cells as model
use Rattle.cell_model.specs.Turns.{crash_slot, crashed_house, started_house}
use Rattle.cell_model.proofs.Fine.{idle_below}
use Rattle.clearinghouse.specs.declared.house.Clearinghouse.{Clearinghouse}
use Rattle.house_directory.specs.declared.states.DirState.{DirState}
use Rattle.house_directory.specs.declared.states.DirState.TheVariants as state
use Rattle.house_directory.specs.declared.states.Held.{Held}
use Rattle.clearinghouse.specs.HouseImages.{image_of, kept_of, house_after_restart, started_of}
use Rattle.clearinghouse.specs.LawfulHouses.{IsLawful}
use Rattle.house_directory.specs.ModelReplicas.{StandsHeld, StandsSlot}
use Rattle.clearinghouse.specs.ModelHouses.{StandsHouse}
use Rattle.house_directory.specs.Times.{latest_in_image, latest_in_kept}
use Rattle.house_directory.proofs.Lawfulness.{each_mark}
use Rattle.clearinghouse.proofs.Starting.{got_kept, got_started, image_valid, started_lawful}

-- ---- what it has

-- what is had of a directory after a crash and a start
abbrev pub again : DirState → DirState
again s = started_of (kept_of s)

mapped_twice : (o : Option DirState) → option_map started_of (option_map kept_of o) ≡ option_map again o
mapped_twice None = refl
mapped_twice (Some s) = refl

-- what it has then of a directory
pub got_again : (c : Clearinghouse) (q : DirId) → get (house_after_restart c).dirs q ≡ option_map again (get c.dirs q)
got_again c q = got_started (image_of c) q ∙ ap (option_map started_of) (got_kept c q) ∙ mapped_twice (get c.dirs q)

-- ---- its floor

-- no time is above the floor of a clearinghouse
abbrev AllUpTo : Clearinghouse → Type 0
AllUpTo c = (q : DirId) (h : Held) → get c.dirs q ≡ Some (state.Held h) → ReplicaUpTo c.floor.time h.replica

-- no time of what is kept of a directory is later than n
abbrev KeptUpTo : ℕ → ImageDir → Type 0
KeptUpTo n d = latest_in_kept d ≤ n

-- then its floor is the greatest time in its image
floor_greatest : (c : Clearinghouse) → AllUpTo c → latest_in_image (image_of c) ≡ c.floor.time
floor_greatest c up =
    let all =
    (greatest_value-≤ dir_total dir_exact latest_in_kept c.floor.time (KeptUpTo c.floor.time) (λ d. (λ h. h, λ h. h)) (image_of c).dirs).1
    (λ q. subst (λ o. IfSome o (KeptUpTo c.floor.time)) (sym (got_kept c q)) (at q (get c.dirs q) refl)) in
    omega (arith, all)
  where
    at : (q : DirId) (o : Option DirState) → get c.dirs q ≡ o → IfSome (option_map kept_of o) (KeptUpTo c.floor.time)
    at q None is = tt
    at q (Some (state.Gone e)) is = omega arith
    at q (Some (state.Held h)) is = (latest_time-≤ c.floor.time h.replica).1 (up q h is)

-- the floor of a lawful clearinghouse stays over a crash and a start
pub floor_stays : (c : Clearinghouse) → IsLawful c → (house_after_restart c).floor ≡ c.floor
floor_stays c lawful = let low = floor_greatest c (λ q h is. (lawful q h is).replica) in λ i. record { time = low i }

-- it is lawful again
pub restarted_lawful : (c : Clearinghouse) → IsLawful c → IsLawful (house_after_restart c)
restarted_lawful c lawful = started_lawful (image_of c) (image_valid c lawful)

-- ---- what it stands for

stamp_below : (n : ℕ) (o : Option Stamp) → ((t : Stamp) → o ≡ Some t → t.time ≤ n) → StampUpTo n o
stamp_below n None below = tt
stamp_below n (Some t) below = below t refl

held_up_to : (me n : ℕ) (h : Held) (r : model.Replica) → StandsHeld me n h r → ReplicaUpTo n h.replica
held_up_to me n h r stands =
    subst (ReplicaUpTo n) (sym stands.replica)
    (record {
      table = purged-up_to n r.history r.all_up_to (each_mark n r.history stands.below.marks);
      all_up_to = stamp_below n r.all_up_to stands.below.all_up_to;
    })

slot_up_to : (me n : ℕ) (o : Option DirState) (s : model.Slot) (h : Held) → StandsSlot me n o s → o ≡ Some (state.Held h) → ReplicaUpTo n h.replica
slot_up_to me n None s h stands is = absurd (cc)
slot_up_to me n (Some (state.Gone e)) s h stands is = absurd (cc)
slot_up_to me n (Some (state.Held x)) model.Absent h stands is = elim stands [ ]
slot_up_to me n (Some (state.Held x)) (model.Gone k) h stands is = elim stands [ ]
slot_up_to me n (Some (state.Held x)) (model.Held r) h stands is =
    let same : x ≡ h = cc in subst (λ (y : Held). ReplicaUpTo n y.replica) same (held_up_to me n x r stands)

-- the floor of one that stands for a house of the model is the greatest time in its image
pub floor_of_image : (c : Clearinghouse) (now : model.House) → StandsHouse c now → latest_in_image (image_of c) ≡ c.floor.time
floor_of_image c now stands =
    floor_greatest c (λ q h is. slot_up_to c.house.0 c.floor.time (get c.dirs q) (now.slots q.0) h (stands.slots q.0) is)

slot_again : (me n : ℕ) (o : Option DirState) (s : model.Slot) → StandsSlot me n o s → StandsSlot me n (option_map again o) (crash_slot s)
slot_again me n None model.Absent h = tt
slot_again me n (Some (state.Gone e)) (model.Gone k) h = h
slot_again me n (Some (state.Held x)) (model.Held r) h = record {
  looks = record { epoch = h.looks.epoch; members = h.looks.members; phase = tt };
  replica = h.replica;
  history = h.history;
  below = idle_below r n h.below;
}
slot_again me n None (model.Gone k) h = elim h [ ]
slot_again me n None (model.Held r) h = elim h [ ]
slot_again me n (Some (state.Gone e)) model.Absent h = elim h [ ]
slot_again me n (Some (state.Gone e)) (model.Held r) h = elim h [ ]
slot_again me n (Some (state.Held x)) model.Absent h = elim h [ ]
slot_again me n (Some (state.Held x)) (model.Gone k) h = elim h [ ]

-- a house that crashes: what starts of its image stands for the house that is down
pub crash_stands : (c : Clearinghouse) (now : model.House) → StandsHouse c now → StandsHouse (house_after_restart c) (crashed_house now)
crash_stands c now stands = record {
  node = stands.node;
  floor = stands.floor ∙ sym low;
  slots = λ d. subst (λ n. StandsSlot c.house.0 n (get (house_after_restart c).dirs (record { 0 = d })) (crash_slot (now.slots d))) (sym low)
      (subst (λ o. StandsSlot c.house.0 c.floor.time o (crash_slot (now.slots d))) (sym (got_again c (record { 0 = d })))
      (slot_again c.house.0 c.floor.time (get c.dirs (record { 0 = d })) (now.slots d) (stands.slots d)));
}
  where
    low : latest_in_image (image_of c) ≡ c.floor.time
    low = floor_of_image c now stands

-- its clock, and whether it is up, count for nothing
pub any_clock : (c : Clearinghouse) (now : model.House) (clock : ℕ) (up : Bool) → StandsHouse c now → StandsHouse c (record now { clock = clock; up = up })
any_clock c now clock up stands = record { node = stands.node; floor = stands.floor; slots = stands.slots }

-- and starts again
pub start_stands : (c : Clearinghouse) (now : model.House) → StandsHouse c now → StandsHouse c (started_house now)
start_stands c now stands = record { node = stands.node; floor = stands.floor; slots = stands.slots }

-- The messages and the images of a cell of the program are the records of the cell of the model
-- that it stands for.
use Rattle.std.proofs.Common.{◌≡◌, ℕ, zero, suc, ◌+◌, ◌≤◌, Bool, true, false, List, [], ◌∷◌, length, append-nil, refl, sym, ap, subst, ◌∙◌, arith, inr}
use Rattle.std.specs.Prelude.{Option, Some, None, Result, Ok, Err, is_some, map, if◌then◌else◌, ◌==◌}
use Rattle.std.specs.Cmp.{nat_cmp_total}
use Rattle.std.specs.FinMap.{get, same_map}
use Rattle.std.specs.List.{list_any, range_with_len}
use Rattle.std.specs.Option.{option_and_then, option_map}
use Rattle.std.specs.Ordering.{eq_by_cmp, nat_cmp}
use Rattle.std.specs.Rc.{rc_slice_items}
use Rattle.std.proofs.lemmas.Bool.Decides.{nat_tests}
use Rattle.std.proofs.lemmas.Cmp.{eq_by_cmp_equiv}
use Rattle.cds_stamps.specs.Keyed.{get-of_all_keys}
use Rattle.cds_stamps.specs.Outcomes.{Answers}
use Rattle.cds_stamps.specs.Members.{Member, members_of}
use Rattle.cds_stamps.specs.declared.members.Member as declared
use Rattle.cds_stamps.specs.declared.numbers.DirId.{DirId}
use Rattle.cds_stamps.specs.declared.numbers.HouseNo.{HouseNo}
use Rattle.directory.specs.Histories.{Mark, entry_of}
use Rattle.directory.specs.declared.entry.Fragment.{Fragment}
use Rattle.purge_rule.specs.Replicas.{IsFragmentOf}
use Rattle.record_fields.specs.Decoding.{Decodes, IsWhole, decode_by, with_memory}
use Rattle.cds_messages.specs.Dirs.{dir_cmp, dir_exact, dir_total}
use Rattle.cds_records.specs.RecordOctets.{image_octets, message_octets}
use Rattle.cds_records.specs.Records.{message}
use Rattle.record_fields.specs.declared.fault.RecordFault.{RecordFault}
use Rattle.cds_messages.specs.declared.image.ImageDir.{ImageDir}
use Rattle.cds_messages.specs.declared.image.ImageDir.TheVariants as kept
use Rattle.cds_messages.specs.declared.message.Body.{Body}
use Rattle.cds_messages.specs.declared.message.Body.TheVariants as body
use Rattle.cds_messages.specs.declared.message.Message.{Message}
use Rattle.cell_model.specs.Cells as model
use Rattle.cell_model.specs.Holdings.{NumbersHold}
use Rattle.cell_model.specs.Sets.{has}
use Rattle.cell_model.specs.Steps.{message_at}
use Rattle.cell_model.proofs.Numbers.{numbers_lem}
use Rattle.cell_model.proofs.Standing.{on_reached}
use Rattle.clearinghouse.specs.HouseImages.{image_of, kept_of, start_of_octets}
use Rattle.house_directory.specs.HouseMessages.{StandsBody, StandsMessage}
use Rattle.house_directory.specs.ModelReplicas.{StandsHeld, StandsSlot}
use Rattle.clearinghouse.specs.declared.house.Clearinghouse.{Clearinghouse}
use Rattle.house_directory.specs.declared.states.DirState.{DirState}
use Rattle.house_directory.specs.declared.states.DirState.TheVariants as state
use Rattle.house_directory.specs.declared.states.Held.{Held}
use Rattle.clearinghouse.proofs.Starting.{got_kept}
use Rattle.std.proofs.Math.ListN.{get_or}
use Rattle.cds_cell.specs.Bags.{MaybeStandsLetter, StandsLetter, letter_at}
use Rattle.cds_cell.specs.CellHouses.{StandsState, StandsUp}
use Rattle.cds_cell.specs.CommandImages.{octets_at}
use Rattle.cds_cell.specs.Marks.{IsImageOf}
use Rattle.cds_cell.specs.PrivateHouses.{octets_in}
use Rattle.cds_cell.specs.PrivateSteps.{IsPlaceOf}
use Rattle.cds_cell.specs.Recorded.{body_of, declared_members, first_dirs, image_at, kept_in, message_of, octets_of, update_body}
use Rattle.cds_cell.specs.ModelCells.{MaybeStandsHouse, Stands, house_of}
use Rattle.cds_cell.specs.declared.bag.Letter.{Letter}
use Rattle.cds_cell.specs.declared.cell.Cell.{Cell}
use Rattle.cds_cell.specs.declared.house.CellHouse.{CellHouse}
use Rattle.cds_cell.specs.declared.house.HouseState.{HouseState}
use Rattle.cds_cell.specs.declared.house.HouseState.TheVariants as house_state
use Rattle.cds_cell.proofs.Houses.{has_number, house_there}

-- ---- members

-- the members that the model sees are declared so
members_declared : (ms : List declared.Member) → declared_members (members_of ms) ≡ ms
members_declared [] = refl
members_declared (m ∷ ms) = ap (λ (ns : List declared.Member). m ∷ ns) (members_declared ms)

-- those of a list of the model that they stand for
pub stands_declared : (ns : List Member) (ms : List declared.Member) → ns ≡ members_of ms → declared_members ns ≡ ms
stands_declared ns ms is = ap declared_members is ∙ members_declared ms

-- ---- messages

update_recorded : (marks : List Mark) (f : Fragment) → IsFragmentOf marks f → update_body marks ≡ Some (body.Update f)
update_recorded [] f is = absurd (cc (is.entry))
update_recorded (m ∷ ms) f is =
    ap (λ (n : List ℕ). option_map (λ e. body.Update (record { name = n; entry = e })) (entry_of (m ∷ ms) n)) is.named.0
    ∙ ap (option_map (λ e. body.Update (record { name = f.name; entry = e }))) is.entry

-- what a message carries is what the model's carries, as a record
body_recorded : (b : Body) (n : model.Body) → StandsBody b n → body_of n ≡ Some b
body_recorded (body.Update f) (model.Update marks) is = update_recorded marks f is
body_recorded (body.Gather t) (model.Gather u) is = ap (λ s. Some (body.Gather s)) (sym is)
body_recorded (body.Gathered t r) (model.Gathered u c) is = rw (is.0, is.1) refl
body_recorded (body.Spread t r) (model.Spread u c) is = rw (is.0, is.1) refl
body_recorded (body.SpreadAck t) (model.SpreadAck u) is = ap (λ s. Some (body.SpreadAck s)) (sym is)
body_recorded (body.Advance t) (model.Advance u) is = ap (λ s. Some (body.Advance s)) (sym is)
body_recorded (body.Join ms r) (model.Join ns c) is = rw (stands_declared ns ms (sym is.0), is.1) refl
body_recorded body.Leave model.Leave is = refl
body_recorded (body.Update f) _ is = elim is [ ]
body_recorded (body.Gather t) _ is = elim is [ ]
body_recorded (body.Gathered t r) _ is = elim is [ ]
body_recorded (body.Spread t r) _ is = elim is [ ]
body_recorded (body.SpreadAck t) _ is = elim is [ ]
body_recorded (body.Advance t) _ is = elim is [ ]
body_recorded (body.Join ms r) _ is = elim is [ ]
body_recorded body.Leave _ is = elim is [ ]

-- a message that stands for one of the model is that one as a record
pub message_recorded : (to : ℕ) (m : Message) (n : model.Message) → StandsMessage to m n → message_of n ≡ Some m
message_recorded to m n stands =
    rw (body_recorded m.body n.body stands.body) (ap Some (λ i. record {
      dir = ap (λ (d : ℕ). record { 0 = d }) stands.head.dir i;
      from = ap (λ (h : ℕ). record { 0 = h }) stands.head.sender i;
      epoch = ap (λ (e : ℕ). record { 0 = e }) stands.head.epoch i;
      floor = stands.head.floor i;
      body = m.body;
    }))

letter_recorded : (l : Letter) (m : model.Message) → StandsLetter l m → octets_of m ≡ Some (rc_slice_items l.shared)
letter_recorded l m stands =
    ap (option_map message_octets) (message_recorded l.to.0 stands.carried m stands.stands) ∙ ap Some (sym stands.octets)

-- ---- what a house has

held_recorded : (me floor : ℕ) (h : Held) (r : model.Replica) → StandsHeld me floor h r → kept_in (model.Held r) ≡ Some (kept_of (state.Held h))
held_recorded me floor h r stands =
    rw (stands_declared r.members h.members stands.looks.members, sym stands.replica)
    (ap (λ (e : ℕ). Some (kept.Held (record { 0 = e }) h.members h.replica)) stands.looks.epoch)

-- what a house has of a directory is kept as the model's is
pub slot_recorded : (me floor : ℕ) (o : Option DirState) (s : model.Slot) → StandsSlot me floor o s → kept_in s ≡ option_map kept_of o
slot_recorded me floor None model.Absent is = refl
slot_recorded me floor (Some (state.Gone e)) (model.Gone k) is = ap (λ (n : ℕ). Some (kept.Gone (record { 0 = n }))) is
slot_recorded me floor (Some (state.Held h)) (model.Held r) is = held_recorded me floor h r is
slot_recorded me floor None _ is = elim is [ ]
slot_recorded me floor (Some (state.Gone e)) _ is = elim is [ ]
slot_recorded me floor (Some (state.Held h)) _ is = elim is [ ]

-- ---- images

-- a directory that is none of the first ones has a greater number
beyond_first : (q : DirId) (a n : ℕ) → list_any (eq_by_cmp dir_cmp q) (map (λ d. record { 0 = d }) (range_with_len a n)) ≡ false → a ≤ q.0 → a + n ≤ q.0
beyond_first q a zero none low = omega (arith, low)
beyond_first q a (suc n) none low =
    let here : eq_by_cmp dir_cmp q (record { 0 = a }) ≡ false = grind (arith, none) in
    let there = beyond_first q (a + 1) n (grind (arith, none)) (next (q.0 == a) refl here) in
    omega (arith, there)
  where
    next : (b : Bool) → (q.0 == a) ≡ b → eq_by_cmp dir_cmp q (record { 0 = a }) ≡ false → a + 1 ≤ q.0
    next true is off =
        let same : q.0 ≡ a = grind (arith, nat_tests, is) in
        absurd (let on : eq_by_cmp nat_cmp q.0 q.0 ≡ true = (eq_by_cmp_equiv nat_cmp_total).refl q.0 in cc (on, off, same))
    next false is off = grind (arith, nat_tests, is, low)

module _ (g : model.Cell) (numbers : NumbersHold g) (x : ℕ) where
  -- what is kept of a directory
  abbrev kept_at : DirId → Option ImageDir
  kept_at d = kept_in ((g.house x).slots d.0)

  -- nothing is kept of directories that are not there
  none_beyond : (q : DirId) → list_any (eq_by_cmp dir_cmp q) (first_dirs g.next_dir) ≡ false → kept_at q ≡ None
  none_beyond q off =
      let far = beyond_first q 0 g.next_dir off (omega arith) in
      ap kept_in ((numbers.nothing q.0 (numbers.unknown q.0 (inr (omega (arith, far))))).absent x)

  -- the image keeps of each directory what the house has of it
  pub got_recorded : (q : DirId) → get (image_at g x).dirs q ≡ kept_at q
  got_recorded q = get-of_all_keys dir_total dir_exact (first_dirs g.next_dir) kept_at none_beyond q

  -- the image of a clearinghouse that stands for the house is the house's
  pub image_recorded : (h : HouseNo) (c : Clearinghouse) → h.0 ≡ x → StandsUp h c (g.house x) → image_of c ≡ image_at g x
  image_recorded h c is up i = record {
    house = (up.number ∙ ap (λ (n : ℕ). record { 0 = n }) is) i;
    node = sym up.stands.node i;
    floor = sym up.stands.floor i;
    dirs = same_map dir_total dir_exact (image_of c).dirs (image_at g x).dirs
        (λ q. got_kept c q ∙ sym (slot_recorded c.house.0 c.floor.time (get c.dirs q) ((g.house x).slots q.0) (up.stands.slots q.0))
        ∙ sym (got_recorded q)) i;
  }

  -- octets that are kept stand for a house that is down: they are its image
  pub image_kept : (h : HouseNo) (octets : List ℕ) → h.0 ≡ x → StandsState h (house_state.Down octets) (g.house x) → octets ≡ image_octets (image_at g x)
  image_kept h octets is stands = stands.1.1.image ∙ ap image_octets (image_recorded h stands.1.0 is stands.1.2)

-- ---- cells

-- the house that is found has its number
pub found_number : (hs : List CellHouse) (x : ℕ) (h : CellHouse) → house_of hs x ≡ Some h → h.house.0 ≡ x
found_number [] x h is = absurd (cc (is))
found_number (k ∷ hs) x h is = by_test (k.house.0 == x) refl is (found_number hs x h)
  where
    by_test : (b : Bool) → (k.house.0 == x) ≡ b → (if b then Some k else house_of hs x) ≡ Some h → (house_of hs x ≡ Some h → h.house.0 ≡ x) → h.house.0 ≡ x
    by_test true on is rest =
        let same : k ≡ h = cc in
        let there : k.house.0 ≡ x = grind (arith, nat_tests, on) in
        ap (λ (h : CellHouse). h.house.0) (sym same) ∙ there
    by_test false off is rest = rest is

-- a house of a cell: it was made, and what there is of it stands for the model's
pub record IsHouse (g : model.Cell) (x : ℕ) (s : HouseState) : Type 0 where
  pub made : has x g.made ≡ true
  pub number : HouseNo
  pub is : number.0 ≡ x
  pub stands : StandsState number s (g.house x)

module _ (c : Cell) (g : model.Cell) (stands : Stands c g) where
  -- the numbers of directories in the cell
  pub numbers_stand : NumbersHold g
  numbers_stand = on_reached NumbersHold numbers_lem g stands.reached

  -- the octets of a message are those of the model's
  pub octets_recorded : (n : ℕ) → option_map (λ l. rc_slice_items l.shared) (letter_at c.bag n) ≡ option_and_then octets_of (message_at g n)
  octets_recorded n = at (letter_at c.bag n) (message_at g n) (stands.stands.bag.letters n)
    where
      at : (o : Option Letter) (p : Option model.Message) → MaybeStandsLetter o p
          → option_map (λ l. rc_slice_items l.shared) o ≡ option_and_then octets_of p
      at None None is = refl
      at (Some l) (Some m) is = sym (letter_recorded l m is)
      at None (Some m) is = elim is [ ]
      at (Some l) None is = elim is [ ]

  -- and so is its receiver
  pub receiver_recorded : (n : ℕ) → option_map (λ h. h.0) (option_map (λ l. l.to) (letter_at c.bag n)) ≡ option_map (λ m. m.receiver) (message_at g n)
  receiver_recorded n = at (letter_at c.bag n) (message_at g n) (stands.stands.bag.letters n)
    where
      at : (o : Option Letter) (p : Option model.Message) → MaybeStandsLetter o p
          → option_map (λ h. h.0) (option_map (λ l. l.to) o) ≡ option_map (λ m. m.receiver) p
      at None None is = refl
      at (Some l) (Some m) is = ap Some (sym is.stands.head.receiver)
      at None (Some m) is = elim is [ ]
      at (Some l) None is = elim is [ ]

  -- whether a house is found, and what there is of it
  pub house_recorded : (x : ℕ) (s : HouseState) → option_map (λ h. h.state) (house_of c.houses.items x) ≡ Some s → IsHouse g x s
  house_recorded x s is = at (house_of c.houses.items x) refl is (stands.stands.houses x)
    where
      at : (o : Option CellHouse) → house_of c.houses.items x ≡ o → option_map (λ h. h.state) o ≡ Some s → MaybeStandsHouse o (g.house x) → IsHouse g x s
      at None found is there = absurd (cc (is))
      at (Some h) found is there =
          let same : h.state ≡ s = cc in
          record {
            made = ap (has x) stands.stands.made ∙ has_number c.houses.items x ∙ ap is_some found;
            number = h.house;
            is = found_number c.houses.items x h found;
            stands = subst (λ t. StandsState h.house t (g.house x)) same there.state;
          }

  pub no_house_recorded : (x : ℕ) → option_map (λ h. h.state) (house_of c.houses.items x) ≡ None → has x g.made ≡ false
  no_house_recorded x is = ap (has x) stands.stands.made ∙ has_number c.houses.items x ∙ none (house_of c.houses.items x) is
    where
      none : (o : Option CellHouse) → option_map (λ h. h.state) o ≡ None → is_some o ≡ false
      none None is = refl
      none (Some h) is = absurd (cc (is))

  -- the image of a house that is up is the model's
  pub image_of_up : (x : ℕ) (home : Clearinghouse) → option_map (λ h. h.state) (house_of c.houses.items x) ≡ Some (house_state.Up home)
      → image_of home ≡ image_at g x
  image_of_up x home is =
      let house = house_recorded x (house_state.Up home) is in
      image_recorded g numbers_stand x house.number home house.is house.stands.1

  -- and so are the octets that are kept of one that is down
  pub image_of_down : (x : ℕ) (octets : List ℕ) → option_map (λ h. h.state) (house_of c.houses.items x) ≡ Some (house_state.Down octets)
      → octets ≡ image_octets (image_at g x)
  image_of_down x octets is =
      let house = house_recorded x (house_state.Down octets) is in
      image_kept g numbers_stand x house.number octets house.is house.stands

  -- ---- nothing is at fault

  -- the octets of a message in the bag decode to it
  pub letter_decodes : (n : ℕ) (octets : List ℕ) → option_map (λ l. rc_slice_items l.shared) (letter_at c.bag n) ≡ Some octets
      → Decodes message octets (with_memory (decode_by message octets)) → (m : Message) × (decode_by message octets ≡ Ok (m, length octets))
  letter_decodes n octets is decodes = by_letter (letter_at c.bag n) (message_at g n) is (stands.stands.bag.letters n)
    where
      answered : (m : Message) (r : Result (Message × ℕ) RecordFault) → Answers (with_memory r) (Ok (m, length octets)) → r ≡ Ok (m, length octets)
      answered m (Ok d) is = cc
      answered m (Err f) is = absurd (cc)

      by_letter : (o : Option Letter) (p : Option model.Message) → option_map (λ l. rc_slice_items l.shared) o ≡ Some octets → MaybeStandsLetter o p
          → (m : Message) × (decode_by message octets ≡ Ok (m, length octets))
      by_letter None None is there = absurd (cc)
      by_letter None (Some m) is there = elim there [ ]
      by_letter (Some l) None is there = elim there [ ]
      by_letter (Some l) (Some m) is there =
          let same : rc_slice_items l.shared ≡ octets = cc in
          let whole : IsWhole message there.carried octets = subst (λ xs. IsWhole message there.carried xs) same there.whole in
          (there.carried, answered there.carried (decode_by message octets) (decodes.only there.carried octets [] whole (sym (append-nil octets))))

  -- a house that is down starts of its octets
  pub house_starts : (x : ℕ) (octets : List ℕ) → option_map (λ h. h.state) (house_of c.houses.items x) ≡ Some (house_state.Down octets)
      → (home : Clearinghouse) × (start_of_octets octets ≡ Ok home)
  house_starts x octets is = let house = house_recorded x (house_state.Down octets) is in (house.stands.1.0, house.stands.1.1.starts)

-- ---- octets

-- the octets of the image of what there is of a house are those of the model's house
octets_stand : (g : model.Cell) (x : ℕ) (number : HouseNo) (s : HouseState) → NumbersHold g → number.0 ≡ x → StandsState number s (g.house x)
    → octets_in s ≡ octets_at g x
octets_stand g x number (house_state.Up c) numbers is stands = ap image_octets (image_recorded g numbers x number c is stands.1)
octets_stand g x number (house_state.Down octets) numbers is stands = image_kept g numbers x number octets is stands

-- so are those of the house at a place
pub placed_octets : (c : Cell) (g : model.Cell) (x at : ℕ) (h : CellHouse) → Stands c g → IsPlaceOf c.houses.items x at → h ≡ get_or c.houses.items at h
    → octets_in h.state ≡ octets_at g x
placed_octets c g x at h s place here =
    let there = house_there c.houses.items x at h place here in
    octets_stand g x h.house h.state (numbers_stand c g s) there.1
    (subst (λ o. MaybeStandsHouse o (g.house x)) there.0 (s.stands.houses x)).state

-- so are octets that are an image
pub image_octets_in : (octets : List ℕ) (s : HouseState) → IsImageOf octets s → octets ≡ octets_in s
image_octets_in octets (house_state.Up c) image = image.0
image_octets_in octets (house_state.Down kept) image = image

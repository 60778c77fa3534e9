-- A clearinghouse after a call at one directory.
use Rattle.std.proofs.Common.{◌≡◌, ℕ, ◌≤◌, Bool, true, false, cond, List, Option, Some, None, Result, Ok, Err, refl, sym, ap, subst, ◌∙◌, arith}
use Rattle.std.specs.Prelude.{◌==◌, IfOk, OnOk, OnErr, is_err}
use Rattle.std.specs.FinMap.{FinMap, get, insert, get-insert}
use Rattle.std.specs.Ordering.{eq_by_cmp}
use Rattle.std.specs.declared.alloc.AllocError.{AllocError}
use Rattle.std.proofs.lemmas.Bool.Decides.{nat_tests}
use Rattle.cds_stamps.specs.declared.numbers.DirId.{DirId}
use Rattle.cds_stamps.specs.declared.stamp.Floor.{Floor}
use Rattle.cds_stamps.specs.Keyed.{ties_are_equal}
use Rattle.cds_messages.specs.Dirs.{dir_cmp, dir_total, dir_exact}
use Rattle.cell_model.specs.Cells as model
use Rattle.cell_model.specs.Commands as command
use Rattle.cell_model.specs.Turns.{Turn, HouseStep, Stays, Turns, with_slot}
use Rattle.cell_model.proofs.Fine.{below_later}
use Rattle.clearinghouse.specs.declared.house.Clearinghouse.{Clearinghouse}
use Rattle.house_directory.specs.declared.outgoing.Outgoing.{Outgoing}
use Rattle.house_directory.specs.declared.posted.Posted.{Posted}
use Rattle.house_directory.specs.declared.states.DirState.{DirState}
use Rattle.house_directory.specs.declared.states.DirState.TheVariants as state
use Rattle.house_directory.specs.declared.states.Held.{Held}
use Rattle.house_directory.specs.LawfulDirectories.{IsLawfulHeld}
use Rattle.clearinghouse.specs.LawfulHouses.{IsLawful}
use Rattle.house_directory.specs.HouseMessages.{StandEach, posts_if}
use Rattle.clearinghouse.specs.HouseLetters.{posts_at, sender_of}
use Rattle.house_directory.specs.ModelReplicas.{LooksSlot, StandsHeld, StandsSlot}
use Rattle.clearinghouse.specs.ModelHouses.{StandsHouse}
use Rattle.clearinghouse.specs.HouseSteps.{IsCall, IsStep, IsTurn}
use Rattle.house_directory.specs.DirectoryTurns.{HeldStep, HeldTurn}
use Rattle.clearinghouse.specs.PrivateTurns.{Heeds, SameHouse}
use Rattle.house_directory.specs.DirectoryTakes.{held_in}
use Rattle.house_directory.proofs.Lawfulness.{lawful_later}
use Rattle.house_directory.proofs.Maps.{if_ok_map, unchanged}
use Rattle.house_directory.proofs.Posts.{posts_none}

-- ---- what stands for a slot

-- with a later floor
pub slot_later : (me a b : ℕ) (o : Option DirState) (s : model.Slot) → a ≤ b → StandsSlot me a o s → StandsSlot me b o s
slot_later me a b None model.Absent le h = tt
slot_later me a b (Some (state.Gone e)) (model.Gone k) le h = h
slot_later me a b (Some (state.Held x)) (model.Held r) le h =
    record { looks = h.looks; replica = h.replica; history = h.history; below = below_later r a b le h.below }
slot_later me a b None (model.Gone k) le h = elim h [ ]
slot_later me a b None (model.Held r) le h = elim h [ ]
slot_later me a b (Some (state.Gone e)) model.Absent le h = elim h [ ]
slot_later me a b (Some (state.Gone e)) (model.Held r) le h = elim h [ ]
slot_later me a b (Some (state.Held x)) model.Absent le h = elim h [ ]
slot_later me a b (Some (state.Held x)) (model.Gone k) le h = elim h [ ]

-- what stands for a slot looks like it
pub slot_looks : (me floor : ℕ) (o : Option DirState) (s : model.Slot) → StandsSlot me floor o s → LooksSlot me o s
slot_looks me floor None model.Absent h = tt
slot_looks me floor (Some (state.Gone e)) (model.Gone k) h = h
slot_looks me floor (Some (state.Held x)) (model.Held r) h = h.looks
slot_looks me floor None (model.Gone k) h = elim h [ ]
slot_looks me floor None (model.Held r) h = elim h [ ]
slot_looks me floor (Some (state.Gone e)) model.Absent h = elim h [ ]
slot_looks me floor (Some (state.Gone e)) (model.Held r) h = elim h [ ]
slot_looks me floor (Some (state.Held x)) model.Absent h = elim h [ ]
slot_looks me floor (Some (state.Held x)) (model.Gone k) h = elim h [ ]

-- a fact of a slot, by what the house has of the directory
pub by_slot : (me floor : ℕ) (o : Option DirState) (s : model.Slot) (P : model.Slot → Type 0) → StandsSlot me floor o s
    → (held_in o ≡ None → P model.Absent) → ((e : ℕ) → held_in o ≡ None → P (model.Gone e))
    → ((h : Held) (r : model.Replica) → o ≡ Some (state.Held h) → s ≡ model.Held r → StandsHeld me floor h r → P (model.Held r)) → P s
by_slot me floor None model.Absent P h absent gone held = absent refl
by_slot me floor (Some (state.Gone e)) (model.Gone k) P h absent gone held = gone k refl
by_slot me floor (Some (state.Held x)) (model.Held r) P h absent gone held = held x r refl refl h
by_slot me floor None (model.Gone k) P h absent gone held = elim h [ ]
by_slot me floor None (model.Held r) P h absent gone held = elim h [ ]
by_slot me floor (Some (state.Gone e)) model.Absent P h absent gone held = elim h [ ]
by_slot me floor (Some (state.Gone e)) (model.Held r) P h absent gone held = elim h [ ]
by_slot me floor (Some (state.Held x)) model.Absent P h absent gone held = elim h [ ]
by_slot me floor (Some (state.Held x)) (model.Gone k) P h absent gone held = elim h [ ]

-- ---- a house that has something else of one directory

-- it stands for the house of the model that has the same
pub house_holds : (c : Clearinghouse) (now : model.House) (dir : DirId) (floor : Floor) (s : DirState) (slot : model.Slot) → StandsHouse c now
    → c.floor.time ≤ floor.time → StandsSlot c.house.0 floor.time (Some s) slot
    → StandsHouse (record c { floor = floor; dirs = insert c.dirs dir s }) (with_slot now dir.0 floor.time slot)
house_holds c now dir floor s slot stands le here = record { node = stands.node; floor = refl; slots = λ e. at e (e == dir.0) refl }
  where
    read : (e : ℕ) → get (insert c.dirs dir s) (record { 0 = e }) ≡ cond (eq_by_cmp dir_cmp (record { 0 = e }) dir) (Some s) (get c.dirs (record { 0 = e }))
    read e = get-insert dir_total c.dirs dir s (record { 0 = e })

    tie : (e : ℕ) (b : Bool) → (e == dir.0) ≡ b → eq_by_cmp dir_cmp (record { 0 = e }) dir ≡ b
    tie e b is = grind (arith, is, nat_tests)

    at : (e : ℕ) (b : Bool) → (e == dir.0) ≡ b
        → StandsSlot c.house.0 floor.time (get (insert c.dirs dir s) (record { 0 = e })) (cond b slot (now.slots e))
    at e true is =
        subst (λ o. StandsSlot c.house.0 floor.time o slot)
        (sym (read e ∙ ap (λ b. cond b (Some s) (get c.dirs (record { 0 = e }))) (tie e true is))) here
    at e false is =
        subst (λ o. StandsSlot c.house.0 floor.time o (now.slots e)) (sym (read e ∙ ap (λ b. cond b (Some s) (get c.dirs (record { 0 = e }))) (tie e false is)))
        (slot_later c.house.0 c.floor.time floor.time (get c.dirs (record { 0 = e })) (now.slots e) le (stands.slots e))

-- it has that of the directory
pub got_here : (m : FinMap dir_cmp DirState) (dir : DirId) (s : DirState) → get (insert m dir s) dir ≡ Some s
got_here m dir s = get-insert dir_total m dir s dir ∙ ap (λ b. cond b (Some s) (get m dir)) (itself dir)
  where
    itself : (d : DirId) → eq_by_cmp dir_cmp d d ≡ true
    itself d = grind (arith, nat_tests)

-- and of any other what it had
pub got_there : (m : FinMap dir_cmp DirState) (dir d : DirId) (s : DirState) → (d ≡ dir → ⊥) → get (insert m dir s) d ≡ get m d
got_there m dir d s other = get-insert dir_total m dir s d ∙ by (eq_by_cmp dir_cmp d dir) refl
  where
    by : (b : Bool) → eq_by_cmp dir_cmp d dir ≡ b → cond b (Some s) (get m d) ≡ get m d
    by true is = absurd (other (ties_are_equal dir_exact d dir is))
    by false is = refl

-- it is lawful where what it has is
pub house_lawful : (c : Clearinghouse) (dir : DirId) (floor : Floor) (s : DirState) → c.floor.time ≤ floor.time
    → ((h : Held) → s ≡ state.Held h → IsLawfulHeld c.house.0 floor.time h) → IsLawful c → IsLawful (record c { floor = floor; dirs = insert c.dirs dir s })
house_lawful c dir floor s le here lawful d h got = by (eq_by_cmp dir_cmp d dir) refl
  where
    by : (b : Bool) → eq_by_cmp dir_cmp d dir ≡ b → IsLawfulHeld c.house.0 floor.time h
    by true is =
        here h (let e : Some s ≡ Some (state.Held h) = sym (get-insert dir_total c.dirs dir s d ∙ ap (λ b. cond b (Some s) (get c.dirs d)) is) ∙ got in cc)
    by false is =
        lawful_later c.house.0 c.floor.time floor.time h le
        (lawful d h (sym (get-insert dir_total c.dirs dir s d ∙ ap (λ b. cond b (Some s) (get c.dirs d)) is) ∙ got))

-- a turn at the directory is a turn of the house
pub turn_of : (c : Clearinghouse) (now : model.House) (dir : DirId) (new : Held) (floor : Floor) (turn : Turn) (o : Option Outgoing) → StandsHouse c now
    → c.floor.time ≤ floor.time → HeldTurn turn now c.house dir new floor.time o
    → IsTurn turn (record c { floor = floor; dirs = insert c.dirs dir (state.Held new) })
    (posts_at (record c { floor = floor; dirs = insert c.dirs dir (state.Held new) }) dir o)
turn_of c now dir new floor turn o stands le turns = record {
  stands =
      subst (StandsHouse (record c { floor = floor; dirs = insert c.dirs dir (state.Held new) })) (sym turns.house)
      (house_holds c now dir floor (state.Held new) (model.Held turns.replica) stands le turns.stands);
  each =
      subst (λ s. StandEach (posts_if (record { house = c.house; dir = dir; floor = floor.time }) s o) turn.posts)
      (sym (got_here c.dirs dir (state.Held new))) turns.each;
}

-- a step at the directory is a step of the house
pub step_of : (A : command.Answer → Type 0) (step : HouseStep) (c : Clearinghouse) (now : model.House) (dir : DirId) (old new : Held) (floor : Floor)
    (o : Option Outgoing) → StandsHouse c now → get c.dirs dir ≡ Some (state.Held old) → c.floor.time ≤ floor.time
    → HeldStep A step now c.house dir old new floor.time o
    → IsStep A step c (record c { floor = floor; dirs = insert c.dirs dir (state.Held new) })
    (posts_at (record c { floor = floor; dirs = insert c.dirs dir (state.Held new) }) dir o)
step_of A (Stays answer) c now dir old new floor o stands here le step =
    let dirs : insert c.dirs dir (state.Held new) ≡ c.dirs = ap (λ h. insert c.dirs dir (state.Held h)) step.1 ∙ unchanged c.dirs dir (state.Held old) here in
    let low : floor.time ≡ c.floor.time = step.2 ∙ stands.floor in (
      step.0,
      λ i. record { house = c.house; node = c.node; floor = record { time = low i }; dirs = dirs i; spent = c.spent },
      ap (posts_at (record c { floor = floor; dirs = insert c.dirs dir (state.Held new) }) dir) step.3
          ∙ posts_none (sender_of (record c { floor = floor; dirs = insert c.dirs dir (state.Held new) }) dir) (get (insert c.dirs dir (state.Held new)) dir),
    )
step_of A (Turns turn) c now dir old new floor o stands here le step = (step.0, turn_of c now dir new floor turn o stands le step.1)

-- what is held is what the house has
pub held_is : (o : Option DirState) (x h : Held) → Some x ≡ held_in o → o ≡ Some (state.Held h) → x ≡ h
held_is o x h is got = let e : Some x ≡ Some h = is ∙ ap held_in got in cc

-- where this is held of a directory, the house has that directory, and holds just this of it
pub have_held : (o : Option DirState) (x : Held) → Some x ≡ held_in o → o ≡ Some (state.Held x)
have_held None x is = absurd (cc)
have_held (Some (state.Gone e)) x is = absurd (cc)
have_held (Some (state.Held h)) x is = let same : x ≡ h = cc in ap (λ h. Some (state.Held h)) (sym same)

-- a house with the same of the directory, and the same floor, is the same
pub same_house : (c : Clearinghouse) (dir : DirId) (old new : Held) (floor : Floor) → Some old ≡ held_in (get c.dirs dir) → new ≡ old → floor ≡ c.floor
    → record c { floor = floor; dirs = insert c.dirs dir (state.Held new) } ≡ c
same_house c dir old new floor here same low =
    let dirs : insert c.dirs dir (state.Held new) ≡ c.dirs =
    ap (λ h. insert c.dirs dir (state.Held h)) same ∙ unchanged c.dirs dir (state.Held old) (have_held (get c.dirs dir) old here) in
    λ i. record { house = c.house; node = c.node; floor = low i; dirs = dirs i; spent = c.spent }

-- it is lawful where what is held stays so
pub kept_at : (c : Clearinghouse) (dir : DirId) (old new : Held) (floor : Floor) → Some old ≡ held_in (get c.dirs dir) → c.floor.time ≤ floor.time
    → (IsLawfulHeld c.house.0 c.floor.time old → IsLawfulHeld c.house.0 floor.time new) → IsLawful c
    → IsLawful (record c { floor = floor; dirs = insert c.dirs dir (state.Held new) })
kept_at c dir old new floor here le keeps lawful =
    house_lawful c dir floor (state.Held new) le
    (λ h is. let same : new ≡ h = cc in subst (IsLawfulHeld c.house.0 floor.time) same (keeps (lawful dir old (have_held (get c.dirs dir) old here)))) lawful

-- of a call that may want for memory, after which all is as it was
pub kept_by : {T : Type 0} (r : Result T AllocError) (me a b : ℕ) (old new : Held) → OnOk r (IsLawfulHeld me a old → IsLawfulHeld me b new)
    → OnErr r (new ≡ old) → OnErr r (b ≡ a) → IsLawfulHeld me a old → IsLawfulHeld me b new
kept_by (Ok x) me a b old new keeps same low h = keeps h
kept_by (Err e) me a b old new keeps same low h = subst (λ n. IsLawfulHeld me n new) (sym low) (subst (IsLawfulHeld me a) (sym same) h)

-- a step at the directory, in a call that may want for memory
pub at_held : {T : Type 0} (A : T → command.Answer → Type 0) (out : T → Option Outgoing) (step : model.Slot → HouseStep) (c : Clearinghouse) (now : model.House)
    (dir : DirId) (old new : Held) (floor : Floor) (r : Result T AllocError) → Some old ≡ held_in (get c.dirs dir) → c.floor.time ≤ floor.time
    → StandsHouse c now
    → ((q : model.Replica) → now.slots dir.0 ≡ model.Held q → StandsHeld c.house.0 c.floor.time old q
    → IfOk r (λ x. HeldStep (A x) (step (model.Held q)) now c.house dir old new floor.time (out x)))
    → IfOk r (λ x. IsStep (A x) (step (now.slots dir.0)) c (record c { floor = floor; dirs = insert c.dirs dir (state.Held new) })
    (posts_at (record c { floor = floor; dirs = insert c.dirs dir (state.Held new) }) dir (out x)))
at_held A out step c now dir old new floor r here le stands steps =
    by_slot c.house.0 c.floor.time (get c.dirs dir) (now.slots dir.0)
    (λ s. IfOk r (λ x. IsStep (A x) (step s) c (record c { floor = floor; dirs = insert c.dirs dir (state.Held new) })
    (posts_at (record c { floor = floor; dirs = insert c.dirs dir (state.Held new) }) dir (out x))))
    (stands.slots dir.0)
    (λ none. absurd (let e : Some old ≡ None = here ∙ none in cc))
    (λ e none. absurd (let e : Some old ≡ None = here ∙ none in cc))
    (λ h q got is holds. if_ok_map _ _ r
    (λ x s. step_of (A x) (step (model.Held q)) c now dir old new floor (out x) stands (have_held (get c.dirs dir) old here) le s)
    (steps q is (subst (λ h. StandsHeld c.house.0 c.floor.time h q) (sym (held_is (get c.dirs dir) old h here got)) holds)))

-- and in one that always returns
pub at_held_always : (A : command.Answer → Type 0) (o : Option Outgoing) (step : model.Slot → HouseStep) (c : Clearinghouse) (now : model.House)
    (dir : DirId) (old new : Held) (floor : Floor) → Some old ≡ held_in (get c.dirs dir) → c.floor.time ≤ floor.time → StandsHouse c now
    → ((q : model.Replica) → now.slots dir.0 ≡ model.Held q → StandsHeld c.house.0 c.floor.time old q
    → HeldStep A (step (model.Held q)) now c.house dir old new floor.time o)
    → IsStep A (step (now.slots dir.0)) c (record c { floor = floor; dirs = insert c.dirs dir (state.Held new) })
    (posts_at (record c { floor = floor; dirs = insert c.dirs dir (state.Held new) }) dir o)
at_held_always A o step c now dir old new floor here le stands steps =
    at_held (λ (x : Unit {0}). A) (λ x. o) step c now dir old new floor (Ok tt) here le stands steps

-- ---- out of memory in a part of a call

module _ {T : Type 0} (mid new : Clearinghouse) (done result : Result T AllocError) (is : result ≡ done) (heeds : Heeds mid new done) where
  -- what holds of the value
  pub heed_ok : (P : T → Clearinghouse → Type 0) → IfOk done (λ x. P x mid) → IfOk result (λ x. P x new)
  heed_ok P h = subst (λ r. IfOk r (λ x. P x new)) (sym is) (at done heeds.same h)
    where
      at : (r : Result T AllocError) → OnOk r (new ≡ mid) → IfOk r (λ x. P x mid) → IfOk r (λ x. P x new)
      at (Ok x) same h = subst (P x) (sym same) h
      at (Err e) same h = tt

  -- it is lawful still
  pub heed_lawful : IsLawful mid → IsLawful new
  heed_lawful h = at done heeds.same heeds.spent
    where
      at : (r : Result T AllocError) → OnOk r (new ≡ mid) → OnErr r (new ≡ record mid { spent = true }) → IsLawful new
      at (Ok x) same spent = subst IsLawful (sym same) h
      at (Err e) same spent = subst IsLawful (sym spent) h

  -- and the call leaves who it is
  pub heed_call : (old : Clearinghouse) → SameHouse old mid → old.spent ≡ false → IsCall old new result
  heed_call old who unspent = at done is heeds.same heeds.spent
    where
      at : (r : Result T AllocError) → result ≡ r → OnOk r (new ≡ mid) → OnErr r (new ≡ record mid { spent = true }) → IsCall old new result
      at (Ok x) is same spent = record {
        house = ap (λ (c : Clearinghouse). c.house) same ∙ who.house;
        node = ap (λ (c : Clearinghouse). c.node) same ∙ who.node;
        spent = ap (λ (c : Clearinghouse). c.spent) same ∙ who.spent ∙ unspent ∙ sym (ap is_err is);
        usable = subst (λ r. IfOk r (λ _. old.spent ≡ false)) (sym is) unspent;
      }
      at (Err e) is same spent = record {
        house = ap (λ (c : Clearinghouse). c.house) spent ∙ who.house;
        node = ap (λ (c : Clearinghouse). c.node) spent ∙ who.node;
        spent = ap (λ (c : Clearinghouse). c.spent) spent ∙ sym (ap is_err is);
        usable = subst (λ r. IfOk r (λ _. old.spent ≡ false)) (sym is) tt;
      }

-- a step of a call, after the copies are posted
pub posted_step : {T : Type 0} (A : command.Answer → Type 0) (step : HouseStep) (old mid new : Clearinghouse) (posts given : List Posted)
    (done : Result T AllocError)
    (x : T) → done ≡ Ok x → Heeds mid new done → posts ≡ given → IsStep A step old mid posts → IsStep A step old new given
posted_step A step old mid new posts given done x is heeds same h =
    let stays : new ≡ mid = subst (λ r. OnOk r (new ≡ mid)) is heeds.same in
    subst (IsStep A step old new) same (subst (λ c. IsStep A step old c posts) (sym stays) h)

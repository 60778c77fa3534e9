-- Each command that mends a directory of a script's cell can be said in a line.
use Rattle.std.proofs.Common.{◌≡◌, ℕ, zero, suc, ◌+◌, ◌*◌, ◌<◌, ◌≤◌, Bool, true, false, ◌||◌, List, [], ◌∷◌, ◌++◌, length, refl, ap}
use Rattle.std.proofs.Common.{arith, if◌then◌else◌}
use Rattle.std.specs.Prelude.{◌==◌}
use Rattle.std.specs.List.{AllByRecursion}
use Rattle.cds_stamps.specs.declared.members.MemberKind.TheVariants.{Master}
use Rattle.cds_stamps.specs.Members.{Member, is_secondary, is_listed, master_of, most_members, others_of, secondaries_of}
use Rattle.cell_model.specs.Cells.{Cell}
use Rattle.cell_model.specs.Commands.{Command, Epoch, Start}
use Rattle.cell_model.specs.Mending.{deliver_commands, mend_commands, skulk_commands, skulking_at, start_commands}
use Rattle.cell_model.specs.Sets.{has}
use Rattle.cell_model.specs.Steps.{is_down}
use Rattle.cell_model.proofs.Lists.{eq_to, or_true}
use Rattle.cell_model.proofs.PresentLists.{IsProper, house_listed, listed_house}
use Rattle.cell_model.proofs.Terms.{In-others_of}
use Rattle.mend_replay.specs.Readiness.{is_ready}
use Rattle.cell_script.specs.Words.{most_serial}
use Rattle.mend_replay.specs.MendLines.{mends}
use Rattle.command_lines.specs.SayableCommands.{IsDirectory, IsHouse}
use Rattle.mend_replay.specs.SayableCommands.{CanBeSaid}
use Rattle.mend_replay.proofs.ReadBack.{CanMend, can_mend}
use Rattle.mend_model.specs.Leaving.{kept_members, leaving_commands}
use Rattle.mend_model.proofs.KeptMembers.{house_kept, kept_few, kept_house, kept_once}
use Rattle.mend_replay.proofs.MemberKinds.{NotSecondary, among_others, kinds_known, master_apart}
use Rattle.mend_replay.specs.PrivateLines.{led_member}

abbrev pub AllSaid : List Command → Type 0
AllSaid = AllByRecursion CanBeSaid

both : (P : Command → Type 0) (cs ds : List Command) → AllByRecursion P cs → AllByRecursion P ds → AllByRecursion P (cs ++ ds)
both P [] ds first second = second
both P (c ∷ cs) ds first second = (first.0, both P cs ds first.1 second)

starts_said : (g : Cell) (ms : List Member) → ((x : ℕ) → is_listed x ms ≡ true → IsHouse x) → AllSaid (start_commands g ms)
starts_said g [] are = tt
starts_said g (y ∷ ys) are = by_state (starts_said g ys (λ x l. are x (or_true (y.house == x) (is_listed x ys) l))) (is_down g y.house)
  where
    by_state : AllSaid (start_commands g ys) → (b : Bool) → AllSaid (if b then Start y.house ∷ start_commands g ys else start_commands g ys)
    by_state rest true = (are y.house (ap (λ (b : Bool). b || is_listed y.house ys) (eq_to y.house y.house refl)), rest)
    by_state rest false = rest

deliveries_said : (first count : ℕ) → first + count ≤ most_serial → AllSaid (deliver_commands first count)
deliveries_said first zero few = tt
deliveries_said first (suc n) few = ((omega arith, omega (arith, few)), deliveries_said (first + 1) n (omega (arith, few)))

others_fewer : (h : ℕ) (ms : List Member) → is_listed h ms ≡ true → length (others_of h ms) < length ms
others_fewer h [] listed = absurd (cc (listed))
others_fewer h (y ∷ ys) listed = by_house (λ listed. others_fewer h ys listed) (y.house == h) listed
  where
    at_most : (ys : List Member) → length (others_of h ys) ≤ length ys
    at_most [] = omega arith
    at_most (y ∷ ys) = by_test (at_most ys) (y.house == h)
      where
        by_test : length (others_of h ys) ≤ length ys → (b : Bool) → length (if b then others_of h ys else y.house ∷ others_of h ys) ≤ suc (length ys)
        by_test rest true = omega (arith, rest)
        by_test rest false = omega (arith, rest)

    by_house : (is_listed h ys ≡ true → length (others_of h ys) < length ys) → (b : Bool) → (b || is_listed h ys) ≡ true
        → length (if b then others_of h ys else y.house ∷ others_of h ys) < suc (length ys)
    by_house rest true listed = let few = at_most ys in omega (arith, few)
    by_house rest false listed = let few = rest listed in omega (arith, few)

starts_mend : (g : Cell) (ms : List Member) → AllByRecursion CanMend (start_commands g ms)
starts_mend g [] = tt
starts_mend g (y ∷ ys) = by_state (starts_mend g ys) (is_down g y.house)
  where
    by_state : AllByRecursion CanMend (start_commands g ys) → (b : Bool) → AllByRecursion CanMend (if b then Start y.house ∷ start_commands g ys else start_commands g ys)
    by_state rest true = (tt, rest)
    by_state rest false = rest

deliveries_mend : (first count : ℕ) → AllByRecursion CanMend (deliver_commands first count)
deliveries_mend first zero = tt
deliveries_mend first (suc n) = (tt, deliveries_mend (first + 1) n)

delivering_count : (n first : ℕ) → length (deliver_commands first n) ≡ n
delivering_count zero first = refl
delivering_count (suc n) first = ap (λ (c : ℕ). suc c) (delivering_count n (first + 1))

-- among the members that stay, the new master is not secondary
led_apart : (hs : List ℕ) (m : ℕ) (ms : List Member) → NotSecondary m (kept_members hs m ms)
led_apart hs m [] = tt
led_apart hs m (y ∷ ys) = by_place (led_apart hs m ys) (has y.house hs)
  where
    by_place : NotSecondary m (kept_members hs m ys) → (b : Bool) → NotSecondary m (if b then kept_members hs m ys else led_member m y ∷ kept_members hs m ys)
    by_place rest true = rest
    by_place rest false = (λ same. ap (λ (b : Bool). is_secondary (if b then Master else y.kind)) same, rest)

module _ (g : Cell) (d : ℕ) (dir : IsDirectory d) (some : 1 ≤ g.top d) (proper : IsProper g.made (g.top d) (g.present d))
    (houses : (x : ℕ) → has x g.made ≡ true → IsHouse x) where
  abbrev list : List Member
  list = g.present d

  abbrev m : ℕ
  m = master_of (g.present d)

  listed_houses : (x : ℕ) → is_listed x (g.present d) ≡ true → IsHouse x
  listed_houses x l = houses x (proper.known x l)

  headed : is_listed (master_of (g.present d)) (g.present d) ≡ true
  headed = proper.headed (λ none. absurd (omega (arith, none, some)))

  others_few : length (others_of (master_of (g.present d)) (g.present d)) < most_members
  others_few = let fewer = others_fewer m list headed in let few = proper.few in omega (arith, fewer, few)

  skulk_said : (first : ℕ) → first + 4 * length (others_of (master_of (g.present d)) (g.present d)) ≤ most_serial
      → AllSaid (skulk_commands (master_of (g.present d)) d first (length (others_of (master_of (g.present d)) (g.present d))))
  skulk_said first few = ((listed_houses m headed, dir), deliveries_said first (4 * length (others_of m list)) few)

  epoch_said : CanBeSaid (Epoch d (master_of (g.present d)) (others_of (master_of (g.present d)) (g.present d)) (secondaries_of (g.present d)))
  epoch_said = (
    dir,
    listed_houses m headed,
    λ x i. listed_houses x (In-others_of x m list i).1,
    among_others (secondaries_of list) m list (kinds_known list proper.once) (master_apart list proper.once (listed_houses m headed).0),
    others_few,
  )

  mending_said : length g.bag + 315 ≤ most_serial → AllSaid (mend_commands g d)
  mending_said few =
      let n : ℕ = length (others_of m list) in
      let less : n ≤ 63 = let fewer = others_few in omega (arith, fewer) in
      both CanBeSaid (start_commands g list) (Epoch d m (others_of m list) (secondaries_of list) ∷ (deliver_commands (length g.bag) n ++ skulk_commands m d (length g.bag + n) n))
      (starts_said g list listed_houses) (
        epoch_said,
        both CanBeSaid (deliver_commands (length g.bag) n) (skulk_commands m d (length g.bag + n) n)
            (deliveries_said (length g.bag) n (omega (arith, less, few))) (skulk_said (length g.bag + n) (omega (arith, less, few))),
      )

  -- each of them can be said
  pub mends_said : length g.bag + 315 ≤ most_serial → AllSaid (mends g d)
  mends_said few = by_test (is_ready g d)
    where
      by_test : (b : Bool) → AllSaid (if b then skulking_at g d else mend_commands g d)
      by_test true = let fewer = others_few in skulk_said (length g.bag) (omega (arith, fewer, few))
      by_test false = mending_said few

  -- and each of them mends, whatever the serials are
  pub mends_mend : AllByRecursion CanMend (mends g d)
  mends_mend = by_test (is_ready g d)
    where
      skulk_mends : (first n : ℕ) → AllByRecursion CanMend (skulk_commands (master_of (g.present d)) d first n)
      skulk_mends first n = (tt, deliveries_mend first (4 * n))

      by_test : (b : Bool) → AllByRecursion CanMend (if b then skulking_at g d else mend_commands g d)
      by_test true = skulk_mends (length g.bag) (length (others_of m list))
      by_test false =
          let n : ℕ = length (others_of m list) in
          both CanMend (start_commands g list) (Epoch d m (others_of m list) (secondaries_of list) ∷ (deliver_commands (length g.bag) n ++ skulk_commands m d (length g.bag + n) n))
          (starts_mend g list) (
            can_mend (Epoch d m (others_of m list) (secondaries_of list)) epoch_said,
            both CanMend (deliver_commands (length g.bag) n) (skulk_commands m d (length g.bag + n) n) (deliveries_mend (length g.bag) n) (skulk_mends (length g.bag + n) n),
          )

  -- there are at most 6 n - 3 of them
  pub skulk_few : length (skulking_at g d) + 3 ≤ 6 * length (g.present d)
  skulk_few =
      let fewer = others_fewer m list headed in
      let count = delivering_count (4 * length (others_of m list)) (length g.bag) in
      omega (arith, fewer, count)

  module _ (hs : List ℕ) (h : ℕ) (listed : is_listed h (g.present d) ≡ true) (stays : has h hs ≡ false) where
    abbrev kept : List Member
    kept = kept_members hs h (g.present d)

    kept_houses : (x : ℕ) → is_listed x (kept_members hs h (g.present d)) ≡ true → IsHouse x
    kept_houses x l = listed_houses x (house_listed x list (kept_house hs h x list (listed_house x kept l)).0)

    kept_head : is_listed h (kept_members hs h (g.present d)) ≡ true
    kept_head = house_listed h kept (house_kept hs h h list (listed_house h list listed) stays)

    kept_others : length (others_of h (kept_members hs h (g.present d))) < most_members
    kept_others =
        let fewer = others_fewer h kept kept_head in
        let part = kept_few hs h list in
        let few = proper.few in omega (arith, fewer, part, few)

    left_epoch_said : CanBeSaid (Epoch d h (others_of h (kept_members hs h (g.present d))) (secondaries_of (kept_members hs h (g.present d))))
    left_epoch_said = (
      dir,
      kept_houses h kept_head,
      λ x i. kept_houses x (In-others_of x h kept i).1,
      among_others (secondaries_of kept) h kept (kinds_known kept (kept_once hs h list proper.once)) (led_apart hs h list),
      kept_others,
    )

    -- each command that leaves houses out can be said
    pub leaving_said : length g.bag + 315 ≤ most_serial → AllSaid (leaving_commands g d hs h)
    leaving_said few =
        let n : ℕ = length (others_of h kept) in
        let q : ℕ = length g.bag + length (others_of h list) in
        let less : n ≤ 63 = let fewer = kept_others in omega (arith, fewer) in
        let posted : length (others_of h list) ≤ 63 =
        let fewer = others_fewer h list listed in let most = proper.few in omega (arith, fewer, most) in
        both CanBeSaid (start_commands g kept) (Epoch d h (others_of h kept) (secondaries_of kept) ∷ (deliver_commands (length g.bag) n ++ skulk_commands h d q n))
        (starts_said g kept kept_houses) (
          left_epoch_said,
          both CanBeSaid (deliver_commands (length g.bag) n) (skulk_commands h d q n)
              (deliveries_said (length g.bag) n (omega (arith, less, few)))
              ((kept_houses h kept_head, dir), deliveries_said q (4 * n) (omega (arith, less, posted, few))),
        )

    -- and each of them mends, whatever the serials are
    pub leaving_mend : AllByRecursion CanMend (leaving_commands g d hs h)
    leaving_mend =
        let n : ℕ = length (others_of h kept) in
        let q : ℕ = length g.bag + length (others_of h list) in
        both CanMend (start_commands g kept) (Epoch d h (others_of h kept) (secondaries_of kept) ∷ (deliver_commands (length g.bag) n ++ skulk_commands h d q n))
        (starts_mend g kept) (
          can_mend (Epoch d h (others_of h kept) (secondaries_of kept)) left_epoch_said,
          both CanMend (deliver_commands (length g.bag) n) (skulk_commands h d q n) (deliveries_mend (length g.bag) n) (tt, deliveries_mend q (4 * n)),
        )

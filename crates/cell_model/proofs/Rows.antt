-- What a house comes to at a message, row by row: each test of a message is dealt with here, once.
use Rattle.std.proofs.Common.{◌≡◌, ℕ, ◌<◌, ◌≤◌, Bool, true, false, ◌&&◌, cond, List, [], ◌∷◌, Option, Some, None, refl, subst, arith, nat_lt, nat_le}
use Rattle.cds_stamps.specs.declared.stamp.Stamp.{Stamp}
use Rattle.cds_stamps.specs.Members.{Member, others_of, is_listed, since_in}
use Rattle.cds_stamps.specs.Stamps.{is_stamp}
use Rattle.directory.specs.Histories.{Mark}
use Rattle.cell_model.specs.Sets.{In}
use Rattle.cell_model.specs.Cells.{Phase, Idle, Gathering, Spreading, Replica, Slot, Absent, Gone, Held, House, Copy, Body, Update, Gather, Gathered}
use Rattle.cell_model.specs.Cells.{Spread, SpreadAck, Advance, Join, Leave, Message}
use Rattle.cell_model.specs.Commands.{Answer, Late, Early, Stale, NoReplica, Foreign, Complete}
use Rattle.cell_model.specs.Turns.{HouseStep, Stays, with_marks, copy_of, merge_copy, later_up_to, takes, take_and_answer, reply, to_others, all_answered, take_gathered}
use Rattle.cell_model.specs.Turns.{take_ack, take_own, take_other, replica_of_copy, kept_at_join, unless_late, take_join, take_leave, take_in, take}
use Rattle.cell_model.proofs.Lists.{stamp_from, answered_all}

-- a message of the epoch that the house holds, from a member
pub record Own (now : House) (m : Message) (b : Body) (r : Replica) : Type 0 where
  pub is : m.body ≡ b
  pub held : now.slots m.dir ≡ Held r
  pub epoch : m.epoch ≡ r.epoch
  pub member : is_listed m.sender r.members ≡ true

-- a Join or a Leave that is not late
pub record Timely (now : House) (m : Message) (b : Body) : Type 0 where
  pub is : m.body ≡ b
  pub gone : (e : ℕ) → now.slots m.dir ≡ Gone e → e < m.epoch

-- the answers at which a message changes nothing, but for the one that says that its sender is no
-- member
abbrev pub IsPassed : Answer → Type 0
IsPassed (Late k e) = Unit {0}
IsPassed (Early k e) = Unit {0}
IsPassed (Stale t r) = Unit {0}
IsPassed NoReplica = Unit {0}
IsPassed _ = ⊥

-- all others of the receiver have answered, the sender too
abbrev pub AllIn : Message → Replica → List ℕ → Type 0
AllIn m r a = (x : ℕ) → In x (others_of m.receiver r.members) → In x (m.sender ∷ a)

-- what a message comes to
pub data Row (now : House) (m : Message) : HouseStep → Type 0 where
  passes : (a : Answer) → IsPassed a → Row now m (Stays a)
  unlisted : (r : Replica) → now.slots m.dir ≡ Held r → m.epoch ≡ r.epoch → is_listed m.sender r.members ≡ false → Row now m (Stays Foreign)
  outside : (ms : List Member) (copy : Copy) → m.body ≡ Join ms copy → (is_listed m.receiver ms && is_listed m.sender ms) ≡ false
      → Row now m (Stays Foreign)
  updates : (marks : List Mark) (r : Replica) → Own now m (Update marks) r → Row now m (take_and_answer now m (Held (with_marks r marks)) [])
  gives : (t : Stamp) (r : Replica) → Own now m (Gather t) r → Row now m (take_and_answer now m (Held r) (reply now m (Gathered t (copy_of r))))
  gathers : (t : Stamp) (copy : Copy) (a : List ℕ) (r : Replica) → Own now m (Gathered t copy) r → r.phase ≡ Gathering t a
      → Row now m (take_and_answer now m (Held (record (merge_copy r copy) { phase = Gathering t (m.sender ∷ a) })) [])
  turns : (t : Stamp) (copy : Copy) (a : List ℕ) (r : Replica) → Own now m (Gathered t copy) r → r.phase ≡ Gathering t a → AllIn m r a
      → Row now m
      (take_and_answer now m (Held (record (merge_copy r copy) { phase = Spreading t [] })) (to_others now m r (Spread t (copy_of (merge_copy r copy)))))
  gathers_again : (t : Stamp) (copy : Copy) (a : List ℕ) (r : Replica) → Own now m (Gathered t copy) r → r.phase ≡ Spreading t a
      → Row now m (take_and_answer now m (Held (merge_copy r copy)) [])
  spreads : (t : Stamp) (copy : Copy) (r : Replica) → Own now m (Spread t copy) r
      → Row now m (take_and_answer now m (Held (merge_copy r copy)) (reply now m (SpreadAck t)))
  acks_early : (t : Stamp) (a : List ℕ) (r : Replica) → Own now m (SpreadAck t) r → r.phase ≡ Gathering t a → Row now m (take_and_answer now m (Held r) [])
  acks : (t : Stamp) (a : List ℕ) (r : Replica) → Own now m (SpreadAck t) r → r.phase ≡ Spreading t a
      → Row now m (take_and_answer now m (Held (record r { phase = Spreading t (m.sender ∷ a) })) [])
  completes : (t : Stamp) (a : List ℕ) (r : Replica) → Own now m (SpreadAck t) r → r.phase ≡ Spreading t a → AllIn m r a
      → Row now m (takes now m (Held (record r { all_up_to = later_up_to r.all_up_to t; phase = Idle })) (to_others now m r (Advance t)) (Complete t))
  advances : (t : Stamp) (r : Replica) → Own now m (Advance t) r → Row now m (take_and_answer now m (Held (record r { all_up_to = later_up_to r.all_up_to t })) [])
  copies : (ms : List Member) (copy : Copy) → Timely now m (Join ms copy)
      → ((r : Replica) → now.slots m.dir ≡ Held r → (r.epoch ≤ m.epoch) × (r.epoch < since_in ms m.receiver 0))
      → Row now m (take_and_answer now m (Held (replica_of_copy m ms copy)) [])
  keeps : (ms : List Member) (copy : Copy) (r : Replica) → Timely now m (Join ms copy) → now.slots m.dir ≡ Held r → r.epoch ≤ m.epoch
      → since_in ms m.receiver 0 ≤ r.epoch → Row now m (take_and_answer now m (Held (kept_at_join m ms copy r)) [])
  leaves : Timely now m Leave → ((r : Replica) → now.slots m.dir ≡ Held r → r.epoch < m.epoch) → Row now m (take_and_answer now m (Gone m.epoch) [])

if_row : (now : House) (m : Message) (b : Bool) (x y : HouseStep) → (b ≡ true → Row now m x) → (b ≡ false → Row now m y) → Row now m (cond b x y)
if_row now m true x y k l = k refl
if_row now m false x y k l = l refl

late_row : (now : House) (m : Message) (r : Option ℕ) (x : HouseStep) → (r ≡ None → Row now m x) → Row now m (unless_late m r x)
late_row now m None x k = k refl
late_row now m (Some e) x k = passes (Late m.epoch e) tt

-- ---- epochs

-- a number is at most another where the test says so
pub le_from : (a b : ℕ) → nat_le a b ≡ true → a ≤ b
le_from a b e = grind arith

le_not : (a b : ℕ) → nat_le a b ≡ false → b < a
le_not a b e = grind arith

lt_not : (a b : ℕ) → nat_lt a b ≡ false → b ≤ a
lt_not a b e = grind arith

-- a message that is not late is of a later epoch, or of the same
not_reached : (k e : ℕ) (b : Bool) → nat_le k e ≡ b → cond b (Some e) None ≡ None → e < k
not_reached k e true q z = absurd (cc)
not_reached k e false q z = le_not k e q

not_passed : (k e : ℕ) (b : Bool) → nat_lt k e ≡ b → cond b (Some e) None ≡ None → e ≤ k
not_passed k e true q z = absurd (cc)
not_passed k e false q z = lt_not k e q

-- ---- messages of the epoch that is held

gathered_row : (now : House) (m : Message) (t : Stamp) (copy : Copy) (r : Replica) (p : Phase) → Own now m (Gathered t copy) r → r.phase ≡ p
    → Row now m (take_gathered now m t copy r p)
gathered_row now m t copy r Idle k phase = passes (Stale t None) tt
gathered_row now m t copy r (Gathering u a) k phase =
    if_row now m (is_stamp t u) _ _
    (λ e. let k' = subst (λ (s : Stamp). Own now m (Gathered s copy) r) (stamp_from t u e) k in
    if_row now m (all_answered (others_of m.receiver r.members) (m.sender ∷ a)) _ _
    (λ all. turns u copy a r k' phase (answered_all (others_of m.receiver r.members) (m.sender ∷ a) all))
    (λ _. gathers u copy a r k' phase))
    (λ _. passes (Stale t (Some u)) tt)
gathered_row now m t copy r (Spreading u a) k phase =
    if_row now m (is_stamp t u) _ _
    (λ e. gathers_again u copy a r (subst (λ (s : Stamp). Own now m (Gathered s copy) r) (stamp_from t u e) k) phase)
    (λ _. passes (Stale t (Some u)) tt)

ack_row : (now : House) (m : Message) (t : Stamp) (r : Replica) (p : Phase) → Own now m (SpreadAck t) r → r.phase ≡ p → Row now m (take_ack now m t r p)
ack_row now m t r Idle k phase = passes (Stale t None) tt
ack_row now m t r (Gathering u a) k phase =
    if_row now m (is_stamp t u) _ _
    (λ e. acks_early u a r (subst (λ (s : Stamp). Own now m (SpreadAck s) r) (stamp_from t u e) k) phase)
    (λ _. passes (Stale t (Some u)) tt)
ack_row now m t r (Spreading u a) k phase =
    if_row now m (is_stamp t u) _ _
    (λ e. let k' = subst (λ (s : Stamp). Own now m (SpreadAck s) r) (stamp_from t u e) k in
    if_row now m (all_answered (others_of m.receiver r.members) (m.sender ∷ a)) _ _
    (λ all. completes u a r k' phase (answered_all (others_of m.receiver r.members) (m.sender ∷ a) all))
    (λ _. acks u a r k' phase))
    (λ _. passes (Stale t (Some u)) tt)

-- neither a Join nor a Leave
abbrev pub IsOther : Body → Type 0
IsOther (Join ms copy) = ⊥
IsOther Leave = ⊥
IsOther _ = Unit {0}

-- a message of the epoch that is held comes to a row
pub own_row : (now : House) (m : Message) (r : Replica) (b : Body) → IsOther b → Own now m b r → Row now m (take_own now m r b)
own_row now m r (Update marks) o k = updates marks r k
own_row now m r (Gather t) o k = gives t r k
own_row now m r (Gathered t copy) o k = gathered_row now m t copy r r.phase k refl
own_row now m r (Spread t copy) o k = spreads t copy r k
own_row now m r (SpreadAck t) o k = ack_row now m t r r.phase k refl
own_row now m r (Advance t) o k = advances t r k
own_row now m r (Join ms copy) o k = elim o [ ]
own_row now m r Leave o k = elim o [ ]

-- and so does any message but a Join and a Leave
pub other_row : (now : House) (m : Message) (b : Body) (s : Slot) → IsOther b → m.body ≡ b → now.slots m.dir ≡ s → Row now m (take_other now m b s)
other_row now m b Absent o is e = passes NoReplica tt
other_row now m b (Gone d) o is e = passes NoReplica tt
other_row now m b (Held r) o is e =
    if_row now m (nat_lt m.epoch r.epoch) _ _ (λ _. passes _ tt)
    (λ low. if_row now m (nat_lt r.epoch m.epoch) _ _ (λ _. passes _ tt)
    (λ high. let p = lt_not _ _ low in let q = lt_not _ _ high in
    if_row now m (is_listed m.sender r.members) _ _
    (λ member. own_row now m r b o (record { is = is; held = e; epoch = omega arith; member = member }))
    (λ no. unlisted r e (omega arith) no)))

-- ---- Joins and Leaves

-- a Join
pub join_row : (now : House) (m : Message) (ms : List Member) (copy : Copy) (s : Slot) → m.body ≡ Join ms copy → now.slots m.dir ≡ s
    → Row now m (take_join now m ms copy s)
join_row now m ms copy Absent is e =
    if_row now m (is_listed m.receiver ms && is_listed m.sender ms) _ _
    (λ _. copies ms copy (record { is = is; gone = λ d q. absurd (cc) }) (λ r q. absurd (cc)))
    (λ no. outside ms copy is no)
join_row now m ms copy (Gone d) is e =
    late_row now m (cond (nat_le m.epoch d) (Some d) None) _
    (λ late. if_row now m (is_listed m.receiver ms && is_listed m.sender ms) _ _
    (λ _. copies ms copy (record {
      is = is;
      gone = λ d' e'. let same : d ≡ d' = cc in
          subst (λ (z : ℕ). z < m.epoch) same (not_reached m.epoch d (nat_le m.epoch d) refl late);
    }) (λ r q. absurd (cc)))
    (λ no. outside ms copy is no))
join_row now m ms copy (Held r) is e =
    late_row now m (cond (nat_lt m.epoch r.epoch) (Some r.epoch) None) _
    (λ late. if_row now m (is_listed m.receiver ms && is_listed m.sender ms) _ _
    (λ _. by_since (nat_le (since_in ms m.receiver 0) r.epoch) refl (not_passed m.epoch r.epoch (nat_lt m.epoch r.epoch) refl late))
    (λ no. outside ms copy is no))
  where
    timely : Timely now m (Join ms copy)
    timely = record { is = is; gone = λ d e'. absurd (cc) }

    by_since : (b : Bool) → nat_le (since_in ms m.receiver 0) r.epoch ≡ b → r.epoch ≤ m.epoch
        → Row now m (take_and_answer now m (Held (cond b (kept_at_join m ms copy r) (replica_of_copy m ms copy))) [])
    by_since true q le = keeps ms copy r timely e le (le_from _ _ q)
    by_since false q le =
        copies ms copy timely (λ r' e'. let same : r ≡ r' = cc in
        subst (λ (z : Replica). (z.epoch ≤ m.epoch) × (z.epoch < since_in ms m.receiver 0)) same (le, le_not _ _ q))

-- a Leave
pub leave_row : (now : House) (m : Message) (s : Slot) → m.body ≡ Leave → now.slots m.dir ≡ s → Row now m (take_leave now m s)
leave_row now m Absent is e = leaves (record { is = is; gone = λ d q. absurd (cc) }) (λ r q. absurd (cc))
leave_row now m (Gone d) is e =
    late_row now m (cond (nat_le m.epoch d) (Some d) None) _
    (λ late. leaves (record {
      is = is;
      gone = λ d' e'. let same : d ≡ d' = cc in
          subst (λ (z : ℕ). z < m.epoch) same (not_reached m.epoch d (nat_le m.epoch d) refl late);
    }) (λ r q. absurd (cc)))
leave_row now m (Held r) is e =
    late_row now m (cond (nat_le m.epoch r.epoch) (Some r.epoch) None) _
    (λ late. leaves (record { is = is; gone = λ d q. absurd (cc) }) (λ r' e'. let same : r ≡ r' = cc in
    subst (λ (z : Replica). z.epoch < m.epoch) same (not_reached m.epoch r.epoch (nat_le m.epoch r.epoch) refl late)))

body_row : (now : House) (m : Message) (b : Body) → m.body ≡ b → Row now m (take_in now m b (now.slots m.dir))
body_row now m (Update marks) is = other_row now m (Update marks) _ tt is refl
body_row now m (Gather t) is = other_row now m (Gather t) _ tt is refl
body_row now m (Gathered t copy) is = other_row now m (Gathered t copy) _ tt is refl
body_row now m (Spread t copy) is = other_row now m (Spread t copy) _ tt is refl
body_row now m (SpreadAck t) is = other_row now m (SpreadAck t) _ tt is refl
body_row now m (Advance t) is = other_row now m (Advance t) _ tt is refl
body_row now m (Join ms copy) is = join_row now m ms copy _ is refl
body_row now m Leave is = leave_row now m _ is refl

-- each message comes to a row
pub take_row : (now : House) (m : Message) → Row now m (take now m)
take_row now m = body_row now m m.body refl

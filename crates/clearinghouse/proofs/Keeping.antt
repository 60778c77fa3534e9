-- A lawful clearinghouse is lawful after a message.
use Rattle.std.proofs.Common.{◌≡◌, ◌≤◌, Bool, true, false, Option, Some, None, refl, sym, subst, arith}
use Rattle.std.specs.Prelude.{max, nat_le, if◌then◌else◌, MatchBool, MatchOption, List}
use Rattle.std.specs.FinMap.{get}
use Rattle.cds_stamps.specs.declared.members.Member as declared
use Rattle.cds_stamps.specs.declared.numbers.EpochNo.{EpochNo}
use Rattle.cds_stamps.specs.declared.stamp.Floor.{Floor}
use Rattle.cds_stamps.specs.Members.{members_of, since_in}
use Rattle.directory.specs.Entries.{IsValidTable}
use Rattle.purge_rule.specs.declared.replica.Replica.{Replica}
use Rattle.purge_rule.specs.Latest.{ReplicaUpTo}
use Rattle.cds_messages.specs.declared.message.Body.TheVariants as body
use Rattle.cds_messages.specs.declared.message.Message.{Message}
use Rattle.cds_messages.specs.Validity.{IsValidBody, IsValidMessage}
use Rattle.clearinghouse.specs.declared.house.Clearinghouse.{Clearinghouse}
use Rattle.house_directory.specs.declared.states.Held.{Held}
use Rattle.house_directory.specs.declared.states.DirState.TheVariants as state
use Rattle.house_directory.specs.declared.outgoing.Outgoing.{Outgoing}
use Rattle.house_directory.specs.declared.taking.Taken.{Taken}
use Rattle.house_directory.specs.declared.taking.Taken.TheVariants as answers
use Rattle.house_directory.specs.LawfulDirectories.{IsLawfulHeld}
use Rattle.clearinghouse.specs.LawfulHouses.{IsLawful}
use Rattle.house_directory.specs.DirectorySteps.{is_taken}
use Rattle.house_directory.specs.Times.{BodyUpTo, latest_in_message}
use Rattle.house_directory.specs.DirectoryTakes.{Answers, JoinsCopy}
use Rattle.clearinghouse.specs.HouseTakes.{Copies, HasCopy, HasJoined, HasLeft}
use Rattle.clearinghouse.specs.HouseTakes.{Merges, TakesAt, TakesJoin, TakesLeave, TakesOther}
use Rattle.house_directory.specs.DirectoryTakes.{copy_of, held_in, join_bar, leave_passed}
use Rattle.clearinghouse.proofs.Houses.{house_lawful, kept_at}
use Rattle.house_directory.proofs.Lawfulness.{lawful_later}
use Rattle.house_directory.proofs.Keeping.{body_within, here_lawful}

-- any message but a Join or a Leave
pub other_kept : (msg : Message) (old new : Clearinghouse) (a : Taken) (o : Option Outgoing) → IsValidMessage msg → TakesOther msg old new a o → IsLawful old
    → IsLawful new
other_kept msg old new a o valid z lawful = by (held_in (get old.dirs msg.dir)) refl z
  where
    up : is_taken a ≡ true → BodyUpTo (max old.floor.time (if is_taken a then latest_in_message msg else 0)) msg.body
    up is =
        subst (λ b. BodyUpTo (max old.floor.time (if b then latest_in_message msg else 0)) msg.body) (sym is)
        (body_within (max old.floor.time (latest_in_message msg)) msg.body (omega arith))

    by : (h : Option Held) → h ≡ held_in (get old.dirs msg.dir) → MatchOption h (Answers old new answers.NoReplica a o) (λ h. TakesAt msg old new h a o)
        → IsLawful new
    by None is w = subst IsLawful (sym w.0) lawful
    by (Some h) is w =
        let le : old.floor.time ≤ max old.floor.time (if is_taken a then latest_in_message msg else 0) = omega arith in
        subst IsLawful (sym w.after)
        (kept_at old msg.dir h w.held (record { time = max old.floor.time (if is_taken a then latest_in_message msg else 0) }) is le
        (λ l. here_lawful old.house (max old.floor.time (if is_taken a then latest_in_message msg else 0)) h w.held a o
        (lawful_later old.house.0 old.floor.time (max old.floor.time (if is_taken a then latest_in_message msg else 0)) h le l) msg w.takes valid up) lawful)

-- a copy is had
copy_kept : (msg : Message) (ms : List declared.Member) (r : Replica) (old new : Clearinghouse) (floor : Floor) → old.floor.time ≤ floor.time
    → IsValidTable r.table → ReplicaUpTo floor.time r → HasCopy msg ms r old new → IsLawful old → IsLawful (record new { floor = floor })
copy_kept msg ms r old new floor le valid below has lawful = by_held (held_in (get old.dirs msg.dir)) refl has
  where
    over : Copies msg ms r old new → IsLawful (record new { floor = floor })
    over z =
        subst (λ (c : Clearinghouse). IsLawful (record c { floor = floor })) (sym z)
        (house_lawful old msg.dir floor (state.Held (copy_of msg.epoch ms r)) le
        (λ h is. let same : copy_of msg.epoch ms r ≡ h = cc in subst (IsLawfulHeld old.house.0 floor.time) same
        (record { valid = valid; replica = below; skulk = λ t none. absurd (let e = none in cc) })) lawful)

    merged : (h held : Held) → JoinsCopy msg.epoch ms r h held → IsLawfulHeld old.house.0 old.floor.time h → IsLawfulHeld old.house.0 floor.time held
    merged h held j low =
        let l = lawful_later old.house.0 old.floor.time floor.time h le low in
        subst (IsLawfulHeld old.house.0 floor.time) (sym j.rest)
        (record {
          valid = j.replica.valid l.valid valid;
          replica = j.replica.below floor.time l.valid valid l.replica below;
          skulk = λ t none. absurd (let e = none in cc);
        })

    by_term : (h : Held) → Some h ≡ held_in (get old.dirs msg.dir) → (b : Bool) → MatchBool b (Merges msg ms r old new h) (Copies msg ms r old new)
        → IsLawful (record new { floor = floor })
    by_term h is true z =
        subst (λ (c : Clearinghouse). IsLawful (record c { floor = floor })) (sym z.after)
        (kept_at old msg.dir h z.held floor is le (merged h z.held z.joins) lawful)
    by_term h is false z = over z

    by_held : (o : Option Held) → o ≡ held_in (get old.dirs msg.dir)
        → MatchOption o (Copies msg ms r old new)
        (λ h. MatchBool (nat_le (since_in (members_of ms) old.house.0 0) h.epoch.0) (Merges msg ms r old new h) (Copies msg ms r old new))
        → IsLawful (record new { floor = floor })
    by_held None is z = over z
    by_held (Some h) is z = by_term h is (nat_le (since_in (members_of ms) old.house.0 0) h.epoch.0) z

-- a Join
pub join_kept : (msg : Message) (ms : List declared.Member) (r : Replica) (old new : Clearinghouse) (a : Taken) (o : Option Outgoing)
    → msg.body ≡ body.Join ms r
    → IsValidMessage msg → TakesJoin msg ms r old new a o → IsLawful old → IsLawful new
join_kept msg ms r old new a o is valid z lawful = by (join_bar old.house.0 msg (members_of ms) (get old.dirs msg.dir)) z
  where
    by : (bar : Option Taken) → MatchOption bar (HasJoined msg ms r old new a o) (λ answer. Answers old new answer a o) → IsLawful new
    by None w =
        let times : BodyUpTo (max old.floor.time (latest_in_message msg)) msg.body =
        body_within (max old.floor.time (latest_in_message msg)) msg.body (omega arith) in
        subst IsLawful (sym w.after)
        (copy_kept msg ms r old w.between (record { time = max old.floor.time (latest_in_message msg) }) (omega arith) (subst IsValidBody is valid)
        (subst (BodyUpTo (max old.floor.time (latest_in_message msg))) is times) w.has lawful)
    by (Some answer) w = subst IsLawful (sym w.0) lawful

-- a Leave
pub leave_kept : (msg : Message) (old new : Clearinghouse) (a : Taken) (o : Option Outgoing) → TakesLeave msg old new a o → IsLawful old → IsLawful new
leave_kept msg old new a o z lawful = by (leave_passed msg.epoch (get old.dirs msg.dir)) z
  where
    by : (passed : Option EpochNo) → MatchOption passed (HasLeft msg old new a o) (λ e. Answers old new (answers.Late msg.epoch e) a o) → IsLawful new
    by None w =
        subst IsLawful (sym w.after)
        (house_lawful old msg.dir (record { time = max old.floor.time msg.floor }) (state.Gone msg.epoch) (omega arith)
        (λ h is. absurd (let e = is in cc)) lawful)
    by (Some e) w = subst IsLawful (sym w.0) lawful

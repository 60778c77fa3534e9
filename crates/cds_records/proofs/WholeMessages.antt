-- The octets of member lists and of messages are the whole of them.
use Rattle.std.proofs.Common.{◌≡◌, ℕ, zero, suc, ◌+◌, ◌≤◌, Bool, true, false, cond, List, [], ◌∷◌, ◌++◌, length, Option, Some, None, refl, sym, ap, subst, ◌∙◌}
use Rattle.std.proofs.Common.{append_assoc, arith}
use Rattle.std.specs.Prelude.{◌||◌, ◌&&◌, ◌==◌, ◌<◌, ◌^◌, not, nat_lt, if◌then◌else◌}
use Rattle.std.specs.Int.{w32, w64, to_be_bytes}
use Rattle.std.specs.List.{AllByRecursion, flat_map}
use Rattle.std.proofs.lemmas.List.{length-map}
use Rattle.std.proofs.lemmas.List.Sums.{sum_by-cons}
use Rattle.cds_stamps.specs.declared.members.Member.{Member}
use Rattle.cds_stamps.specs.declared.members.MemberKind.{MemberKind}
use Rattle.cds_stamps.specs.declared.members.MemberKind.TheVariants.{Master, ReadOnly, Secondary}
use Rattle.cds_stamps.specs.Members.{Member as listed_member}
use Rattle.cds_stamps.specs.Members.{is_master, member_of, members_of, members_fault, first_unordered, masters_in, most_members}
use Rattle.cds_stamps.proofs.MemberLaws.{no_members_fault}
use Rattle.record_fields.specs.declared.fault.Rule.TheVariants.{BadTag, BadLength}
use Rattle.cds_messages.specs.declared.message.Head.{Head}
use Rattle.cds_messages.specs.declared.message.Message.{Message}
use Rattle.cds_messages.specs.declared.message.Body.{Body}
use Rattle.cds_messages.specs.declared.message.Body.TheVariants.{Update, Gather, Gathered, Spread, SpreadAck, Advance, Join, Leave}
use Rattle.record_fields.specs.Decoding.{IsWhole}
use Rattle.record_fields.specs.Fields.{free, outside, number_order}
use Rattle.cds_messages.specs.KindNumbers.{kind_in, kind_number, kind_back}
use Rattle.cds_messages.specs.Messages.{tag_of}
use Rattle.cds_records.specs.Records.{kind_rule, member_kind, member, member_list, members_in, fragment, stamped_delta, join_parts, body, message}
use Rattle.cds_records.specs.RecordOctets.{member_octets, members_octets, body_octets, message_head, message_octets, message_with}
use Rattle.cds_records.specs.RecordRanges.{FitsMembers, FitsBody, FitsHead, FitsMessage}
use Rattle.cds_messages.specs.Validity.{IsValidBody, IsValidMessage}
use Rattle.record_fields.proofs.WholeFields.{Whole, whole_next, whole_done, whole_last, whole_as, within_lawful, octet_whole, u32_whole, u64_whole}
use Rattle.record_fields.proofs.WholeFields.{stamp_whole, simple_name_whole}
use Rattle.cds_records.proofs.WholeReplicas.{entry_above_none, entry_whole, replica_whole, delta_whole}

-- ---- a member list keeps the rules of its fields

-- each member may stand where it does
abbrev IsListed : Option ℕ → Bool → List Member → Type 0
IsListed before master [] = Unit {0}
IsListed before master (m ∷ ms) =
    (number_order before m.house.0 ≡ None) × (kind_rule true (length ms) master (kind_number m.kind) ≡ None) × IsListed (Some m.house.0)
    (master || is_master m.kind) ms

abbrev least_of : Option ℕ → ℕ
least_of None = 0
least_of (Some b) = b + 1

abbrev one_if : Bool → ℕ
one_if b = if b then 1 else 0

above : (before : Option ℕ) (house : ℕ) → nat_lt house (least_of before) ≡ false → number_order before house ≡ None
above None house e = refl
above (Some b) house e = (let t : nat_lt b house ≡ true = grind (arith, e) in rw t refl)

may_stand : (k : MemberKind) (n : ℕ) (master : Bool) (rest : ℕ) → (n ≡ 0 → rest ≡ 0) → (one_if (is_master k) + rest) + one_if master ≡ 1
    → (kind_rule true n master (kind_number k) ≡ None) × (rest + one_if (master || is_master k) ≡ 1)
may_stand Master n true rest none e = absurd (omega arith)
may_stand Master n false rest none e = (refl, omega arith)
may_stand ReadOnly n true rest none e = (let t : ((n == 0) && not true) ≡ false = grind arith in rw t refl, omega arith)
may_stand ReadOnly zero false rest none e = absurd (let z = none refl in omega arith)
may_stand ReadOnly (suc n) false rest none e = (let t : (suc n == 0) ≡ false = grind arith in rw t refl, omega arith)
may_stand Secondary n true rest none e = (let t : ((n == 0) && not true) ≡ false = grind arith in rw t refl, omega arith)
may_stand Secondary zero false rest none e = absurd (let z = none refl in omega arith)
may_stand Secondary (suc n) false rest none e = (let t : (suc n == 0) ≡ false = grind arith in rw t refl, omega arith)

no_masters : (ms : List Member) → length ms ≡ 0 → masters_in (members_of ms) ≡ 0
no_masters [] e = refl
no_masters (m ∷ ms) e = absurd (omega arith)

split_test : (t : Bool) (place : ℕ) (rest : Option ℕ) → cond t (Some place) rest ≡ None → (t ≡ false) × (rest ≡ None)
split_test true place rest e = cc
split_test false place rest e = (refl, e)

list_lawful : (place : ℕ) (before : Option ℕ) (master : Bool) (ms : List Member) → first_unordered place (least_of before) (members_of ms) ≡ None
    → masters_in (members_of ms) + one_if master ≡ 1 → IsListed before master ms
list_lawful place before master [] e f = tt
list_lawful place before master (m ∷ ms) e f =
    let t = split_test (nat_lt m.house.0 (least_of before)) place (first_unordered (place + 1) (m.house.0 + 1) (members_of ms)) e in
    let count : (one_if (is_master m.kind) + masters_in (members_of ms)) + one_if master ≡ 1 =
    ap (λ k. k + one_if master) (sym (sum_by-cons (λ (m : listed_member). one_if (is_master m.kind)) (member_of m) (members_of ms))) ∙ f in
    let k = may_stand m.kind (length ms) master (masters_in (members_of ms)) (no_masters ms) count in
    (above before m.house.0 t.0, k.0, list_lawful (place + 1) (Some m.house.0) (master || is_master m.kind) ms t.1 k.1)

-- and has so many members
pub members_lawful : (ms : List Member) → members_fault (members_of ms) ≡ None → IsListed None false ms × (1 ≤ length ms) × (length ms ≤ most_members)
members_lawful ms e =
    let facts = no_members_fault (members_of ms) e in (
      list_lawful 1 None false ms facts.2 (let k = facts.3 in omega arith),
      omega (arith, facts.0, length-map ms member_of),
      omega
          (arith, facts.1, length-map ms member_of),
    )

-- ---- members

kind_whole : (left : ℕ) (master : Bool) (k : MemberKind) → kind_rule true left master (kind_number k) ≡ None
    → Whole (member_kind true left master) k (kind_number k ∷ [])
unfolding member_kind
kind_whole left master k lawful = whole_last {f = kind_in} (octet_whole (kind_rule true left master) (kind_number k) lawful) (kind_back k)

three : (a b c : List ℕ) → a ++ (b ++ c) ≡ a ++ b ++ c
three a b c = sym (append_assoc a b c)

member_whole : (left : ℕ) (before : Option ℕ) (master : Bool) (m : Member) → number_order before m.house.0 ≡ None
    → kind_rule true left master (kind_number m.kind) ≡ None → m.since.0 < 2 ^ 64 → Whole (member true left before master) m (member_octets m)
unfolding member member_octets
member_whole left before master m above lawful fits =
    whole_as
    (whole_next (octet_whole (number_order before) m.house.0 above)
    (whole_next (u64_whole free m.since.0 fits refl) (whole_last (kind_whole left master m.kind lawful) refl)))
    (three (m.house.0 ∷ []) (to_be_bytes w64 m.since.0) (kind_number m.kind ∷ []))

listed_whole : (before : Option ℕ) (master : Bool) (ms : List Member) → IsListed before master ms → AllByRecursion (λ m. m.since.0 < 2 ^ 64) ms
    → Whole (member_list true (length ms) before master) ms (flat_map member_octets ms)
unfolding member_list
listed_whole before master [] lawful fits = whole_done []
listed_whole before master (m ∷ ms) lawful fits =
    whole_next (member_whole (length ms) before master m lawful.0 lawful.1 fits.0)
    (whole_last {f = λ ms. m ∷ ms} (listed_whole (Some m.house.0) (master || is_master m.kind) ms lawful.2 fits.1) refl)

-- a member list
pub members_whole : (ms : List Member) → FitsMembers ms → Whole (members_in 2) ms (members_octets ms)
unfolding members_in members_octets
members_whole ms fits =
    let l = members_lawful ms fits.lawful in
    whole_next {second = λ n. member_list true n None false}
    (octet_whole (outside BadLength 1 most_members) (length ms) (within_lawful BadLength 1 most_members (length ms) l.1 l.2))
    (listed_whole None false ms l.0 fits.since)

-- ---- messages

body_whole : (b : Body) → IsValidBody b → FitsBody b → Whole (body (tag_of b)) b (body_octets b)
unfolding body fragment stamped_delta join_parts body_octets
body_whole (Update f) valid fits =
    whole_last {f = Update}
    (whole_next (simple_name_whole None f.name fits.0 refl) (whole_last (entry_whole None f.entry valid (entry_above_none f.entry) fits.1) refl)) refl
body_whole (Gather t) valid fits = whole_last {f = Gather} (stamp_whole free t fits refl) refl
body_whole (Gathered t d) valid fits =
    whole_last {f = λ c. Gathered c.0 c.1} (whole_next (stamp_whole free t fits.0 refl) (whole_last (delta_whole d valid fits.1) refl)) refl
body_whole (Spread t d) valid fits =
    whole_last {f = λ c. Spread c.0 c.1} (whole_next (stamp_whole free t fits.0 refl) (whole_last (delta_whole d valid fits.1) refl)) refl
body_whole (SpreadAck t) valid fits = whole_last {f = SpreadAck} (stamp_whole free t fits refl) refl
body_whole (Advance t) valid fits = whole_last {f = Advance} (stamp_whole free t fits refl) refl
body_whole (Join ms r) valid fits =
    whole_last {f = λ j. Join j.0 j.1} (whole_next (members_whole ms fits.0) (whole_last (replica_whole r valid fits.1) refl)) refl
body_whole Leave valid fits = whole_done Leave

tag_lawful : (b : Body) → outside BadTag 1 8 (tag_of b) ≡ None
tag_lawful (Update f) = refl
tag_lawful (Gather t) = refl
tag_lawful (Gathered t r) = refl
tag_lawful (Spread t r) = refl
tag_lawful (SpreadAck t) = refl
tag_lawful (Advance t) = refl
tag_lawful (Join ms r) = refl
tag_lawful Leave = refl

seven : (a b c d e f g : List ℕ) → a ++ (b ++ (c ++ (d ++ (e ++ (f ++ g))))) ≡ (a ++ b ++ c ++ (d ++ e) ++ f) ++ g
seven a b c d e f g = simp append_assoc refl

message_whole : (m : Message) → IsValidMessage m → FitsMessage m → Whole message m (message_octets m)
unfolding message message_octets message_head
message_whole m valid fits =
    whole_as
    (whole_next (octet_whole (outside BadTag 2 2) 2 refl)
    (whole_next (octet_whole (outside BadTag 1 8) (tag_of m.body) (tag_lawful m.body))
    (whole_next (u32_whole free m.dir.0 fits.head.dir refl)
    (whole_next (octet_whole free m.from.0 refl)
    (whole_next (u64_whole free m.epoch.0 fits.head.epoch refl)
    (whole_next (u64_whole free m.floor fits.head.floor refl) (whole_last (body_whole m.body valid fits.body) refl)))))))
    (seven (2 ∷ []) (tag_of m.body ∷ []) (to_be_bytes w32 m.dir.0) (m.from.0 ∷ []) (to_be_bytes w64 m.epoch.0) (to_be_bytes w64 m.floor)
    (body_octets m.body))

-- a message
pub the_message_whole : (m : Message) → IsValidMessage m → FitsMessage m → IsWhole message m (message_octets m)
the_message_whole m valid fits = (message_whole m valid fits).is

-- ---- messages that are written

-- what a message carries is written after its head
pub message_written : (h : Head) (b : Body) (out new : List ℕ) → out ≡ message_head h (tag_of b) → new ≡ out ++ body_octets b
    → new ≡ message_octets (message_with h b)
unfolding message_octets
message_written h b out new e f = f ∙ ap (λ o. o ++ body_octets b) e

-- what was written is the whole of it
pub written_whole : (h : Head) (b : Body) (octets : List ℕ) → octets ≡ message_octets (message_with h b) → FitsHead h → FitsBody b → IsValidBody b
    → IsWhole message (message_with h b) octets
written_whole h b octets is head fits valid =
    subst (λ o. IsWhole message (message_with h b) o) (sym is) (the_message_whole (message_with h b) valid (record { head = head; body = fits }))

-- Messages and images spell each value in one way.
use Rattle.std.proofs.Common.{◌≡◌, ℕ, zero, suc, ◌+◌, ◌-◌, Bool, true, false, List, [], length, Option, Some, None, refl, sym, ap, ◌∙◌, arith}
use Rattle.std.specs.Prelude.{◌||◌, ◌==◌, min}
use Rattle.std.specs.declared.cmp.Ordering.TheVariants.{Less}
use Rattle.std.specs.Cmp.{nat_cmp_is}
use Rattle.std.specs.Cmp.Lexicographic.{nat_list_cmp_total}
use Rattle.std.specs.Ordering.{nat_cmp}
use Rattle.cds_stamps.specs.declared.numbers.DirId.{DirId}
use Rattle.cds_stamps.specs.declared.stamp.Stamp.{Stamp}
use Rattle.cds_stamps.specs.declared.members.Member.{Member}
use Rattle.cds_stamps.specs.Members.{is_master}
use Rattle.directory.specs.declared.entry.EntryCell.{EntryCell}
use Rattle.directory.specs.declared.entry.Fragment.{Fragment}
use Rattle.directory.specs.Held.{held_in, most_held}
use Rattle.directory.specs.Kinds.{rank, kind_of_rank}
use Rattle.purge_rule.specs.declared.delta.Delta.{Delta}
use Rattle.purge_rule.specs.declared.replica.Replica.{Replica}
use Rattle.record_fields.specs.declared.fault.Rule.{Rule}
use Rattle.record_fields.specs.declared.fault.Rule.TheVariants.{BadTag, BadFlag}
use Rattle.cds_messages.specs.declared.image.ImageDir.{ImageDir}
use Rattle.cds_messages.specs.declared.image.ImageDir.TheVariants.{Held, Gone}
use Rattle.cds_messages.specs.declared.image.Image.{Image}
use Rattle.cds_messages.specs.declared.message.Message.{Message}
use Rattle.cds_messages.specs.declared.message.Body.{Body}
use Rattle.cds_messages.specs.declared.message.Body.TheVariants.{Update, Gather, Gathered, Spread, SpreadAck, Advance, Join, Leave}
use Rattle.cds_messages.specs.Dirs.{dir_cmp, dir_total}
use Rattle.cds_messages.specs.KindNumbers.{kind_in, kind_number}
use Rattle.record_fields.specs.Layouts.{done, choose, Stands}
use Rattle.record_fields.specs.Fields.{free, outside, number_order, octet, number, simple_name, attr_name}
use Rattle.record_fields.specs.ListLayouts.{cell}
use Rattle.cds_records.specs.Records.{kind, entry, replica, delta, kind_rule, member_kind, member, member_list, has_secondary, members_in, fragment, stamped_delta, join_parts, body, message}
use Rattle.cds_messages.specs.Messages.{tag_of}
use Rattle.cds_records.specs.Images.{dir_number, held_rule, held_count, held_directory, dir_state, image_behind, image_in, image, image_1}
use Rattle.record_fields.proofs.Spelling.{OneSpelling, tells, spell_next, spell_done, spell_last, spell_choose, spell_cons, spell_octet, spell_32, spell_64}
use Rattle.record_fields.proofs.Spelling.{spell_node, spell_stamp, spell_counted}
use Rattle.record_fields.proofs.SpellingCells.{spell_simple_name, spell_attr_name, simple_names_rise, attr_names_rise, spell_optional_stamp, spell_cell}

-- ---- replicas

kind_flag : (n : ℕ) → outside BadFlag 1 3 n ≡ None → rank (kind_of_rank (n - 1)) + 1 ≡ n
kind_flag zero e = absurd (grind (arith, e))
kind_flag (suc zero) e = refl
kind_flag (suc (suc zero)) e = refl
kind_flag (suc (suc (suc zero))) e = refl
kind_flag (suc (suc (suc (suc n)))) e = absurd (grind (arith, e))

spell_kind : OneSpelling kind
unfolding kind octet
spell_kind =
    spell_next (tells (λ k. rank k + 1) (λ n k w x g h. ap (λ k. rank k + 1) (sym h.0) ∙ kind_flag n g.4)) (spell_octet _)
    (λ n. spell_done (kind_of_rank (n - 1)))

spell_entry : (above : Option Stamp) → OneSpelling (entry above)
unfolding entry
spell_entry above =
    spell_next (tells (λ e. e.kind) (λ k e w x g h. ap (λ (e : EntryCell). e.kind) (sym h.3.3.3.3.0))) spell_kind (λ k.
    spell_next (tells (λ e. e.birth) (λ s e w x g h. ap (λ (e : EntryCell). e.birth) (sym h.3.3.3.0))) (spell_stamp free) (λ birth.
    spell_next (tells (λ e. e.death) (λ t e w x g h. ap (λ (e : EntryCell). e.death) (sym h.3.3.0))) (spell_optional_stamp above) (λ death.
    spell_counted nat_list_cmp_total attr_name (cell above) attr_names_rise spell_attr_name (spell_cell above)
    (λ attrs. record { birth = birth; kind = k; death = death; attrs = attrs }) (λ e. e.attrs) (λ m. refl) (spell_64 free))))

spell_replica : OneSpelling replica
unfolding replica
spell_replica =
    spell_next (tells (λ r. r.all_up_to) (λ t r w x g h. ap (λ (r : Replica). r.all_up_to) (sym h.3.3.0))) (spell_optional_stamp None) (λ t.
    spell_counted nat_list_cmp_total simple_name (entry None) simple_names_rise spell_simple_name (spell_entry None)
    (λ entries. record { table = entries; all_up_to = t }) (λ r. r.table) (λ m. refl) (spell_64 free))

spell_delta : OneSpelling delta
unfolding delta
spell_delta =
    spell_next (tells (λ d. d.above) (λ t d w x g h. ap (λ (d : Delta). d.above) (sym h.3.3.0))) (spell_optional_stamp None) (λ t.
    spell_counted nat_list_cmp_total simple_name (entry t) simple_names_rise spell_simple_name (spell_entry t)
    (λ entries. record { table = entries; above = t }) (λ d. d.table) (λ m. refl) (spell_64 free))

-- ---- members

member_flag : (secondary : Bool) (left : ℕ) (master : Bool) (n : ℕ) → kind_rule secondary left master n ≡ None → kind_number (kind_in n) ≡ n
member_flag secondary left master zero e = absurd cc
member_flag secondary left master (suc zero) e = refl
member_flag secondary left master (suc (suc zero)) e = refl
member_flag secondary left master (suc (suc (suc zero))) e = refl
member_flag secondary left master (suc (suc (suc (suc n)))) e = absurd (grind (arith, e))

spell_member_kind : (secondary : Bool) (left : ℕ) (master : Bool) → OneSpelling (member_kind secondary left master)
unfolding member_kind octet
spell_member_kind secondary left master =
    spell_next (tells kind_number (λ n k w x g h. ap kind_number (sym h.0) ∙ member_flag secondary left master n g.4)) (spell_octet _) (λ n. spell_done (kind_in n))

spell_member : (secondary : Bool) (left : ℕ) (before : Option ℕ) (master : Bool) → OneSpelling (member secondary left before master)
unfolding member
spell_member secondary left before master =
    spell_next (tells (λ m. m.house.0) (λ n m w x g h. ap (λ (m : Member). m.house.0) (sym h.3.3.0))) (spell_octet _) (λ house.
    spell_next (tells (λ m. m.since.0) (λ n m w x g h. ap (λ (m : Member). m.since.0) (sym h.3.0))) (spell_64 free) (λ since.
    spell_last (λ k. record { house = record { 0 = house }; since = record { 0 = since }; kind = k }) (λ k j e. ap (λ (m : Member). m.kind) e)
    (spell_member_kind secondary left master)))

spell_listed : (secondary : Bool) (n : ℕ) (before : Option ℕ) (master : Bool) → OneSpelling (member_list secondary n before master)
unfolding member_list
spell_listed secondary zero before master = spell_done []
spell_listed secondary (suc n) before master = spell_cons (spell_member secondary n before master) (λ m. spell_listed secondary n (Some m.house.0) (master || is_master m.kind))

member_count : (secondary : Bool) (n : ℕ) (before : Option ℕ) (master : Bool) (x : List ℕ) (ms : List Member) (y : List ℕ)
    → Stands (member_list secondary n before master) x ms y → length ms ≡ n
unfolding member_list
member_count secondary zero before master x ms y h = ap length (sym h.0)
member_count secondary (suc n) before master x ms y h = ap length (sym h.3.3.0) ∙ ap suc (member_count secondary n _ _ h.1 h.3.0 h.3.1 h.3.2)

spell_members : (format : ℕ) → OneSpelling (members_in format)
unfolding members_in
spell_members format =
    spell_next (tells length (λ n ms w x g h. member_count (has_secondary format) n None false x ms [] h)) (spell_octet _)
    (λ n. spell_listed (has_secondary format) n None false)

-- ---- messages

spell_fragment : OneSpelling fragment
unfolding fragment
spell_fragment =
    spell_next (tells (λ f. f.name) (λ n f w x g h. ap (λ (f : Fragment). f.name) (sym h.3.0))) (spell_simple_name None) (λ n.
    spell_last (λ e. record { name = n; entry = e }) (λ d e s. ap (λ (f : Fragment). f.entry) s) (spell_entry None))

spell_copied : OneSpelling stamped_delta
unfolding stamped_delta
spell_copied =
    spell_next (tells (λ c. c.0) (λ t c w x g h. ap (λ (c : Stamp × Delta). c.0) (sym h.3.0))) (spell_stamp free) (λ t.
    spell_last (λ d. (t, d)) (λ d e s. ap (λ (c : Stamp × Delta). c.1) s) spell_delta)

spell_joined : OneSpelling join_parts
unfolding join_parts
spell_joined =
    spell_next (tells (λ j. j.0) (λ ms j w x g h. ap (λ (j : List Member × Replica). j.0) (sym h.3.0))) (spell_members 2) (λ ms.
    spell_last (λ r. (ms, r)) (λ r s e. ap (λ (j : List Member × Replica). j.1) e) spell_replica)

same_pair : {A B : Type 0} (c d : A × B) → c.0 ≡ d.0 → c.1 ≡ d.1 → c ≡ d
same_pair c d p q = λ i. (p i, q i)

spell_body : (tag : ℕ) → OneSpelling (body tag)
unfolding body
spell_body tag =
    spell_choose (tag == 1) (spell_last (λ f. Update f) (λ f g e. cc) spell_fragment)
    (spell_choose (tag == 2) (spell_last (λ t. Gather t) (λ s t e. cc) (spell_stamp free))
    (spell_choose (tag == 3) (spell_last (λ c. Gathered c.0 c.1) (λ c d e. same_pair c d (cc) (cc)) spell_copied)
    (spell_choose (tag == 4) (spell_last (λ c. Spread c.0 c.1) (λ c d e. same_pair c d (cc) (cc)) spell_copied)
    (spell_choose (tag == 5) (spell_last (λ t. SpreadAck t) (λ s t e. cc) (spell_stamp free))
    (spell_choose (tag == 6) (spell_last (λ t. Advance t) (λ s t e. cc) (spell_stamp free))
    (spell_choose (tag == 7) (spell_last (λ j. Join j.0 j.1) (λ c d e. same_pair c d (cc) (cc)) spell_joined)
    (spell_done Leave)))))))

body_tag : (tag : ℕ) (b : Body) (x y : List ℕ) → outside BadTag 1 8 tag ≡ None → Stands (body tag) x b y → tag_of b ≡ tag
unfolding body
body_tag zero b x y e h = absurd (grind (arith, e))
body_tag (suc zero) b x y e h = ap tag_of (sym h.3.0)
body_tag (suc (suc zero)) b x y e h = ap tag_of (sym h.3.0)
body_tag (suc (suc (suc zero))) b x y e h = ap tag_of (sym h.3.0)
body_tag (suc (suc (suc (suc zero)))) b x y e h = ap tag_of (sym h.3.0)
body_tag (suc (suc (suc (suc (suc zero))))) b x y e h = ap tag_of (sym h.3.0)
body_tag (suc (suc (suc (suc (suc (suc zero)))))) b x y e h = ap tag_of (sym h.3.0)
body_tag (suc (suc (suc (suc (suc (suc (suc zero))))))) b x y e h = ap tag_of (sym h.3.0)
body_tag (suc (suc (suc (suc (suc (suc (suc (suc zero)))))))) b x y e h = ap tag_of (sym h.0)
body_tag (suc (suc (suc (suc (suc (suc (suc (suc (suc n))))))))) b x y e h = absurd (grind (arith, e))

-- a number that must be this one
the_number : (rule : Rule) (n k : ℕ) → outside rule n n k ≡ None → n ≡ k
the_number rule n k e = grind (arith, e)

-- a message has one spelling
pub spell_message : OneSpelling message
unfolding message octet
spell_message =
    spell_next (tells (λ m. 2) (λ k m w x g h. the_number BadTag 2 k g.4)) (spell_octet _) (λ format.
    spell_next (tells (λ m. tag_of m.body)
    (λ tag m w x g h. ap (λ (m : Message). tag_of m.body) (sym h.3.3.3.3.3.0) ∙ body_tag tag h.3.3.3.3.0 h.3.3.3.1 h.3.3.3.3.1 g.4 h.3.3.3.3.2))
    (spell_octet _) (λ tag.
    spell_next (tells (λ m. m.dir.0) (λ n m w x g h. ap (λ (m : Message). m.dir.0) (sym h.3.3.3.3.0))) (spell_32 free) (λ dir.
    spell_next (tells (λ m. m.from.0) (λ n m w x g h. ap (λ (m : Message). m.from.0) (sym h.3.3.3.0))) (spell_octet free) (λ house.
    spell_next (tells (λ m. m.epoch.0) (λ n m w x g h. ap (λ (m : Message). m.epoch.0) (sym h.3.3.0))) (spell_64 free) (λ epoch.
    spell_next (tells (λ m. m.floor) (λ n m w x g h. ap (λ (m : Message). m.floor) (sym h.3.0))) (spell_64 free) (λ floor.
    spell_last (λ b. record { dir = record { 0 = dir }; from = record { 0 = house }; epoch = record { 0 = epoch }; floor = floor; body = b })
    (λ b c e. ap (λ (m : Message). m.body) e) (spell_body tag)))))))

-- ---- images

spell_dir_number : (before : Option DirId) → OneSpelling (dir_number before)
unfolding dir_number
spell_dir_number before = spell_last (λ n. record { 0 = n }) (λ m n e. ap (λ (d : DirId). d.0) e) (spell_32 _)

number_above : (b n : ℕ) → number_order (Some b) n ≡ None → nat_cmp b n ≡ Less
number_above b n e = sym (nat_cmp_is b n Less (grind (arith, e)))

dirs_rise : (b d : DirId) (x y : List ℕ) → Stands (dir_number (Some b)) x d y → dir_cmp b d ≡ Less
unfolding dir_number number
dirs_rise b d x y h = number_above b.0 d.0 (ap (λ (d : DirId). number_order (Some b.0) d.0) (sym h.3.0) ∙ h.2.4)

epoch_of : ImageDir → ℕ
epoch_of (Held e ms r) = e.0
epoch_of (Gone e) = e.0

state_of : ImageDir → ℕ
state_of (Held e ms r) = 1
state_of (Gone e) = 2

members_of : ImageDir → List Member
members_of (Held e ms r) = ms
members_of (Gone e) = []

same_replica : (epoch : ℕ) (ms : List Member) (r s : Replica) → Held (record { 0 = epoch }) ms r ≡ Held (record { 0 = epoch }) ms s → r ≡ s
same_replica epoch ms r s e = cc

-- a count that is lawful is how much the replica holds
lawful_count : (r : Replica) (n : ℕ) → held_rule r n ≡ None → min (held_in r.table) most_held ≡ n
lawful_count r n e = grind (arith, e)

spell_count : (format : ℕ) (r : Replica) → OneSpelling (held_count format r)
unfolding held_count number
spell_count format r =
    spell_choose (format == 1) (spell_done tt)
    (spell_next (tells (λ _. min (held_in r.table) most_held) (λ n u w x g h. lawful_count r n g.4)) (spell_64 (held_rule r)) (λ n. spell_done tt))

spell_held : (format epoch : ℕ) → OneSpelling (held_directory format epoch)
unfolding held_directory members_of
spell_held format epoch =
    spell_next (tells members_of (λ ms d w x g h. ap members_of (sym h.3.3.0))) (spell_members format) (λ ms.
    spell_next (record { told = λ r s d w x y z g h i j. same_replica epoch ms r s (h.3.0 ∙ sym j.3.0) }) spell_replica (λ r.
    spell_next (record { told = λ a b d w x y z g h i j. refl }) (spell_count format r) (λ _. spell_done (Held (record { 0 = epoch }) ms r))))

module _ (format : ℕ) where
  said_epoch : (test : Bool) (epoch : ℕ) (d : ImageDir) (x y : List ℕ) → Stands (choose test (held_directory format epoch) (done (Gone (record { 0 = epoch })))) x d y
      → epoch_of d ≡ epoch
  unfolding held_directory epoch_of
  said_epoch true epoch d x y h = ap epoch_of (sym h.3.3.3.0)
  said_epoch false epoch d x y h = ap epoch_of (sym h.0)

  said_state : (state epoch : ℕ) (d : ImageDir) (x y : List ℕ) → outside BadFlag 1 2 state ≡ None
      → Stands (choose (state == 1) (held_directory format epoch) (done (Gone (record { 0 = epoch })))) x d y → state_of d ≡ state
  unfolding held_directory state_of
  said_state zero epoch d x y e h = absurd (grind (arith, e))
  said_state (suc zero) epoch d x y e h = ap state_of (sym h.3.3.3.0)
  said_state (suc (suc zero)) epoch d x y e h = ap state_of (sym h.0)
  said_state (suc (suc (suc n))) epoch d x y e h = absurd (grind (arith, e))

  spell_dir : OneSpelling (dir_state format)
  unfolding dir_state octet
  spell_dir =
      spell_next (tells state_of (λ state d w x g h. said_state state h.0 d h.1 [] g.4 h.3)) (spell_octet _) (λ state.
      spell_next (tells epoch_of (λ epoch d w x g h. said_epoch (state == 1) epoch d x [] h)) (spell_64 free) (λ epoch.
      spell_choose (state == 1) (spell_held format epoch) (spell_done (Gone (record { 0 = epoch })))))

-- an image of one format has one spelling
spell_image_in : (format : ℕ) → OneSpelling (image_in format format)
unfolding image_in image_behind octet
spell_image_in only =
    spell_next (tells (λ i. only) (λ k i w x g h. the_number BadTag only k g.4)) (spell_octet _) (λ format.
    spell_next (tells (λ i. 9) (λ k i w x g h. the_number BadTag 9 k g.4)) (spell_octet _) (λ tag.
    spell_next (tells (λ i. i.house.0) (λ n i w x g h. ap (λ (i : Image). i.house.0) (sym h.3.3.3.3.0))) (spell_octet free) (λ house.
    spell_next (tells (λ i. i.node) (λ n i w x g h. ap (λ (i : Image). i.node) (sym h.3.3.3.0))) spell_node (λ node.
    spell_next (tells (λ i. i.floor) (λ n i w x g h. ap (λ (i : Image). i.floor) (sym h.3.3.0))) (spell_64 free) (λ floor.
    spell_counted dir_total dir_number (dir_state format) dirs_rise spell_dir_number (spell_dir format)
    (λ dirs. record { house = record { 0 = house }; node = node; floor = floor; dirs = dirs }) (λ i. i.dirs) (λ m. refl) (spell_64 free))))))

-- an image of format 2 has one spelling
pub spell_image : OneSpelling image
unfolding image
spell_image = spell_image_in 2

-- so has an image of format 1
pub spell_image_1 : OneSpelling image_1
unfolding image_1
spell_image_1 = spell_image_in 1

-- What a cell says of the houses of a directory is what the model says.
use Rattle.std.proofs.Common.{◌≡◌, ◌≤◌, ◌+◌, ℕ, Bool, true, false, ◌&&◌, not, if◌then◌else◌, max, List, [], ◌∷◌, refl, sym, ◌∙◌, ap, subst, arith}
use Rattle.std.specs.Prelude.{Option, Some, None, ◌==◌, codes, is_some, length}
use Rattle.std.specs.FinMap.{get}
use Rattle.std.specs.Option.{option_map}
use Rattle.std.proofs.lemmas.Bool.Decides.{nat_tests}
use Rattle.cds_stamps.specs.declared.numbers.DirId.{DirId}
use Rattle.cds_stamps.specs.declared.numbers.HouseNo.{HouseNo}
use Rattle.cds_stamps.specs.declared.stamp.Stamp.{Stamp}
use Rattle.cds_stamps.specs.Stamps.{last_time, next_stamp}
use Rattle.cds_stamps.specs.Members.{Member, master_of, others_of}
use Rattle.cell_model.specs.Cells as model
use Rattle.cell_model.specs.Holdings.{NumbersHold}
use Rattle.cell_model.specs.Mending.{mend_commands, skulk_commands, skulking_at}
use Rattle.cell_model.specs.Sets.{has}
use Rattle.cell_model.specs.Steps.{is_down}
use Rattle.cell_model.specs.Turns.{stamp_at}
use Rattle.cell_model.proofs.Numbers.{numbers_lem}
use Rattle.cell_model.proofs.Standing.{on_reached}
use Rattle.clearinghouse.specs.declared.house.Clearinghouse.{Clearinghouse}
use Rattle.house_directory.specs.declared.states.DirState.{DirState}
use Rattle.house_directory.specs.declared.states.DirState.TheVariants as dir
use Rattle.house_directory.specs.ModelReplicas.{StandsSlot}
use Rattle.cds_cell.specs.declared.cell.Cell.{Cell}
use Rattle.cds_cell.specs.declared.house.CellHouse.{CellHouse}
use Rattle.cds_cell.specs.declared.house.HouseState.{HouseState}
use Rattle.cds_cell.specs.declared.house.HouseState.TheVariants as state
use Rattle.cds_cell.specs.CellHouses.{StandsState, StandsUp}
use Rattle.house_directory.specs.HouseMessages.{numbers_of}
use Rattle.mend_model.specs.Leaving.{held_since, kept_members, leaving_commands, new_master}
use Rattle.mend_replay.specs.MendLines.{command_lines, known_text, leaving_text, led_text, mend_text, mending_text, mends, refusal_line, text_led_by}
use Rattle.mend_replay.specs.PrivateLines.{commands_without}
use Rattle.mend_replay.specs.PrivateMasters.{epoch_since}
use Rattle.mend_replay.specs.Readiness.{holds_at, is_held_at, is_held_by, is_ready}
use Rattle.cds_cell.specs.ConsoleLists.{IsListed}
use Rattle.cds_cell.specs.ModelCells.{MaybeStandsHouse, Stands, house_of}
use Rattle.cds_cell.proofs.Houses.{has_number}

-- ---- directories

-- the directory is ready where its houses are
pub ready_listed : (g : model.Cell) (d k : ℕ) (ms : List Member) → IsListed g d k ms → is_held_by g d k ms ≡ is_ready g d
ready_listed g d k ms is =
    let known : not (g.top d == 0) ≡ true = some (g.top d) k is.top is.some in
    ap (λ (n : ℕ). is_held_by g d n ms) (sym is.top) ∙ ap (is_held_by g d (g.top d)) (sym is.present)
    ∙ ap (λ (t : Bool). t && is_held_by g d (g.top d) (g.present d)) (sym known)
  where
    some : (n k : ℕ) → n ≡ k → 1 ≤ k → not (n == 0) ≡ true
    some n k is least = grind (arith, nat_tests, is, least)

-- what mends it then, and what otherwise
pub mends_ready : (g : model.Cell) (d k p : ℕ) (ms : List Member) → IsListed g d k ms → p ≡ length g.bag → true ≡ is_held_by g d k ms
    → skulk_commands (master_of ms) d p (length (others_of (master_of ms) ms)) ≡ mends g d
mends_ready g d k p ms is posted held =
    ap (λ (n : ℕ). skulk_commands (master_of ms) d n (length (others_of (master_of ms) ms))) posted
    ∙ ap (λ (l : List Member). skulk_commands (master_of l) d (length g.bag) (length (others_of (master_of l) l))) (sym is.present)
    ∙ ap (λ (b : Bool). if b then skulking_at g d else mend_commands g d) (held ∙ ready_listed g d k ms is)

pub mends_unready : (g : model.Cell) (d k : ℕ) (ms : List Member) → IsListed g d k ms → false ≡ is_held_by g d k ms → mend_commands g d ≡ mends g d
mends_unready g d k ms is held = ap (λ (b : Bool). if b then skulking_at g d else mend_commands g d) (held ∙ ready_listed g d k ms is)

-- the text where there is no such directory
pub text_none : (g : model.Cell) (d : ℕ) (hs : List ℕ) → g.top d ≡ 0 → refusal_line (codes "NoDirectory") ≡ mend_text d hs g
text_none g d hs none =
    let unknown : (g.top d == 0) ≡ true = grind (arith, nat_tests, none) in
    ap (λ (b : Bool). if b then refusal_line (codes "NoDirectory") else known_text d hs g) (sym unknown)

-- where there is one
pub text_there : (g : model.Cell) (d k : ℕ) (hs : List ℕ) (ms : List Member) → IsListed g d k ms → known_text d hs g ≡ mend_text d hs g
text_there g d k hs ms is =
    let known : (g.top d == 0) ≡ false = some (g.top d) k is.top is.some in
    ap (λ (b : Bool). if b then refusal_line (codes "NoDirectory") else known_text d hs g) (sym known)
  where
    some : (n k : ℕ) → n ≡ k → 1 ≤ k → (n == 0) ≡ false
    some n k is least = grind (arith, nat_tests, is, least)

-- where its master has no stamp left, and else
pub text_known : (g : model.Cell) (d k : ℕ) (ms : List Member) (left : Bool) → IsListed g d k ms → left ≡ is_some (stamp_at (g.house (master_of ms)))
    → (if left then command_lines (mends g d) else refusal_line (codes "StampsSpent")) ≡ mending_text d g
text_known g d k ms left is same =
    ap (λ (b : Bool). if b then command_lines (mends g d) else refusal_line (codes "StampsSpent"))
    (same ∙ ap (λ (l : List Member). is_some (stamp_at (g.house (master_of l)))) (sym is.present))

-- where no houses are left out, and where some are
pub text_whole : (g : model.Cell) (d k : ℕ) (without : List HouseNo) (ms : List Member) → IsListed g d k ms → (length without == 0) ≡ true
    → mending_text d g ≡ mend_text d (numbers_of without) g
text_whole g d k [] ms is none = text_there g d k [] ms is
text_whole g d k (h ∷ hs) ms is none = let some : (length (h ∷ hs) == 0) ≡ false = grind (arith, nat_tests) in absurd (cc (sym some ∙ none))

pub text_without : (g : model.Cell) (d k : ℕ) (without : List HouseNo) (ms : List Member) → IsListed g d k ms → (length without == 0) ≡ false
    → leaving_text d (numbers_of without) g ≡ mend_text d (numbers_of without) g
text_without g d k [] ms is some = let none : (0 == 0) ≡ true = grind (arith, nat_tests) in absurd (cc (sym none ∙ some))
text_without g d k (h ∷ hs) ms is some = text_there g d k (numbers_of (h ∷ hs)) ms is

-- the text where no house can be master, and with one
pub text_headless : (g : model.Cell) (d : ℕ) (hs : List ℕ) (o : Option HouseNo) → o ≡ None → option_map (λ h. h.0) o ≡ new_master g d hs
    → refusal_line (codes "NoReplica") ≡ leaving_text d hs g
text_headless g d hs None is same = ap (text_led_by d hs g) same
text_headless g d hs (Some h) is same = absurd (cc (is))

pub text_headed : (g : model.Cell) (d : ℕ) (hs : List ℕ) (o : Option HouseNo) (h : HouseNo) → o ≡ Some h → option_map (λ h. h.0) o ≡ new_master g d hs
    → led_text d hs g h.0 ≡ leaving_text d hs g
text_headed g d hs None h is same = absurd (cc (is))
text_headed g d hs (Some x) h is same = let e : x ≡ h = cc (is) in ap (λ (y : HouseNo). led_text d hs g y.0) (sym e) ∙ ap (text_led_by d hs g) same

-- the lines with this master, or that it has no stamp left
pub text_led : (g : model.Cell) (d : ℕ) (hs : List ℕ) (m posted : ℕ) (ms kept : List Member) → g.present d ≡ ms → kept ≡ kept_members hs m ms
    → posted ≡ length (others_of m ms) → true ≡ is_some (stamp_at (g.house m)) → command_lines (commands_without g d m kept posted) ≡ led_text d hs g m
text_led g d hs m posted ms kept is stay count left =
    ap (λ (n : ℕ). command_lines (commands_without g d m kept n)) count
    ∙ ap (λ (l : List Member). command_lines (commands_without g d m l (length (others_of m ms)))) stay
    ∙ ap (λ (l : List Member). command_lines (commands_without g d m (kept_members hs m l) (length (others_of m l)))) (sym is)
    ∙ ap (λ (b : Bool). if b then command_lines (leaving_commands g d hs m) else refusal_line (codes "StampsSpent")) left

pub text_spent : (g : model.Cell) (d : ℕ) (hs : List ℕ) (m : ℕ) → false ≡ is_some (stamp_at (g.house m))
    → refusal_line (codes "StampsSpent") ≡ led_text d hs g m
text_spent g d hs m left = ap (λ (b : Bool). if b then command_lines (leaving_commands g d hs m) else refusal_line (codes "StampsSpent")) left

-- ---- houses

-- what a house that is up says of a directory
abbrev pub state_holds : Option DirState → ℕ → Bool
state_holds None k = false
state_holds (Some (dir.Gone e)) k = false
state_holds (Some (dir.Held h)) k = h.epoch.0 == k

slot_holds : (me floor : ℕ) (o : Option DirState) (s : model.Slot) (k : ℕ) → StandsSlot me floor o s → state_holds o k ≡ holds_at s k
slot_holds me floor None model.Absent k stands = refl
slot_holds me floor None (model.Gone e) k stands = absurd stands
slot_holds me floor None (model.Held r) k stands = absurd stands
slot_holds me floor (Some (dir.Gone e)) model.Absent k stands = absurd stands
slot_holds me floor (Some (dir.Gone e)) (model.Gone f) k stands = refl
slot_holds me floor (Some (dir.Gone e)) (model.Held r) k stands = absurd stands
slot_holds me floor (Some (dir.Held h)) model.Absent k stands = absurd stands
slot_holds me floor (Some (dir.Held h)) (model.Gone f) k stands = absurd stands
slot_holds me floor (Some (dir.Held h)) (model.Held r) k stands = ap (λ (n : ℕ). n == k) (sym stands.looks.epoch)

-- is what the model says
pub held_where : (x : HouseNo) (c : Clearinghouse) (now : model.House) (d : DirId) (k : ℕ) (o : Option DirState) → StandsUp x c now → o ≡ get c.dirs d
    → state_holds o k ≡ holds_at (now.slots d.0) k
held_where x c now d k o stands is =
    ap (λ (p : Option DirState). state_holds p k) is
    ∙ slot_holds c.house.0 c.floor.time (get c.dirs d) (now.slots d.0) k (stands.stands.slots d.0)

-- the epoch of what a house that is up holds, of this one or a later one
abbrev pub state_since : Option DirState → ℕ → Option ℕ
state_since None since = None
state_since (Some (dir.Gone e)) since = None
state_since (Some (dir.Held h)) since = epoch_since h.epoch.0 since

slot_since : (me floor : ℕ) (o : Option DirState) (s : model.Slot) (since : ℕ) → StandsSlot me floor o s → state_since o since ≡ held_since s since
slot_since me floor None model.Absent since stands = refl
slot_since me floor None (model.Gone e) since stands = absurd stands
slot_since me floor None (model.Held r) since stands = absurd stands
slot_since me floor (Some (dir.Gone e)) model.Absent since stands = absurd stands
slot_since me floor (Some (dir.Gone e)) (model.Gone f) since stands = refl
slot_since me floor (Some (dir.Gone e)) (model.Held r) since stands = absurd stands
slot_since me floor (Some (dir.Held h)) model.Absent since stands = absurd stands
slot_since me floor (Some (dir.Held h)) (model.Gone f) since stands = absurd stands
slot_since me floor (Some (dir.Held h)) (model.Held r) since stands = ap (λ (n : ℕ). epoch_since n since) (sym stands.looks.epoch)

-- is what the model says
pub since_where : (x : HouseNo) (c : Clearinghouse) (now : model.House) (d : DirId) (since : ℕ) (o : Option DirState) → StandsUp x c now → o ≡ get c.dirs d
    → state_since o since ≡ held_since (now.slots d.0) since
since_where x c now d since o stands is =
    ap (λ (p : Option DirState). state_since p since) is
    ∙ slot_since c.house.0 c.floor.time (get c.dirs d) (now.slots d.0) since (stands.stands.slots d.0)

-- a house that was not made holds nothing
pub unmade_since : (c : Cell) (g : model.Cell) (x d since : ℕ) → Stands c g → house_of c.houses.items x ≡ None → None ≡ held_since ((g.house x).slots d) since
unmade_since c g x d since s none =
    let unmade : has x g.made ≡ false = ap (has x) s.stands.made ∙ has_number c.houses.items x ∙ ap is_some none in
    ap (λ (now : model.House). held_since (now.slots d) since) (sym ((on_reached NumbersHold numbers_lem g s.reached).unmade x unmade))

-- a house of the cell that is up holds what it says
pub up_where : (c : Cell) (g : model.Cell) (x : ℕ) (home : Clearinghouse) → Stands c g
    → option_map (λ h. h.state) (house_of c.houses.items x) ≡ Some (state.Up home)
    → (y : HouseNo) × ((g.house x).up ≡ true) × StandsUp y home (g.house x)
up_where c g x home s is = by_house (house_of c.houses.items x) is (s.stands.houses x)
  where
    by_house : (o : Option CellHouse) → option_map (λ h. h.state) o ≡ Some (state.Up home) → MaybeStandsHouse o (g.house x)
        → (y : HouseNo) × ((g.house x).up ≡ true) × StandsUp y home (g.house x)
    by_house None is stands = absurd (cc (is))
    by_house (Some h) is stands =
        let same : h.state ≡ state.Up home = cc (is) in
        let at : StandsState h.house (state.Up home) (g.house x) = subst (λ (z : HouseState). StandsState h.house z (g.house x)) same stands.state in
        (h.house, at.0, at.1)

-- and so its answer is the model's
pub holds_where : (c : Cell) (g : model.Cell) (x d k : ℕ) (home : Clearinghouse) (b : Bool) → Stands c g
    → option_map (λ h. h.state) (house_of c.houses.items x) ≡ Some (state.Up home)
    → ((y : HouseNo) (now : model.House) → StandsUp y home now → b ≡ holds_at (now.slots d) k) → b ≡ is_held_at g x d k
holds_where c g x d k home b s is answer =
    let up = up_where c g x home s is in
    answer up.0 (g.house x) up.2 ∙ ap (λ (t : Bool). t && holds_at ((g.house x).slots d) k) (sym up.1)

-- a house that is not up holds nothing for a skulk
pub down_holds : (g : model.Cell) (x d k : ℕ) → (g.house x).up ≡ false → false ≡ is_held_at g x d k
down_holds g x d k down = ap (λ (t : Bool). t && holds_at ((g.house x).slots d) k) (sym down)

-- ---- lists of houses

-- the first house of these is not up, or holds another epoch
pub fails_at : (g : model.Cell) (d k : ℕ) (all rest : List Member) (m : Member) (ms : List Member) → rest ≡ m ∷ ms
    → is_held_by g d k rest ≡ is_held_by g d k all → false ≡ is_held_at g m.house d k → false ≡ is_held_by g d k all
fails_at g d k all rest m ms is same off =
    ap (λ (t : Bool). t && is_held_by g d k ms) off ∙ ap (is_held_by g d k) (sym is) ∙ same

-- it is up, and holds this epoch
pub passes_at : (g : model.Cell) (d k : ℕ) (all rest : List Member) (m : Member) (ms : List Member) → rest ≡ m ∷ ms
    → is_held_by g d k rest ≡ is_held_by g d k all → true ≡ is_held_at g m.house d k → is_held_by g d k ms ≡ is_held_by g d k all
passes_at g d k all rest m ms is same on =
    ap (λ (t : Bool). t && is_held_by g d k ms) on ∙ ap (is_held_by g d k) (sym is) ∙ same

-- ---- stamps

-- a house that was not made has a stamp left
pub unmade_stamp : (c : Cell) (g : model.Cell) (x : ℕ) → Stands c g → house_of c.houses.items x ≡ None → true ≡ is_some (stamp_at (g.house x))
unmade_stamp c g x s none =
    let unmade : has x g.made ≡ false = ap (has x) s.stands.made ∙ has_number c.houses.items x ∙ ap is_some none in
    ap (λ (now : model.House). is_some (stamp_at now)) (sym ((on_reached NumbersHold numbers_lem g s.reached).unmade x unmade))

-- a house has a stamp left where its floor is not the last time
pub stamp_left : (clock floor node : ℕ) → not (floor == last_time) ≡ is_some (next_stamp clock floor node)
stamp_left clock floor node = by_test (floor == last_time) (record { time = max clock (floor + 1); node = node })
  where
    by_test : (b : Bool) (t : Stamp) → not b ≡ is_some (if b then None else Some t)
    by_test true t = refl
    by_test false t = refl

-- ---- what a cell says of a house

-- what there is of a house stands for the model's
pub state_where : (c : Cell) (g : model.Cell) (x : ℕ) (st : HouseState) → Stands c g → Some st ≡ option_map (λ h. h.state) (house_of c.houses.items x)
    → (y : HouseNo) × StandsState y st (g.house x)
state_where c g x st s is = by_house (house_of c.houses.items x) is (s.stands.houses x)
  where
    by_house : (o : Option CellHouse) → Some st ≡ option_map (λ h. h.state) o → MaybeStandsHouse o (g.house x)
        → (y : HouseNo) × StandsState y st (g.house x)
    by_house None is stands = absurd (cc (is))
    by_house (Some h) is stands =
        let same : h.state ≡ st = cc (is) in
        (h.house, subst (λ (z : HouseState). StandsState h.house z (g.house x)) same stands.state)

-- a house of which there is nothing
pub none_there : (c : Cell) (x : ℕ) → None ≡ option_map (λ h. h.state) (house_of c.houses.items x) → house_of c.houses.items x ≡ None
none_there c x is = by_house (house_of c.houses.items x) is
  where
    by_house : (o : Option CellHouse) → None ≡ option_map (λ h. h.state) o → o ≡ None
    by_house None is = refl
    by_house (Some h) is = absurd (cc (is))

-- a house that is not up holds nothing
pub not_up_holds : (g : model.Cell) (x d k : ℕ) → true ≡ is_down g x → false ≡ is_held_at g x d k
not_up_holds g x d k down = down_holds g x d k (not_up (g.house x).up down)
  where
    not_up : (b : Bool) → true ≡ not b → b ≡ false
    not_up true is = absurd (cc (is))
    not_up false is = refl

-- a house whose floor is this has a stamp left where that is not the last time
pub stamp_where : (now : model.House) (floor : ℕ) (left : Bool) → left ≡ not (floor == last_time) → floor ≡ now.floor → left ≡ is_some (stamp_at now)
stamp_where now floor left is same = is ∙ ap (λ (t : ℕ). not (t == last_time)) same ∙ stamp_left now.clock now.floor now.node

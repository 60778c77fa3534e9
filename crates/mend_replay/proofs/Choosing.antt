-- What is chosen to be master once houses are left out is what the model chooses.
use Rattle.std.proofs.Common.{◌≡◌, ℕ, ◌<◌, ◌≤◌, Bool, true, false, List, [], ◌∷◌, ◌++◌, drop, refl, sym, ◌∙◌, ap, subst, arith, append_assoc, if◌then◌else◌}
use Rattle.std.specs.Prelude.{Option, Some, None, ◌==◌, nat_lt, nat_le}
use Rattle.std.specs.Option.{option_map}
use Rattle.std.proofs.lemmas.Bool.Decides.{nat_tests}
use Rattle.cds_stamps.specs.declared.members.MemberKind.TheVariants.{Master}
use Rattle.cds_stamps.specs.declared.numbers.EpochNo.{EpochNo}
use Rattle.cds_stamps.specs.Members.{Member, master_of}
use Rattle.cell_model.specs.Cells.{Cell}
use Rattle.cell_model.specs.Sets.{has}
use Rattle.mend_model.specs.Leaving as model
use Rattle.mend_model.specs.Leaving.{best_of, better, candidate_of, held_since, kept_members, new_master}
use Rattle.mend_replay.specs.PrivateLines.{led_member}
use Rattle.mend_replay.specs.PrivateMasters.{as_candidate, epoch_since}
use Rattle.mend_replay.specs.declared.masters.Candidate.{Candidate}

-- ---- the master

module _ (g : Cell) (d m : ℕ) (hs : List ℕ) (ms : List Member) (is : g.present d ≡ ms) (head : m ≡ master_of ms) where
  same : m ≡ master_of (g.present d)
  same = head ∙ ap master_of (sym is)

  test : has m hs ≡ has (master_of (g.present d)) hs
  test = ap (λ (x : ℕ). has x hs) same

  -- the master that stays
  pub master_stays : false ≡ has m hs → Some m ≡ new_master g d hs
  master_stays out =
      ap (λ (x : ℕ). Some x) same
      ∙ ap (λ (b : Bool). if b then option_map (λ (c : model.Candidate). c.house) (best_of g d hs None (g.present d)) else Some (master_of (g.present d))) (out ∙ test)

  chosen : true ≡ has m hs → option_map (λ (c : model.Candidate). c.house) (best_of g d hs None ms) ≡ new_master g d hs
  chosen out =
      ap (λ (l : List Member). option_map (λ (c : model.Candidate). c.house) (best_of g d hs None l)) (sym is)
      ∙ ap (λ (b : Bool). if b then option_map (λ (c : model.Candidate). c.house) (best_of g d hs None (g.present d)) else Some (master_of (g.present d))) (out ∙ test)

  -- another one, or none
  pub master_best : (best : Candidate) → true ≡ has m hs → option_map as_candidate (Some best) ≡ best_of g d hs None ms → Some best.house.0 ≡ new_master g d hs
  master_best best out found = ap (option_map (λ (c : model.Candidate). c.house)) found ∙ chosen out

  pub master_none : true ≡ has m hs → None ≡ best_of g d hs None ms → None ≡ new_master g d hs
  master_none out found = ap (option_map (λ (c : model.Candidate). c.house)) found ∙ chosen out

-- ---- houses that could be master

module _ (g : Cell) (d : ℕ) (hs : List ℕ) (y : Member) where
  pub candidate_left : true ≡ has y.house hs → None ≡ candidate_of g d hs y
  candidate_left out =
      ap (λ (b : Bool). if b then None else option_map (λ k. let c : model.Candidate = record { house = y.house; epoch = k } in c) (held_since ((g.house y.house).slots d) y.since)) out

  candidate_stays : false ≡ has y.house hs
      → option_map (λ k. let c : model.Candidate = record { house = y.house; epoch = k } in c) (held_since ((g.house y.house).slots d) y.since) ≡ candidate_of g d hs y
  candidate_stays out =
      ap (λ (b : Bool). if b then None else option_map (λ k. let c : model.Candidate = record { house = y.house; epoch = k } in c) (held_since ((g.house y.house).slots d) y.since)) out

  pub candidate_some : (e : EpochNo) → false ≡ has y.house hs → Some e.0 ≡ held_since ((g.house y.house).slots d) y.since
      → Some (record { house = y.house; epoch = e.0 }) ≡ candidate_of g d hs y
  candidate_some e out held = ap (option_map (λ k. let c : model.Candidate = record { house = y.house; epoch = k } in c)) held ∙ candidate_stays out

  pub candidate_none : false ≡ has y.house hs → None ≡ held_since ((g.house y.house).slots d) y.since → None ≡ candidate_of g d hs y
  candidate_none out held = ap (option_map (λ k. let c : model.Candidate = record { house = y.house; epoch = k } in c)) held ∙ candidate_stays out

-- of two, the one that holds the later epoch
pub better_later : (a b : model.Candidate) → a.epoch < b.epoch → Some b ≡ better (Some a) (Some b)
better_later a b less =
    let test : true ≡ nat_lt a.epoch b.epoch = grind (arith, nat_tests, less) in ap (λ (t : Bool). if t then Some b else Some a) test

pub better_first : (a b : model.Candidate) → b.epoch ≤ a.epoch → Some a ≡ better (Some a) (Some b)
better_first a b le =
    let test : false ≡ nat_lt a.epoch b.epoch = grind (arith, nat_tests, le) in ap (λ (t : Bool). if t then Some b else Some a) test

-- an epoch from this one on, and one before it
pub since_held : (held since : ℕ) → since ≤ held → Some held ≡ epoch_since held since
since_held held since le =
    let test : true ≡ nat_le since held = grind (arith, nat_tests, le) in ap (λ (t : Bool). if t then Some held else None) test

pub since_before : (held since : ℕ) → held < since → None ≡ epoch_since held since
since_before held since less =
    let test : false ≡ nat_le since held = grind (arith, nat_tests, less) in ap (λ (t : Bool). if t then Some held else None) test

-- ---- members that stay

-- one more of them, and one that is left out
pub next_kept : (hs : List ℕ) (m : ℕ) (y : Member) (ys : List Member) → false ≡ has y.house hs → led_member m y ∷ kept_members hs m ys ≡ kept_members hs m (y ∷ ys)
next_kept hs m y ys out = ap (λ (b : Bool). if b then kept_members hs m ys else led_member m y ∷ kept_members hs m ys) out

pub no_kept : (hs : List ℕ) (m : ℕ) (y : Member) (ys : List Member) → true ≡ has y.house hs → kept_members hs m ys ≡ kept_members hs m (y ∷ ys)
no_kept hs m y ys out = ap (λ (b : Bool). if b then kept_members hs m ys else led_member m y ∷ kept_members hs m ys) out

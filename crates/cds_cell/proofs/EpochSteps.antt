-- What comes of a new epoch, as a command of the model.
use Rattle.std.proofs.Common.{Global, ◌≡◌, ℕ, zero, suc, ◌+◌, ◌<◌, ◌≤◌, List, [], ◌∷◌, true, false, length, subst, refl, sym}
use Rattle.std.proofs.Common.{◌∙◌, ap, arith, inl, inr}
use Rattle.std.specs.Prelude.{Some, None, Result, Ok, Err, slice_get, slice_set}
use Rattle.std.specs.declared.vec.Vec.{Vec}
use Rattle.std.proofs.Math.ListN.{get_or, length-set}
use Rattle.std.proofs.lemmas.Option.{slice_get_read}
use Rattle.std.specs.Result.{result_err}
use Rattle.cds_stamps.specs.declared.numbers.EpochNo.{EpochNo}
use Rattle.cds_stamps.specs.declared.members.Member as declared
use Rattle.cds_stamps.specs.Members.{Member, master_of, members_of}
use Rattle.cell_model.specs.Cells as model
use Rattle.cell_model.specs.Commands as command
use Rattle.cell_model.specs.Nevers.{Nevers}
use Rattle.cell_model.specs.Steps.{Outcome, at_house, effect, first_refusal, is_bad_list, is_down, is_missing, is_unknown}
use Rattle.cell_model.specs.Steps.{left_members, member_list_of, refusals_of, with_epoch}
use Rattle.cell_model.specs.Turns as turns
use Rattle.cell_model.proofs.NeverComes.{nevers_lem}
use Rattle.cell_model.proofs.Standing.{on_reached}
use Rattle.cell_model.proofs.Terms.{master_new}
use Rattle.script_answers.specs.declared.answer.Answer.TheVariants as answer
use Rattle.script_answers.specs.declared.answer.ScriptRefusal.{ScriptRefusal}
use Rattle.house_directory.specs.declared.epochs.EpochRefusal.{EpochRefusal}
use Rattle.house_directory.specs.declared.epochs.EpochRefusal.TheVariants as why
use Rattle.house_directory.specs.DirectorySteps.{IsEpochAnswer}
use Rattle.cds_cell.specs.declared.bag.Bag.{Bag}
use Rattle.cds_cell.specs.declared.cell.Cell.{Cell}
use Rattle.cds_cell.specs.declared.console.Listing.{Listing}
use Rattle.cds_cell.specs.PrivateActs.{ActsAt, KeepsRest, Tells}
use Rattle.cds_cell.specs.PrivateHouses.{IsNewEpoch}
use Rattle.cds_cell.specs.PrivateSteps.{IsPlaceOf, IsStepAs, Leaves}
use Rattle.cds_cell.specs.Scripted as script
use Rattle.cds_cell.specs.ModelCells.{Stands, StandsAs, StandsListing, directory_of, greatest_epoch, house_of}
use Rattle.cds_cell.proofs.HouseActs.{Acted, acted, noted_stands}
use Rattle.cds_cell.proofs.ActSteps.{never_missing, passed, told_by, up_where}
use Rattle.cds_cell.proofs.Serials.{new_epoch_tells}

-- the step of the house that becomes the master, and what the console notes of it
abbrev pub entered : model.Cell → (d m k : ℕ) → List Member → List ℕ → Outcome
entered g d m k ms left =
    let o : Outcome = at_house g m (turns.new_epoch m (g.house m) d k ms left) in
    with_epoch o d ms o.answer

-- nothing is noted where the epoch is refused
with_epoch-refused : (o : Outcome) (d : ℕ) (ms : List Member) (k : ℕ) (r : EpochRefusal) (a : command.Answer) → IsEpochAnswer k (Some r) a
    → with_epoch o d ms a ≡ o
with_epoch-refused o d ms k why.NoReplica (command.NewEpoch e ns) is = absurd is
with_epoch-refused o d ms k (why.NotJoined held since) (command.NewEpoch e ns) is = absurd is
with_epoch-refused o d ms k (why.StaleEpoch held given) (command.NewEpoch e ns) is = absurd is
with_epoch-refused o d ms k r a is = refl

-- a new epoch that was taken is noted, and told with the serial numbers
noted_step : (c c' : Cell) (o : Outcome) (d i : ℕ) (e : EpochNo) (ms : List Member) (ns : List ℕ) (l : Listing) (a : command.Answer) → o.answer ≡ a
    → IsEpochAnswer e.0 None a → Tells a ns → StandsAs c o.cell → d ≡ i + 1 → i < length c.directories.items → c'.houses ≡ c.houses
    → c'.directories.items ≡ slice_set c.directories.items i l → c'.bag ≡ c.bag → c'.spent ≡ c.spent → 1 ≤ l.epoch.0 → l.epoch ≡ e → members_of l.members ≡ ms
    → IsStepAs (answer.Epoch e ns) c' (with_epoch o d ms a)
noted_step c c' o d i e ms ns l (command.NewEpoch k ks) answered is tells s number within houses directories bag spent first epoch members = record {
  answer = ap script.answer_of answered ∙ ap (λ (k : ℕ). Some (answer.Epoch (record { 0 = k }) ks)) (sym is) ∙ ap (λ ns. Some (answer.Epoch e ns)) tells;
  stands = noted_stands c c' o.cell d i k ms l s number within houses directories bag spent first (ap (λ (e : EpochNo). e.0) epoch ∙ is) members;
}
noted_step c c' o d i e ms ns l a answered is tells s number within houses directories bag spent first epoch members = absurd is

-- the master at this place is asked for the next epoch of a directory, as the model's is
pub record EpochCall (c : Cell) (g : model.Cell) (d m : ℕ) (rs ss : List ℕ) (at : ℕ) (e : EpochNo) (ms : List Member) (left : List ℕ) : Type 0 where
  pub place : IsPlaceOf c.houses.items m at
  pub leads : IsPlaceOf c.houses.items (master_of ms) at
  pub epoch : e.0 ≡ g.top d + 1
  pub members : ms ≡ member_list_of (g.present d) e.0 m rs ss
  pub gone : left ≡ left_members (g.present d) ms
  pub later : IsNewEpoch e.0 ((g.house m).slots d)

-- a listing of the console stands for what the model's knows
listing_known : (c : Cell) (g : model.Cell) (d i : ℕ) (l : Listing) → StandsAs c g → d ≡ i + 1 → slice_get c.directories.items i ≡ Some l
    → StandsListing (Some l) g d
listing_known c g d i l s number there =
    let next : d ≡ suc i = omega (arith, number) in
    subst (λ d. StandsListing (Some l) g d) (sym next)
    (subst (λ o. StandsListing o g (suc i)) there (s.directories (suc i)))

module _ (c : Cell) (g : model.Cell) (d m : ℕ) (rs ss : List ℕ) (s : Stands c g) (none : first_refusal (refusals_of g (command.Epoch d m rs ss)) ≡ None) where
  -- the directory of a new epoch is known
  pub epoch_known : directory_of c.directories.items d ≡ None → ⊥
  epoch_known unlisted =
      let known : is_unknown g d ≡ false = passed (refusals_of g (command.Epoch d m rs ss)) (is_unknown g d) command.NoDirectory (inl refl) none in
      let top : g.top d ≡ 0 = subst (λ o. StandsListing o g d) unlisted (s.stands.directories d) in
      let unknown : is_unknown g d ≡ true = rw top refl in
      cc

  -- its master was made
  pub epoch_placed : house_of c.houses.items m ≡ None → ⊥
  epoch_placed unmade =
      never_missing c g m rs s.stands (passed (refusals_of g (command.Epoch d m rs ss)) (is_missing g (m ∷ rs)) command.NoHouse (inr (inl refl)) none) unmade

  -- its list is not a bad one
  pub epoch_listed : is_bad_list (m ∷ rs) ≡ false
  epoch_listed = passed (refusals_of g (command.Epoch d m rs ss)) (is_bad_list (m ∷ rs)) command.BadMembers (inr (inr (inl refl))) none

  -- its master is up
  pub epoch_up : (g.house m).up ≡ true
  epoch_up = up_where g m (passed (refusals_of g (command.Epoch d m rs ss)) (is_down g m) command.Down (inr (inr (inr (inr (inl refl))))) none)

  -- its number is above that of each epoch that is held
  pub epoch_new : (x : ℕ) → IsNewEpoch (g.top d + 1) ((g.house x).slots d)
  epoch_new x = go ((g.house x).slots d) refl
    where
      go : (s : model.Slot) → (g.house x).slots d ≡ s → IsNewEpoch (g.top d + 1) s
      go model.Absent is = tt
      go (model.Gone e) is = tt
      go (model.Held r) is = (on_reached Nevers nevers_lem g s.reached).given x d r is

  -- the call that the console's listing leads to
  pub epoch_call : (i at : ℕ) (l : Listing) (e : EpochNo) (old older : List declared.Member) (ms : List Member) (left : List ℕ) → d ≡ i + 1
      → i < length c.directories.items → l ≡ get_or c.directories.items i l → IsPlaceOf c.houses.items m at → e.0 ≡ l.epoch.0 + 1 → old ≡ l.members
      → older ≡ l.members → ms ≡ member_list_of (members_of old) e.0 m rs ss → left ≡ left_members (members_of older) ms → EpochCall c g d m rs ss at e ms left
  epoch_call i at l e old older ms left number within here place next same still members gone =
      let known = listing_known c g d i l s.stands number (slice_get_read c.directories.items (length c.directories.items) i l refl within here) in
      let epoch : e.0 ≡ g.top d + 1 = next ∙ ap (λ n. n + 1) (sym known.1) in
      let present : members_of old ≡ g.present d = ap members_of same ∙ sym known.2 in
      let presently : members_of older ≡ g.present d = ap members_of still ∙ sym known.2 in
      let list : ms ≡ member_list_of (g.present d) e.0 m rs ss = members ∙ ap (λ ms. member_list_of ms e.0 m rs ss) present in
      let lead : master_of ms ≡ m = ap master_of list ∙ master_new (g.present d) e.0 m rs ss in
      record {
        place = place;
        leads = subst (λ x. IsPlaceOf c.houses.items x at) (sym lead) place;
        epoch = epoch;
        members = list;
        gone = gone ∙ ap (λ old. left_members old ms) presently;
        later = subst (λ k. IsNewEpoch k ((g.house m).slots d)) (sym epoch) (epoch_new m);
      }

  module _ (c' : Cell) (at : ℕ) (e : EpochNo) (ms : List Member) (left before ns : List ℕ) (first : before ≡ [])
      (call : EpochCall c g d m rs ss at e ms left) where
    abbrev step : turns.HouseStep
    step = turns.new_epoch m (g.house m) d e.0 ms left

    -- the command is the step of the master and what the console notes of it
    pub effect_is : effect g (command.Epoch d m rs ss) ≡ entered g d m e.0 ms left
    effect_is =
        let old : List Member = g.present d in
        ap (λ k. entered g d m k (member_list_of old k m rs ss) (left_members old (member_list_of old k m rs ss))) (sym call.epoch)
        ∙ ap (λ ms. entered g d m e.0 ms (left_members old ms)) (sym call.members)
        ∙ ap (λ left. entered g d m e.0 ms left) (sym call.gone)

    acts_in : (Answers : command.Answer → Type 0) → ActsAt c c' at before ns Answers (g.house m) (λ h. turns.new_epoch h (g.house m) d e.0 ms left)
        → Acted c' g m [] ns Answers step
    acts_in Answers acts =
        let told : ActsAt c c' at [] ns Answers (g.house m) (λ h. turns.new_epoch h (g.house m) d e.0 ms left) =
        subst (λ (ns' : List ℕ). ActsAt c c' at ns' ns Answers (g.house m) (λ h. turns.new_epoch h (g.house m) d e.0 ms left)) first acts in
        acted c c' g m at [] ns Answers (λ h. turns.new_epoch h (g.house m) d e.0 ms left) s.stands call.place told epoch_up

    -- a new epoch that is refused
    pub epoch_refused : (r : EpochRefusal) (told : ScriptRefusal) (result : Result (Unit {0}) EpochRefusal) → result ≡ Err r
        → ActsAt c c' at before ns (IsEpochAnswer e.0 (result_err result)) (g.house m) (λ h. turns.new_epoch h (g.house m) d e.0 ms left)
        → ((a : command.Answer) → IsEpochAnswer e.0 (Some r) a → script.answer_of a ≡ Some (answer.Refused told))
        → IsStepAs (answer.Refused told) c' (effect g (command.Epoch d m rs ss))
    epoch_refused r told result err acts answers =
        let o : Outcome = at_house g m step in
        let a = acts_in (IsEpochAnswer e.0 (Some r))
        (subst (λ q. ActsAt c c' at before ns (IsEpochAnswer e.0 (result_err q)) (g.house m) (λ h. turns.new_epoch h (g.house m) d e.0 ms left)) err acts) in
        let is : effect g (command.Epoch d m rs ss) ≡ o = effect_is ∙ with_epoch-refused o d ms e.0 r o.answer a.answer in
        subst (λ (o : Outcome). IsStepAs (answer.Refused told) c' o) (sym is) (record { answer = answers o.answer a.answer; stands = a.stands })

    -- a new epoch that its master took, and the console noted
    pub epoch_taken : (c'' : Cell) (i : ℕ) (l : Listing) (result : Result (Unit {0}) EpochRefusal) (done : Unit {0}) → result ≡ Ok done
        → ActsAt c c' at before ns (IsEpochAnswer e.0 (result_err result)) (g.house m) (λ h. turns.new_epoch h (g.house m) d e.0 ms left)
        → d ≡ i + 1 → i < length c'.directories.items → c''.houses ≡ c'.houses → c''.directories.items ≡ slice_set c'.directories.items i l
        → c''.bag ≡ c'.bag → c''.spent ≡ c'.spent → l.epoch ≡ e → members_of l.members ≡ ms
        → IsStepAs (answer.Epoch e ns) c'' (effect g (command.Epoch d m rs ss))
    epoch_taken c'' i l result done ok acts number within houses directories bag spent of_epoch of_members =
        let o : Outcome = at_house g m step in
        let a = acts_in (IsEpochAnswer e.0 None)
        (subst (λ q. ActsAt c c' at before ns (IsEpochAnswer e.0 (result_err q)) (g.house m) (λ h. turns.new_epoch h (g.house m) d e.0 ms left)) ok acts) in
        let high : 1 ≤ l.epoch.0 = (let same : l.epoch.0 ≡ e.0 = ap (λ (e : EpochNo). e.0) of_epoch in omega (arith, same, call.epoch)) in
        subst (λ (o : Outcome). IsStepAs (answer.Epoch e ns) c'' o) (sym effect_is)
        (noted_step c' c'' o d i e ms ns l o.answer refl a.answer
        (told_by c c' g m ns (IsEpochAnswer e.0 None) step a (new_epoch_tells m (g.house m) d e.0 ms left))
        a.stands number within houses directories bag spent high of_epoch of_members)

-- ---- the greatest epoch

-- each listing's epoch is at most the greatest
pub greatest_at : (ls : List Listing) (i : ℕ) (l : Listing) → slice_get ls i ≡ Some l → l.epoch.0 ≤ greatest_epoch ls
greatest_at [] i l is = absurd (cc)
greatest_at (k ∷ ls) zero l is = let same : k.epoch.0 ≡ l.epoch.0 = (let one : k ≡ l = cc in ap (λ (l : Listing). l.epoch.0) one) in omega (arith, same)
greatest_at (k ∷ ls) (suc i) l is = let rest : l.epoch.0 ≤ greatest_epoch ls = greatest_at ls i l is in omega (arith, rest)

-- the greatest is at most a number that none of them passes
pub greatest_set : (ls : List Listing) (i n : ℕ) (l : Listing) → l.epoch.0 ≤ n → greatest_epoch ls ≤ n → greatest_epoch (slice_set ls i l) ≤ n
greatest_set [] i n l new old = old
greatest_set (k ∷ ls) zero n l new old = omega (arith, new, old)
greatest_set (k ∷ ls) (suc i) n l new old =
    let rest : greatest_epoch ls ≤ n = omega (arith, old) in
    let behind : greatest_epoch (slice_set ls i l) ≤ n = greatest_set ls i n l new rest in
    omega (arith, behind, old)

-- what a new epoch that was taken leaves
pub epoch_leaves : (c d e : Cell) (i : ℕ) (l k : Listing) (told : EpochNo) (ns : List ℕ) → i < length c.directories.items → l ≡ get_or c.directories.items i l
    → k.epoch.0 ≡ l.epoch.0 + 1 → KeepsRest c d → d.bag.posted ≤ c.bag.posted + 128 → e.directories.items ≡ slice_set d.directories.items i k
    → e.bag ≡ d.bag → e.spent ≡ d.spent → Leaves c e (Ok (answer.Epoch told ns))
epoch_leaves c d e i l k told ns within here next rest few directories bag spent =
    let ls : List Listing = c.directories.items in
    let high : l.epoch.0 ≤ greatest_epoch ls = greatest_at ls i l (slice_get_read ls (length ls) i l refl within here) in
    let same : d.directories.items ≡ ls = ap (λ (v : Vec Listing Global). v.items) rest.directories in
    let new : k.epoch.0 ≤ greatest_epoch ls + 1 = omega (arith, high, next) in
    let old : greatest_epoch ls ≤ greatest_epoch ls + 1 = omega arith in
    let top : greatest_epoch e.directories.items ≤ greatest_epoch ls + 1 =
    subst (λ xs. greatest_epoch xs ≤ greatest_epoch ls + 1) (sym (directories ∙ ap (λ xs. slice_set xs i k) same))
    (greatest_set ls i (greatest_epoch ls + 1) k new old) in
    let count : length e.directories.items ≡ length ls = ap length (directories ∙ ap (λ xs. slice_set xs i k) same) ∙ length-set ls i k in
    let posted : e.bag.posted ≡ d.bag.posted = ap (λ (b : Bag). b.posted) bag in
    record {
      spent = spent ∙ rest.spent;
      grows = record { messages = omega (arith, posted, few); directories = omega (arith, count); epochs = top };
      same = tt;
    }

-- What is said to a line, from the calls of the clearinghouse.
use Rattle.std.proofs.Common.{◌≡◌, ℕ, ◌+◌, ◌<◌, ◌≤◌, Bool, true, false, List, [], ◌∷◌, ◌++◌, length, refl, sym, ap, subst, ◌∙◌, append-nil, arith}
use Rattle.std.specs.Prelude.{Option, Some, None, Result, Ok, Err, IfOk, MatchOption, codes, cond, decimal, is_none, is_some, ◌==◌, ◌&&◌, nat_le, nat_lt, not, if◌then◌else◌}
use Rattle.std.specs.List.{list_all}
use Rattle.std.specs.FinMap.{FinMap, get, get-insert, insert}
use Rattle.std.specs.Ordering.{eq_by_cmp}
use Rattle.cds_stamps.specs.Keyed.{ties_are_equal}
use Rattle.cds_messages.specs.Dirs.{dir_cmp, dir_exact, dir_total}
use Rattle.std.specs.declared.alloc.AllocError.{AllocError}
use Rattle.std.proofs.lemmas.Bool.Decides.{nat_tests}
use Rattle.cds_stamps.specs.declared.numbers.DirId.{DirId}
use Rattle.cds_stamps.specs.declared.numbers.EpochNo.{EpochNo}
use Rattle.cds_stamps.specs.declared.numbers.HouseNo.{HouseNo}
use Rattle.cds_stamps.specs.Members.{Member, is_listed, master_of, members_fault, members_of}
use Rattle.cds_stamps.specs.Numbers.{root_dir}
use Rattle.cell_names.specs.Houses.{Houses}
use Rattle.cell_script.specs.declared.lists.Listed.{Listed}
use Rattle.cds_stamps.specs.declared.stamp.Stamp.{Stamp}
use Rattle.directory.specs.declared.update.UpdateRefusal.{UpdateRefusal}
use Rattle.directory.specs.declared.update.Update.TheVariants as update
use Rattle.directory.specs.Updates as change
use Rattle.directory.specs.Updates.{Change}
use Rattle.record_fields.specs.Decoding.{Decodes, decode_by}
use Rattle.record_fields.specs.declared.fault.RecordFault.{RecordFault}
use Rattle.cds_records.specs.Records as records
use Rattle.cds_messages.specs.declared.message.Message.{Message}
use Rattle.cell_model.specs.Steps.{is_bad_list, sorted_houses}
use Rattle.cell_model.specs.Taking.{CanTake}
use Rattle.cell_model.specs.Turns.{HouseStep, Turn, accept, found_directory, take}
use Rattle.script_answers.specs.Texts.{answer_line}
use Rattle.script_answers.specs.declared.answer.Answer.TheVariants as answer
use Rattle.house_directory.specs.declared.taking.Taken.{Taken}
use Rattle.house_directory.specs.declared.taking.Taken.TheVariants as taken
use Rattle.house_directory.specs.DirectorySteps.{IsStampAnswer, IsTakeAnswer, UnlessTaken, is_taken}
use Rattle.house_directory.specs.HouseMessages.{StandsMessage, leave_of, numbers_of, posts_to}
use Rattle.house_lines.specs.declared.line.HouseOrder.TheVariants as order
use Rattle.cell_model.specs.Cells as model
use Rattle.cell_model.specs.Commands as command
use Rattle.script_answers.specs.declared.answer.ScriptRefusal.TheVariants as why
use Rattle.house_directory.specs.declared.posted.Posted.{Posted}
use Rattle.house_directory.specs.declared.states.DirState.{DirState}
use Rattle.house_directory.specs.declared.states.DirState.TheVariants as state
use Rattle.house_directory.specs.Refusing.{IsLater}
use Rattle.clearinghouse.specs.declared.house.Clearinghouse.{Clearinghouse}
use Rattle.clearinghouse.specs.declared.letters.Letters.{Letters}
use Rattle.clearinghouse.specs.HouseLetters.{AreLetters, epoch_posts_at, posts_at, sender_of}
use Rattle.clearinghouse.specs.HouseSteps.{IsStep, IsTurn}
use Rattle.clearinghouse.specs.HouseUpdates.{TakesUpdate}
use Rattle.house_directory.specs.declared.outgoing.Outgoing.{Outgoing}
use Rattle.house_directory.specs.declared.outgoing.Outgoing.TheVariants as out
use Rattle.clearinghouse.specs.LawfulHouses.{IsLawful}
use Rattle.clearinghouse.specs.ModelHouses.{StandsHouse}
use Rattle.house_lines.specs.declared.line.EpochList.{EpochList}
use Rattle.house_lines.specs.declared.line.HouseOrder.{HouseOrder}
use Rattle.cell_runs.specs.Entries.{Post}
use Rattle.cell_runs.specs.LineOrders.{listed_houses, order_of}
use Rattle.cell_runs.specs.OrderSteps.{Carries, IsLetterOf, order_step, then_found}
use Rattle.cds_cell.specs.Scripted.{update_refusal_of}
use Rattle.cell_runs.specs.LineAnswers.{refused}
use Rattle.record_fields.proofs.OneDecoding.{answers_decoding}
use Rattle.house_turns.specs.declared.said.Said.{Said}
use Rattle.house_turns.specs.LineOutcomes.{ComesTo, HasNoEnd, IsMessageOf, IsOutcome, Outcome, Posts, StaysAt, TakesMessageOf, Tells}
use Rattle.house_turns.specs.HouseAnswers.{ascend_from, early_refusal, epoch_refusal, founding_refusal, is_given, maybe_refused, restored_refusal, take_refusal}
use Rattle.own_stamps.specs.OwnStamps.{later_own}
use Rattle.house_turns.specs.PrivateTurns.{ArePostsOf, Comes, ComesUnless, Does, MakesChild, Says, TakesMessage, TakesUnless, epoch_of, first_members, posts_of_letters, taken_line, taken_outcome}
use Rattle.house_turns.proofs.Letters.{letters_posts, maybe_letters, posts_both, posts_stand}
use Rattle.house_turns.proofs.PlainTexts.{done_ends_nowhere, made_ends_nowhere, taken_is_one_line}
use Rattle.house_turns.proofs.Outcomes.{Fits, Reads, accept_fits, child_posts, child_tells, posts_outcome, refused_reads, taken_reads, tells_outcome, untaken_reads}

-- ---- letters

-- letters that were made, if they were, are what is posted
pub made_letters : (r : Result (Option Letters) AllocError) (ps : List Posted)
    → IfOk r (λ o. MatchOption o (ps ≡ []) (λ l. AreLetters l ps)) → IfOk r (λ o. ArePostsOf (posts_of_letters o) ps)
made_letters (Ok o) ps is = maybe_letters o ps is
made_letters (Err e) ps is = tt

-- the Joins of a new epoch, and its Leaves
pub epoch_letters : (c : Clearinghouse) (d : DirId) (k : EpochNo) (leaving : List HouseNo) (first : Option Letters) (ls : Letters)
    → MatchOption first (posts_at c d (Some out.Join) ≡ []) (λ l. AreLetters l (posts_at c d (Some out.Join)))
    → AreLetters ls (posts_to (numbers_of leaving) (leave_of (sender_of c d) k))
    → ArePostsOf (posts_of_letters first ++ posts_of_letters (Some ls)) (epoch_posts_at c d k leaving None)
epoch_letters c d k leaving first ls joins leaves =
    let there : List Posted = posts_at c d (Some out.Join) in
    let gone : List Posted = posts_to (numbers_of leaving) (leave_of (sender_of c d) k) in
    posts_both (posts_of_letters first) (posts_of_letters (Some ls)) there gone (maybe_letters first there joins) (letters_posts ls gone leaves)

-- ---- what is said, and what an order comes to

module _ (r : Result Said AllocError) (number : ℕ) (c c' : Clearinghouse) (clock : ℕ) (l : HouseOrder) where
  -- it is said what the order comes to
  pub said_comes : (o : Outcome) → IfOk r (λ s. Says number s o) → ComesTo c clock l o c' → IfOk r (λ s. Comes number c c' clock l s)
  said_comes o says comes = go r says
    where
      go : (r : Result Said AllocError) → IfOk r (λ s. Says number s o) → IfOk r (λ s. Comes number c c' clock l s)
      go (Ok s) says = record { outcome = o; says = says; comes = comes }
      go (Err e) says = tt

  -- an order that is refused before the model is asked
  pub refused_early : (said : List ℕ) → early_refusal c l ≡ Some said → c' ≡ c → IfOk r (λ s. Says number s (Tells (said ∷ [])))
      → IfOk r (λ s. Does number c c' clock l s)
  refused_early said is same says =
      subst (λ (o : Option (List ℕ)). IfOk r (λ s. ComesUnless o number c c' clock l s)) (sym is) (go r says)
    where
      go : (r : Result Said AllocError) → IfOk r (λ s. Says number s (Tells (said ∷ []))) → IfOk r (λ s. ComesUnless (Some said) number c c' clock l s)
      go (Ok s) says = (says, same)
      go (Err e) says = tt

  -- one that is not
  pub asked_model : early_refusal c l ≡ None → IfOk r (λ s. Comes number c c' clock l s) → IfOk r (λ s. Does number c c' clock l s)
  asked_model is comes = subst (λ (o : Option (List ℕ)). IfOk r (λ s. ComesUnless o number c c' clock l s)) (sym is) comes

module _ (Answers : command.Answer → Type 0) (said : List ℕ) (c c' : Clearinghouse) (posted : List Posted) (clock : ℕ) (l : HouseOrder)
    (house : c'.house ≡ c.house) (node : c'.node ≡ c.node) (lawful : IsLawful c → IsLawful c')
    (fits : (now : model.House) (m : model.Message) → Fits (order_step c.house.0 now (order_of l) m))
    (step : (now : model.House) (m : model.Message) → StandsHouse c now → now.clock ≡ clock → Carries c.house.0 now (order_of l) m
    → IsStep Answers (order_step c.house.0 now (order_of l) m) c c' posted) (takes : (o : Outcome) → TakesMessageOf l c c' o) where
  -- a call that is no turn
  pub comes_tells : Reads Answers false said → c' ≡ c → ComesTo c clock l (Tells (said ∷ [])) c'
  comes_tells reads same = record {
    step = λ now m stands ticks carries.
        tells_outcome Answers said c c' posted (order_step c.house.0 now (order_of l) m) (fits now m) reads (step now m stands ticks carries);
    takes = takes (Tells (said ∷ []));
    stays = same;
    one_line = tt;
    house = house;
    node = node;
    lawful = lawful;
  }

  -- a call that is one
  pub comes_posts : (posts : List Post) → Reads Answers true said → HasNoEnd said → ArePostsOf posts posted → ComesTo c clock l (Posts posts said) c'
  comes_posts posts reads one_line are = record {
    step = λ now m stands ticks carries.
        posts_outcome Answers said c c' posted (order_step c.house.0 now (order_of l) m) posts (fits now m) reads are (step now m stands ticks carries);
    takes = takes (Posts posts said);
    stays = tt;
    one_line = one_line;
    house = house;
    node = node;
    lawful = lawful;
  }

-- ---- refusals of new epochs

module _ (x k : ℕ) (list : EpochList) where
  -- the directory is not held
  pub epoch_absent : (o : Option DirState) → epoch_of o ≡ None → epoch_refusal x k list o ≡ Some why.NoReplica
  epoch_absent None none = refl
  epoch_absent (Some (state.Gone e)) none = refl
  epoch_absent (Some (state.Held h)) none = absurd (cc)

  -- the list is none
  pub epoch_listed : (o : Option DirState) (e : EpochNo) → epoch_of o ≡ Some e → is_given x k list ≡ false
      → epoch_refusal x k list o ≡ Some why.BadMembers
  epoch_listed None e is bad = absurd (cc)
  epoch_listed (Some (state.Gone f)) e is bad = absurd (cc)
  epoch_listed (Some (state.Held h)) e is bad = rw bad refl

  -- the epoch is not later
  pub epoch_low : (o : Option DirState) (e : EpochNo) → epoch_of o ≡ Some e → is_given x k list ≡ true → k ≤ e.0
      → epoch_refusal x k list o ≡ Some (why.NotAbove e)
  epoch_low None e is good low = absurd (cc)
  epoch_low (Some (state.Gone f)) e is good low = absurd (cc)
  epoch_low (Some (state.Held h)) e is good low =
      let own : h.epoch ≡ e = cc in
      let test : nat_le k h.epoch.0 ≡ true = subst (λ (e : EpochNo). nat_le k e.0 ≡ true) (sym own) (grind (arith, nat_tests, low)) in
      rw (good, test) (ap (λ (e : EpochNo). Some (why.NotAbove e)) own)

  -- none of them
  pub epoch_fine : (o : Option DirState) (e : EpochNo) → epoch_of o ≡ Some e → is_given x k list ≡ true → e.0 < k
      → epoch_refusal x k list o ≡ None
  epoch_fine None e is good low = absurd (cc)
  epoch_fine (Some (state.Gone f)) e is good low = absurd (cc)
  epoch_fine (Some (state.Held h)) e is good high =
      let own : h.epoch ≡ e = cc in
      let test : nat_le k h.epoch.0 ≡ false = subst (λ (e : EpochNo). nat_le k e.0 ≡ false) (sym own) (grind (arith, nat_tests, high)) in
      rw (good, test) refl

-- the house is the master of a list that it is given
given_first : (m x : ℕ) (b d e : Bool) → (b && ((m == x) && d)) && e ≡ true → m ≡ x
given_first m x b d e good = grind (arith, nat_tests, good)

pub given_master : (x k : ℕ) (list : EpochList) → is_given x k list ≡ true → master_of (members_of list.members) ≡ x
given_master x k list good =
    given_first (master_of (members_of list.members)) x (is_none (members_fault (members_of list.members)))
    (list_all (λ (m : Member). nat_le m.since k) (members_of list.members))
    (ascend_from 0 (numbers_of list.leaving) && list_all (λ (h : ℕ). not (is_listed h (members_of list.members))) (numbers_of list.leaving)) good

-- then it is later than the one that is held
pub epoch_later : (o : Option DirState) (e : EpochNo) (k : ℕ) → epoch_of o ≡ Some e → e.0 < k → IsLater k o
epoch_later None e k is high = tt
epoch_later (Some (state.Gone f)) e k is high = tt
epoch_later (Some (state.Held h)) e k is high =
    let own : h.epoch ≡ e = cc in
    subst (λ (e : EpochNo). e.0 < k) (sym own) high

-- ---- repointing

-- a child that leads elsewhere is an update
pub repoint_comes : (r : Result Said AllocError) (number : ℕ) (c c' : Clearinghouse) (clock : ℕ) (d : DirId) (n : List ℕ) (h : HouseNo)
    (rs : List HouseNo) (houses : Houses) → houses ≡ record { master = h.0; others = sorted_houses (numbers_of rs) }
    → IfOk r (λ s. Does number c c' clock (order.Update d (update.Repoint n houses)) s) → IfOk r (λ s. Comes number c c' clock (order.Repoint d n h rs) s)
repoint_comes (Err e) number c c' clock d n h rs houses is does = tt
repoint_comes (Ok s) number c c' clock d n h rs houses is does = record {
  outcome = does.outcome;
  says = does.says;
  comes = record {
    step = λ now m stands ticks carries.
        subst (λ (k : Houses). IsOutcome (accept c.house.0 now d.0 (change.Repoint n k.master k.others)) does.outcome c c') is
        (does.comes.step now m stands ticks tt);
    takes = tt;
    stays = does.comes.stays;
    one_line = does.comes.one_line;
    house = does.comes.house;
    node = does.comes.node;
    lawful = does.comes.lawful;
  };
}

-- and is not refused before, where its houses are a list
pub repoint_bad : (c : Clearinghouse) (d : DirId) (n : List ℕ) (h : HouseNo) (rs : List HouseNo) → is_bad_list (h.0 ∷ numbers_of rs) ≡ true
    → early_refusal c (order.Repoint d n h rs) ≡ Some (refused why.BadMembers)
repoint_bad c d n h rs bad = rw bad refl

pub repoint_fine : (c : Clearinghouse) (d : DirId) (n : List ℕ) (h : HouseNo) (rs : List HouseNo) → is_bad_list (h.0 ∷ numbers_of rs) ≡ false
    → early_refusal c (order.Repoint d n h rs) ≡ None
repoint_fine c d n h rs good = rw good refl

-- ---- new directories

module _ (c : Clearinghouse) (d : DirId) (ls : List Listed) where
  -- the house has one of this number
  pub founding_held : is_some (get c.dirs d) ≡ true → maybe_refused (founding_refusal c d ls) ≡ Some (refused why.DirectoryExists)
  founding_held held = rw held refl

  -- the houses are no list
  pub founding_bad : is_some (get c.dirs d) ≡ false → is_bad_list (c.house.0 ∷ listed_houses ls) ≡ true
      → maybe_refused (founding_refusal c d ls) ≡ Some (refused why.BadMembers)
  founding_bad held bad = rw (held, bad) refl

  -- neither
  pub founding_fine : is_some (get c.dirs d) ≡ false → is_bad_list (c.house.0 ∷ listed_houses ls) ≡ false
      → maybe_refused (founding_refusal c d ls) ≡ None
  founding_fine held good = rw (held, good) refl

-- what is not some is none
pub none_where : {A : Type 0} (o : Option A) → is_some o ≡ false → o ≡ None
none_where None is = refl
none_where (Some x) is = absurd (cc)

-- a map with something at a directory has of any other what it had
got_there : (m : FinMap dir_cmp DirState) (dir d : DirId) (s : DirState) → (d ≡ dir → ⊥) → get (insert m dir s) d ≡ get m d
got_there m dir d s other = get-insert dir_total m dir s d ∙ by (eq_by_cmp dir_cmp d dir) refl
  where
    by : (b : Bool) → eq_by_cmp dir_cmp d dir ≡ b → cond b (Some s) (get m d) ≡ get m d
    by true is = absurd (other (ties_are_equal dir_exact d dir is))
    by false is = refl

-- an update leaves a directory away that is not there
pub still_absent : (c c' : Clearinghouse) (dir made : DirId) (u : Change) (s : Stamp) (o : Option Outgoing) → TakesUpdate dir u s c c' o
    → get c.dirs made ≡ None → get c'.dirs made ≡ None
still_absent c c' dir made u s o takes absent =
    let apart : made ≡ dir → ⊥ = λ same.
    (let there : get c.dirs made ≡ Some (state.Held takes.before) = ap (get c.dirs) same ∙ takes.holds in
    absurd (cc)) in
    ap (λ (d : Clearinghouse). get d.dirs made) takes.after ∙ got_there c.dirs dir made (state.Held takes.held) apart ∙ absent

-- the root directory is made
pub root_comes : (c c' : Clearinghouse) (clock : ℕ) (ls : List Listed) (ms : List Member) (posted : List Posted) (posts : List Post)
    → c'.house ≡ c.house → c'.node ≡ c.node → (IsLawful c → IsLawful c') → ms ≡ first_members c.house.0 ls → ArePostsOf posts posted
    → ((now : model.House) → StandsHouse c now → IsTurn (found_directory c.house.0 now root_dir ms) c' posted)
    → ComesTo c clock (order.Root ls) (Posts posts (answer_line answer.Done)) c'
root_comes c c' clock ls ms posted posts house node lawful is are turns = record {
  step = λ now m stands ticks carries.
      let t : Turn = found_directory c.house.0 now root_dir (first_members c.house.0 ls) in
      let done = subst (λ (ms : List Member). IsTurn (found_directory c.house.0 now root_dir ms) c' posted) is (turns now stands) in
      (posts_stand posts posted t.posts are done.each, λ ns. refl, done.stands);
  takes = tt;
  stays = tt;
  one_line = done_ends_nowhere;
  house = house;
  node = node;
  lawful = lawful;
}

-- a child is made, and its directory
pub child_comes : (r : Result Said AllocError) (number : ℕ) (c c' : Clearinghouse) (clock : ℕ) (d : DirId) (n : List ℕ) (made : DirId) (ls : List Listed)
    (u : Change) (ms : List Member) → u ≡ change.MakeChild n (record { dir = made.0; master = c.house.0; others = sorted_houses (listed_houses ls) })
    → ms ≡ first_members c.house.0 ls → IfOk r (MakesChild number c c' clock d u made ms)
    → IfOk r (λ s. Comes number c c' clock (order.Mkdir d n made ls) s)
child_comes (Err e) number c c' clock d n made ls u ms child is makes = tt
child_comes (Ok s) number c c' clock d n made ls u ms child is makes = record {
  outcome = makes.outcome;
  says = makes.says;
  comes = record {
    step = λ now m stands ticks carries.
        subst (λ (ms : List Member). IsOutcome (then_found c.house.0 made.0 ms (accept c.house.0 now d.0
        (change.MakeChild n (record { dir = made.0; master = c.house.0; others = sorted_houses (listed_houses ls) })))) makes.outcome c c') is
        (subst (λ (u : Change). IsOutcome (then_found c.house.0 made.0 ms (accept c.house.0 now d.0 u)) makes.outcome c c') child
        (makes.step now stands ticks));
    takes = tt;
    stays = makes.stays;
    one_line = makes.one_line;
    house = makes.house;
    node = makes.node;
    lawful = makes.lawful;
  };
}

module _ (r : Result Said AllocError) (number : ℕ) (c c' : Clearinghouse) (clock : ℕ) (d : DirId) (u : Change) (made : DirId) (ms : List Member) where
  -- an update that makes a child is refused
  pub child_refused : (why : UpdateRefusal) (posted : List Posted) → IfOk r (λ s. Says number s (Tells (refused (update_refusal_of why) ∷ [])))
      → ((now : model.House) → StandsHouse c now → now.clock ≡ clock → IsStep (IsStampAnswer (Err why)) (accept c.house.0 now d.0 u) c c' posted)
      → c' ≡ c → c'.house ≡ c.house → c'.node ≡ c.node → (IsLawful c → IsLawful c') → IfOk r (MakesChild number c c' clock d u made ms)
  child_refused why posted says step same house node lawful = go r says
    where
      go : (r : Result Said AllocError) → IfOk r (λ s. Says number s (Tells (refused (update_refusal_of why) ∷ [])))
          → IfOk r (MakesChild number c c' clock d u made ms)
      go (Err e) says = tt
      go (Ok s) says = record {
        outcome = Tells (refused (update_refusal_of why) ∷ []);
        says = says;
        step = λ now stands ticks.
            child_tells c.house.0 made.0 ms c (accept c.house.0 now d.0 u) (refused (update_refusal_of why) ∷ []) c'
            (tells_outcome (IsStampAnswer (Err why)) (refused (update_refusal_of why)) c c' posted (accept c.house.0 now d.0 u)
            (accept_fits c.house.0 now d.0 u) (refused_reads why) (step now stands ticks));
        stays = same;
        one_line = tt;
        house = house;
        node = node;
        lawful = lawful;
      }

  -- or it is done, and the directory is made
  pub child_done : (mid : Clearinghouse) (stamp : Stamp) (ps qs : List Posted) (posts : List Post)
      → IfOk r (λ s. Says number s (Posts posts (answer_line (answer.Made made stamp []))))
      → ((now : model.House) → StandsHouse c now → now.clock ≡ clock → IsStep (IsStampAnswer (Ok stamp)) (accept c.house.0 now d.0 u) c mid ps)
      → ((now : model.House) → StandsHouse mid now → IsTurn (found_directory c.house.0 now made.0 ms) c' qs) → ArePostsOf posts (ps ++ qs)
      → c'.house ≡ c.house → c'.node ≡ c.node → (IsLawful c → IsLawful c') → IfOk r (MakesChild number c c' clock d u made ms)
  child_done mid stamp ps qs posts says step founds are house node lawful = go r says
    where
      go : (r : Result Said AllocError) → IfOk r (λ s. Says number s (Posts posts (answer_line (answer.Made made stamp []))))
          → IfOk r (MakesChild number c c' clock d u made ms)
      go (Err e) says = tt
      go (Ok s) says = record {
        outcome = Posts posts (answer_line (answer.Made made stamp []));
        says = says;
        step = λ now stands ticks.
            child_posts c.house.0 made.0 ms c (accept c.house.0 now d.0 u) stamp mid c' ps qs posts (accept_fits c.house.0 now d.0 u)
            (step now stands ticks) founds are;
        stays = tt;
        one_line = made_ends_nowhere made stamp;
        house = house;
        node = node;
        lawful = lawful;
      }

-- ---- messages

-- what a message comes to
pub taken_outcome_is : (t : Taken) (c c' : Clearinghouse) (posted : List Posted) (s : HouseStep) (posts : List Post) → Fits s
    → IsStep (IsTakeAnswer t) s c c' posted → ArePostsOf posts posted → IsOutcome s (taken_outcome t posts) c c'
taken_outcome_is t c c' posted s posts fits step are = go (is_taken t) refl
  where
    go : (b : Bool) → is_taken t ≡ b → IsOutcome s (if b then Posts posts (taken_line t) else Tells (taken_line t ∷ [])) c c'
    go true on = posts_outcome (IsTakeAnswer t) (taken_line t) c c' posted s posts fits (taken_reads t on) are step
    go false off = tells_outcome (IsTakeAnswer t) (taken_line t) c c' posted s fits (untaken_reads t off) step

-- one that is not taken changes nothing
pub taken_stays : (t : Taken) (posts : List Post) (c c' : Clearinghouse) (o : Option Outgoing) → UnlessTaken t ((c' ≡ c) × (o ≡ None))
    → StaysAt (taken_outcome t posts) c c'
taken_stays taken.Taken posts c c' o same = tt
taken_stays (taken.Complete t) posts c c' o same = tt
taken_stays (taken.Late a b) posts c c' o same = same.0
taken_stays (taken.Early a b) posts c c' o same = same.0
taken_stays (taken.Stale a b) posts c c' o same = same.0
taken_stays taken.NoReplica posts c c' o same = same.0
taken_stays taken.Foreign posts c c' o same = same.0

pub message_comes : (r : Result Said AllocError) (number : ℕ) (c c' : Clearinghouse) (message : Message) (t : Taken) (posts : List Post)
    → IfOk r (λ s. Says number s (taken_outcome t posts))
    → ((now : model.House) (m : model.Message) → StandsHouse c now → StandsMessage c.house.0 message m → CanTake now m
    → IsOutcome (take now m) (taken_outcome t posts) c c')
    → StaysAt (taken_outcome t posts) c c' → c'.house ≡ c.house → c'.node ≡ c.node → (IsLawful c → IsLawful c')
    → IsMessageOf message c c' (taken_outcome t posts) → IfOk r (TakesMessage number c c' message)
message_comes (Err e) number c c' message t posts says step stays house node lawful taken = tt
message_comes (Ok s) number c c' message t posts says step stays house node lawful taken =
    record {
      outcome = taken_outcome t posts;
      says = says;
      step = step;
      taken = taken;
      stays = stays;
      one_line = taken_is_one_line t posts;
      house = house;
      node = node;
      lawful = lawful;
    }

-- the message that was decoded, or else this one
abbrev message_in : Message → Result (Message × ℕ) RecordFault → Message
message_in m (Ok r) = r.0
message_in m (Err f) = m

-- a `take` is that of the message that its octets are
pub take_comes : (r : Result Said AllocError) (number : ℕ) (c c' : Clearinghouse) (clock : ℕ) (octets : List ℕ) (message : Message) (used : ℕ)
    → Decodes records.message octets (Ok (message, used)) → IfOk r (TakesMessage number c c' message)
    → IfOk r (λ s. Comes number c c' clock (order.Take octets) s)
take_comes (Err e) number c c' clock octets message used decodes takes = tt
take_comes (Ok s) number c c' clock octets message used decodes takes = record {
  outcome = takes.outcome;
  says = takes.says;
  comes = record {
    step = step;
    takes = λ m read. subst (λ (k : Message). IsMessageOf k c c' takes.outcome) (same m read) takes.taken;
    stays = takes.stays;
    one_line = takes.one_line;
    house = takes.house;
    node = takes.node;
    lawful = takes.lawful;
  };
}
  where
    same : (m : Message) → decode_by records.message octets ≡ Ok (m, length octets) → message ≡ m
    same m read = ap (message_in m) (sym (answers_decoding records.message octets (Ok (message, used)) decodes) ∙ read)

    step : (now : model.House) (m : model.Message) → StandsHouse c now → now.clock ≡ clock → Carries c.house.0 now (order_of (order.Take octets)) m
        → IsOutcome (take now m) takes.outcome c c'
    step now m stands ticks carries =
        let letter : IsLetterOf c.house.0 octets m = carries.0 in
        let read = decodes.only letter.carried octets [] letter.whole (sym (append-nil octets)) in
        let same : letter.carried ≡ message = ap (message_in letter.carried) read in
        takes.step now m stands (subst (λ (k : Message). StandsMessage c.house.0 k m) same letter.stands) carries.1

-- why octets are refused
pub take_fault : (c : Clearinghouse) (octets : List ℕ) (f : RecordFault) → decode_by records.message octets ≡ Err f
    → early_refusal c (order.Take octets) ≡ Some (refused (why.Octets f))
take_fault c octets f is = ap (take_refusal c (length octets)) is

pub take_trailing : (c : Clearinghouse) (octets : List ℕ) (message : Message) (used : ℕ) → decode_by records.message octets ≡ Ok (message, used)
    → used < length octets → early_refusal c (order.Take octets) ≡ Some (codes "refused Trailing " ++ decimal (used + 1))
take_trailing c octets message used is less =
    let test : nat_lt used (length octets) ≡ true = grind (arith, nat_tests, less) in
    ap (take_refusal c (length octets)) is ∙ rw test refl

-- one whole message is refused only for a stamp that the house forgot
pub take_whole : (c : Clearinghouse) (octets : List ℕ) (message : Message) (used : ℕ) → decode_by records.message octets ≡ Ok (message, used)
    → length octets ≤ used → early_refusal c (order.Take octets) ≡ restored_refusal (later_own c.node c.floor.time message)
take_whole c octets message used is whole =
    let test : nat_lt used (length octets) ≡ false = grind (arith, nat_tests, whole) in
    ap (take_refusal c (length octets)) is ∙ rw test refl

-- so a message that is refused, or comes to something, does so as an order
pub take_unless : (r : Result Said AllocError) (number : ℕ) (c c' : Clearinghouse) (clock : ℕ) (octets : List ℕ) (message : Message) (used : ℕ)
    (refusal : Option (List ℕ)) → Decodes records.message octets (Ok (message, used)) → early_refusal c (order.Take octets) ≡ refusal
    → IfOk r (TakesUnless refusal number c c' message) → IfOk r (λ s. Does number c c' clock (order.Take octets) s)
take_unless (Err e) number c c' clock octets message used refusal decodes is takes = tt
take_unless (Ok s) number c c' clock octets message used None decodes is takes =
    asked_model (Ok s) number c c' clock (order.Take octets) is (take_comes (Ok s) number c c' clock octets message used decodes takes)
take_unless (Ok s) number c c' clock octets message used (Some said) decodes is takes =
    refused_early (Ok s) number c c' clock (order.Take octets) said is takes.1 takes.0

use Rattle.std.proofs.Common.{◌≡◌, ◌∙◌, ap, sym, subst, refl, true, false, None, arith}
use Rattle.std.specs.Prelude.{MatchBool, MatchOption, nat_le}
use Rattle.std.specs.FinMap as map
use Rattle.std.specs.Option.{option_copied_mut}
use Rattle.std.proofs.lemmas.Bool.Decides.{nat_tests}
use Rattle.std.proofs.lemmas.Result.{on_err_weaker}
use Rattle.cds_stamps.specs.Members.{members_of, since_in}
use Rattle.clearinghouse.specs.declared.house.Clearinghouse.{Clearinghouse}
use Rattle.house_directory.specs.declared.states.DirState.TheVariants as state
use Rattle.house_directory.specs.DirectoryTakes.{held_in}
use Rattle.clearinghouse.specs.HouseTakes.{Copies, Merges}
use Rattle.clearinghouse.proofs.Houses.{same_house}
use Rattle.clearinghouse.proofs.Takings.{copied_over, of_held, of_none, on_ok_map}
use Rattle.clearinghouse.proofs.house.Clearinghouse.take_copy.Goals.{in_default-via-in-Some+else-le, in_default-via-in-None-1}
use Rattle.clearinghouse.proofs.house.Clearinghouse.take_copy.Goals as goal

pub returns-in-Some-clause-ok : goal.returns-in-Some-clause-ok
returns-in-Some-clause-ok c =
    let old : Clearinghouse = c.args.self.now in
    let new : Clearinghouse = record old { dirs = map.insert old.dirs c.args.message.now.dir (state.Held c.join.new.self) } in
    let since : c.since_in-since.result.0 ≡ since_in (members_of c.args.members.now) old.house.0 0 = c.since_in-since.ensures in
    let le = c.if-le.ensures in
    let term : nat_le (since_in (members_of c.args.members.now) old.house.0 0) c.in-Some.held.now.epoch.0 ≡ true = grind (arith, nat_tests, since, le) in
    on_ok_map c.join.result
    (λ j. subst (λ p. MatchOption p (Copies c.args.message.now c.args.members.now c.args.replica.now old new)
    (λ h. MatchBool (nat_le (since_in (members_of c.args.members.now) old.house.0 0) h.epoch.0)
    (Merges c.args.message.now c.args.members.now c.args.replica.now old new h) (Copies c.args.message.now c.args.members.now c.args.replica.now old new)))
    c.in-Some.ensures.value
    (subst (λ b. MatchBool b (Merges c.args.message.now c.args.members.now c.args.replica.now old new c.in-Some.held.now)
    (Copies c.args.message.now c.args.members.now c.args.replica.now old new)) (sym term)
    (record { held = c.join.new.self; joins = j; after = refl }))) c.join.ensures.ok

pub returns-in-Some-clause-err : goal.returns-in-Some-clause-err
returns-in-Some-clause-err c =
    on_err_weaker c.join.result
    (λ same. same_house c.args.self.now c.args.message.now.dir c.in-Some.held.now c.join.new.self c.args.self.now.floor c.in-Some.ensures.value same refl)
    c.join.ensures.err

pub returns-in_default-clause-ok : goal.returns-in_default-clause-ok
returns-in_default-clause-ok c =
    let since : c.since_in-since.result.0 ≡ since_in (members_of c.args.members.now) c.args.self.now.house.0 0 = c.since_in-since.ensures in
    elim c.in_default.branch [
      | in_default-via-in-Some+else-le w ↦ (
          let value = w.in-Some.ensures in
          let le = w.if-le.ensures in
          let term : nat_le (since_in (members_of c.args.members.now) c.args.self.now.house.0 0) w.in-Some.held.now.epoch.0 ≡ false =
          grind (arith, nat_tests, since, le) in
          on_ok_map c.copy_in.result
          (copied_over c.args.message.now c.args.members.now c.args.replica.now c.args.self.now c.in_default.self c.copy_in.new.self
          (w.self-is ∙ same_house c.args.self.now c.args.message.now.dir w.in-Some.held.now w.in-Some.held.now c.args.self.now.floor value.value refl refl)
          (of_held (λ h. nat_le (since_in (members_of c.args.members.now) c.args.self.now.house.0 0) h.epoch.0 ≡ false) w.in-Some.held.now
          (held_in (map.get c.args.self.now.dirs c.args.message.now.dir)) value.value term)) c.copy_in.ensures.ok)
      | in_default-via-in-None-1 w ↦ on_ok_map c.copy_in.result
          (copied_over c.args.message.now c.args.members.now c.args.replica.now c.args.self.now c.in_default.self c.copy_in.new.self w.self-is
          (of_none (λ h. nat_le (since_in (members_of c.args.members.now) c.args.self.now.house.0 0) h.epoch.0 ≡ false)
          (held_in (map.get c.args.self.now.dirs c.args.message.now.dir))
          (let value = c.held_mut.ensures.value in let none : None ≡ c.held_mut.result = search in ap option_copied_mut none ∙ value))) c.copy_in.ensures.ok
    ]

pub returns-in_default-clause-err : goal.returns-in_default-clause-err
returns-in_default-clause-err c =
    on_err_weaker c.copy_in.result (λ same. same ∙ (elim c.in_default.branch [
      | in_default-via-in-Some+else-le w ↦ (let value = w.in-Some.ensures in
          w.self-is ∙ same_house c.args.self.now c.args.message.now.dir w.in-Some.held.now w.in-Some.held.now c.args.self.now.floor value.value refl refl)
      | in_default-via-in-None-1 w ↦ w.self-is
    ])) c.copy_in.ensures.err

use Rattle.std.proofs.Common.{refl, ap}
use Rattle.std.specs.FinMap as map
use Rattle.std.proofs.lemmas.Result.{on_err_weaker}
use Rattle.house_directory.specs.declared.states.DirState.TheVariants as state
use Rattle.clearinghouse.proofs.Houses.{have_held, same_house}
use Rattle.house_directory.proofs.Maps.{if_ok_map}
use Rattle.clearinghouse.proofs.house.Clearinghouse.enter_at.Goals as goal

pub returns-in-Some-clause-refused : goal.returns-in-Some-clause-refused
returns-in-Some-clause-refused c =
    if_ok_map _ _ c.enter.result
    (λ e. on_err_weaker e
    (λ same. same_house c.args.self.now c.args.dir c.in-Some.held.now c.enter.new.self c.args.self.now.floor c.in-Some.ensures.value same refl))
    c.enter.ensures.refused

pub returns-in-Some-clause-held : goal.returns-in-Some-clause-held
returns-in-Some-clause-held c =
    if_ok_map _ _ c.enter.result
    (λ e. if_ok_map _ _ e
    (λ _ same. record {
      held = c.in-Some.held.now;
      before = have_held (map.get c.args.self.now.dirs c.args.dir) c.in-Some.held.now c.in-Some.ensures.value;
      after = ap (λ h. map.insert c.args.self.now.dirs c.args.dir (state.Held h)) same;
      floor = refl;
    }))
    c.enter.ensures.entered

pub returns-in-Some-clause-err : goal.returns-in-Some-clause-err
returns-in-Some-clause-err c =
    on_err_weaker c.enter.result
    (λ same. same_house c.args.self.now c.args.dir c.in-Some.held.now c.enter.new.self c.args.self.now.floor c.in-Some.ensures.value same refl)
    c.enter.ensures.err

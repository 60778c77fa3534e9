use Rattle.std.proofs.Common.{◌≡◌, BTreeMap, Some, None, inr, refl, sym, ap, ◌∙◌}
use Rattle.std.specs.FinMap as map
use Rattle.cds_stamps.specs.declared.numbers.DirId.{DirId}
use Rattle.house_directory.specs.declared.states.DirState.{DirState}
use Rattle.house_directory.specs.declared.states.DirState.TheVariants as state
use Rattle.house_directory.specs.DirectoryTakes.{held_in}
use Rattle.house_directory.proofs.Maps.{found, same_ends, unchanged, written}
use Rattle.house_directory.proofs.states.DirStates.held_mut.Goals as goal

pub returns-in-Some : goal.returns-in-Some
returns-in-Some c =
    let here : map.get c.args.self.now c.args.dir ≡ Some c.in-Some.state.now =
    found c.args.self.now c.self.inside.states.entries c.args.dir c.self.view_is ∙ sym c.in-Some.ensures.value in (
      same_ends _ _ _ _ _
          (λ w. written c.args.self.now c.self.inside.states.entries (c.get_mut.follows.lender (state.Held w)).entries c.args.dir (state.Held w) c.self.view_is
          ((c.get_mut.follows.holds (state.Held w)).3 (rw (← c.in-Some.ensures.value) refl)).0)
          (written c.args.self.now c.self.inside.states.entries (c.get_mut.follows.lender c.in-Some.state.now).entries
          c.args.dir c.in-Some.state.now c.self.view_is
          ((c.get_mut.follows.holds c.in-Some.state.now).3 (rw (← c.in-Some.ensures.value) refl)).0 ∙ unchanged _ _ _ here),
      record { writes_back = tt; value = c.held_mut.ensures.value ∙ ap held_in (sym here) },
    )

pub returns-in-None : goal.returns-in-None
returns-in-None c =
    let here : map.get c.args.self.now c.args.dir ≡ None =
    found c.args.self.now c.self.inside.states.entries c.args.dir c.self.view_is ∙ sym c.in-None.ensures.value in (
      ap (λ (m : BTreeMap DirId DirState). inr (map.from_entries m.entries)) c.get_mut.follows.holds-at-none ∙ ap inr c.self.view_is,
      record { writes_back = tt; value = ap held_in (sym here) },
    )

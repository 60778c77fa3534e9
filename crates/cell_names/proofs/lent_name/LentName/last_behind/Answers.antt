use Rattle.std.proofs.Common.{◌≡◌, ◌≢◌, ◌∙◌, ◌∷◌, ◌++◌, [], ℕ, List, None, sym, ap, subst}
use Rattle.std.proofs.lemmas.Bool.Decides.{Decides-eqb}
use Rattle.std.proofs.lemmas.Slice.Eq.{strip_prefix_is}
use Rattle.cell_names.specs.FullNames.{slash, full_name_octets, IsComponentList}
use Rattle.cell_names.proofs.LentNames.{spelled_with_last, last_found, last_sound, none_behind, none_behind_slash, none_without_slash}
use Rattle.cell_names.proofs.lent_name.LentName.last_behind.Goals as goal

pub returns-in_err-behind_name-clause-value : goal.returns-in_err-behind_name-clause-value
returns-in_err-behind_name-clause-value c = rw (c.from_residual.ensures, ← c.self.view_is)
    (none_behind c.self.inside.octets.now c.self.invariant c.args.front.now
    (subst (λ (name : List (List ℕ)). (rest : List ℕ) → c.self.inside.octets.now ≢ full_name_octets name ++ rest) c.components.ensures.value c.in_err-behind_name.ensures))

pub returns-in_err-last-clause-value : goal.returns-in_err-last-clause-value
returns-in_err-last-clause-value c =
    let behind = c.in_ok-behind_name.field-0.now in
    let begins : c.self.inside.octets.now ≡ full_name_octets c.args.front.now ++ behind =
    c.in_ok-behind_name.ensures ∙ ap (λ (name : List (List ℕ)). full_name_octets name ++ behind) c.components.ensures.value in
    let none : (last : List ℕ) → behind ≢ slash ∷ last = strip_prefix_is Decides-eqb behind (slash ∷ []) None c.in_err-last.ensures.cases in
    rw (c.from_residual-in_err-last.ensures, ← c.self.view_is)
    (none_without_slash c.self.inside.octets.now c.self.invariant c.args.front.now behind begins none)

pub returns-then-contains-clause-value : goal.returns-then-contains-clause-value
returns-then-contains-clause-value c =
    let last = c.in_ok-last.last.now in
    let is = spelled_with_last c.self.inside.octets.now c.in_ok-behind_name.field-0.now c.components.result.now c.args.front.now c.in_ok-last.last
    c.in_ok-behind_name.ensures c.components.ensures.value c.in_ok-last.ensures.cases in
    rw (← c.self.view_is) (none_behind_slash c.self.inside.octets.now c.self.invariant c.args.front.now last is (sym c.if-contains.ensures.value))

pub returns-clause-value : goal.returns-clause-value
returns-clause-value c =
    let last = c.in_ok-last.last.now in
    let is = spelled_with_last c.self.inside.octets.now c.in_ok-behind_name.field-0.now c.components.result.now c.args.front.now c.in_ok-last.last
    c.in_ok-behind_name.ensures c.components.ensures.value c.in_ok-last.ensures.cases in
    sym c.self.view_is ∙ last_found c.self.inside.octets.now c.self.invariant c.args.front.now last
    (subst IsComponentList c.components.ensures.value c.components.ensures.lawful) is (sym c.if-contains.ensures.value)

pub returns-clause-lawful : goal.returns-clause-lawful
returns-clause-lawful c =
    let last = c.in_ok-last.last.now in
    let is = spelled_with_last c.self.inside.octets.now c.in_ok-behind_name.field-0.now c.components.result.now c.args.front.now c.in_ok-last.last
    c.in_ok-behind_name.ensures c.components.ensures.value c.in_ok-last.ensures.cases in
    last_sound c.self.inside.octets.now c.self.invariant c.args.front.now last
    (last_found c.self.inside.octets.now c.self.invariant c.args.front.now last
    (subst IsComponentList c.components.ensures.value c.components.ensures.lawful) is (sym c.if-contains.ensures.value))

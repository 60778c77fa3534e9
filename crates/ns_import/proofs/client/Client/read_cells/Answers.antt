use Rattle.std.proofs.Common.{◌≡◌, ◌∙◌, ◌++◌, ℕ, List, IfOk, map, reverse, ap, ap₂, subst}
use Rattle.tower_codec.specs.declared.binding.StringBinding.{StringBinding}
use Rattle.resolver.specs.Readers.{values_by}
use Rattle.server_entries.specs.declared.client.Wanted.{Wanted}
use Rattle.ns_import.specs.Coming.{names_in, bindings_in}
use Rattle.ns_import.proofs.Lent.{names_lent, bindings_lent}
use Rattle.ns_import.proofs.client.Client.read_cells.Goals as goal

pub returns-clause-names : goal.returns-clause-names
returns-clause-names c =
    let values = values_by c.args.cells.now in
    let group = ap (map (λ v. v.now)) c.deref.ensures.value ∙ c.in_ok-group.ensures ∙ ap values c.self.invariant.2 in
    let profile = ap (map (λ v. v.now)) c.deref-2.ensures.value ∙ c.in_ok-profile.ensures ∙ ap values c.self.invariant.3 in
    let names = ap₂ (λ (ms es : List (List (List ℕ))). ms ++ es) c.in_ok-members.ensures c.in_ok-elements.ensures
    ∙ names_lent c.args.cells.now c.self.inside.wanted.interface (map (λ v. v.now) c.deref.result.now) (map (λ v. v.now) c.deref-2.result.now) group profile
    ∙ ap (λ (w : Wanted). names_in values w.interface) c.self.view_is in
    subst (λ (all : List (List (List ℕ))). IfOk c.of.result (λ said. reverse said.names.items ≡ all)) names c.of.ensures.names

pub returns-clause-bindings : goal.returns-clause-bindings
returns-clause-bindings c =
    let values = values_by c.args.cells.now in
    let towers = ap (map (λ v. v.now)) c.deref-3.ensures.value ∙ c.in_ok-towers.ensures ∙ ap values c.self.invariant.0 in
    let objects = ap (map (λ v. v.now)) c.deref-4.ensures.value ∙ c.in_ok-objects.ensures ∙ ap values c.self.invariant.1 in
    let all = c.in_ok-bindings.ensures
    ∙ bindings_lent c.args.cells.now c.self.inside.wanted (map (λ v. v.now) c.deref-3.result.now) (map (λ v. v.now) c.deref-4.result.now) towers objects
    ∙ ap (bindings_in values) c.self.view_is in
    subst (λ (list : List StringBinding). IfOk c.of.result (λ said. reverse said.bindings.items ≡ list)) all c.of.ensures.bindings

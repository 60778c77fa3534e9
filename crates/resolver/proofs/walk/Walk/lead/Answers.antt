use Rattle.std.proofs.Common.{◌≡◌, ◌+◌, List, ℕ, ap, sym, ◌∙◌, subst, arith, get_or, length}
use Rattle.std.specs.Prelude.{Some, slice_range}
use Rattle.cell_names.specs.ChildPointers.{pointer_in}
use Rattle.resolver.specs.Readers.{Reader, sight_of}
use Rattle.resolver.specs.PassWords.{IsNoRefusal, present_name, step_of, walker_of}
use Rattle.resolver.specs.Walks.{Walker, in_directory}
use Rattle.resolver.proofs.PassLaws.{few_done, leads_there, refuses_nothing, if_ok, on_err}
use Rattle.resolver.proofs.walk.Walk.lead.Goals as goal

pub overflow_cast-here : goal.overflow_cast-here
overflow_cast-here c = omega (
  arith,
  few_done c.components-components.result.now _ c.args.self.now.done c.components-components.ensures.lawful
      (c.components-components.ensures.value ∙ c.present.ensures ∙ ap (present_name c.args.self.now.first.now) c.deref.ensures.value) c.requires,
)

pub lead-requires : goal.lead-requires
lead-requires c = omega (
  arith,
  few_done c.components-components.result.now _ c.args.self.now.done c.components-components.ensures.lawful
      (c.components-components.ensures.value ∙ c.present.ensures ∙ ap (present_name c.args.self.now.first.now) c.deref.ensures.value) c.requires,
)

pub returns-clause-few : goal.returns-clause-few
returns-clause-few c = few_done c.components-components.result.now _ c.args.self.now.done c.components-components.ensures.lawful
    (c.components-components.ensures.value ∙ c.present.ensures ∙ ap (present_name c.args.self.now.first.now) c.deref.ensures.value) c.requires

pub returns-clause-step : goal.returns-clause-step
returns-clause-step c =
    let names : c.components-components.result.now ≡ present_name c.args.self.now.first.now c.args.self.now.later.items =
    c.components-components.ensures.value ∙ c.present.ensures ∙ ap (present_name c.args.self.now.first.now) c.deref.ensures.value in
    if_ok c.lead.result (λ next leads reader saw. leads_there reader c.args.self.now.follow_last (walker_of c.args.self.now) c.current.result.now
    c.index-components-self.result (sight_of c.args.seen) next (ap (λ p. Some (pointer_in p)) (sym (c.current.ensures))) c.requires
    (c.index-components-self.is ∙ ap (λ (l : List (List ℕ)). get_or l c.args.self.now.done c.index-components-self.result) names) saw
    (subst (λ (l : List (List ℕ)). (reader : Reader) (v : Walker) → in_directory reader c.args.self.now.follow_last (record v { done = c.args.self.now.done })
    c.current.result.now.dir.0 c.index-components-self.result (slice_range l (c.args.self.now.done + 1) (length l)) (sight_of c.args.seen)
    ≡ step_of reader (record v { done = c.args.self.now.done }) (slice_range l (c.args.self.now.done + 1) (length l)) next) names leads)) c.lead.ensures.step

pub returns-clause-lacking : goal.returns-clause-lacking
returns-clause-lacking c =
    let names : c.components-components.result.now ≡ present_name c.args.self.now.first.now c.args.self.now.later.items =
    c.components-components.ensures.value ∙ c.present.ensures ∙ ap (present_name c.args.self.now.first.now) c.deref.ensures.value in
    on_err c.lead.result (λ none reader saw. refuses_nothing reader c.args.self.now.follow_last (walker_of c.args.self.now) c.current.result.now
    c.index-components-self.result (sight_of c.args.seen) (ap (λ p. Some (pointer_in p)) (sym (c.current.ensures))) c.requires
    (c.index-components-self.is ∙ ap (λ (l : List (List ℕ)). get_or l c.args.self.now.done c.index-components-self.result) names) saw
    (subst (λ (l : List (List ℕ)). (reader : Reader) (v : Walker) → IsNoRefusal (in_directory reader c.args.self.now.follow_last
    (record v { done = c.args.self.now.done }) c.current.result.now.dir.0 c.index-components-self.result
    (slice_range l (c.args.self.now.done + 1) (length l)) (sight_of c.args.seen))) names none)) c.lead.ensures.lacking

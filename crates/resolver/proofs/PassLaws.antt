-- What the parts of a walk come to, as its steps.
use Rattle.std.proofs.Common.{◌≡◌, ℕ, ◌+◌, ◌-◌, ◌*◌, ◌<◌, ◌≤◌, Bool, List, [], ◌∷◌, ◌++◌, length, drop, get_or, refl, ap, sym, ◌∙◌, subst, arith}
use Rattle.std.proofs.Common.{length-append, length-drop}
use Rattle.std.specs.Prelude.{IsErrAnd, IfOk, OnErr, Option, Some, None, Result, Ok, Err, IfSome, slice_range}
use Rattle.std.proofs.lemmas.List.{drop_more, at_drop_all, take_all}
use Rattle.std.proofs.lemmas.Option.{unwrap_or-slice_get}
use Rattle.std.proofs.Math.Seq.{get_or-append_seam}
use Rattle.cds_stamps.specs.declared.alloc_or.AllocOr.{AllocOr}
use Rattle.cds_stamps.specs.declared.alloc_or.AllocOr.TheVariants.{Fault, OutOfMemory}
use Rattle.cds_stamps.specs.Outcomes.{Answers, ok_unless}
use Rattle.cds_stamps.proofs.OutcomeLaws.{ok_unless-Ok, ok_unless-Err}
use Rattle.cell_names.specs.FullNames.{behind_slashes, longest_name, IsComponentList}
use Rattle.cell_names.specs.ChildPointers.{Pointer, pointer_in}
use Rattle.cell_names.specs.declared.pointer.ChildPointer.{ChildPointer}
use Rattle.resolver.specs.declared.refusal.Refusal.{Refusal}
use Rattle.resolver.specs.declared.refusal.Refusal.TheVariants.{RootName, Unreachable}
use Rattle.resolver.specs.declared.walk.End.{End}
use Rattle.resolver.specs.declared.walk.End.TheVariants.{Refused}
use Rattle.resolver.specs.declared.walk.Move.{Move}
use Rattle.resolver.specs.Readers.{Reader, Sight}
use Rattle.resolver.specs.Walks.{Walker, Step, Goes, Stops, most_links, link_refusal, follow_unless, follow, in_directory, step_from, step, EndsFrom, stops, Ends, SomeEnd}
use Rattle.resolver.specs.ChangingReaders.{first_look, look_of}
use Rattle.resolver.specs.PassWords.{IsNoRefusal, Saw, come_to, step_of, present_name}
use Rattle.resolver.specs.WalkEndProofs.{link_is_allowed, some_end}

answers : {T E : Type 0} (result : Result T (AllocOr E)) → IsErrAnd result (λ e. e ≡ OutOfMemory) → (expected : Result T E) → Answers result expected
answers (Ok value) failed expected = elim failed [ ]
answers (Err (Fault fault)) failed expected = cc
answers (Err OutOfMemory) failed expected = tt

-- ---- how many components a full name has

behind_each : (cs : List (List ℕ)) → length cs ≤ length (behind_slashes cs)
behind_each [] = omega arith
behind_each (c ∷ cs) = omega (arith, behind_each cs, length-append (47 ∷ c) (behind_slashes cs))

-- a full name has no more components than octets
pub few_components : (cs : List (List ℕ)) → IsComponentList cs → length cs ≤ longest_name
few_components cs h = omega (arith, behind_each cs, h.short)

-- the component at hand has few in front of it
pub few_done : (components name : List (List ℕ)) (done : ℕ) → IsComponentList components → components ≡ name → done < length name → done < 1024
few_done components name done lawful is within = omega (arith, few_components components lawful, ap length is, within)

-- ---- one component

-- what the walk looks up next is seen so
pub saw_by : (reader : Reader) (w : Walker) (p : Pointer) (c : List ℕ) (seen : Sight) → Some (p, c) ≡ look_of w → seen ≡ reader.sees p c → Saw reader w seen
saw_by reader w p c seen look is = subst (λ (o : Option (Pointer × List ℕ)). IfSome o (λ q. reader.sees q.0 q.1 ≡ seen)) look (sym is)

-- the components after the one at hand
rest_of : (w : Walker) → slice_range w.name (w.done + 1) (length w.name) ≡ drop (w.done + 1) w.name
rest_of w = take_all (length w.name - (w.done + 1)) (drop (w.done + 1) w.name) (omega (arith, length-drop (w.done + 1) w.name))

-- the step of the walk is what the component at hand is, by what is seen of it
at_component : (reader : Reader) (last : Bool) (w : Walker) (dir : ChildPointer) (c : List ℕ) (seen : Sight) → w.at ≡ Some (pointer_in dir)
    → w.done < length w.name → c ≡ get_or w.name w.done c → Saw reader w seen
    → step reader last w ≡ in_directory reader last w dir.dir.0 c (slice_range w.name (w.done + 1) (length w.name)) seen
at_component reader last w dir c seen at within is saw =
    let rest : List (List ℕ) = drop (w.done + 1) w.name in
    let left : drop w.done w.name ≡ c ∷ rest = drop_more w.name w.done c within ∙ ap (λ (d : List ℕ). d ∷ rest) (sym is) in
    let Seen : List (List ℕ) → Option Pointer → Type 0 = λ l o. IfSome (first_look l o) (λ q. reader.sees q.0 q.1 ≡ seen) in
    let sees : reader.sees (pointer_in dir) c ≡ seen = subst (Seen (c ∷ rest)) at (subst (λ (l : List (List ℕ)). Seen l w.at) left saw) in
    ap (λ (l : List (List ℕ)). step_from reader last w l w.at) left
    ∙ ap (λ (o : Option Pointer). step_from reader last w (c ∷ rest) o) at
    ∙ ap (λ (s : Sight). in_directory reader last w dir.dir.0 c rest s) sees
    ∙ ap (λ (r : List (List ℕ)). in_directory reader last w dir.dir.0 c r seen) (sym (rest_of w))

-- a component leads where the step of the walk does
pub leads_there : (reader : Reader) (last : Bool) (w : Walker) (dir : ChildPointer) (c : List ℕ) (seen : Sight) (next : Move) → w.at ≡ Some (pointer_in dir)
    → w.done < length w.name → c ≡ get_or w.name w.done c → Saw reader w seen
    → ((reader : Reader) (v : Walker) → in_directory reader last (record v { done = w.done }) dir.dir.0 c (slice_range w.name (w.done + 1) (length w.name)) seen
    ≡ step_of reader (record v { done = w.done }) (slice_range w.name (w.done + 1) (length w.name)) next)
    → step reader last w ≡ step_of reader w (drop (w.done + 1) w.name) next
leads_there reader last w dir c seen next at within is saw leads =
    at_component reader last w dir c seen at within is saw ∙ leads reader w
    ∙ ap (λ (r : List (List ℕ)). step_of reader w r next) (rest_of w)

-- and refuses nothing where the step refuses nothing
pub refuses_nothing : (reader : Reader) (last : Bool) (w : Walker) (dir : ChildPointer) (c : List ℕ) (seen : Sight) → w.at ≡ Some (pointer_in dir)
    → w.done < length w.name → c ≡ get_or w.name w.done c → Saw reader w seen
    → ((reader : Reader) (v : Walker)
    → IsNoRefusal (in_directory reader last (record v { done = w.done }) dir.dir.0 c (slice_range w.name (w.done + 1) (length w.name)) seen))
    → IsNoRefusal (step reader last w)
refuses_nothing reader last w dir c seen at within is saw none = λ why h. none reader w why (sym (at_component reader last w dir c seen at within is saw) ∙ h)

-- where no component is left the walk ends
pub none_left : (reader : Reader) (last : Bool) (w : Walker) → length w.name ≤ w.done → EndsFrom reader last w (Refused RootName)
none_left reader last w all = stops (at_drop_all (λ (l : List (List ℕ)). step_from reader last w l w.at) w.name w.done all)

-- ---- one link

-- the newest of the full names that came up
newest : (first : List (List ℕ)) (later : List (List (List ℕ))) (next : List (List ℕ)) → present_name first (later ++ next ∷ []) ≡ next
newest first later next =
    let last : length (later ++ next ∷ []) - 1 ≡ length later = omega (arith, length-append later (next ∷ [])) in
    unwrap_or-slice_get (later ++ next ∷ []) (length (later ++ next ∷ []) - 1) first
    ∙ ap (λ n. get_or (later ++ next ∷ []) n first) last ∙ get_or-append_seam later next [] first

-- a link that is refused ends the walk
pub stays_here : (reader : Reader) (links : ℕ) (came_up : List (List (List ℕ))) (name : List (List ℕ)) (why : Refusal)
    → ok_unless (link_refusal links came_up name) name ≡ Err why → follow reader links came_up name ≡ Stops (Refused why)
stays_here reader links came_up name why h =
    ap (λ (o : Option Refusal). follow_unless o reader links came_up name) (ok_unless-Err (link_refusal links came_up name) name why h)

-- one that is followed begins again at the root directory
pub begins_again : (reader : Reader) (root : ChildPointer) (first : List (List ℕ)) (later pushed : List (List (List ℕ))) (name next : List (List ℕ))
    → reader.root ≡ Some (pointer_in root) → pushed ≡ later ++ next ∷ [] → ok_unless (link_refusal (length later) (first ∷ later) name) name ≡ Ok next
    → follow reader (length later) (first ∷ later) name ≡ Goes (record {
      name = present_name first pushed;
      at = Some (pointer_in root);
      done = 0;
      came_up = first ∷ pushed;
      links = length pushed;
    })
begins_again reader root first later pushed name next is_root is_pushed h =
    let none = ok_unless-Ok (link_refusal (length later) (first ∷ later) name) name next h in
    let There : List (List (List ℕ)) → Step = λ names. Goes (record {
      name = present_name first names;
      at = Some (pointer_in root);
      done = 0;
      came_up = first ∷ names;
      links = length names;
    }) in
    ap (λ (o : Option Refusal). follow_unless o reader (length later) (first ∷ later) name) none.0
    ∙ ap (λ (n : List (List ℕ)). Goes (record { name = n; at = reader.root; done = 0; came_up = first ∷ (later ++ n ∷ []); links = length later + 1 })) none.1
    ∙ ap (λ (at : Option Pointer). Goes (record { name = next; at = at; done = 0; came_up = first ∷ (later ++ next ∷ []); links = length later + 1 })) is_root
    ∙ ap (λ (n : List (List ℕ)). Goes (record { name = n; at = Some (pointer_in root); done = 0; came_up = first ∷ (later ++ next ∷ []); links = length later + 1 }))
    (sym (newest first later next))
    ∙ ap (λ (n : ℕ). Goes (record { name = present_name first (later ++ next ∷ []); at = Some (pointer_in root); done = 0; came_up = first ∷ (later ++ next ∷ []); links = n }))
    (sym (length-append later (next ∷ [])))
    ∙ ap There (sym is_pushed)

-- one more link is one of those that may be followed
pub one_link_less : (links : ℕ) (came_up : List (List (List ℕ))) (name next : List (List ℕ)) → ok_unless (link_refusal links came_up name) name ≡ Ok next
    → links < most_links
one_link_less links came_up name next h = link_is_allowed links came_up name (ok_unless-Ok (link_refusal links came_up name) name next h).0

-- ---- the beginning

-- the walk of the root's name is refused
pub empty_walk : {reader : Reader} {last : Bool} (name : List (List ℕ)) → length name ≡ 0 → Ends reader last name (Refused RootName)
empty_walk [] h = stops refl
empty_walk (c ∷ cs) h = absurd (omega (arith, h))

-- without a root directory any other walk ends unreachable
pub rootless_walk : {reader : Reader} {last : Bool} (name : List (List ℕ)) → (length name ≡ 0 → ⊥) → reader.root ≡ None
    → Ends reader last name (Refused (Unreachable (record { 0 = 1 })))
rootless_walk [] h n = absurd (h refl)
rootless_walk {reader} {last} (c ∷ cs) h n =
    stops (ap (λ (at : Option Pointer). step_from reader last (record { name = c ∷ cs; at = reader.root; done = 0; came_up = (c ∷ cs) ∷ []; links = 0 })
    (c ∷ cs) at) n)

-- ---- out of memory

-- a call that ran out of memory answers as any end has it
pub without_memory : {T : Type 0} (reader : Reader) (last : Bool) (name : List (List ℕ)) (answer : End
    → Result T Refusal) (result : Result T (AllocOr Refusal)) → IsErrAnd result (λ e. e ≡ OutOfMemory)
    → SomeEnd reader last name (λ e. Answers result (answer e))
without_memory reader last name answer result failed = let end = some_end reader last name in (end.0, end.1, answers result failed (answer end.0))

-- what holds of what a call answers
pub if_ok : {T E : Type 0} {P Q : T → Type 0} (result : Result T E) → ((t : T) → P t → Q t) → IfOk result P → IfOk result Q
if_ok (Ok t) more h = more t h
if_ok (Err e) more h = tt

-- a step by what was heard
pub heard : (reader : Reader) (last here : Bool) (w next : Walker) (end told : Option End) → here ≡ last → step reader here w ≡ come_to end next → end ≡ told
    → step reader last w ≡ come_to told next
heard reader last here w next end told same h is = ap (λ (l : Bool). step reader l w) (sym same) ∙ h ∙ ap (λ (o : Option End). come_to o next) is

-- where it answers nothing, what follows holds too
pub on_err : {T E : Type 0} {P Q : Type 0} (result : Result T E) → (P → Q) → OnErr result P → OnErr result Q
on_err (Ok t) more h = tt
on_err (Err e) more h = more h

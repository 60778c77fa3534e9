-- What a clerk keeps, by the test for questions.
use Rattle.std.proofs.Common.{Bool, List, [], ap, arith, inr, length, refl, subst, sym, true, ℕ, ◌∙◌, ◌∷◌, ◌≡◌, ◌≤◌, ◌<◌}
use Rattle.std.specs.Prelude.{Option, Some, None, Err}
use Rattle.std.specs.Option.{option_map}
use Rattle.resolver.specs.ChangingReaders.{Ending}
use Rattle.resolver.specs.ChangingEnds.{found_at, resolution_of}
use Rattle.resolver.proofs.ChangingLaws.{ending_is}
use Rattle.resolver.specs.Walks.{start}
use Rattle.std.specs.Option.{option_map_or}
use Rattle.cell_names.specs.ChildPointers.{Pointer}
use Rattle.resolver.specs.declared.seen.Seen.{Seen}
use Rattle.resolver.specs.declared.seen.Seen.TheVariants as seen
use Rattle.resolver.specs.Readers.{Sight, sight_of}
use Rattle.clerk_cache.specs.declared.query.Query.{Query}
use Rattle.clerk_cache.specs.contracts.query.QueryPartialEq.TheImpl.{eq-value}
use Rattle.clerk_cache.specs.Clerks.{is_query, seen_told, kept_sight, kept_values, to_front, sight_by, values_by, sight_answer, clerk_reader}
use Rattle.clerk_cache.specs.Resolutions.{RanOutFrom}
use Rattle.clerk_cache.specs.declared.clerk.Clerk.{Clerk}
use Rattle.resolver.specs.Readers.{Reader}
use Rattle.resolver.specs.Walks.{Walker, Goes, Stops, step, step_from}
use Rattle.resolver.specs.declared.walk.End.{End}
use Rattle.resolver.specs.declared.walk.End.TheVariants.{Refused}
use Rattle.resolver.specs.declared.refusal.Refusal.TheVariants.{RootName, Unreachable}
use Rattle.std.proofs.lemmas.List.{at_drop_all}
use Rattle.resolver.specs.ChangingReaders.{ChangingReader, look_of, state_after, ComesTo, goes_on, EndsChanging, stops}
use Rattle.resolver.specs.PassWords.{IsNoRefusal, Saw, first_walker}
use Rattle.resolver.proofs.PassLaws.{saw_by}

-- what `==` computes of questions is the test
pub derived-same : (q r : Query) → eq-value.it q r ≡ is_query q r
derived-same q r = refl

-- what is seen is kept as it is
pub kept_back : (s : Seen) → seen_told (sight_of s) ≡ s
kept_back seen.Unreachable = refl
kept_back (seen.Absent house) = refl
kept_back (seen.Object house) = refl
kept_back (seen.Link house target) = refl
kept_back (seen.Child house child) = refl

-- an answer that is kept is answered, and goes to the front
pub sight_from_list : (c : Clerk) (q asked : Query) (now : ℕ) (fresh s : Sight) → q ≡ asked → kept_sight q c ≡ Some s
    → (s, to_front q c) ≡ sight_by (kept_sight asked c) asked now fresh c
sight_from_list c q asked now fresh s same kept =
    sym (subst (λ (r : Query). sight_by (kept_sight r c) r now fresh c ≡ (s, to_front q c)) same
    (ap (λ (o : Option Sight). sight_by o q now fresh c) kept))

pub values_from_list : (c : Clerk) (q asked : Query) (now : ℕ) (fresh : Option (List (List ℕ))) (vs : List (List ℕ)) → q ≡ asked → kept_values q c ≡ Some vs
    → (Some vs, to_front q c) ≡ values_by (kept_values asked c) asked now fresh c
values_from_list c q asked now fresh vs same kept =
    sym (subst (λ (r : Query). values_by (kept_values r c) r now fresh c ≡ (Some vs, to_front q c)) same
    (ap (λ (o : Option (List (List ℕ))). values_by o q now fresh c) kept))

-- what the clerk answers is what the walk sees, and the clerk then is the state after its step
pub seen_by : (now : ℕ) (reader : Reader) (s t : Clerk) (w : Walker) (p : Pointer) (c : List ℕ) (seen : Sight) → Some (p, c) ≡ look_of w
    → (seen, t) ≡ sight_answer now reader p c s → Saw ((clerk_reader now reader).tells s) w seen × (state_after (clerk_reader now reader) s w ≡ t)
seen_by now reader s t w p c seen look h = (
  saw_by ((clerk_reader now reader).tells s) w p c seen look (ap (λ (r : Sight × Clerk). r.0) h),
  subst (λ (o : Option (Pointer × List ℕ)). option_map_or (λ q. (sight_answer now reader q.0 q.1 s).1) o s ≡ t) look (sym (ap (λ (r : Sight × Clerk). r.1) h)),
)

-- one step more
pub one_step : {S : Type 0} (reader : ChangingReader S) (last : Bool) {s₀ s t : S} {w₀ w : Walker} (next : Walker) → ComesTo reader last s₀ w₀ s w
    → step (reader.tells s) last w ≡ Goes next → state_after reader s w ≡ t → ComesTo reader last s₀ w₀ t next
one_step reader last {s₀} {s} {t} {w₀} {w} next comes h is = subst (λ (u : _). ComesTo reader last s₀ w₀ u next) is (goes_on comes next h)

-- a walk that stops in its next step ends so
pub ended : {S : Type 0} (reader : ChangingReader S) (last : Bool) {s t : S} {w : Walker} {e : End} (at : Pointer) → step (reader.tells s) last w ≡ Stops e
    → Some at ≡ w.at → state_after reader s w ≡ t → EndsChanging reader last s w (record { end = e; at = Some at; state = t })
ended {S} reader last {s} {t} {w} {e} at h there is =
    subst (λ (o : Option Pointer). EndsChanging reader last s w (record { end = e; at = o; state = t })) (sym there)
    (subst (λ (u : S). EndsChanging reader last s w (record { end = e; at = w.at; state = u })) is (stops h))

-- so does one that has no component left
pub none_left_on : {S : Type 0} (reader : ChangingReader S) (last : Bool) (s : S) (w : Walker) (at : Pointer) → length w.name ≤ w.done → None ≡ look_of w
    → Some at ≡ w.at → EndsChanging reader last s w (record { end = Refused RootName; at = Some at; state = s })
none_left_on reader last s w at all look there =
    ended reader last at (at_drop_all (λ (l : List (List ℕ)). step_from (reader.tells s) last w l w.at) w.name w.done all) there
    (ap (λ (o : Option (Pointer × List ℕ)). option_map_or (λ q. reader.after s q.0 q.1) o s) (sym look))

-- where the walk of a name ends is what is found
pub resolved : {S : Type 0} (reader : ChangingReader S) (s t : S) (name : List (List ℕ)) (root : Pointer) (w : Walker) (e : End) (at : Option Pointer)
    → (reader.tells s).root ≡ Some root → w ≡ first_walker root name
    → EndsChanging reader true s w (record { end = e; at = at; state = t }) → resolution_of reader s name ≡ (found_at at e, t)
resolved {S} reader s t name root w e at is_root is ends =
    ap (λ (x : Ending S). (found_at x.at x.end, x.state)) (ending_is reader true
    (subst (λ (v : Walker). EndsChanging reader true s v (record { end = e; at = at; state = t }))
    (is ∙ ap (λ (o : Option Pointer). record { name = name; at = o; done = 0; came_up = name ∷ []; links = 0 }) (sym is_root)) ends))

pub empty_resolved : {S : Type 0} (reader : ChangingReader S) (s : S) (name : List (List ℕ)) → length name ≡ 0 → resolution_of reader s name ≡ (Err RootName, s)
empty_resolved {S} reader s [] h = ap (λ (x : Ending S). (found_at x.at x.end, x.state)) (ending_is reader true (stops refl))
empty_resolved reader s (c ∷ cs) h = absurd (omega (arith, h))

pub rootless_resolved : {S : Type 0} (reader : ChangingReader S) (s : S) (name : List (List ℕ)) → (length name ≡ 0 → ⊥) → (reader.tells s).root ≡ None
    → resolution_of reader s name ≡ (Err (Unreachable (record { 0 = 1 })), s)
rootless_resolved reader s [] h n = absurd (h refl)
rootless_resolved {S} reader s (c ∷ cs) h n =
    ap (λ (x : Ending S). (found_at x.at x.end, x.state)) (ending_is reader true
    (stops (ap (λ (at : Option Pointer). step_from (reader.tells s) true (start (reader.tells s) (c ∷ cs)) (c ∷ cs) at) n)))
    ∙ ap (λ (o : Option Pointer). (
      Err (Unreachable (record { 0 = 1 })),
      option_map_or (λ (q : Pointer × List ℕ). reader.after s q.0 q.1)
          (option_map (λ (p : Pointer). (p, c)) o) s,
    )) n

-- where memory ran out in the walk of a name
pub ran_out : {S : Type 0} (reader : ChangingReader S) (s t : S) (name : List (List ℕ)) (root : Pointer) (w : Walker)
    → (reader.tells s).root ≡ Some root → w ≡ first_walker root name
    → RanOutFrom reader true s w t → RanOutFrom reader true s (start (reader.tells s) name) t
ran_out {S} reader s t name root w is_root is part =
    subst (λ (v : Walker). RanOutFrom reader true s v t)
    (is ∙ ap (λ (o : Option Pointer). record { name = name; at = o; done = 0; came_up = name ∷ []; links = 0 }) (sym is_root)) part

-- and where it ran out after a look-up, the step refuses nothing
pub lacks : {S : Type 0} (reader : ChangingReader S) (last here : Bool) {s₀ s t : S} {w₀ w : Walker} → here ≡ last → ComesTo reader last s₀ w₀ s w
    → w.done < length w.name → state_after reader s w ≡ t → IsNoRefusal (step (reader.tells s) here w) → RanOutFrom reader last s₀ w₀ t
lacks {S} reader last here {s₀} {s} {t} {w₀} {w} same comes within is none = record {
  state = s;
  walker = w;
  comes = comes;
  within = within;
  is = inr (sym is, subst (λ (l : Bool). IsNoRefusal (step (reader.tells s) l w)) same none);
}

-- a name that is not empty has a component
pub some_length : (name : List (List ℕ)) → (length name ≡ 0 → ⊥) → 0 < length name
some_length [] some = absurd (some refl)
some_length (c ∷ cs) some = omega arith

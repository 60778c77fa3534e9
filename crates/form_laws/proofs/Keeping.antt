-- What a clerk keeps after it was asked: what it kept before, and what the reader told it now.
use Rattle.std.proofs.Common.{◌≡◌, ◌⊎◌, inl, inr, ℕ, Bool, true, List, Contains, refl, sym, ap, subst, ◌∙◌}
use Rattle.std.specs.Prelude.{Option, Some, None, Result, Ok, Err}
use Rattle.std.specs.Option.{option_map_or}
use Rattle.cds_stamps.specs.declared.numbers.HouseNo.{HouseNo}
use Rattle.cell_names.specs.ChildPointers.{Pointer}
use Rattle.lru.proofs.CallerLemmas.{Contains-promoted, Contains-put_entries, IsPut}
use Rattle.resolver.specs.declared.refusal.Refusal.{Refusal}
use Rattle.resolver.specs.declared.seen.Found.{Found}
use Rattle.resolver.specs.Readers.{Reader, Sight, Unreachable, Absent, Object, Link, Child}
use Rattle.resolver.specs.ChangingReaders.{Ending, EndsChanging, stops, goes, look_of}
use Rattle.resolver.specs.ChangingEnds.{resolution_of}
use Rattle.resolver.specs.Walks.{Walker}
use Rattle.resolver.proofs.ChangingLaws.{ending_there}
use Rattle.clerk_cache.specs.declared.clerk.Clerk.{Clerk}
use Rattle.clerk_cache.specs.declared.query.Kept.{Kept}
use Rattle.clerk_cache.specs.declared.query.Query.{Query}
use Rattle.clerk_cache.specs.declared.query.Told.{Told}
use Rattle.clerk_cache.specs.declared.query.Told.TheVariants as told
use Rattle.clerk_cache.specs.Clerks.{clerk_reader, is_query, kept_sight, kept_values, note, query_of, seen_told, shown_values}
use Rattle.clerk_cache.specs.Clerks.{sight_answer, sight_by, to_front, values_answer, values_by}
use Rattle.clerk_replay.specs.Clerking.{read_behind, read_by_clerk}
use Rattle.form_laws.specs.Honesty.{Tells}
use Rattle.form_laws.proofs.SameQuestions.{same_query}

module _ (now : ℕ) (reader : Reader) where
  -- what is kept was given now by the reader, to a clerk that prefers this house
  pub record IsNoted (prefer : HouseNo) (e : Query × Kept) : Type 0 where
    pub line : e.1.line ≡ now
    pub house : e.0.prefer ≡ prefer
    pub tells : Tells reader e.0 e.1.told

  -- from one clerk to a later one: it prefers the same house, and keeps nothing but what was kept
  -- or is noted
  pub record Keeps (c d : Clerk) : Type 0 where
    pub prefer : d.prefer ≡ c.prefer
    pub kept : (e : Query × Kept) → Contains d.kept.entries e → Contains c.kept.entries e ⊎ IsNoted c.prefer e

  pub keeps_itself : (c : Clerk) → Keeps c c
  keeps_itself c = record { prefer = refl; kept = λ e has. inl has }

  pub keeps_on : {c d f : Clerk} → Keeps c d → Keeps d f → Keeps c f
  keeps_on {c} {d} {f} first second = record {
    prefer = second.prefer ∙ first.prefer;
    kept = λ e has. elim (second.kept e has) [
      | inl before ↦ first.kept e before
      | inr noted ↦ inr (record { line = noted.line; house = noted.house ∙ first.prefer; tells = noted.tells })
    ];
  }

  fronted : (q : Query) (c : Clerk) → Keeps c (to_front q c)
  fronted q c = record { prefer = refl; kept = λ e has. inl (Contains-promoted (is_query q) c.kept.entries e has) }

  abbrev kept_now : Told → Kept
  kept_now t = record { told = t; line = now }

  -- the pair that is put is what the reader tells
  put_noted : (q : Query) (t : Told) (c : Clerk) → q.prefer ≡ c.prefer → Tells reader q t → (e : Query × Kept)
      → IsPut is_query c.kept q (kept_now t) e → IsNoted c.prefer e
  put_noted q t c prefer tells e put =
      let at : q ≡ e.0 = elim put.1 [
        | inl same ↦ sym same
        | inr there ↦ same_query q e.0 there.2
      ] in
      let all : (q, kept_now t) ≡ e = ap (λ (r : Query). (r, kept_now t)) at ∙ ap (λ (k : Kept). (e.0, k)) (sym put.0) in
      subst (IsNoted c.prefer) all (record { line = refl; house = prefer; tells = tells })

  noted : (q : Query) (t : Told) (c : Clerk) → q.prefer ≡ c.prefer → Tells reader q t → Keeps c (note q t now c)
  noted q t c prefer tells = record {
    prefer = refl;
    kept = λ e has. elim (Contains-put_entries is_query c.kept q (kept_now t) e has) [
      | inl before ↦ inl before
      | inr put ↦ inr (put_noted q t c prefer tells e put)
    ];
  }

  -- ---- what is seen

  sight_keeps : (at : Pointer) (name : List ℕ) (c : Clerk) (kept : Option Sight) (fresh : Sight) → reader.sees at name ≡ fresh
      → Keeps c (sight_by kept (query_of c at name None) now fresh c).1
  sight_keeps at name c (Some s) fresh is = fronted (query_of c at name None) c
  sight_keeps at name c None Unreachable is = keeps_itself c
  sight_keeps at name c None (Absent house) is =
      noted (query_of c at name None) (told.Sight (seen_told (Absent house))) c refl (refl, is, λ same. cc)
  sight_keeps at name c None (Object house) is =
      noted (query_of c at name None) (told.Sight (seen_told (Object house))) c refl (refl, is, λ same. cc)
  sight_keeps at name c None (Link house target) is =
      noted (query_of c at name None) (told.Sight (seen_told (Link house target))) c refl (refl, is, λ same. cc)
  sight_keeps at name c None (Child house child) is =
      noted (query_of c at name None) (told.Sight (seen_told (Child house child))) c refl (refl, is, λ same. cc)

  -- after a look-up
  look_keeps : (at : Pointer) (name : List ℕ) (c : Clerk) → Keeps c (sight_answer now reader at name c).1
  look_keeps at name c = sight_keeps at name c (kept_sight (query_of c at name None) c) (reader.sees at name) refl

  -- after a step of a walk
  step_keeps : (c : Clerk) (o : Option (Pointer × List ℕ))
      → Keeps c (option_map_or (λ (q : Pointer × List ℕ). (sight_answer now reader q.0 q.1 c).1) o c)
  step_keeps c None = keeps_itself c
  step_keeps c (Some q) = look_keeps q.0 q.1 c

  -- after a walk
  walk_keeps : (last : Bool) {c : Clerk} {w : Walker} {x : Ending Clerk} → EndsChanging (clerk_reader now reader) last c w x → Keeps c x.state
  walk_keeps last {c} {w} (stops h) = step_keeps c (look_of w)
  walk_keeps last {c} {w} (goes next h behind) = keeps_on (step_keeps c (look_of w)) (walk_keeps last behind)

  -- ---- values

  values_keep : (at : Pointer) (name attr : List ℕ) (c : Clerk) (kept fresh : Option (List (List ℕ))) → shown_values reader at name attr ≡ fresh
      → Keeps c (values_by kept (query_of c at name (Some attr)) now fresh c).1
  values_keep at name attr c (Some vs) fresh is = fronted (query_of c at name (Some attr)) c
  values_keep at name attr c None None is = keeps_itself c
  values_keep at name attr c None (Some vs) is =
      noted (query_of c at name (Some attr)) (told.Values vs) c refl (attr, refl, is)

  read_keeps : (at : Pointer) (name attr : List ℕ) (c : Clerk) → Keeps c (values_answer now reader at name attr c).1
  read_keeps at name attr c =
      values_keep at name attr c (kept_values (query_of c at name (Some attr)) c) (shown_values reader at name attr) refl

  behind_keeps : (attr : List ℕ) (r : Result (Option Pointer × Found) Refusal) (c : Clerk) → Keeps c (read_behind now reader attr r c).1
  behind_keeps attr (Ok (Some at, found)) c = read_keeps at found.name attr c
  behind_keeps attr (Ok (None, found)) c = keeps_itself c
  behind_keeps attr (Err r) c = keeps_itself c

  -- after `read`
  pub all_keeps : (name : List (List ℕ)) (attr : List ℕ) (c : Clerk) → Keeps c (read_by_clerk now reader name attr c).1
  all_keeps name attr c =
      let r = resolution_of (clerk_reader now reader) c name in
      keeps_on (walk_keeps true (ending_there (clerk_reader now reader) true c name)) (behind_keeps attr r.0 r.1)

-- Plans over readers that agree with what was heard are one.
use Rattle.std.proofs.Common.{◌≡◌, ℕ, true, List, refl, sym, ap, ap₂, ◌∙◌}
use Rattle.std.specs.Prelude.{Some, Result, Ok, Err, IfOk, is_none}
use Rattle.std.specs.declared.alloc.AllocError.{AllocError}
use Rattle.std.specs.Option.{option_map}
use Rattle.directory.specs.declared.entry.Kind.{Kind}
use Rattle.directory.specs.declared.entry.Kind.TheVariants as kind
use Rattle.resolver.specs.declared.seen.Found.{Found}
use Rattle.resolver.specs.declared.seen.Place.{Place}
use Rattle.resolver.specs.declared.walk.End.{End}
use Rattle.resolver.specs.declared.walk.End.TheVariants as ends
use Rattle.resolver.specs.Readers.{Reader}
use Rattle.resolver.specs.Walks.{Ends, found_of, place_of}
use Rattle.resolver.specs.WalkEnds.{end_of}
use Rattle.server_entries.specs.Exports.{export_changes, export_fault, object_attribute, tower_attribute, unexport_changes}
use Rattle.ns_groups.specs.Groups as groups_of
use Rattle.ns_profiles.specs.Profiles as profiles_of
use Rattle.ns_commands.specs.Asks.{Asks, changes_unless, deleted_from, fills, object_in, of_entry, of_kind, place_to_fill, refusal_of_export, refusal_of_group, refusal_of_profile, unless, unless_none}
use Rattle.clerk_lines.specs.ShownEntries.{attr_values}
use Rattle.cds_clerk.specs.declared.heard.Heard.{Heard}
use Rattle.cds_clerk.specs.declared.heard.Lack.{Lack}
use Rattle.cds_clerk.specs.declared.planning.Plan.{Plan}
use Rattle.cds_clerk.specs.declared.planning.Plan.TheVariants as plan
use Rattle.cds_clerk.specs.declared.planning.Planned.{Planned}
use Rattle.cds_clerk.specs.declared.planning.Planned.TheVariants as planned
use Rattle.cds_clerk.specs.Agreements.{Agrees}
use Rattle.cds_clerk.specs.Heards.{heard_values, values_told}
use Rattle.cds_clerk.specs.Plans.{IfMisses, IfPlanned, IfRootless, IsKnown, asks_of, name_of}
use Rattle.cds_clerk.specs.Readings.{IfFound, IsShown, least_reader}
use Rattle.cds_clerk.proofs.HeardLaws.{end_is, least_agrees}

-- what comes of an object that is found, if it is the same of each entry
of_object : (ask other : Found → Asks) (e : End) → IfFound e (λ f. ask f ≡ other f)
    → of_entry (object_in (found_of e)) ask ≡ of_entry (object_in (found_of e)) other
of_object ask other (ends.Found f) same = by_kind f.kind
  where
    by_kind : (k : Kind) → of_entry (of_kind k f) ask ≡ of_entry (of_kind k f) other
    by_kind kind.Object = same
    by_kind kind.Link = refl
    by_kind kind.Child = refl
of_object ask other (ends.Missing place done) same = refl
of_object ask other (ends.Refused why) same = refl

-- what is known of an entry that is found, if it is so of each that was shown
if_found : (e : End) (P Q : Found → Type 0) → ((f : Found) → P f → Q f) → IfFound e P → IfFound e Q
if_found (ends.Found f) P Q gives its = gives f its
if_found (ends.Missing place done) P Q gives its = tt
if_found (ends.Refused why) P Q gives its = tt

module _ (h : Heard) (r : Reader) (agrees : Agrees r h) where
  -- an entry that was shown has the same values by both
  values_alike : (f : Found) (a : List ℕ) → IsShown h f → (least_reader h).values f a ≡ r.values f a
  values_alike f a shown =
      let vs : List (List ℕ) = attr_values a shown.entry.attrs in
      let heard : heard_values h f a ≡ Some vs = ap (λ o. values_told o a) shown.told in
      (least_agrees h).values f a vs heard ∙ sym (agrees.values f a vs heard)

  module _ (name : List (List ℕ)) (e : End) (walked : (s : Reader) → Agrees s h → Ends s true name e) (shown : IfFound e (IsShown h)) where
    -- the walk of the name has the same end by both
    by_end : {A : Type 0} (f : End → A) → f (end_of (least_reader h) true name) ≡ f (end_of r true name)
    by_end f = ap f (end_is (least_reader h) true name e (walked (least_reader h) (least_agrees h)) ∙ sym (end_is r true name e (walked r agrees)))

    -- what comes of the object at its end
    by_object : (ask other : Found → Asks) → ((f : Found) → IsShown h f → ask f ≡ other f)
        → of_entry (object_in (found_of (end_of (least_reader h) true name))) ask ≡ of_entry (object_in (found_of (end_of r true name))) other
    by_object ask other same =
        ap (λ (x : End). of_entry (object_in (found_of x)) ask) (end_is (least_reader h) true name e (walked (least_reader h) (least_agrees h)))
        ∙ of_object ask other e (if_found e (IsShown h) (λ f. ask f ≡ other f) same shown)
        ∙ sym (ap (λ (x : End). of_entry (object_in (found_of x)) other) (end_is r true name e (walked r agrees)))

  pub plans_alike : (p : Plan) (e : End) → ((s : Reader) → Agrees s h → Ends s true (name_of p) e) → IfFound e (IsShown h)
      → asks_of (least_reader h) p ≡ asks_of r p
  plans_alike (plan.Export name interface bindings objects) e walked shown =
      by_end name e walked shown (λ x. unless (option_map refusal_of_export (export_fault bindings objects)) (of_entry (place_to_fill (place_of x)) (λ (place : Place).
      fills place (export_changes place.name (is_none place.kind) interface bindings objects))))
  plans_alike (plan.Unexport name interface objects) e walked shown =
      by_object name e walked shown
      (λ f. unless_none f (unexport_changes f.name ((least_reader h).values f tower_attribute) ((least_reader h).values f object_attribute) interface objects))
      (λ f. unless_none f (unexport_changes f.name (r.values f tower_attribute) (r.values f object_attribute) interface objects))
      (λ f its. ap₂ (λ (t o : List (List ℕ)). unless_none f (unexport_changes f.name t o interface objects)) (values_alike f tower_attribute its) (values_alike f object_attribute its))
  plans_alike (plan.Groupadd name member) e walked shown =
      by_end name e walked shown (λ x. of_entry (place_to_fill (place_of x)) (λ (place : Place). fills place (groups_of.member_addition place.name (is_none place.kind) member)))
  plans_alike (plan.Groupdel name member) e walked shown =
      by_object name e walked shown
      (λ f. changes_unless (option_map refusal_of_group (groups_of.delete_fault ((least_reader h).values f groups_of.group) member)) f (groups_of.member_deletion f.name member))
      (λ f. changes_unless (option_map refusal_of_group (groups_of.delete_fault (r.values f groups_of.group) member)) f (groups_of.member_deletion f.name member))
      (λ f its. ap (λ (v : List (List ℕ)). changes_unless (option_map refusal_of_group (groups_of.delete_fault v member)) f (groups_of.member_deletion f.name member))
      (values_alike f groups_of.group its))
  plans_alike (plan.Profadd name interface member priority note) e walked shown =
      by_end name e walked shown (λ x. unless (option_map refusal_of_profile (profiles_of.add_fault interface member priority note))
      (of_entry (place_to_fill (place_of x)) (λ (place : Place).
      fills place (profiles_of.element_addition place.name (is_none place.kind) (profiles_of.new_element interface member priority note)))))
  plans_alike (plan.Profdel name interface member) e walked shown =
      by_object name e walked shown (λ f. deleted_from interface member f ((least_reader h).values f profiles_of.profile))
      (λ f. deleted_from interface member f (r.values f profiles_of.profile))
      (λ f its. ap (λ (v : List (List ℕ)). deleted_from interface member f v) (values_alike f profiles_of.profile its))

-- a plan that comes to this, comes to what is the same
pub same_plan : (x : Planned) (P Q : Asks → Type 0) → ((a : Asks) → P a → Q a) → IfPlanned x P → IfPlanned x Q
same_plan (planned.Made u) P Q gives its = gives _ its
same_plan (planned.Refused why) P Q gives its = gives _ its
same_plan planned.LacksRoot P Q gives its = tt
same_plan (planned.Lacks q) P Q gives its = tt

-- what is known lacks nothing
pub misses_none : (x : Result Planned AllocError) (P : Lack → Type 0) → IfOk x IsKnown → IfOk x (λ y. IfMisses y P)
misses_none (Ok (planned.Made u)) P known = tt
misses_none (Ok (planned.Refused why)) P known = tt
misses_none (Ok planned.LacksRoot) P known = absurd known
misses_none (Ok (planned.Lacks q)) P known = absurd known
misses_none (Err e) P known = tt

-- nor where the root directory is
pub has_root : (x : Result Planned AllocError) (P : Type 0) → IfOk x IsKnown → IfOk x (λ y. IfRootless y P)
has_root (Ok (planned.Made u)) P known = tt
has_root (Ok (planned.Refused why)) P known = tt
has_root (Ok planned.LacksRoot) P known = absurd known
has_root (Ok (planned.Lacks q)) P known = absurd known
has_root (Err e) P known = tt

-- Inquiries over readers that agree with what was heard.
use Rattle.std.proofs.Common.{◌≡◌, ℕ, true, List, [], ◌∷◌, refl, sym, ap, ap₂, ◌∙◌}
use Rattle.std.specs.List.{IsDistinct}
use Rattle.std.proofs.lemmas.List.Elements.{All-nil, All-push}
use Rattle.directory.specs.declared.entry.Kind.{Kind}
use Rattle.directory.specs.declared.entry.Kind.TheVariants as kind
use Rattle.resolver.specs.declared.seen.Found.{Found}
use Rattle.resolver.specs.declared.walk.End.{End}
use Rattle.resolver.specs.declared.walk.End.TheVariants as ends
use Rattle.resolver.specs.Readers.{Reader}
use Rattle.resolver.specs.SeenEnds.{IsSeenEnd}
use Rattle.resolver.specs.Walks.{found_of}
use Rattle.server_entries.specs.Exports.{tower_attribute, object_attribute}
use Rattle.ns_groups.specs.Groups.{group, members_of}
use Rattle.ns_profiles.specs.Profiles.{profile}
use Rattle.ns_inquire.specs.Inquiries.{elements_of, interfaces_of, objects_of}
use Rattle.ns_commands.specs.Asks.{object_in, of_kind}
use Rattle.inquire_forms.specs.Inquired.{Inquired, Elements, Entries, Members, elements_in, entry_in, inquired_list, members_in, of_object}
use Rattle.cds_clerk.specs.declared.heard.Heard.{Heard}
use Rattle.cds_clerk.specs.declared.heard.Lack.{Lack}
use Rattle.cds_clerk.specs.declared.inquiring.Listing.{Listing}
use Rattle.cds_clerk.specs.declared.inquiring.Listing.TheVariants as listing
use Rattle.cds_clerk.specs.Agreements.{Agrees}
use Rattle.cds_clerk.specs.Heards.{IsUnheard}
use Rattle.cds_clerk.specs.Inquirings.{IsEnded, inquiry_answer}
use Rattle.cds_clerk.specs.Readings.{IfFound, IsShown, least_reader}
use Rattle.cds_clerk.specs.Searches.{AreAsked}
use Rattle.cds_clerk.proofs.HeardLaws.{end_is, ended_shown, least_agrees, values_alike}

-- what is listed of an entry that was shown is the same by two readers; so is what is listed by the
-- end of a walk
module _ (h : Heard) (mine r : Found → Inquired) (alike : (e : Found) → IsShown h e → mine e ≡ r e) where
  by_kind : (k : Kind) (f : Found) → IsShown h f → of_object (of_kind k f) mine ≡ of_object (of_kind k f) r
  by_kind kind.Object f shown = alike f shown
  by_kind kind.Link f shown = refl
  by_kind kind.Child f shown = refl

  end_alike : (e : End) → IfFound e (IsShown h) → of_object (object_in (found_of e)) mine ≡ of_object (object_in (found_of e)) r
  end_alike (ends.Found f) shown = by_kind f.kind f shown
  end_alike (ends.Missing place done) shown = refl
  end_alike (ends.Refused why) shown = refl

module _ (h : Heard) (name : List (List ℕ)) (ended : IsEnded h name) (seen : IsSeenEnd (least_reader h) true ended.end) (r : Reader) (agrees : Agrees r h) where
  -- likewise by the walk of a name
  list_alike : (list : Reader → Found → Inquired) → ((e : Found) → IsShown h e → list (least_reader h) e ≡ list r e)
      → inquired_list (least_reader h) name (list (least_reader h)) ≡ inquired_list r name (list r)
  list_alike list alike =
      ap (λ (e : End). of_object (object_in (found_of e)) (list (least_reader h))) (end_is (least_reader h) true name ended.end (ended.walked (least_reader h) (least_agrees h)))
      ∙ end_alike h (list (least_reader h)) (list r) alike ended.end (ended_shown h true ended.end seen)
      ∙ sym (ap (λ (e : End). of_object (object_in (found_of e)) (list r)) (end_is r true name ended.end (ended.walked r agrees)))

  same_values : (e : Found) (a : List ℕ) → IsShown h e → (least_reader h).values e a ≡ r.values e a
  same_values e a shown = sym (values_alike h r agrees e a shown)

  pub listed_alike : (l : Listing) → inquiry_answer (least_reader h) name l ≡ inquiry_answer r name l
  listed_alike listing.Members = list_alike members_in (λ e shown. ap (λ vs. Members (members_of vs)) (same_values e group shown))
  listed_alike listing.Entry = list_alike entry_in (λ e shown.
      ap₂ (λ (ts os : List (List ℕ)). Entries (interfaces_of ts) (objects_of os)) (same_values e tower_attribute shown) (same_values e object_attribute shown))
  listed_alike (listing.Elements asked) =
      list_alike (λ reader. elements_in reader asked) (λ e shown. ap (λ vs. Elements (elements_of asked vs)) (same_values e profile shown))

-- one question is asked
pub one_asked : (h : Heard) (IsWanted : Lack → Type 0) (q : Lack) → IsUnheard h q → IsWanted q → AreAsked h IsWanted (q ∷ [])
unfolding IsDistinct
one_asked h IsWanted q unheard wanted = record {
  some = λ none. absurd (cc);
  once = (tt, tt);
  unheard = All-push (IsUnheard h) [] q (All-nil (IsUnheard h)) unheard;
  wanted = All-push IsWanted [] q (All-nil IsWanted) wanted;
}

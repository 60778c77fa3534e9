-- Inquiries by what was heard.
use Rattle.std.specs.Prelude.{◌≡◌, ℕ, true, List, Some}
use Rattle.cell_names.specs.ChildPointers.{Pointer}
use Rattle.resolver.specs.declared.walk.End.{End}
use Rattle.resolver.specs.PassWords.{first_walker}
use Rattle.resolver.specs.Readers.{Reader}
use Rattle.resolver.specs.Walks.{Ends}
use Rattle.inquire_forms.specs.Inquired.{Inquired, elements_listed, entry_listed, members_listed}
use Rattle.cds_clerk.specs.declared.heard.Heard.{Heard}
use Rattle.cds_clerk.specs.declared.heard.Lack.{Lack}
use Rattle.cds_clerk.specs.declared.inquiring.Listing.{Listing}
use Rattle.cds_clerk.specs.declared.inquiring.Listing.TheVariants as listing
use Rattle.cds_clerk.specs.Agreements.{Agrees, IsNeeded}
use Rattle.cds_clerk.specs.Heards.{heard_root}

-- what an inquiry of the entry of a name is answered over a reader
abbrev pub inquiry_answer : Reader → (name : List (List ℕ)) → Listing → Inquired
inquiry_answer r name listing.Members = members_listed r name
inquiry_answer r name listing.Entry = entry_listed r name
inquiry_answer r name (listing.Elements asked) = elements_listed r asked name

-- the walk of a name needs this, links followed to the last
abbrev pub IsAtName : Heard → (name : List (List ℕ)) → Lack → Type 0
IsAtName h name q = (root : Pointer) → heard_root h.root ≡ Some (Some root)
    → IsNeeded h true (first_walker root name) q

-- ---- words of private contracts

-- by what was heard the walk of a name comes to an end
pub record IsEnded (h : Heard) (name : List (List ℕ)) : Type 0 where
  pub end : End
  pub walked : (r : Reader) → Agrees r h → Ends r true name end

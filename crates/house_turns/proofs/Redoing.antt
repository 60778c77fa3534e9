-- A record that is done again, and a house that ends.
use Rattle.std.proofs.Common.{◌≡◌, ◌≢◌, ℕ, Bool, true, false, List, [], sym, ap, subst, ◌∙◌}
use Rattle.std.specs.Prelude.{◌==◌, Option, Some, None, Ok}
use Rattle.std.specs.Bool.{OnFalse, OnTrue}
use Rattle.std.specs.List.{before_first}
use Rattle.std.specs.Str.{bytes_eq}
use Rattle.std.proofs.lemmas.Slice.Eq.{bytes_eq-Decides}
use Rattle.cds_records.specs.RecordOctets.{image_octets}
use Rattle.cds_records.specs.RecordRanges.{FitsImage}
use Rattle.clearinghouse.specs.HouseImages.{image_of, start_of_octets}
use Rattle.clearinghouse.specs.LawfulHouses.{IsLawful}
use Rattle.clearinghouse.specs.declared.house.Clearinghouse.{Clearinghouse}
use Rattle.house_entries.specs.Bodies.{IsBody}
use Rattle.house_serving.specs.Turns.{Said}
use Rattle.house_turns.specs.declared.house.House.{House}
use Rattle.house_turns.specs.HouseReplies.{Responds}
use Rattle.house_turns.specs.Openings.{Differs, EndsLife, MayEnd, NoneMade, Otherwise, Redoes, Restarts, house_with, new_house}

-- the house that does a line again: at this clock, and without octets of a message
abbrev pub at_clock : House → (clock : ℕ) → House
at_clock h clock = record h { clock = clock; more = [] }

-- its reply to the first line of the text of a record
pub replied : (h h' : House) (clock : ℕ) (more line text : List ℕ) (said : Said) → more ≡ [] → line ≡ before_first (λ b. b == 10) text
    → Responds (record h { clock = clock; more = more }) 0 line said h' → Responds (at_clock h clock) 0 (before_first (λ b. b == 10) text) said h'
replied h h' clock more line text said none is does =
    subst (λ (l : List ℕ). Responds (at_clock h clock) 0 l said h') is
    (subst (λ (m : List ℕ). Responds (record h { clock = clock; more = m }) 0 line said h') none does)

module _ (h h' : House) (octets : List ℕ) (clock : ℕ) (said : Said) where
  -- the reply has a record
  pub redone : (line kept : List ℕ) (b : Bool) → Responds (at_clock h clock) 0 line said h' → said.body ≡ Some kept → b ≡ bytes_eq kept octets
      → OnTrue b (Redoes h octets h')
  redone line kept false does body is = tt
  redone line kept true does body is = record {
    clock = clock;
    line = line;
    said = said;
    does = does;
    same = body ∙ ap (λ (l : List ℕ). Some l) ((bytes_eq-Decides kept octets).0 (sym is));
  }

  module _ (number : ℕ) (text : List ℕ) (image : Option (List ℕ)) (is_body : IsBody octets number clock text image)
      (does : Responds (at_clock h clock) 0 (before_first (λ b. b == 10) text) said h') where
    pub otherwise : (kept : List ℕ) (b : Bool) → said.body ≡ Some kept → b ≡ bytes_eq kept octets → OnFalse b (Differs h octets)
    otherwise kept true body is = tt
    otherwise kept false body is = Otherwise number clock text image said h' is_body does other
      where
        other : said.body ≢ Some octets
        other same =
            let equal : kept ≡ octets = cc (body, same) in
            absurd (cc (is, (bytes_eq-Decides kept octets).1 equal))

    -- it has none
    pub without : said.body ≡ None → Differs h octets
    without none = Otherwise number clock text image said h' is_body does (λ same. absurd (cc (none, same)))

-- ---- the house that ends

pub ended : (h h' : House) (c c' : Clearinghouse) (image : List ℕ) → h.home ≡ Some c → FitsImage (image_of c) → image ≡ image_octets (image_of c)
    → start_of_octets image ≡ Ok c' → h' ≡ house_with c' h.entry 0 h.last → EndsLife h h'
ended h h' c c' image made fits octets starts is =
    subst (EndsLife h) (sym is) (Restarts c c' made fits (ap start_of_octets (sym octets) ∙ starts))

pub ended_new : (h h' : House) → h.home ≡ None → h' ≡ new_house → EndsLife h h'
ended_new h h' none is = subst (EndsLife h) (sym is) (NoneMade none)

-- a lawful house starts of its own image
pub lawful_of : (h : House) (c : Clearinghouse) → h.home ≡ Some c → MayEnd h.home → IsLawful c
lawful_of h c made may = subst MayEnd made may

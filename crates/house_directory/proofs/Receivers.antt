-- The houses to which something is said: the loop over the members, and the one house or each other
-- member.
use Rattle.std.proofs.Common.{◌≡◌, ℕ, ◌≤◌, true, false, cond, List, [], ◌∷◌, ◌++◌, length, Some, None, refl, sym, ap, ◌∙◌, append-nil, arith}
use Rattle.std.specs.Prelude.{◌==◌, ◌+◌}
use Rattle.std.proofs.lemmas.List.{length-append}
use Rattle.cds_stamps.specs.declared.members.Member.{Member}
use Rattle.cds_stamps.specs.declared.numbers.HouseNo.{HouseNo}
use Rattle.cds_stamps.specs.Members.{members_of, members_fault, most_members, others_of}
use Rattle.house_directory.specs.declared.outgoing.Outgoing.{Outgoing}
use Rattle.house_directory.specs.HouseMessages.{numbers_of, receiver_of, receivers_of}
use Rattle.house_directory.proofs.Phases.{counted}

-- ---- the members but a house

-- the houses so far and those of the rest are all, and they are few
pub record OthersRest (me : ℕ) (all rest : List Member) (houses : List HouseNo) : Type 0 where
  pub is : numbers_of houses ++ others_of me (members_of rest) ≡ others_of me (members_of all)
  pub few : length houses + length rest ≤ most_members

pub others_begin : (me : ℕ) (all : List Member) (houses : List HouseNo) → houses ≡ [] → members_fault (members_of all) ≡ None → OthersRest me all all houses
others_begin me all houses none lawful = record {
  is = ap (λ hs. numbers_of hs ++ others_of me (members_of all)) none;
  few =
      let few = (counted all lawful).1 in
      let empty : length houses ≡ 0 = ap length none in
      omega arith;
}

pub others_pass : (me : ℕ) (all rest : List Member) (y : Member) (houses : List HouseNo) → (y.house.0 == me) ≡ true
    → OthersRest me all (y ∷ rest) houses → OthersRest me all rest houses
others_pass me all rest y houses same h = record {
  is = ap (λ b. numbers_of houses ++ cond b (others_of me (members_of rest)) (y.house.0 ∷ others_of me (members_of rest))) (sym same) ∙ h.is;
  few = let few = h.few in omega arith;
}

numbers_behind : (hs : List HouseNo) (y : HouseNo) (rest : List ℕ) → numbers_of (hs ++ y ∷ []) ++ rest ≡ numbers_of hs ++ y.0 ∷ rest
numbers_behind [] y rest = refl
numbers_behind (h ∷ hs) y rest = ap (λ ns. h.0 ∷ ns) (numbers_behind hs y rest)

pub others_go_on : (me : ℕ) (all rest : List Member) (y : Member) (houses more : List HouseNo) → (y.house.0 == me) ≡ false
    → more ≡ houses ++ y.house ∷ [] → OthersRest me all (y ∷ rest) houses → OthersRest me all rest more
others_go_on me all rest y houses more other is h = record {
  is =
      ap (λ hs. numbers_of hs ++ others_of me (members_of rest)) is
      ∙ numbers_behind houses y.house (others_of me (members_of rest))
      ∙ ap (λ b. numbers_of houses ++ cond b (others_of me (members_of rest)) (y.house.0 ∷ others_of me (members_of rest))) (sym other)
      ∙ h.is;
  few =
      let few = h.few in
      let one = ap length is ∙ length-append houses (y.house ∷ []) in
      omega arith;
}

pub others_end : (me : ℕ) (all : List Member) (houses : List HouseNo) → OthersRest me all [] houses → numbers_of houses ≡ others_of me (members_of all)
others_end me all houses h = sym (append-nil (numbers_of houses)) ∙ h.is

-- ---- receivers

-- the one house that it goes to
pub one_receiver : (o : Outgoing) (to : HouseNo) (houses : List HouseNo) (others : List ℕ) → Some to.0 ≡ receiver_of o → houses ≡ to ∷ []
    → numbers_of houses ≡ receivers_of (receiver_of o) others
one_receiver o to houses others one is = ap numbers_of is ∙ ap (λ r. receivers_of r others) one

-- or each other member
pub each_receiver : (o : Outgoing) (houses : List HouseNo) (others : List ℕ) → None ≡ receiver_of o → numbers_of houses ≡ others
    → numbers_of houses ≡ receivers_of (receiver_of o) others
each_receiver o houses others none is = is ∙ ap (λ r. receivers_of r others) none

-- Rounds: what an answer leaves, and what each phase keeps.
use Rattle.std.proofs.Common.{◌≡◌, ℕ, zero, suc, ◌<◌, Bool, true, false, ◌&&◌, ◌||◌, ◌==◌, nat_eq, MatchBool, refl, sym, ap, subst, ◌∙◌, arith}
use Rattle.std.specs.Ordering.{is_eq}
use Rattle.std.specs.Cmp.{tied_itself}
use Rattle.std.proofs.lemmas.Bool.{and_parts, eqb-true}
use Rattle.cds_stamps.specs.declared.stamp.Stamp.{Stamp}
use Rattle.cds_stamps.specs.Stamps.{is_stamp, stamp_total}
use Rattle.cds_stamps.specs.declared.mask.MemberMask.{MemberMask}
use Rattle.skulk_core.specs.declared.skulk.Skulk.{Skulk}
use Rattle.skulk_core.specs.declared.skulk.Skulk.TheVariants.{Idle, Gathering, Spreading}
use Rattle.skulk_core.specs.declared.skulk.Next.TheVariants.{Nothing, SendSpread, Complete}
use Rattle.cds_stamps.specs.Places.{has_place, each_place}
use Rattle.skulk_core.specs.MasterRounds.{also, TakesGathered, TakesSpread, IsRound, IsPhaseOf}
use Rattle.cds_stamps.proofs.Masks.{same_place, other_place, each_place-same, each_place-false, each_place-from}

-- ---- cases

at_true : (b : Bool) (P Q : Type 0) → b ≡ true → P → MatchBool b P Q
at_true true P Q e p = p
at_true false P Q e p = absurd cc

at_false : (b : Bool) (P Q : Type 0) → b ≡ false → Q → MatchBool b P Q
at_false false P Q e q = q
at_false true P Q e q = absurd cc

-- stamps of one time and one node, as they are compared
same_stamps : (own t : Stamp) → true ≡ (nat_eq own.time t.time && nat_eq own.node t.node) → t ≡ own
same_stamps own t e =
    let parts : (nat_eq own.time t.time ≡ true) × (nat_eq own.node t.node ≡ true) = and_parts (nat_eq own.time t.time) (nat_eq own.node t.node) (sym e) in
    λ i. record { time = sym (eqb-true own.time t.time parts.0) i; node = sym (eqb-true own.node t.node parts.1) i }

is_own : (own t : Stamp) → t ≡ own → is_stamp t own ≡ true
is_own own t e = ap (λ s. is_stamp s own) e ∙ ap is_eq (tied_itself stamp_total own)

module _ (own t : Stamp) (answered now : MemberMask) (from members : ℕ) (old : Skulk) (same : true ≡
    (nat_eq own.time t.time && nat_eq own.node t.node)) (joined : (p : ℕ) → has_place now p ≡ (has_place answered p || p == from)) where
  -- what is counted is who has answered
  counted : (b : Bool) → each_place members (has_place now) ≡ b → each_place members (also answered from) ≡ b
  counted b e = sym (each_place-same members (has_place now) (also answered from) joined) ∙ e

  -- the last answer of the first round
  pub last_gathered : (me : ℕ) (alone : MemberMask) → old ≡ Gathering own answered → each_place members (has_place now) ≡ true
      → ((p : ℕ) → has_place alone p ≡ (p == me)) → TakesGathered t from members me old (Spreading t alone) SendSpread
  last_gathered me alone was full mine =
      subst (λ o. TakesGathered t from members me o (Spreading t alone) SendSpread) (sym was)
      (at_true (is_stamp t own) _ _ (is_own own t (same_stamps own t same))
      (at_true (each_place members (also answered from)) _ _ (counted true full) (
        record {
          mask = alone;
          round = ap
              (λ s. Spreading s alone) (same_stamps own t same);
          places = mine;
        },
        refl,
      )))

  -- an answer of the first round after which a member is missing
  pub one_gathered : (me : ℕ) → old ≡ Gathering own answered → each_place members (has_place now) ≡ false
      → TakesGathered t from members me old (Gathering t now) Nothing
  one_gathered me was missing =
      subst (λ o. TakesGathered t from members me o (Gathering t now) Nothing) (sym was)
      (at_true (is_stamp t own) _ _ (is_own own t (same_stamps own t same))
      (at_false (each_place members (also answered from)) _ _ (counted false missing) (
        record {
          mask = now;
          round = ap
              (λ s. Gathering s now) (same_stamps own t same);
          places = joined;
        },
        refl,
      )))

  -- the last answer of the second round
  pub last_spread : old ≡ Spreading own answered → each_place members (has_place now) ≡ true → TakesSpread t from members old Idle (Complete t)
  last_spread was full =
      subst (λ o. TakesSpread t from members o Idle (Complete t)) (sym was)
      (at_true (is_stamp t own) _ _ (is_own own t (same_stamps own t same))
      (at_true (each_place members (also answered from)) _ _ (counted true full) (refl, ap Complete (same_stamps own t same))))

  -- an answer of the second round after which a member is missing
  pub one_spread : old ≡ Spreading own answered → each_place members (has_place now) ≡ false → TakesSpread t from members old (Spreading t now) Nothing
  one_spread was missing =
      subst (λ o. TakesSpread t from members o (Spreading t now) Nothing) (sym was)
      (at_true (is_stamp t own) _ _ (is_own own t (same_stamps own t same))
      (at_false (each_place members (also answered from)) _ _ (counted false missing) (
        record {
          mask = now;
          round = ap
              (λ s. Spreading s now) (same_stamps own t same);
          places = joined;
        },
        refl,
      )))

-- ---- what each phase keeps

-- the master alone has answered, and is not the only member
another : (members me : ℕ) (alone : MemberMask) → me < members → (members == 1) ≡ false → ((p : ℕ) → has_place alone p ≡ (p == me))
    → each_place members (has_place alone) ≡ false
another members zero alone below many mine =
    each_place-false members (has_place alone) 1 (grind arith) (mine 1)
another members (suc me) alone below many mine =
    each_place-false members (has_place alone) 0 (omega arith) (mine 0 ∙ other_place 0 (suc me) (λ e. absurd cc))

-- a round that begins: the master alone has answered, and is not the only member
pub first_round : (members me : ℕ) (alone : MemberMask) → me < members → (members == 1) ≡ false → ((p : ℕ) → has_place alone p ≡ (p == me))
    → IsRound members me alone
first_round members me alone below many mine = record {
  no_others = λ p above. mine p ∙ other_place p me (λ e. absurd (omega arith));
  master = mine me ∙ same_place me me refl;
  missing = another members me alone below many mine;
}

-- a round in which a member is missing is not that of a master alone
not_alone : (members me : ℕ) (answered : MemberMask) → me < members → IsRound members me answered → (b : Bool) → (members == 1) ≡ b → b ≡ false
not_alone members me answered below round true e = absurd (two round.missing)
  where
    only_place : (p : ℕ) → p < members → has_place answered p ≡ true
    only_place p low = let one : members ≡ 1 = eqb-true members 1 e in ap (has_place answered) (let same : p ≡ me = omega arith in same) ∙ round.master

    two : each_place members (has_place answered) ≡ false → ⊥
    two x = let all : each_place members (has_place answered) ≡ true = each_place-from members (has_place answered) only_place in absurd cc
not_alone members me answered below round false e = refl

-- the second round begins like the first
pub next_round : (own : Stamp) (answered alone : MemberMask) (members me : ℕ) (old : Skulk) → old ≡ Gathering own answered → me < members
    → ((p : ℕ) → has_place alone p ≡ (p == me)) → IsPhaseOf members me old → IsRound members me alone
next_round own answered alone members me old was below mine phase =
    first_round members me alone below (not_alone members me answered below (subst (IsPhaseOf members me) was phase) (members == 1) refl) mine

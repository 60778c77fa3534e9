-- What a house posts: the loop over its members, and the messages of the model for which posted
-- ones stand.
use Rattle.std.proofs.Common.{◌≡◌, ℕ, true, false, cond, List, [], ◌∷◌, ◌++◌, Option, Some, None, refl, sym, ap, subst, ◌∙◌, append_assoc}
use Rattle.std.proofs.Common.{append-nil}
use Rattle.std.specs.Prelude.{◌==◌}
use Rattle.cds_stamps.specs.declared.members.Member.{Member}
use Rattle.cds_stamps.specs.declared.numbers.EpochNo.{EpochNo}
use Rattle.cds_stamps.specs.declared.numbers.HouseNo.{HouseNo}
use Rattle.cds_stamps.specs.Members.{members_of, others_of}
use Rattle.cds_messages.specs.declared.message.Message.{Message}
use Rattle.cell_model.specs.Cells as model
use Rattle.cell_model.specs.Turns.{to_each}
use Rattle.house_directory.specs.declared.outgoing.Outgoing.{Outgoing}
use Rattle.house_directory.specs.declared.outgoing.Sender.{Sender}
use Rattle.house_directory.specs.declared.posted.Posted.{Posted}
use Rattle.house_directory.specs.declared.states.DirState.{DirState}
use Rattle.house_directory.specs.declared.states.DirState.TheVariants as state
use Rattle.house_directory.specs.declared.states.Held.{Held}
use Rattle.house_directory.specs.HouseMessages.{posts_to, posts_of, posts_if, body_of, message_of, leave_of, receivers_of, receiver_of}
use Rattle.house_directory.specs.HouseMessages.{numbers_of, StandsBody, StandEach}

-- what is posted to the members so far and to the rest is all
pub record PostsRest (m : Message) (all rest : List Member) (posted : List Posted) : Type 0 where
  -- the message that is posted
  pub is : posted ++ posts_to (others_of m.from.0 (members_of rest)) m ≡ posts_to (others_of m.from.0 (members_of all)) m

pub posts_begin : (m : Message) (all : List Member) (posted : List Posted) → posted ≡ [] → PostsRest m all all posted
posts_begin m all posted none = record { is = ap (λ ps. ps ++ posts_to (others_of m.from.0 (members_of all)) m) none }

pub posts_pass : (m : Message) (all rest : List Member) (y : Member) (posted : List Posted) → (y.house.0 == m.from.0) ≡ true
    → PostsRest m all (y ∷ rest) posted → PostsRest m all rest posted
posts_pass m all rest y posted same h = record {
  is = ap (λ b. posted ++ posts_to (cond b (others_of m.from.0 (members_of rest)) (y.house.0 ∷ others_of m.from.0 (members_of rest))) m) (sym same) ∙ h.is;
}

pub posts_go_on : (m : Message) (all rest : List Member) (y : Member) (posted more : List Posted) → (y.house.0 == m.from.0) ≡ false
    → more ≡ posted ++ record { to = y.house; message = m } ∷ [] → PostsRest m all (y ∷ rest) posted → PostsRest m all rest more
posts_go_on m all rest y posted more other is h = record {
  is =
      ap (λ ps. ps ++ posts_to (others_of m.from.0 (members_of rest)) m) is
      ∙ append_assoc posted (record { to = y.house; message = m } ∷ []) (posts_to (others_of m.from.0 (members_of rest)) m)
      ∙ ap (λ b. posted ++ posts_to (cond b (others_of m.from.0 (members_of rest)) (y.house.0 ∷ others_of m.from.0 (members_of rest))) m) (sym other)
      ∙ h.is;
}

pub posts_end : (m : Message) (all : List Member) (posted : List Posted) → PostsRest m all [] posted → posted ≡ posts_to (others_of m.from.0 (members_of all)) m
posts_end m all posted h = sym (append-nil posted) ∙ h.is

-- ---- what they stand for

-- messages of the same head, to the same houses, stand for those of the model where their bodies do
pub each_stands : (m : Message) (b : model.Body) (d s e f : ℕ) → d ≡ m.dir.0 → s ≡ m.from.0 → e ≡ m.epoch.0 → f ≡ m.floor → StandsBody m.body b
    → (houses : List ℕ) → StandEach (posts_to houses m) (to_each houses d s e f b)
each_stands m b d s e f dir sender epoch floor h [] = tt
each_stands m b d s e f dir sender epoch floor h (x ∷ xs) = (
  record { head = record { receiver = refl; dir = dir; sender = sender; epoch = epoch; floor = floor }; body = h },
  each_stands m b d s e f dir sender epoch floor h xs,
)

-- what a house says stands for what the house of the model posts
pub posts_stand : (s : Sender) (h : Held) (o : Outgoing) (b : model.Body) (houses : List ℕ) (d x e f : ℕ)
    → houses ≡ receivers_of (receiver_of o) (others_of s.house.0 (members_of h.members)) → d ≡ s.dir.0 → x ≡ s.house.0 → e ≡ h.epoch.0 → f ≡ s.floor
    → StandsBody (body_of h o) b → StandEach (posts_of s h o) (to_each houses d x e f b)
posts_stand s h o b houses d x e f to dir sender epoch floor stands =
    subst (λ hs. StandEach (posts_of s h o) (to_each hs d x e f b)) (sym to)
    (each_stands (message_of s h o) b d x e f dir sender epoch floor stands (receivers_of (receiver_of o) (others_of s.house.0 (members_of h.members))))

-- nothing is posted where there is nothing to say
pub posts_none : (s : Sender) (d : Option DirState) → posts_if s d None ≡ []
posts_none s None = refl
posts_none s (Some (state.Gone e)) = refl
posts_none s (Some (state.Held h)) = refl

-- two lists stand for two, one after the other
pub each_append : (ps qs : List Posted) (ms ns : List model.Message) → StandEach ps ms → StandEach qs ns → StandEach (ps ++ qs) (ms ++ ns)
each_append [] qs [] ns a b = b
each_append (p ∷ ps) qs (m ∷ ms) ns a b = (a.0, each_append ps qs ms ns a.1 b)
each_append [] qs (m ∷ ms) ns a b = elim a [ ]
each_append (p ∷ ps) qs [] ns a b = elim a [ ]

-- Leaves, so far and to the rest
pub record LeavesRest (before : List Posted) (s : Sender) (k : EpochNo) (all rest : List HouseNo) (posted : List Posted) : Type 0 where
  pub is : posted ++ posts_to (numbers_of rest) (leave_of s k) ≡ before ++ posts_to (numbers_of all) (leave_of s k)

pub leaves_go_on : (before : List Posted) (s : Sender) (k : EpochNo) (all rest : List HouseNo) (y : HouseNo) (posted more : List Posted)
    → more ≡ posted ++ record { to = y; message = leave_of s k } ∷ [] → LeavesRest before s k all (y ∷ rest) posted → LeavesRest before s k all rest more
leaves_go_on before s k all rest y posted more is h = record {
  is =
      ap (λ ps. ps ++ posts_to (numbers_of rest) (leave_of s k)) is
      ∙ append_assoc posted (record { to = y; message = leave_of s k } ∷ []) (posts_to (numbers_of rest) (leave_of s k)) ∙ h.is;
}

pub leaves_end : (before : List Posted) (s : Sender) (k : EpochNo) (all : List HouseNo) (posted : List Posted) → LeavesRest before s k all [] posted
    → posted ≡ before ++ posts_to (numbers_of all) (leave_of s k)
leaves_end before s k all posted h = sym (append-nil posted) ∙ h.is

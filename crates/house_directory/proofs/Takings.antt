-- Parts of what a house does with a message.
use Rattle.std.proofs.Common.{◌≡◌, ℕ, Bool, List, Option, Some, None, refl, sym, ap, ◌∙◌}
use Rattle.std.specs.Prelude.{if◌then◌else◌, ◌||◌, not, is_some}
use Rattle.cds_stamps.specs.declared.numbers.EpochNo.{EpochNo}
use Rattle.cds_stamps.specs.declared.stamp.Stamp.{Stamp}
use Rattle.cds_stamps.specs.Members.{Member, place_of, is_listed}
use Rattle.purge_rule.specs.declared.delta.Delta.{Delta}
use Rattle.skulk_core.specs.declared.skulk.Skulk.{Skulk}
use Rattle.skulk_core.specs.declared.skulk.Next.{Next}
use Rattle.skulk_core.specs.declared.skulk.Next.TheVariants as next
use Rattle.cds_messages.specs.declared.message.Message.{Message}
use Rattle.house_directory.specs.declared.states.Held.{Held}
use Rattle.house_directory.specs.declared.outgoing.Outgoing.{Outgoing}
use Rattle.house_directory.specs.declared.taking.Taken.{Taken}
use Rattle.house_directory.specs.declared.taking.Taken.TheVariants as answers
use Rattle.house_directory.specs.DirectoryTakes.{AfterGathered, AfterSpread, JoinsAnswer, join_foreign}
use Rattle.house_directory.proofs.Phases.{placed, unlisted}

-- a house of which a place is found is listed, and any other is not
pub listed_is : (x : ℕ) (ms : List Member) (o : Option ℕ) → o ≡ place_of x ms → is_listed x ms ≡ is_some o
listed_is x ms None is = unlisted x ms (sym is)
listed_is x ms (Some k) is = placed x k ms (sym is)

-- what bars a Join that is not late, by whether its receiver and its sender are found
pub bar_is : (me : ℕ) (m : Message) (ms : List Member) (p : Option EpochNo) (a b : Bool) → p ≡ None → is_listed me ms ≡ a → is_listed m.from.0 ms ≡ b
    → join_foreign me m ms p ≡ (if not a || not b then Some answers.Foreign else None)
bar_is me m ms p a b none x y =
    ap (join_foreign me m ms) none
    ∙ ap (λ c. if not c || not (is_listed m.from.0 ms) then Some answers.Foreign else None) x
    ∙ ap (λ c. if not a || not c then Some answers.Foreign else None) y

-- an answer of the first round that is not stale
pub joins_answer : (t : Stamp) (r : Delta) (phase : Skulk) (n : Next) (old new : Held) (a : Taken) (o : Option Outgoing)
    → ((s : Option Stamp) → n ≡ next.Stale s → ⊥) → JoinsAnswer t r phase n old new a o → AfterGathered t r phase n old new a o
joins_answer t r phase next.Nothing old new a o fresh j = j
joins_answer t r phase next.SendSpread old new a o fresh j = j
joins_answer t r phase (next.Complete u) old new a o fresh j = j
joins_answer t r phase (next.Stale s) old new a o fresh j = absurd (fresh s refl)

-- an answer of the second round after which the house waits on
pub waits_answer : (t : Stamp) (n : Next) (old new : Held) (a : Taken) (o : Option Outgoing) → ((s : Option Stamp) → n ≡ next.Stale s → ⊥)
    → ((u : Stamp) → n ≡ next.Complete u → ⊥) → new ≡ record old { skulk = new.skulk } → a ≡ answers.Taken → o ≡ None → AfterSpread t n old new a o
waits_answer t next.Nothing old new a o fresh more rest is none = (rest, is, none)
waits_answer t next.SendSpread old new a o fresh more rest is none = (rest, is, none)
waits_answer t (next.Stale s) old new a o fresh more rest is none = absurd (fresh s refl)
waits_answer t (next.Complete u) old new a o fresh more rest is none = absurd (more u refl)

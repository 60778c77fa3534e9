-- Parts of what a house does with a message.
use Rattle.std.proofs.Common.{◌≡◌, Bool, true, false, List, Option, Some, None, Result, Ok, Err, refl, sym, ap, subst, ◌∙◌}
use Rattle.std.specs.Prelude.{MatchBool, MatchOption, OnOk, OnErr, nat_le}
use Rattle.std.specs.FinMap.{get, insert}
use Rattle.cds_stamps.specs.declared.members.Member as declared
use Rattle.cds_stamps.specs.Members.{members_of, since_in}
use Rattle.purge_rule.specs.declared.replica.Replica.{Replica}
use Rattle.cds_messages.specs.declared.message.Message.{Message}
use Rattle.clearinghouse.specs.declared.house.Clearinghouse.{Clearinghouse}
use Rattle.house_directory.specs.declared.states.DirState.TheVariants as state
use Rattle.house_directory.specs.declared.states.Held.{Held}
use Rattle.house_directory.specs.DirectoryTakes.{copy_of, held_in}
use Rattle.clearinghouse.specs.HouseTakes.{Copies, HasCopy, Merges}

-- what holds anyway holds after an error
pub on_err_of : {T E : Type 0} (r : Result T E) (P : Type 0) → P → OnErr r P
on_err_of (Ok x) P h = tt
on_err_of (Err e) P h = h

-- a house that has a copy has the floor that it had
pub copy_floor : (m : Message) (ms : List declared.Member) (r : Replica) (old new : Clearinghouse) → HasCopy m ms r old new → new.floor ≡ old.floor
copy_floor m ms r old new has = by_held (held_in (get old.dirs m.dir)) has
  where
    by_term : (h : Held) (b : Bool) → MatchBool b (Merges m ms r old new h) (Copies m ms r old new) → new.floor ≡ old.floor
    by_term h true z = ap (λ (c : Clearinghouse). c.floor) z.after
    by_term h false z = ap (λ (c : Clearinghouse). c.floor) z

    by_held : (o : Option Held)
        → MatchOption o (Copies m ms r old new)
        (λ h. MatchBool (nat_le (since_in (members_of ms) old.house.0 0) h.epoch.0) (Merges m ms r old new h) (Copies m ms r old new))
        → new.floor ≡ old.floor
    by_held None z = ap (λ (c : Clearinghouse). c.floor) z
    by_held (Some h) z = by_term h (nat_le (since_in (members_of ms) old.house.0 0) h.epoch.0) z

-- what follows from what holds where a call returns
pub on_ok_map : {T E : Type 0} {P Q : Type 0} (r : Result T E) → (P → Q) → OnOk r P → OnOk r Q
on_ok_map (Ok x) f h = f h
on_ok_map (Err e) f h = tt

-- a copy that is had in the place of what there was
pub copied_over : (m : Message) (ms : List declared.Member) (r : Replica) (old mid new : Clearinghouse) → mid ≡ old
    → ((h : Held) → held_in (get old.dirs m.dir) ≡ Some h → nat_le (since_in (members_of ms) old.house.0 0) h.epoch.0 ≡ false)
    → Copies m ms r mid new → HasCopy m ms r old new
copied_over m ms r old mid new same late copies =
    at (held_in (get old.dirs m.dir)) late
    (copies ∙ ap (λ (c : Clearinghouse). record c { dirs = insert c.dirs m.dir (state.Held (copy_of m.epoch ms r)) }) same)
  where
    at : (o : Option Held) → ((h : Held) → o ≡ Some h → nat_le (since_in (members_of ms) old.house.0 0) h.epoch.0 ≡ false) → Copies m ms r old new
        → MatchOption o (Copies m ms r old new)
        (λ h. MatchBool (nat_le (since_in (members_of ms) old.house.0 0) h.epoch.0) (Merges m ms r old new h) (Copies m ms r old new))
    at None late z = z
    at (Some h) late z = subst (λ b. MatchBool b (Merges m ms r old new h) (Copies m ms r old new)) (sym (late h refl)) z

-- where one replica is held, what is told of it holds of what is held
pub of_held : (P : Held → Type 0) (x : Held) (o : Option Held) → Some x ≡ o → P x → (h : Held) → o ≡ Some h → P h
of_held P x o here p h is = let e : Some x ≡ Some h = here ∙ is in let same : x ≡ h = cc in subst P same p

-- and where none is held
pub of_none : (P : Held → Type 0) (o : Option Held) → None ≡ o → (h : Held) → o ≡ Some h → P h
of_none P o here h is = absurd (let e : None ≡ Some h = here ∙ is in cc)

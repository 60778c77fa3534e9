-- The machine value of a handle, and what it owns.
use Rattle.std.proofs.Common.{◌≡◌, ℕ, List, [], ◌∷◌, refl, subst, lit<}
use base.Fml.{Fml}
use base.Fraction.{full_share}
use base.Logic.{ent, guard, guard_i, id⊢, snd∗, via}
use contract.Monad.{fact_use}
use denote.Memory.{lone}
use mir.Raw.{raw as bare}
use Rattle.std.specs.declared.alloc.Global.{Global}
use Rattle.std.specs.contracts.impls.GlobalAllocator.TheImpl.{ghosts}
use Rattle.std.specs.Box.Ownership.{box_owns}
use Rattle.std.proofs.GlobalToken.{dealloc_token-Testable}
use Rattle.loose_boxes.specs.Boxed.{boxed_at}
use Rattle.house_sessions.specs.contracts.session.Session as session
use Rattle.std.specs.Prelude.{None, Option, Some}
use lib.Dec.{T}
use mir.Val.{Val, has_ty, WT}
use seplogic.Ra.Ura.{Ura}
use types.Logic.{Logic, sem}
use types.Kit.{Item, Goal, Seq, Step, step, ‵, given, ◌$◌, ◌∵◌, !, drop, move, fjoin, fsplit, fpack, fpick, feq_i, learn, rewrite, use1}
use denote.RattleType.{RattleType, Valss}
use denote.Builtin.{RawPtr}
use denote.Param.{layout}
use denote.RawPtr.{Ptr, Testable, block_ptr, in_a_block, lies_at, null_ptr, ptr_val}
use denote.Steps.{nothing}
use denote.Struct.Struct.{within}
use denote.Struct.Owning.{shape}
use Rattle.loose_boxes.proofs.Values.{one}
use Rattle.house_sessions.specs.declared.session.Session.{Session}
use Rattle.house_handles.specs.Held.{held_at}
use Rattle.house_handles.specs.contracts.handle.HouseHandle as handle

pub one_fits : (p : Ptr) → T (has_ty (layout handle.the_row) (one p)) × WT (one p)
one_fits null_ptr = (tt, (record { fits = lit< tt }, tt))
one_fits (block_ptr b o) = (tt, (tt, tt))

-- a box at a pointer
abbrev box_at : Global → Ptr → Session → Fml
box_at alloc p s = box_owns (ghosts.dealloc_token alloc) session.the_row p s

-- the pointer of a block that can be freed can be compared with null
module _ {M : Type 1} {𝓤 : Ura M} (𝓛 : Logic 𝓤) (alloc : Global) (p : Ptr) (s : Session) where
  tested : ent 𝓤 (sem 𝓛 (box_at alloc p s)) (guard 𝓤 (Testable p) (sem 𝓛 (box_at alloc p s)))
  tested =
      fact_use 𝓤 (Testable p)
      (via 𝓤 _ (snd∗ 𝓤 (sem 𝓛 (lies_at session.the_row full_share p s)) (sem 𝓛 (ghosts.dealloc_token alloc (bare (lone session.the_row.mir)) p)))
      (dealloc_token-Testable 𝓛 alloc (bare (lone session.the_row.mir)) p))
      (guard_i 𝓤 (Testable p) (sem 𝓛 (box_at alloc p s)))

module _ {M : Type 1} {𝓤 : Ura M} {𝓛 : Logic 𝓤} {K : Type 0} {Γ : List (Item 𝓤)} {G : Goal 𝓤 𝓛.H} where
  -- it is made of what it owns
  pub made : K → (p : Ptr) (held : Option Session)
      → Step K 𝓛 (‵ (handle.the_row.own_val (record { at = p; held = held }) (one p ∷ [])) ∷ Γ) G (‵ (held_at p held) ∷ Γ) G
  made t p held = step (λ s.
      nothing t $ feq_i t (List Val) (ptr_val p ∷ []) (ptr_val p ∷ []) refl $ fjoin t $ feq_i t (List Val) (one p ∷ []) (one p ∷ []) refl $ fjoin t $
      fpack t (Valss (RawPtr ∷ [])) (within (shape handle.the_type) (p, tt) (one p ∷ [])) (ptr_val p ∷ [], tt) $ fjoin t $ s)

  -- its pointer is null; or a box is there, and the pointer can be compared with null
  pub either : K → (p : Ptr) (held : Option Session) → (p ≡ null_ptr → held ≡ None → Seq K 𝓛 Γ G)
      → ((b o : ℕ) (s : Session) → p ≡ block_ptr b o → held ≡ Some s → Testable (block_ptr b o) → Seq K 𝓛 (‵ (boxed_at session.the_row (block_ptr b o) s) ∷ Γ) G)
      → Seq K 𝓛 (‵ (held_at p held) ∷ Γ) G
  either t p None none one = fpick t (λ is. drop t $ none is refl)
  either t p (Some s) none one = fpick t (λ alloc.
      use1 𝓛 (given (Testable p) (‵ (box_at alloc p s))) (tested 𝓛 alloc p s) $ learn t (λ test. fsplit t $
      in_a_block t p (λ (r : Ptr). lies_at session.the_row full_share r s) (id⊢ 𝓤 _) (λ b o is.
      move t (1 ∷ []) $ rewrite t 0 (λ (r : Ptr). ‵ (ghosts.dealloc_token alloc (bare (lone session.the_row.mir)) r)) is refl $ move t (1 ∷ []) $ fjoin t $
      fpack t Global (λ (a : Global). box_at a (block_ptr b o) s) alloc $ one b o s is refl (subst Testable is test))))

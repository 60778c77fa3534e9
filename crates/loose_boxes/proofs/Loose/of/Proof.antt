-- `of` calls `into_raw`, and keeps what that gives.
use Rattle.std.proofs.Common.{◌≡◌, List, [], ◌∷◌, ◌++◌, refl, sym, ap, subst}
use base.Fml.{ftrue, flft}
use base.Share
use base.Logic.{SProp, ent, emp, id⊢}
use contract.BorrowLft.{◌⊑◌, ⊑_static}
use contract.Monad.{fact, fact_i}
use contract.Running.{tables}
use mir.MapTy.{inst_fn}
use mir.Syntax.{a_type, impl, dcons, dnil, tcons, tnil}
use mir.Val.{Val}
use prog.Wp.{WpFn}
use types.Kit.{‵, raw, ◌⊛◌, some, later, ◌$◌, ◌∵◌, !, qed, done, drop, move, keep, join, split, suffices, fpack, pick, await, feq_l, rewrite, use0, use1, use2, group}
use types.Run.{enter, of_opd, no_more, and_then, returns}
use types.ByLocal.{alloc_all, pass_all, free_all, look_at, get, sets, lands_as}
use types.Part.{agg}
use denote.Builtin.{RawPtr}
use denote.Param.{bounded, layout, param}
use denote.Param.Laws.{param_laws}
use denote.Param.NoDrop.{glues}
use denote.RawPtr.{Ptr}
use denote.Signature.{plain}
use denote.Steps.{nothing, heard, only}
use denote.Triple.Call.{calls_at}
use denote.Triple.Clauses.{Lasts, lasts}
use denote.Triple.Spec.{triple_of}
use denote.Triple.Table.{framed}
use denote.Triple.Walked.{Stays, walk_of, says, ends_at, stay_dropped}
use Rattle.core.proofs.alloc.Calls.{Goes-blank}
use Rattle.std.proofs.raw_atomic.Walks.{proved_at}
use Rattle.std.specs.declared.alloc.Global.{Global}
use Rattle.std.specs.contracts.alloc.Global as heap
use Rattle.std.specs.contracts.impls.GlobalAllocator.TheImpl.{ghosts, dict}
use Rattle.std.proofs.impls.GlobalAllocator.TheImpl.Met.{passed}
use Rattle.std.proofs.alloc.Global.TheLaws as heap_laws
use Rattle.std.specs.Box.{box_allocator}
use Rattle.std.specs.Box.Ownership.{box_owns}
use Rattle.std_alloc.specs.contracts.boxed.Box as box
use Rattle.std_alloc.proofs.boxed.Box.TheLaws as box_laws
use Rattle.std_alloc.specs.contracts.boxed.Box.into_raw as g
use Rattle.std_alloc.proofs.boxed.Box.into_raw.Met.{met}
use Rattle.loose_boxes.proofs.Values.{Z, Z_laws, alone, made, one, one_fits, pointer_fits}
use Rattle.loose_boxes.specs.contracts.Loose.of as f
use Rattle.loose_boxes.proofs.Loose.of.Statement.{statement}
use Rattle.loose_boxes.proofs.Loose.of.Code as code

pub of_spec : {M : Type 1} → statement M
unfolding Rattle.loose_boxes.proofs.Destruct++none.drop.Code.code
of_spec {M} 𝓤 𝓛 𝓜 𝓡 wired T laws d drops =
    let En = f.ended T d in let c = f.clauses T d 𝓛 𝓜.mem 𝓡.returns in let hs : Stays En.signature.params En.kept = (stay_dropped _ En.kept.0, tt) in
    let W = walk_of 𝓛 En hs c in let 𝓣 = tables 𝓤 𝓛.H 𝓜 𝓡 𝓡.env in let ts = bounded (a_type ∷ []) (T, tt) (dcons d dnil) in let fn = inst_fn ts code.function in
    let B = box.the_row (param 0 T) heap.the_row ghosts in let B_laws = box_laws.the_row_laws (param 0 T) heap.the_row ghosts (param_laws 0 T laws) heap_laws.the_row_laws in
    proved_at 𝓛 En hs c 𝓜 𝓡 (Goes-blank 𝓛 1 (plain (λ _. B)) En.kept.0 (λ κs x f. tt), tt) (f.Key.name ts) fn (code.unfolded 𝓤 𝓛.H 𝓜 𝓡 wired (T, tt) d) (λ y are.
    let κ = y.0.0.0 in let q = y.0.1.0 in let b = y.0.3.0 in let vs = y.0.4.0 in
    let it = alone (layout B) vs ((B_laws.lawful 𝓛).typed b vs are.0) in let v = it.0 in
    let Run : List Val → SProp 𝓤 = λ (us : List Val). WpFn 𝓤 𝓛.H 𝓣.C 𝓣.Λ fn us (W.post y) in
    qed 𝓛 (((‵ (flft κ q) ⊛ ‵ ftrue) ⊛ ‵ (B.own_val b vs) ⊛ ‵ ftrue) ∷ raw (fact 𝓤 (κ ⊑ T.lives)) ∷ ‵ ftrue ∷ []) ∵
    split ! $ split ! $ move ! (2 ∷ []) $ split ! $ keep ! (4 ∷ 0 ∷ 2 ∷ []) $ heard ! _ (λ within.
    rewrite ! 0 (λ (us : List Val). ‵ (B.own_val b us)) it.1 refl $
    suffices ! (Run (v ∷ [])) (subst (λ (us : List Val). ent 𝓤 (Run (v ∷ [])) (Run us)) (sym (ap (λ (us : List Val). us ++ []) it.1)) (id⊢ 𝓤 (Run (v ∷ [])))) $
    enter ! 𝓣.C 𝓣.Λ fn (v ∷ []) (W.post y) $ alloc_all ! (λ l. pass_all ! refl (it.2, tt) $
    sets ! (of_opd ! (get ! refl)) refl it.2 $
    -- [the box; the token]
    let gd = impl ("loose_boxes::Destruct++none::drop" ∷ []) (tcons (layout Z) tnil) dnil in
    let G = triple_of 𝓛 (g.signature T Z ghosts dict gd d) (g.spec T Z ghosts dict gd d 𝓛 𝓜.mem 𝓡.returns) in
    let z : G.Ghost = (((κ, (κ, tt)), (Share.left q, (Share.right q, tt)), tt, (b, tt), (v ∷ [], tt)), tt) in
    move ! (1 ∷ []) $ use1 𝓛 (‵ (flft κ (Share.left q)) ⊛ ‵ (flft κ (Share.right q))) (𝓛.lfts.lft_split κ q) $ split ! $
    nothing ! $ move ! (2 ∷ 0 ∷ []) $ join ! $ move ! (1 ∷ []) $ join ! $ nothing ! $ move ! (2 ∷ 0 ∷ []) $ join ! $ move ! (1 ∷ []) $ join ! $
    nothing ! $ use0 𝓛 (raw (fact 𝓤 (κ ⊑ Z.lives))) (fact_i 𝓤 (κ ⊑ Z.lives) (emp 𝓤) (⊑_static κ)) $ use0 𝓛 (raw (fact 𝓤 (κ ⊑ T.lives))) (fact_i 𝓤 (κ ⊑ T.lives) (emp 𝓤) within) $
    move ! (3 ∷ []) $ group ! 4 $ use1 𝓛 (raw (G.pre z)) (id⊢ 𝓤 _) $
    calls_at ! (framed 𝓤 𝓛.H 𝓜 𝓣) G
    (met 𝓤 𝓛 𝓜 𝓡 (code.calls-std_alloc::boxed::Box::into_raw 𝓡.env wired) T Z laws Z_laws ghosts dict gd d
    (passed 𝓡.env (code.calls-std_heap::GlobalAllocator::allocate 𝓡.env wired) (code.calls-std_heap::GlobalAllocator::deallocate 𝓡.env wired)
    (code.calls-std_heap::GlobalAllocator::grow 𝓡.env wired) (code.calls-std_heap::GlobalAllocator::shrink 𝓡.env wired) M 𝓤 𝓛 𝓜 𝓡)
    (glues "loose_boxes::Destruct++none::drop" 𝓡.env (code.calls-loose_boxes::Destruct++none::drop 𝓡.env wired) Z Z_laws M 𝓤 𝓛 𝓜 𝓡) drops) z
    (and_then ! (get ! refl) (no_more !)) (λ r.
    use1 𝓛 (later (some (λ (p : Ptr). ((‵ (flft κ (Share.left q)) ⊛ ‵ (flft κ (Share.right q)) ⊛ ‵ ftrue) ⊛ ‵ (RawPtr.own_val p (r ∷ [])))
    ⊛ some (λ (ws : Lasts (g.ended T Z ghosts dict gd d) z.0.0 z.0.3). ‵ (lasts (g.ended T Z ghosts dict gd d) z.0.0 z.0.3 ws) ⊛ ‵ (box_owns (ghosts.dealloc_token (box_allocator b)) (param 0 T) p b.value))))) (id⊢ 𝓤 _) $
    await ! tt $ pick ! (λ p. split ! $ split ! $ split ! $ move ! (1 ∷ []) $ split ! $ move ! (2 ∷ 0 ∷ []) $ use2 𝓛 (‵ (flft κ q)) (𝓛.lfts.lft_join κ q) $
    move ! (2 ∷ []) $ feq_l ! (λ is. move ! (2 ∷ []) $ pick ! (λ ws. split ! $ drop ! $
    -- [the box's pointer; the token]
    lands_as ! (ap only is) refl (pointer_fits p) $ sets ! (agg ! (and_then ! (get ! refl) (no_more !))) refl (one_fits (param 0 T) p) $
    returns ! (look_at ! 0 refl) $ free_all ! refl $
    fpack ! Global (λ (alloc : Global). box_owns (ghosts.dealloc_token alloc) (param 0 T) p b.value) (box_allocator b) $ made (param 0 T) ! p b.value $
    suffices ! _ (ends_at 𝓛 En hs c y (one p) (record { at = p; value = b.value }) (tt, tt) (tt, tt)) $ says ! refl $
    move ! (1 ∷ 2 ∷ []) $ join ! $ nothing ! $ nothing ! $ join ! $ move ! (1 ∷ []) $ done !)))))))

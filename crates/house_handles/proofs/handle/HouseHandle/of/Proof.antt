-- `of` gives the pointer another type.
use Rattle.std.proofs.Common.{◌≡◌, List, [], ◌∷◌, ◌++◌, refl, sym, ap, subst}
use Rattle.std.specs.Prelude.{Some}
use base.Fml.{ftrue}
use base.Logic.{SProp, ent, id⊢}
use contract.Running.{tables}
use mir.Val.{Val}
use prog.Wp.{WpFn}
use types.Kit.{‵, ◌⊛◌, ◌$◌, ◌∵◌, !, qed, done, drop, keep, join, split, fsplit, suffices}
use types.Run.{enter, of_opd, stop, fld, no_more, and_then, returns}
use types.ByLocal.{alloc_all, pass_all, free_all, look_at, get, get_in, sets}
use types.Part.{agg, sub, whole}
use denote.Signature.{plain}
use denote.Steps.{nothing}
use denote.Triple.Walked.{Stays, walk_of, says, ends_at, stay_dropped}
use Rattle.core.proofs.alloc.Calls.{Goes-blank}
use Rattle.std.proofs.raw_atomic.Walks.{proved_at}
use Rattle.loose_boxes.specs.contracts.Loose as loose
use Rattle.loose_boxes.proofs.Loose.TheLaws.{lowers}
use Rattle.loose_boxes.proofs.Values as boxes
use Rattle.loose_boxes.proofs.Values.{one, pointer_fits}
use Rattle.house_sessions.specs.contracts.session.Session as session
use Rattle.house_sessions.proofs.session.Session.TheLaws as session_laws
use Rattle.house_handles.proofs.Values.{made, one_fits}
use Rattle.house_handles.specs.contracts.handle.HouseHandle.of as f
use Rattle.house_handles.proofs.handle.HouseHandle.of.Statement.{statement}
use Rattle.house_handles.proofs.handle.HouseHandle.of.Code as code

abbrev stayed : Stays f.ended.signature.params f.ended.kept
stayed = (stay_dropped _ f.ended.kept.0, tt)

pub of_spec : {M : Type 1} → statement M
of_spec 𝓤 𝓛 𝓜 𝓡 wired =
    let c = f.clauses 𝓛 𝓜.mem 𝓡.returns in let W = walk_of 𝓛 f.ended stayed c in let 𝓣 = tables 𝓤 𝓛.H 𝓜 𝓡 𝓡.env in
    let Lo = loose.the_row session.the_row in
    proved_at 𝓛 f.ended stayed c 𝓜 𝓡 (Goes-blank 𝓛 0 (plain (λ _. Lo)) f.ended.kept.0 (λ κs x f. tt), tt) f.Key.name code.function (code.unfolded 𝓤 𝓛.H 𝓜 𝓡 wired) (λ y are.
    let l = y.0.3.0 in let vs = y.0.4.0 in let w = one l.at in let it = (lowers session.the_row session_laws.the_row_laws).val_is l vs are.0 in
    let Run : List Val → SProp 𝓤 = λ (us : List Val). WpFn 𝓤 𝓛.H 𝓣.C 𝓣.Λ code.function us (W.post y) in
    qed 𝓛 ((‵ ftrue ⊛ ‵ (Lo.own_val l vs) ⊛ ‵ ftrue) ∷ ‵ ftrue ∷ []) ∵ split ! $ drop ! $ split ! $ keep ! (0 ∷ []) $ fsplit ! $ drop ! $
    suffices ! (Run (w ∷ [])) (subst (λ (us : List Val). ent 𝓤 (Run (w ∷ [])) (Run us)) (sym (ap (λ (us : List Val). us ++ []) it)) (id⊢ 𝓤 (Run (w ∷ [])))) $
    enter ! 𝓣.C 𝓣.Λ code.function (w ∷ []) (W.post y) $ alloc_all ! (λ at. pass_all ! refl (boxes.one_fits session.the_row l.at, tt) $
    -- [what is at the pointer]
    sets ! (of_opd ! (get_in ! (fld ! refl (stop !)) (sub ! 0 refl (whole !)))) refl (pointer_fits l.at) $ sets ! (of_opd ! (get ! refl)) refl (pointer_fits l.at) $
    sets ! (agg ! (and_then ! (get ! refl) (no_more !))) refl (one_fits l.at) $ made ! l.at (Some l.value) $
    returns ! (look_at ! 0 refl) $ free_all ! refl $
    suffices ! _ (ends_at 𝓛 f.ended stayed c y w (record { at = l.at; held = Some l.value }) (tt, tt) (tt, tt)) $ says ! refl $
    nothing ! $ nothing ! $ join ! $ nothing ! $ done !))

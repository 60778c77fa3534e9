-- What octets say of an RPC server: one thing only, and that as a relation and as a function.
use Rattle.std.proofs.Common.{◌≡◌, ℕ, zero, suc, ◌+◌, ◌<◌, ◌≤◌, lit<, ◌∷◌, true, eqb, List, [], ◌++◌, length, Option, Some, None, Result, Ok, Err}
use Rattle.std.proofs.Common.{refl, sym, ap, subst, ◌∙◌, arith}
use Rattle.std.specs.Prelude.{IsErrOf, MatchResult}
use Rattle.std.specs.List.{AllByRecursion}
use Rattle.std.specs.Result.{result_ok}
use Rattle.std.proofs.lemmas.Bool.{eqb-true, eq-eqb}
use Rattle.std.proofs.lemmas.List.{append-nil, take_all}
use Rattle.tower_codec.specs.declared.fault.TowerFault.{TowerFault}
use Rattle.tower_codec.specs.declared.rpc.RpcTower.{RpcTower}
use Rattle.tower_codec.specs.Tower.{Floor, IsTower, IsFault}
use Rattle.tower_codec.specs.Rpc.{IsRpcTower}
use Rattle.tower_codec.specs.TowerReading.{body_at, known_floors}
use Rattle.tower_codec.specs.RpcReading.{rpc_at}
use Rattle.tower_codec.proofs.Grammar.{IsBytes}
use Rattle.tower_codec.proofs.TowersRead.{body_read, body_again}
use Rattle.tower_codec.proofs.FaultsRead.{fault_again}
use Rattle.tower_codec.proofs.SpellingLaws.{towers_apart}
use Rattle.tower_codec.proofs.RpcLaws.{rpc_again, one_rpc_tower}
use Rattle.server_entries.specs.declared.tower.ServerFault.{ServerFault}
use Rattle.server_entries.specs.declared.tower.ServerFault.TheVariants.{BadTower, Trailing, NotRpcTower}
use Rattle.server_entries.specs.ServerTowers.{IsServerTower, whole_tower, rpc_tower_of}
use Rattle.server_entries.specs.TowerFaults.{IsServerFault}
use Rattle.server_entries.proofs.ReadBack.{guard_some, step_some, tower_bytes, rpc_read}

-- ---- one thing only

-- a tower in front of octets leaves no fault of them
no_fault : (floors : List Floor) (tower behind octets : List ℕ) (fault : TowerFault) → IsTower floors tower → octets ≡ tower ++ behind
    → IsFault octets fault → ⊥
no_fault floors tower behind octets fault is split other =
    let r = body_again floors tower behind is in
    let fails : body_at octets ≡ Err fault = fault_again octets fault other in
    let reads : body_at octets ≡ Ok (length floors, r.body) = ap body_at split ∙ r.read in
    cc (fails, reads)

whole_no_fault : (floors : List Floor) (octets : List ℕ) (fault : TowerFault) → IsTower floors octets → IsFault octets fault → ⊥
whole_no_fault floors octets fault is other = no_fault floors octets [] octets fault is (sym (append-nil octets)) other

-- octets after the tower make it no whole tower
no_rest : (floors others : List Floor) (octets tower behind : List ℕ) → IsTower floors octets → IsTower others tower → octets ≡ tower ++ behind
    → 0 < length behind → ⊥
no_rest floors others octets tower behind whole front split some =
    let none : [] ≡ behind = (towers_apart floors others octets tower [] behind whole front (append-nil octets ∙ split)).2 in
    omega (arith, ap length none)

one_floors : (floors others : List Floor) (octets : List ℕ) → IsTower floors octets → IsTower others octets → floors ≡ others
one_floors floors others octets a b = (towers_apart floors others octets octets [] [] a b refl).0

one_fault : (octets : List ℕ) (a b : TowerFault) → IsFault octets a → IsFault octets b → a ≡ b
one_fault octets a b first second =
    let x : body_at octets ≡ Err a = fault_again octets a first in
    let y : body_at octets ≡ Err b = fault_again octets b second in
    cc (x, y)

-- what a reading says of the octets
abbrev pub Says : List ℕ → Result RpcTower ServerFault → Type 0
Says octets r = MatchResult r (IsServerTower octets) (IsServerFault octets)

no_server : (floors others : List Floor) (octets : List ℕ) (tower : RpcTower) → IsTower floors octets → IsRpcTower floors tower → IsTower others octets
    → ((tower : RpcTower) → ¬ (IsRpcTower others tower)) → ⊥
no_server floors others octets tower a is b none = none tower (subst (λ fs. IsRpcTower fs tower) (one_floors floors others octets a b) is)

one_saying : (octets : List ℕ) (a b : Result RpcTower ServerFault) → Says octets a → Says octets b → a ≡ b
one_saying octets (Ok a) (Ok b) g h =
    let same : IsRpcTower g.0 b = subst (λ fs. IsRpcTower fs b) (one_floors h.0 g.0 octets h.1 g.1) h.2 in
    ap Ok (one_rpc_tower g.0 a b g.2 same)
one_saying octets (Ok a) (Err (BadTower b)) g h = absurd (whole_no_fault g.0 octets b g.1 h)
one_saying octets (Ok a) (Err (Trailing b)) g h = absurd (no_rest g.0 h.0 octets h.1 h.2 g.1 h.3 h.4 h.5)
one_saying octets (Ok a) (Err NotRpcTower) g h = absurd (no_server g.0 h.0 octets a g.1 g.2 h.1 h.2)
one_saying octets (Err (BadTower a)) (Ok b) g h = absurd (whole_no_fault h.0 octets a h.1 g)
one_saying octets (Err (BadTower a)) (Err (BadTower b)) g h = ap (λ f. Err (BadTower f)) (one_fault octets a b g h)
one_saying octets (Err (BadTower a)) (Err (Trailing b)) g h = absurd (no_fault h.0 h.1 h.2 octets a h.3 h.4 g)
one_saying octets (Err (BadTower a)) (Err NotRpcTower) g h = absurd (whole_no_fault h.0 octets a h.1 g)
one_saying octets (Err (Trailing a)) (Ok b) g h = absurd (no_rest h.0 g.0 octets g.1 g.2 h.1 g.3 g.4 g.5)
one_saying octets (Err (Trailing a)) (Err (BadTower b)) g h = absurd (no_fault g.0 g.1 g.2 octets b g.3 g.4 h)
one_saying octets (Err (Trailing a)) (Err (Trailing b)) g h =
    let front : g.1 ≡ h.1 = (towers_apart g.0 h.0 g.1 h.1 g.2 h.2 g.3 h.3 (sym g.4 ∙ h.4)).1 in
    ap (λ place. Err (Trailing place)) (g.6 ∙ ap (λ t. length t + 1) front ∙ sym h.6)
one_saying octets (Err (Trailing a)) (Err NotRpcTower) g h = absurd (no_rest h.0 g.0 octets g.1 g.2 h.1 g.3 g.4 g.5)
one_saying octets (Err NotRpcTower) (Ok b) g h = absurd (no_server h.0 g.0 octets b h.1 h.2 g.1 g.2)
one_saying octets (Err NotRpcTower) (Err (BadTower b)) g h = absurd (whole_no_fault g.0 octets b g.1 h)
one_saying octets (Err NotRpcTower) (Err (Trailing b)) g h = absurd (no_rest g.0 h.0 octets h.1 h.2 g.1 h.3 h.4 h.5)
one_saying octets (Err NotRpcTower) (Err NotRpcTower) g h = refl

-- octets that are the tower of a server are read as it
pub only_server : (octets : List ℕ) (r : Result RpcTower ServerFault) → Says octets r → (tower : RpcTower) → IsServerTower octets tower → r ≡ Ok tower
only_server octets r says tower is = one_saying octets r (Ok tower) says is

is_fault : (r : Result RpcTower ServerFault) (fault : ServerFault) → r ≡ Err fault → IsErrOf r fault
is_fault (Ok tower) fault e = cc
is_fault (Err f) fault e = cc

-- octets that have a fault have it told
pub each_fault : (octets : List ℕ) (r : Result RpcTower ServerFault) → Says octets r → (fault : ServerFault) → IsServerFault octets fault → IsErrOf r fault
each_fault octets r says fault is = is_fault r fault (one_saying octets r (Err fault) says is)

-- ---- the function

-- what is a server's tower is read as one
pub server_again : (octets : List ℕ) (tower : RpcTower) → IsServerTower octets tower → rpc_tower_of octets ≡ Some tower
unfolding rpc_tower_of
server_again octets tower h =
    let r = body_again h.0 octets [] h.1 in
    let read : body_at octets ≡ Ok (length h.0, r.body) = ap body_at (sym (append-nil octets)) ∙ r.read in
    let whole : eqb (length r.body + 2) (length octets) ≡ true = eq-eqb (length r.body + 2) (length octets) r.len in
    rw (read, whole, r.known) (rpc_again h.0 tower h.2)

-- the floors that were read whole
whole_read : (octets : List ℕ) (floors : List Floor) → IsBytes octets → whole_tower octets (body_at octets) ≡ Some floors → IsTower floors octets
whole_read octets floors bytes e = by_case (body_at octets) refl e
  where
    by_case : (r : Result (ℕ × List ℕ) TowerFault) → body_at octets ≡ r → whole_tower octets r ≡ Some floors → IsTower floors octets
    by_case (Ok body) is found =
        let b = body_read octets body.0 body.1 bytes is in
        let g = guard_some (eqb (length body.1 + 2) (length octets)) (Some (known_floors body.0 body.1)) floors found in
        let same : known_floors body.0 body.1 ≡ floors = let is = g.1 in cc in
        let long : length octets ≤ length body.1 + 2 = omega (arith, eqb-true (length body.1 + 2) (length octets) g.0) in
        subst (λ fs. IsTower fs octets) same (subst (IsTower (known_floors body.0 body.1)) (take_all (length body.1 + 2) octets long) b.tower)
    by_case (Err fault) is found = absurd cc

-- what is read of octets as a server is the one whose tower they are
pub server_read : (octets : List ℕ) (tower : RpcTower) → IsBytes octets → rpc_tower_of octets ≡ Some tower → IsServerTower octets tower
unfolding rpc_tower_of
server_read octets tower bytes e =
    let s = step_some (whole_tower octets (body_at octets)) rpc_at tower e in
    let is = whole_read octets s.0 bytes s.1 in
    (s.0, is, rpc_read s.0 tower (tower_bytes s.0 octets bytes is) s.2)

-- octets one by one below 256
pub bytes_from : (octets : List ℕ) → AllByRecursion (λ n. n < 256) octets → IsBytes octets
bytes_from [] all i = lit< tt
bytes_from (b ∷ octets) all zero = all.0
bytes_from (b ∷ octets) all (suc i) = bytes_from octets all.1 i

-- what was told of octets is what is read of them
pub read_as : (octets : List ℕ) (r : Result RpcTower ServerFault) → IsBytes octets → Says octets r → result_ok r ≡ rpc_tower_of octets
read_as octets (Ok tower) bytes says = sym (server_again octets tower says)
read_as octets (Err fault) bytes says = by_case (rpc_tower_of octets) refl
  where
    by_case : (o : Option RpcTower) → rpc_tower_of octets ≡ o → None ≡ o
    by_case None e = refl
    by_case (Some tower) e =
        let never : ◌≡◌ {A = Result RpcTower ServerFault} (Err fault) (Ok tower) =
        one_saying octets (Err fault) (Ok tower) says (server_read octets tower bytes e) in
        cc

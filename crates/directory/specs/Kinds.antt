-- The kinds of entries (own, after C705, object entries, soft links and child pointers).
use Rattle.std.specs.Prelude.{◌≡◌, ℕ, zero, suc, Bool, ◌==◌, List, codes, refl}
use Rattle.std.specs.Coded.{Coded, code_by, coded_ℕ}
use Rattle.std.specs.declared.cmp.Ordering.{Ordering}
use Rattle.std.specs.Ordering.{eq_by_cmp, nat_cmp, on}
use Rattle.directory.specs.declared.entry.Kind.{Kind}
use Rattle.directory.specs.declared.entry.Kind.TheVariants.{Object, Link, Child}

-- their order: object, link, child (own)
abbrev pub rank : Kind → ℕ
rank Object = 0
rank Link = 1
rank Child = 2

-- kinds in their order (own)
abbrev pub kind_cmp : Kind → Kind → Ordering
kind_cmp = on rank nat_cmp

-- whether two kinds are one
abbrev pub is_kind : Kind → Kind → Bool
is_kind = eq_by_cmp kind_cmp

-- the kind is that of a child (own)
abbrev pub is_child : Kind → Bool
is_child k = rank k == 2

-- the kind of a place in the order (own)
abbrev pub kind_of_rank : ℕ → Kind
kind_of_rank zero = Object
kind_of_rank (suc zero) = Link
kind_of_rank (suc (suc n)) = Child

-- each kind is that of its place
pub rank_back : (k : Kind) → kind_of_rank (rank k) ≡ k
rank_back Object = refl
rank_back Link = refl
rank_back Child = refl

-- kinds are told apart by their places (own)
abbrev pub kind_code : Coded Kind
kind_code = code_by ℕ coded_ℕ rank kind_of_rank rank_back

-- the attribute that makes an entry a link (C705, CDS_LinkTarget)
abbrev pub link_target : List ℕ
link_target = codes "CDS_LinkTarget"

-- the attribute with the pointer of a child (C705, CDS_Replicas)
abbrev pub replicas : List ℕ
replicas = codes "CDS_Replicas"

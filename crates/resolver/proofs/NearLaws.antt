-- What is found in a directory that was entered child by child is what the walk finds.
use Rattle.std.proofs.Common.{◌≡◌, ℕ, ◌+◌, ◌<◌, ◌≤◌, length, get_or, Bool, Bor, true, false, List, [], ◌∷◌}
use Rattle.std.proofs.Common.{◌++◌, drop, Option, Some, None, Ok, refl, sym, ap, subst, ◌∙◌, arith}
use Rattle.std.specs.Prelude.{Result, IfOk, IfSome, nat_lt, option_copied}
use Rattle.std.specs.FinMap.{FinMap}
use Rattle.std.specs.declared.alloc.AllocError.{AllocError}
use Rattle.std.proofs.lemmas.List.{at_drop_more, at_drop_all, same_from_push}
use Rattle.std.proofs.lemmas.Result.{IfOk-weaker}
use Rattle.cds_stamps.specs.Octets.{octets_cmp}
use Rattle.attr_sets.specs.declared.cell.AttrCell.{AttrCell}
use Rattle.cell_names.specs.FullNames.{full_name_octets, longest_name, is_name, IsComponentList}
use Rattle.cell_names.specs.ChildPointers.{Pointer}
use Rattle.cell_names.proofs.FullNameLaws.{is_name-Decides}
use Rattle.resolver.specs.declared.refusal.Refusal.{Refusal}
use Rattle.resolver.specs.declared.walk.End.{End}
use Rattle.resolver.specs.declared.walk.End.TheVariants as ends
use Rattle.resolver.specs.declared.seen.Found.{Found}
use Rattle.resolver.specs.declared.seen.LentEntry.{LentEntry}
use Rattle.resolver.specs.Readers.{AreCellsOf, Reader, Sight, Unreachable, Absent, Object, Link, Child, object_found}
use Rattle.resolver.specs.Walks.{Walker, link_refusal, follow_unless, follow, at_last, at_inner, in_directory, step_from, step, EndsFrom, goes}
use Rattle.resolver.specs.PassWords.{EndsBy}
use Rattle.resolver.specs.WalkEndProofs.{behind, from_step_at}
use Rattle.resolver.specs.WalkEnds.{walk_end}
use Rattle.resolver.specs.Nears.{IsDirect, child_seen, children, object_there}
use Rattle.resolver.proofs.EndLaws.{walked_at}

-- from no directory nothing is entered
pub children-nowhere : (reader : Reader) (cs : List (List ℕ)) → children reader cs None ≡ None
children-nowhere reader [] = refl
children-nowhere reader (c ∷ cs) = children-nowhere reader cs

-- the component at hand leads from one directory to the next
pub entered_on : (reader : Reader) (cs : List (List ℕ)) (i : ℕ) (c : List ℕ) (at : Pointer) (seen : Sight) (next all : Option Pointer) → i < length cs
    → c ≡ get_or cs i c → seen ≡ reader.sees at c → next ≡ child_seen seen → children reader (drop i cs) (Some at) ≡ all
    → children reader (drop (i + 1) cs) next ≡ all
entered_on reader cs i c at seen next all within is sees leads from =
    ap (children reader (drop (i + 1) cs)) (leads ∙ ap child_seen sees)
    ∙ ap (λ (c : List ℕ). children reader (drop (i + 1) cs) (child_seen (reader.sees at c))) is
    ∙ sym (at_drop_more (λ (l : List (List ℕ)). children reader l (Some at)) cs i c within)
    ∙ from

-- after the last component the directory is the present one
pub entered_all : (reader : Reader) (cs : List (List ℕ)) (i : ℕ) (at all : Option Pointer) → length cs ≤ i → children reader (drop i cs) at ≡ all → at ≡ all
entered_all reader cs i at all done from = sym (at_drop_all (λ (l : List (List ℕ)). children reader l at) cs i done) ∙ from

-- a component with others after it
inner : (reader : Reader) (w : Walker) (dir : ℕ) (d : List ℕ) (cs : List (List ℕ)) (c : List ℕ) (seen : Sight)
    → in_directory reader true w dir d (cs ++ c ∷ []) seen ≡ at_inner reader w dir (cs ++ c ∷ []) seen
inner reader w dir d [] c seen = refl
inner reader w dir d (e ∷ es) c seen = refl

module _ (reader : Reader) (c : List ℕ) (p : Pointer) (e : End) where
  -- where the last component leads, whatever was done before
  abbrev LastLeads : (came_up : List (List (List ℕ))) (links : ℕ) → Type 0
  LastLeads came_up links = (w : Walker) → w.came_up ≡ came_up → w.links ≡ links
      → EndsBy reader true (at_last reader true w p.dir c (reader.sees p c)) e

  -- there leads a walk that has these children and that component left of its name
  leads_there : (cs name : List (List ℕ)) (at : Option Pointer) (done : ℕ) (came_up : List (List (List ℕ))) (links : ℕ) → drop done name ≡ cs ++ c ∷ []
      → children reader cs at ≡ Some p → LastLeads came_up links
      → EndsFrom reader true (record { name = name; at = at; done = done; came_up = came_up; links = links }) e
  leads_there [] name at done came_up links left is leads =
      let w : Walker = record { name = name; at = at; done = done; came_up = came_up; links = links } in
      from_step_at w (at_last reader true w p.dir c (reader.sees p c))
      (ap (λ (l : List (List ℕ)). step_from reader true w l at) left
      ∙ ap (λ (o : Option Pointer). step_from reader true w (c ∷ []) o) is)
      (leads w refl refl)
  leads_there (d ∷ cs) name None done came_up links left is leads = absurd (nothing (sym (children-nowhere reader cs) ∙ is))
    where
      nothing : {q : Pointer} → None ≡ Some q → ⊥
      nothing e = cc
  leads_there (d ∷ cs) name (Some q) done came_up links left is leads =
      by_sight (reader.sees q d) refl is (λ child. leads_there cs name (Some child) (done + 1) came_up links further)
    where
      further : drop (done + 1) name ≡ cs ++ c ∷ []
      further = behind name done d (cs ++ c ∷ []) left

      w : Walker
      w = record { name = name; at = Some q; done = done; came_up = came_up; links = links }

      looked : (seen : Sight) → reader.sees q d ≡ seen → step reader true w ≡ at_inner reader w q.dir (cs ++ c ∷ []) seen
      looked seen at =
          ap (λ (l : List (List ℕ)). step_from reader true w l (Some q)) left
          ∙ ap (in_directory reader true w q.dir d (cs ++ c ∷ [])) at
          ∙ inner reader w q.dir d cs c seen

      nowhere : {r : Pointer} → children reader cs None ≡ Some r → ⊥
      nowhere e = let none = sym (children-nowhere reader cs) ∙ e in cc

      by_sight : (seen : Sight) → reader.sees q d ≡ seen → children reader cs (child_seen seen) ≡ Some p
          → ((child : Pointer) → children reader cs (Some child) ≡ Some p → LastLeads came_up links
          → EndsFrom reader true (record { name = name; at = Some child; done = done + 1; came_up = came_up; links = links }) e)
          → EndsFrom reader true w e
      by_sight Unreachable at is on = absurd (nowhere is)
      by_sight (Absent house) at is on = absurd (nowhere is)
      by_sight (Object house) at is on = absurd (nowhere is)
      by_sight (Link house target) at is on = absurd (nowhere is)
      by_sight (Child house child) at is on = goes _ (looked (Child house child) at) (on child is leads)

-- a walk comes to an object that its name has with no link on the way, whichever names came up and
-- links were followed
module _ (reader : Reader) (name : List (List ℕ)) (f : Found) (direct : IsDirect reader name f) where
  comes_there : (came_up : List (List (List ℕ))) (links : ℕ)
      → EndsFrom reader true (record { name = name; at = reader.root; done = 0; came_up = came_up; links = links }) (ends.Found f)
  comes_there came_up links =
      leads_there reader direct.last direct.at (ends.Found f) direct.front name reader.root 0 came_up links direct.parted direct.entered
      (λ w came many. subst (λ (s : Sight). EndsBy reader true (at_last reader true w direct.at.dir direct.last s) (ends.Found f)) (sym direct.seen)
      (ap ends.Found (sym direct.found)))

  -- so that is what the walk finds
  direct_found : walk_end reader true name ≡ Ok f
  direct_found = walked_at (ends.Found f) (comes_there (name ∷ []) 0) refl

-- a link to such a name leads there too
module _ (reader : Reader) (front : List (List ℕ)) (c : List ℕ) (p : Pointer) (house : ℕ) (target : List (List ℕ)) (f : Found)
    (entered : children reader front reader.root ≡ Some p) (sees : reader.sees p c ≡ Link house target)
    (lawful : IsComponentList target) (direct : IsDirect reader target f) where
  -- it is no link to itself
  apart : is_name (front ++ c ∷ []) target ≡ false
  apart = by_test (is_name (front ++ c ∷ []) target) refl
    where
      same_place : front ++ c ∷ [] ≡ target → ⊥
      same_place same =
          let parts = same_from_push front direct.front c direct.last (same ∙ direct.parted) in
          let is : Some p ≡ Some direct.at = sym entered ∙ ap (λ (cs : List (List ℕ)). children reader cs reader.root) parts.0 ∙ direct.entered in
          let one : p ≡ direct.at = cc in
          let both : Link house target ≡ Object direct.house =
          sym sees ∙ ap (λ (q : Pointer). reader.sees q c) one ∙ ap (reader.sees direct.at) parts.1 ∙ direct.seen in
          cc

      by_test : (t : Bool) → is_name (front ++ c ∷ []) target ≡ t → t ≡ false
      by_test false e = refl
      by_test true e = absurd (same_place ((is_name-Decides (front ++ c ∷ []) target).0 e))

  -- so it is followed
  no_refusal : link_refusal 0 ((front ++ c ∷ []) ∷ []) target ≡ None
  no_refusal =
      let short = lawful.short in
      let fits : nat_lt longest_name (length (full_name_octets target)) ≡ false = grind arith in
      rw (fits, apart) refl

  follows : LastLeads reader c p (ends.Found f) ((front ++ c ∷ []) ∷ []) 0
  follows w came many =
      subst (λ (s : Sight). EndsBy reader true (at_last reader true w p.dir c s) (ends.Found f)) (sym sees)
      (subst (λ (n : ℕ). EndsBy reader true (follow reader n w.came_up target) (ends.Found f)) (sym many)
      (subst (λ (names : List (List (List ℕ))). EndsBy reader true (follow reader 0 names target) (ends.Found f)) (sym came)
      (subst (λ (o : Option Refusal). EndsBy reader true (follow_unless o reader 0 ((front ++ c ∷ []) ∷ []) target) (ends.Found f)) (sym no_refusal)
      (comes_there reader target f direct ((front ++ c ∷ []) ∷ target ∷ []) 1))))

  linked_found : walk_end reader true (front ++ c ∷ []) ≡ Ok f
  linked_found =
      walked_at (ends.Found f)
      (leads_there reader c p (ends.Found f) front (front ++ c ∷ []) reader.root 0 ((front ++ c ∷ []) ∷ []) 0 refl entered follows) refl

-- what is seen as an object in a directory that was entered so is what its name leads to
pub object_leads : (reader : Reader) (front : List (List ℕ)) (c c' : List ℕ) (p : Pointer) (house : ℕ) → children reader front reader.root ≡ Some p → c' ≡ c
    → Object house ≡ reader.sees p c' → walk_end reader true (front ++ c ∷ []) ≡ Ok (object_found p.dir house c')
object_leads reader front c c' p house entered same sees =
    direct_found reader (front ++ c ∷ []) (object_found p.dir house c') (record {
      front = front;
      last = c';
      at = p;
      house = house;
      parted = ap (λ (d : List ℕ). front ++ d ∷ []) (sym same);
      entered = entered;
      seen = sym sees;
      found = refl;
    })

-- cells that are lent of an object that is seen are the object's
pub object_lends : (reader : Reader) (p : Pointer) (house : ℕ) (name : List ℕ) (cells : Option (Bor (FinMap octets_cmp AttrCell))) → Object house ≡ reader.sees p name
    → IfSome (option_copied cells) (λ cells. (x : ℕ) → reader.sees p name ≡ Object x → AreCellsOf reader (object_found p.dir x name) cells)
    → IfSome cells (λ cells. AreCellsOf reader (object_found p.dir house name) cells.now)
object_lends reader p house name None sees lent = tt
object_lends reader p house name (Some cells) sees lent = lent house (sym sees)

-- what a link there leads to, by what was found of its target
pub link_leads : (reader : Reader) (front : List (List ℕ)) (c c' : List ℕ) (p : Pointer) (house : ℕ) (target lent : List (List ℕ))
    (answer : Result (Option LentEntry) AllocError) → children reader front reader.root ≡ Some p → c' ≡ c → Link house target ≡ reader.sees p c' → lent ≡ target
    → IsComponentList lent → IfOk answer (λ found. IfSome found (λ f. IsDirect reader lent f.at))
    → IfOk answer (λ found. IfSome found (λ f. walk_end reader true (front ++ c ∷ []) ≡ Ok f.at))
link_leads reader front c c' p house target lent answer entered same sees is lawful there =
    IfOk-weaker answer (λ found. IfSome found (λ f. IsDirect reader lent f.at)) (λ found. IfSome found (λ f. walk_end reader true (front ++ c ∷ []) ≡ Ok f.at)) found_so there
  where
    found_so : (found : Option LentEntry) → IfSome found (λ f. IsDirect reader lent f.at) → IfSome found (λ f. walk_end reader true (front ++ c ∷ []) ≡ Ok f.at)
    found_so None h = tt
    found_so (Some f) h =
        linked_found reader front c p house target f.at entered (ap (reader.sees p) (sym same) ∙ sym sees) (subst IsComponentList is lawful)
        (subst (λ (n : List (List ℕ)). IsDirect reader n f.at) is h)

-- what a look-up in a directory answers that was entered so
pub direct_answers : (reader : Reader) (name front : List (List ℕ)) (c : List ℕ) (p : Pointer) (answer : Result (Option Found) AllocError) → name ≡ front ++ c ∷ []
    → Some p ≡ children reader front reader.root → IfOk answer (λ found. found ≡ object_there p.dir c (reader.sees p c))
    → IfOk answer (λ found. IfSome found (IsDirect reader name))
direct_answers reader name front c p answer parted entered there =
    IfOk-weaker answer (λ found. found ≡ object_there p.dir c (reader.sees p c)) (λ found. IfSome found (IsDirect reader name)) found_so there
  where
    by_sight : (f : Found) (seen : Sight) → reader.sees p c ≡ seen → Some f ≡ object_there p.dir c seen → IsDirect reader name f
    by_sight f Unreachable sees found = cc
    by_sight f (Absent house) sees found = cc
    by_sight f (Object house) sees found =
        let one : f ≡ object_found p.dir house c = cc in
        record { front = front; last = c; at = p; house = house; parted = parted; entered = sym entered; seen = sees; found = one }
    by_sight f (Link house target) sees found = cc
    by_sight f (Child house child) sees found = cc

    found_so : (found : Option Found) → found ≡ object_there p.dir c (reader.sees p c) → IfSome found (IsDirect reader name)
    found_so None e = tt
    found_so (Some f) e = by_sight f (reader.sees p c) refl e

-- what was found of a name, by its parts
pub same_name : (reader : Reader) (name : List (List ℕ)) (parts : List (List ℕ)) (answer : Result (Option LentEntry) AllocError) → name ≡ parts
    → IfOk answer (λ found. IfSome found (λ f. walk_end reader true parts ≡ Ok f.at)) → IfOk answer (λ found. IfSome found (λ f. walk_end reader true name ≡ Ok f.at))
same_name reader name parts answer is there =
    subst (λ (n : List (List ℕ)). IfOk answer (λ found. IfSome found (λ f. walk_end reader true n ≡ Ok f.at))) (sym is) there

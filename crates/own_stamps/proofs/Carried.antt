-- If no stamp of a node in a message of the model is later than a floor, none is in a message that
-- means it.
use Rattle.std.proofs.Common.{◌≡◌, ℕ, ◌≤◌, Bool, true, false, List, [], ◌∷◌, Option, None, Some, inl, inr, refl, sym, ap, subst, ◌∙◌, ◌↔◌, arith}
use Rattle.std.specs.Prelude.{◌&&◌, ◌||◌, not, ◌==◌, nat_lt, max, IfSome, if◌then◌else◌}
use Rattle.std.specs.declared.cmp.Ordering.{Ordering}
use Rattle.std.specs.Ordering.{is_lt, flip_args}
use Rattle.std.specs.Cmp.Lexicographic.{nat_list_cmp_total}
use Rattle.std.specs.FinMap.{get}
use Rattle.std.specs.List.{AllByRecursion, cons_option}
use Rattle.std.specs.Option.{option_and_then, option_map}
use Rattle.cds_stamps.specs.declared.stamp.Stamp.{Stamp}
use Rattle.cds_stamps.specs.Joins.{EachValue}
use Rattle.cds_stamps.specs.Octets.{octets_exact, is_octets}
use Rattle.cds_stamps.specs.Semilattice.{maybe, greater, join_of}
use Rattle.cds_stamps.specs.Stamps.{stamp_cmp, later_stamp, earlier_stamp, is_earlier, is_up_to}
use Rattle.attr_sets.specs.declared.mark.ValueMark.{ValueMark}
use Rattle.attr_sets.specs.declared.cell.AttrCell.{AttrCell}
use Rattle.attr_sets.specs.Marks.{mark_cmp, later, mark_after_clear}
use Rattle.attr_sets.specs.AttributeCells.{AttrMark, Cleared, Marked, attr_stamp, clear_in, mark_in, cell_of, greatest_clear, greatest_mark}
use Rattle.attr_sets.specs.CellLawProofs.{get-cell_of}
use Rattle.attr_sets.specs.CellPurges.{mark_left, mark_after, clear_left, purged_cell, after_cell, is_empty_cell, some_cell, cell_left, cell_after}
use Rattle.directory.specs.declared.entry.EntryCell.{EntryCell}
use Rattle.directory.specs.Entries.{Entries}
use Rattle.directory.specs.Histories.{Mark, Birth, Death, Attr, Born, birth_in, death_in, attr_mark_in, birth_cmp, stamp_in}
use Rattle.directory.specs.Histories.{birth_of, attr_history, cell_of_some, entry_at, entry_of, table_of}
use Rattle.directory.specs.Purges.{purged_entry, is_dead_up_to, entry_left, purged_table, purged_entries, after_entry, is_bare, delta_entry, delta_table}
use Rattle.directory.proofs.HistoryLaws.{get-table_of, get-attrs_of}
use Rattle.directory.proofs.PurgeLaws.{each_some}
use Rattle.purge_rule.specs.declared.delta.Delta.{Delta}
use Rattle.purge_rule.specs.declared.replica.Replica.{Replica}
use Rattle.purge_rule.specs.Latest.{greatest_of}
use Rattle.purge_rule.specs.Replicas.{delta_in, replica_of}
use Rattle.purge_rule.proofs.MapValues.{greatest_value-≤}
use Rattle.purge_rule.proofs.Times.{maybe-holds}
use Rattle.cds_messages.specs.declared.message.Body.{Body}
use Rattle.cds_messages.specs.declared.message.Body.TheVariants as body
use Rattle.cds_messages.specs.declared.message.Message.{Message}
use Rattle.cell_model.specs.Bodies.{marks_in, round_of, up_to_in}
use Rattle.cell_model.specs.Cells as model
use Rattle.cell_model.specs.Sets.{In}
use Rattle.house_directory.specs.HouseMessages.{StandsBody, StandsCopy, StandsDelta, StandsMessage}
use Rattle.own_stamps.specs.NoneLater.{IsKnown, NoneIsLater}
use Rattle.own_stamps.specs.OwnStamps.{later_own, own_in_body, own_in_cell, own_in_delta, own_in_entry, own_in_replica, own_in_table, own_time, own_time_of}

-- what holds of both holds of the greater
greater-holds : {X : Type 0} (P : X → Type 0) (R : X → X → Ordering) (x y : X) → P x → P y → P (greater R x y)
greater-holds P R x y p q = by_case (is_lt (R x y))
  where
    by_case : (b : Bool) → P (if b then y else x)
    by_case true = q
    by_case false = p

-- what holds of all that is joined holds of the join
join_of-holds : {A X : Type 0} (P : X → Type 0) (f : X → X → X) → ((x y : X) → P x → P y → P (f x y)) → (g : A → Option X) (xs : List A)
    → AllByRecursion (λ x. IfSome (g x) P) xs → IfSome (join_of f g xs) P
join_of-holds P f keeps g [] h = tt
join_of-holds P f keeps g (x ∷ xs) h = maybe-holds P f keeps (g x) (join_of f g xs) h.0 (join_of-holds P f keeps g xs h.1)

-- ---- what holds of each stamp

module _ (P : Stamp → Type 0) where
  abbrev OfStamp : Option Stamp → Type 0
  OfStamp s = IfSome s P

  abbrev OfMark : ValueMark → Type 0
  OfMark m = P m.stamp

  -- of an attribute
  record OfCell (c : AttrCell) : Type 0 where
    pub cleared : OfStamp c.cleared
    pub values : EachValue OfMark c.values

  -- of an entry
  record OfEntry (e : EntryCell) : Type 0 where
    pub birth : P e.birth
    pub death : OfStamp e.death
    pub attrs : EachValue OfCell e.attrs

  -- of a table
  abbrev OfTable : Entries → Type 0
  OfTable = EachValue OfEntry

  -- of the marks of a history
  abbrev OfMarks : List Mark → Type 0
  OfMarks = AllByRecursion (λ k. P (stamp_in k))

  -- ---- the table of marks

  kept-holds : (c : Option Stamp) (m : Option ValueMark) → IfSome m OfMark → IfSome (mark_after_clear c m) OfMark
  kept-holds c None h = tt
  kept-holds None (Some m) h = h
  kept-holds (Some c) (Some m) h = by_case (is_earlier m.stamp c)
    where
      by_case : (b : Bool) → IfSome (if b then None else Some m) OfMark
      by_case true = tt
      by_case false = h

  clears-hold : (xs : List AttrMark) → AllByRecursion (λ x. P (attr_stamp x)) xs → AllByRecursion (λ x. IfSome (clear_in x) P) xs
  clears-hold [] h = tt
  clears-hold (Cleared s ∷ xs) h = (h.0, clears-hold xs h.1)
  clears-hold (Marked v m ∷ xs) h = (tt, clears-hold xs h.1)

  marks-hold : (v : List ℕ) (xs : List AttrMark) → AllByRecursion (λ x. P (attr_stamp x)) xs → AllByRecursion (λ x. IfSome (mark_in v x) OfMark) xs
  marks-hold v [] h = tt
  marks-hold v (Cleared s ∷ xs) h = (tt, marks-hold v xs h.1)
  marks-hold v (Marked w m ∷ xs) h = (by_case (is_octets v w), marks-hold v xs h.1)
    where
      by_case : (b : Bool) → IfSome (if b then Some m else None) OfMark
      by_case true = h.0
      by_case false = tt

  cell_of-holds : (xs : List AttrMark) → AllByRecursion (λ x. P (attr_stamp x)) xs → OfCell (cell_of xs)
  cell_of-holds xs h = record {
    cleared = join_of-holds P later_stamp (greater-holds P stamp_cmp) clear_in xs (clears-hold xs h);
    values =
        λ v. subst (λ x. IfSome x OfMark) (sym (get-cell_of xs v)) (kept-holds (greatest_clear xs) (greatest_mark xs v)
        (join_of-holds OfMark later (greater-holds OfMark mark_cmp) (mark_in v) xs (marks-hold v xs h)));
  }

  cell_of_some-holds : (xs : List AttrMark) → AllByRecursion (λ x. P (attr_stamp x)) xs → IfSome (cell_of_some xs) OfCell
  cell_of_some-holds [] h = tt
  cell_of_some-holds (x ∷ xs) h = cell_of-holds (x ∷ xs) h

  births-hold : (name : List ℕ) (h : List Mark) → OfMarks h → AllByRecursion (λ m. IfSome (birth_in name m) (λ b. P b.at)) h
  births-hold name [] all = tt
  births-hold name (Birth q k c ∷ h) all = (by_case (is_octets name q), births-hold name h all.1)
    where
      by_case : (b : Bool) → IfSome (if b then Some (record { at = c; kind = k }) else None) (λ (b : Born). P b.at)
      by_case true = all.0
      by_case false = tt
  births-hold name (Death q c s ∷ h) all = (tt, births-hold name h all.1)
  births-hold name (Attr q c a x ∷ h) all = (tt, births-hold name h all.1)

  if_holds : {X : Type 0} (Q : X → Type 0) (b : Bool) (x : X) → Q x → IfSome (if b then Some x else None) Q
  if_holds Q true x p = p
  if_holds Q false x p = tt

  deaths-hold : (name : List ℕ) (c : Stamp) (h : List Mark) → OfMarks h → AllByRecursion (λ m. IfSome (death_in name c m) P) h
  deaths-hold name c [] all = tt
  deaths-hold name c (Birth q k d ∷ h) all = (tt, deaths-hold name c h all.1)
  deaths-hold name c (Death q d s ∷ h) all = (if_holds P _ s all.0, deaths-hold name c h all.1)
  deaths-hold name c (Attr q d a x ∷ h) all = (tt, deaths-hold name c h all.1)

  attrs-hold : (name : List ℕ) (c : Stamp) (a : List ℕ) (h : List Mark) → OfMarks h → AllByRecursion (λ x. P (attr_stamp x)) (attr_history h name c a)
  attrs-hold name c a [] all = tt
  attrs-hold name c a (Birth q k d ∷ h) all = attrs-hold name c a h all.1
  attrs-hold name c a (Death q d s ∷ h) all = attrs-hold name c a h all.1
  attrs-hold name c a (Attr q d b x ∷ h) all =
      one (attr_mark_in name c a (Attr q d b x)) (if_holds (λ (y : AttrMark). P (attr_stamp y)) _ x all.0) (attrs-hold name c a h all.1)
    where
      one : (y : Option AttrMark) → IfSome y (λ (z : AttrMark). P (attr_stamp z)) → AllByRecursion (λ z. P (attr_stamp z)) (attr_history h name c a)
          → AllByRecursion (λ z. P (attr_stamp z)) (cons_option y (attr_history h name c a))
      one None p rest = rest
      one (Some y) p rest = (p, rest)

  -- the entry of marks
  entry_of-holds : (h : List Mark) (name : List ℕ) → OfMarks h → IfSome (entry_of h name) OfEntry
  entry_of-holds h name all =
      by_birth (birth_of h name) (join_of-holds (λ (b : Born). P b.at) (greater birth_cmp) (greater-holds (λ (b : Born). P b.at) birth_cmp) (birth_in
      name) h (births-hold name h all))
    where
      by_birth : (b : Option Born) → IfSome b (λ b. P b.at) → IfSome (option_map (entry_at h name) b) OfEntry
      by_birth None p = tt
      by_birth (Some b) p = record {
        birth = p;
        death = join_of-holds P earlier_stamp (greater-holds P (flip_args stamp_cmp)) (death_in name b.at) h (deaths-hold name b.at h all);
        attrs =
            λ a. subst (λ x. IfSome x OfCell) (sym (get-attrs_of h name b.at a)) (cell_of_some-holds (attr_history h name b.at a) (attrs-hold name
            b.at a h all));
      }

  -- their table
  table_of-holds : (h : List Mark) → OfMarks h → OfTable (table_of h)
  table_of-holds h all k = subst (λ x. IfSome x OfEntry) (sym (get-table_of h k)) (entry_of-holds h k all)

  -- ---- what is left of it, and what of it is later

  some_cell-holds : (c : AttrCell) → OfCell c → IfSome (some_cell c) OfCell
  some_cell-holds c p = at (is_empty_cell c)
    where
      at : (b : Bool) → IfSome (if b then None else Some c) OfCell
      at true = tt
      at false = p

  module _ (t : Stamp) where
    clear_left-holds : (s : Option Stamp) → OfStamp s → OfStamp (option_and_then (clear_left t) s)
    clear_left-holds None p = tt
    clear_left-holds (Some s) p = at (is_up_to t s)
      where
        at : (b : Bool) → OfStamp (if b then None else Some s)
        at true = tt
        at false = p

    mark_left-holds : (m : ValueMark) → OfMark m → IfSome (mark_left t m) OfMark
    mark_left-holds m p = at (m.present || not (is_up_to t m.stamp))
      where
        at : (b : Bool) → IfSome (if b then Some m else None) OfMark
        at true = p
        at false = tt

    mark_after-holds : (m : ValueMark) → OfMark m → IfSome (mark_after t m) OfMark
    mark_after-holds m p = at (is_up_to t m.stamp)
      where
        at : (b : Bool) → IfSome (if b then None else Some m) OfMark
        at true = tt
        at false = p

    cell_left-holds : (c : AttrCell) → OfCell c → IfSome (cell_left t c) OfCell
    cell_left-holds c p = some_cell-holds (purged_cell t c) (record {
      cleared = clear_left-holds c.cleared p.cleared;
      values = each_some nat_list_cmp_total octets_exact OfMark (mark_left t) mark_left-holds c.values p.values;
    })

    cell_after-holds : (c : AttrCell) → OfCell c → IfSome (cell_after t c) OfCell
    cell_after-holds c p = some_cell-holds (after_cell t c) (record {
      cleared = clear_left-holds c.cleared p.cleared;
      values = each_some nat_list_cmp_total octets_exact OfMark (mark_after t) mark_after-holds c.values p.values;
    })

    entry_left-holds : (e : EntryCell) → OfEntry e → IfSome (entry_left t e) OfEntry
    entry_left-holds e p = at (is_dead_up_to t e.death)
      where
        at : (b : Bool) → IfSome (if b then None else Some (purged_entry t e)) OfEntry
        at true = tt
        at false = record {
          birth = p.birth;
          death = p.death;
          attrs = each_some nat_list_cmp_total octets_exact OfCell (cell_left t) cell_left-holds e.attrs p.attrs;
        }

    after_entry-holds : (e : EntryCell) → OfEntry e → OfEntry (after_entry t e)
    after_entry-holds e p = record {
      birth = p.birth;
      death = clear_left-holds e.death p.death;
      attrs = each_some nat_list_cmp_total octets_exact OfCell (cell_after t) cell_after-holds e.attrs p.attrs;
    }

    delta_entry-holds : (e : EntryCell) → OfEntry e → IfSome (delta_entry t e) OfEntry
    delta_entry-holds e p = at (is_up_to t e.birth && is_bare (after_entry t e))
      where
        at : (b : Bool) → IfSome (if b then None else Some (after_entry t e)) OfEntry
        at true = tt
        at false = after_entry-holds e p

  purged-holds : (h : List Mark) (t : Option Stamp) → OfMarks h → OfTable (purged_entries h t)
  purged-holds h None all = table_of-holds h all
  purged-holds h (Some t) all = each_some nat_list_cmp_total octets_exact OfEntry (entry_left t) (entry_left-holds t) (table_of h) (table_of-holds h all)

  later-holds : (t : Option Stamp) (m : Entries) → OfTable m → OfTable (delta_table t m)
  later-holds None m p = p
  later-holds (Some t) m p = each_some nat_list_cmp_total octets_exact OfEntry (delta_entry t) (delta_entry-holds t) m p

-- ---- the greatest own time is at most the floor if each stamp is known

module _ (node floor : ℕ) where
  abbrev Known : Stamp → Type 0
  Known = IsKnown node floor

  own_time-≤ : (s : Stamp) → (own_time node s ≤ floor) ↔ Known s
  own_time-≤ s = by_case (s.node == node) refl
    where
      by_case : (b : Bool) → (s.node == node) ≡ b → ((if b then s.time else 0) ≤ floor) ↔ Known s
      by_case true is = (λ h same. h, λ h. h (grind (arith, is)))
      by_case false is = (λ h same. absurd (grind (arith, is, same)), λ h. omega arith)

  own_time_of-≤ : (s : Option Stamp) → (own_time_of node s ≤ floor) ↔ IfSome s Known
  own_time_of-≤ None = (λ h. tt, λ h. omega arith)
  own_time_of-≤ (Some s) = own_time-≤ s

  own_in_cell-≤ : (c : AttrCell) → (own_in_cell node c ≤ floor) ↔ OfCell Known c
  own_in_cell-≤ c =
      let clear = own_time_of-≤ c.cleared in
      let time : ValueMark → ℕ = λ m. own_time node m.stamp in
      let marks = greatest_value-≤ nat_list_cmp_total octets_exact time floor (λ m. Known m.stamp) (λ m. own_time-≤ m.stamp) c.values in (
        λ h. record { cleared = clear.0 (omega (arith, h)); values = marks.0 (omega (arith, h)) },
        λ h. let a = clear.1 h.cleared in let b = marks.1 h.values in omega (arith, a, b),
      )

  own_in_entry-≤ : (e : EntryCell) → (own_in_entry node e ≤ floor) ↔ OfEntry Known e
  own_in_entry-≤ e =
      let birth = own_time-≤ e.birth in
      let death = own_time_of-≤ e.death in
      let cells = greatest_value-≤ nat_list_cmp_total octets_exact (own_in_cell node) floor (OfCell Known) own_in_cell-≤ e.attrs in (
        λ h. record { birth = birth.0 (omega (arith, h)); death = death.0 (omega (arith, h)); attrs = cells.0 (omega (arith, h)) },
        λ h. let a = birth.1 h.birth in let b = death.1 h.death in let c = cells.1 h.attrs in omega (arith, a, b, c),
      )

  own_in_table-≤ : (t : Entries) → (own_in_table node t ≤ floor) ↔ OfTable Known t
  own_in_table-≤ t = greatest_value-≤ nat_list_cmp_total octets_exact (own_in_entry node) floor (OfEntry Known) own_in_entry-≤ t

  both-≤ : (a b : ℕ) → a ≤ floor → b ≤ floor → max a b ≤ floor
  both-≤ a b p q = omega (arith, p, q)

  some_known : (o : Option Stamp) → ((t : Stamp) → o ≡ Some t → Known t) → IfSome o Known
  some_known None h = tt
  some_known (Some t) h = h t refl

  each_mark : (ms : List Mark) → ((k : Mark) → In k ms → Known (stamp_in k)) → OfMarks Known ms
  each_mark [] h = tt
  each_mark (k ∷ ks) h = (h k (inl refl), each_mark ks (λ j i. h j (inr i)))

  module _ (c : model.Copy) (marks : (k : Mark) → In k c.history → Known (stamp_in k)) (up : (t : Stamp) → c.all_up_to ≡ Some t → Known t) where
    table_known : OfTable Known (replica_of c.history c.all_up_to).table
    table_known = purged-holds Known c.history c.all_up_to (each_mark c.history marks)

    up_to_known : own_time_of node c.all_up_to ≤ floor
    up_to_known = (own_time_of-≤ c.all_up_to).1 (some_known c.all_up_to up)

    copy_known : (r : Replica) → StandsCopy r c → own_in_replica node r ≤ floor
    copy_known r is = subst (λ (z : Replica). own_in_replica node z ≤ floor) (sym is)
        (both-≤ _ _ ((own_in_table-≤ (replica_of c.history c.all_up_to).table).1 table_known) up_to_known)

    delta_known : (d : Delta) → StandsDelta d c → own_in_delta node d ≤ floor
    delta_known d is = subst (λ (z : Delta). own_in_delta node z ≤ floor) (sym is)
        (both-≤ _ _
        ((own_in_table-≤ (delta_in (replica_of c.history c.all_up_to)).table).1
        (later-holds Known c.all_up_to (replica_of c.history c.all_up_to).table table_known))
        up_to_known)

  some_entry : (o : Option EntryCell) (e : EntryCell) → o ≡ Some e → IfSome o (OfEntry Known) → OfEntry Known e
  some_entry o e is h = subst (λ x. IfSome x (OfEntry Known)) is h

  -- a stamp that is one of the model
  same_stamp : (t u : Stamp) → t ≡ u → Known u → own_time node t ≤ floor
  same_stamp t u is known = (own_time-≤ t).1 (subst Known (sym is) known)

  body_known : (b : Body) (c : model.Body) → StandsBody b c → ((k : Mark) → In k (marks_in c) → Known (stamp_in k))
      → ((t : Stamp) → up_to_in c ≡ Some t → Known t) → ((t : Stamp) → round_of c ≡ Some t → Known t) → own_in_body node b ≤ floor
  body_known (body.Update f) (model.Update ms) w marks up round =
      (own_in_entry-≤ f.entry).1 (some_entry (entry_of ms f.name) f.entry w.entry (entry_of-holds Known ms f.name (each_mark ms marks)))
  body_known (body.Gather t) (model.Gather u) w marks up round = same_stamp t u w (round u refl)
  body_known (body.Gathered t d) (model.Gathered u c) w marks up round =
      both-≤ _ _ (same_stamp t u w.0 (round u refl)) (delta_known c marks up d w.1)
  body_known (body.Spread t d) (model.Spread u c) w marks up round =
      both-≤ _ _ (same_stamp t u w.0 (round u refl)) (delta_known c marks up d w.1)
  body_known (body.SpreadAck t) (model.SpreadAck u) w marks up round = same_stamp t u w (round u refl)
  body_known (body.Advance t) (model.Advance u) w marks up round = same_stamp t u w (round u refl)
  body_known (body.Join ms r) (model.Join ns c) w marks up round = copy_known c marks up r w.1
  body_known body.Leave model.Leave w marks up round = omega arith
  body_known _ _ w marks up round = elim w [ ]

  none_later : (m : Message) → own_in_body node m.body ≤ floor → later_own node floor m ≡ None
  none_later m low = let test : nat_lt floor (own_in_body node m.body) ≡ false = grind (arith, low) in rw test refl

-- a message that means such a one has no later stamp
pub not_later : (node floor to : ℕ) (message : Message) (m : model.Message) → StandsMessage to message m → NoneIsLater node floor m
    → later_own node floor message ≡ None
not_later node floor to message m stands none =
    none_later node floor message (body_known node floor message.body m.body stands.body none.marks none.all_up_to none.round)

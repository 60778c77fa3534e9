-- Entries are read back as they are said.
use Rattle.std.proofs.Common.{◌≡◌, ℕ, ◌-◌, ◌<◌, true, false, List, [], ◌∷◌, ◌++◌, length, map, get_or, refl, sym, ap, subst, ◌∙◌, arith, append_assoc, append-nil, length-append}
use Rattle.std.specs.Prelude.{Option, Some, None, Result, Ok, codes, slice_get}
use Rattle.std.specs.Option.{option_map, option_map_or}
use Rattle.std.specs.Ordering.{is_lt}
use Rattle.std.specs.List.{All, flat_map}
use Rattle.std.specs.List.Sorted.{IsStrictlySortedBy}
use Rattle.std.proofs.lemmas.List.{get_or_append_left}
use Rattle.std.proofs.lemmas.List.Concat.{flat_map-cons}
use Rattle.std.proofs.lemmas.List.Elements.{All-head, All-tail}
use Rattle.std.proofs.lemmas.Map.Keys.{Less-from_sorted}
use Rattle.std.proofs.lemmas.Option.{slice_get-get_or}
use Rattle.std.proofs.Math.Seq.{get_or-append_seam}
use Rattle.tower_codec.specs.BindingReading.{cut_at_mark}
use Rattle.cds_stamps.specs.Octets.{octets_cmp}
use Rattle.cell_names.specs.Houses.{list_fault}
use Rattle.cell_names.proofs.HouseLaws.{list_fault-none, numbers_of_made}
use Rattle.cell_script.specs.declared.fault.ParseFault.{ParseFault}
use Rattle.cell_script.specs.Words.{words_of}
use Rattle.clerk_lines.specs.declared.answer.AnswerLine.{AnswerLine}
use Rattle.clerk_lines.specs.declared.answer.AnswerLine.TheVariants as line
use Rattle.clerk_lines.specs.declared.hearing.Hearing.{Hearing}
use Rattle.clerk_lines.specs.declared.hearing.Hearing.TheVariants.{Begun, Amid, Nonsense}
use Rattle.clerk_lines.specs.declared.hearing.Told.TheVariants.{Shows}
use Rattle.clerk_lines.specs.declared.shown.Lead.{Lead}
use Rattle.clerk_lines.specs.declared.shown.Lead.TheVariants as lead
use Rattle.clerk_lines.specs.declared.shown.ShownAttr.{ShownAttr}
use Rattle.clerk_lines.specs.declared.shown.ShownEntry.{ShownEntry}
use Rattle.clerk_lines.specs.AnswerRows.{answer_said}
use Rattle.clerk_lines.specs.Hearings.{entry_begun, child_unless, heard_with, is_last, said_after, told_by}
use Rattle.clerk_lines.specs.ShownEntries.{attr_with, rises}
use Rattle.clerk_lines.specs.ShownTexts.{IsSayable, IsSayableAttr, IsSayableLead, IsValue, attr_texts, entry_texts, lead_text, value_text}
use Rattle.clerk_lines.proofs.Adding.{with_last}
use Rattle.clerk_lines.proofs.AnswerTexts.{attr_said, child_said, link_said, object_said, value_said}

-- ---- one line more

-- a line that is not the last
told_on : (h next : Hearing) (line : List ℕ) (lines : List (List ℕ)) → is_last line ≡ false → heard_with h line ≡ next
    → told_by h (line ∷ lines) ≡ told_by next lines
unfolding told_by
told_on h next line lines more is = rw more (ap (λ (k : Hearing). told_by k lines) is)

-- what is heard of a line that says something
heard_so : (h : Hearing) (line : List ℕ) (said : AnswerLine) → answer_said (words_of line) ≡ Ok said → heard_with h line ≡ said_after h (Ok said)
heard_so h line said is = ap (λ (r : Result AnswerLine ParseFault). said_after h r) is

-- an entry of these attributes so far
abbrev amid : Lead → List ShownAttr → Hearing
amid to attrs = Amid (record { lead = to; attrs = attrs })

-- ---- values

-- each value of those that ascend is above those before it
above_before : (before : List (List ℕ)) (v : List ℕ) (after : List (List ℕ)) → IsStrictlySortedBy octets_cmp (before ++ v ∷ after) → rises before v ≡ true
above_before [] v after sorted = refl
above_before (b ∷ bs) v after sorted =
    let vs : List (List ℕ) = b ∷ bs in
    let n : ℕ = length vs - 1 in
    let within : n < length vs = omega arith in
    let long : length vs < length (vs ++ v ∷ after) = omega (arith, length-append vs (v ∷ after)) in
    let there : slice_get vs n ≡ Some (get_or vs n v) = slice_get-get_or vs n v within in
    let less = Less-from_sorted octets_cmp (vs ++ v ∷ after) n (length vs) v sorted within long in
    ap (λ (o : Option (List ℕ)). option_map_or (λ w. is_lt (octets_cmp w v)) o true) there
    ∙ ap (λ (w : List ℕ). is_lt (octets_cmp w v)) (sym (get_or_append_left vs (v ∷ after) v n within))
    ∙ ap (λ (w : List ℕ). is_lt (octets_cmp (get_or (vs ++ v ∷ after) n v) w)) (sym (get_or-append_seam vs v after v))
    ∙ ap is_lt less

value_goes_on : (v : List ℕ) → is_last (value_text v) ≡ false
unfolding is_last cut_at_mark
value_goes_on v = refl

abbrev valued : ShownAttr → List (List ℕ) → ShownAttr
valued a vs = record { name = a.name; values = vs }

-- an attribute that has a value more
one_value : (a : ShownAttr) (v : List ℕ) → rises a.values v ≡ true → attr_with a v ≡ Some (valued a (a.values ++ v ∷ []))
one_value a v up = rw up refl

value_heard : (to : Lead) (done : List ShownAttr) (name v : List ℕ) (before : List (List ℕ)) → IsValue v → rises before v ≡ true
    → heard_with (amid to (done ++ record { name = name; values = before } ∷ [])) (value_text v)
    ≡ amid to (done ++ record { name = name; values = before ++ v ∷ [] } ∷ [])
value_heard to done name v before is up =
    let a : ShownAttr = record { name = name; values = before } in
    heard_so (amid to (done ++ a ∷ [])) (value_text v) (line.Value v) (value_said v is)
    ∙ ap (λ (o : Option (List ShownAttr)). option_map_or (λ attrs. amid to attrs) o Nonsense)
    (with_last done a v ∙ ap (option_map (λ b. done ++ b ∷ [])) (one_value a v up))

values_heard : (to : Lead) (done : List ShownAttr) (name : List ℕ) (before vs : List (List ℕ)) (lines : List (List ℕ)) → All IsValue vs
    → IsStrictlySortedBy octets_cmp (before ++ vs)
    → told_by (amid to (done ++ record { name = name; values = before } ∷ [])) (map value_text vs ++ lines)
    ≡ told_by (amid to (done ++ record { name = name; values = before ++ vs } ∷ [])) lines
values_heard to done name before [] lines all sorted =
    ap (λ (ws : List (List ℕ)). told_by (amid to (done ++ record { name = name; values = ws } ∷ [])) lines) (sym (append-nil before))
values_heard to done name before (v ∷ vs) lines all sorted =
    let joined : (before ++ v ∷ []) ++ vs ≡ before ++ v ∷ vs = append_assoc before (v ∷ []) vs in
    told_on (amid to (done ++ record { name = name; values = before } ∷ [])) (amid to (done ++ record { name = name; values = before ++ v ∷ [] } ∷ []))
    (value_text v) (map value_text vs ++ lines) (value_goes_on v)
    (value_heard to done name v before (All-head IsValue v vs all) (above_before before v vs sorted))
    ∙ values_heard to done name (before ++ v ∷ []) vs lines (All-tail IsValue v vs all) (subst (IsStrictlySortedBy octets_cmp) (sym joined) sorted)
    ∙ ap (λ (ws : List (List ℕ)). told_by (amid to (done ++ record { name = name; values = ws } ∷ [])) lines) joined

-- ---- attributes

attr_goes_on : (name : List ℕ) → is_last (codes "attr " ++ name) ≡ false
unfolding is_last cut_at_mark
attr_goes_on name = refl

attr_heard : (to : Lead) (done : List ShownAttr) (a : ShownAttr) (lines : List (List ℕ)) → IsSayableAttr a
    → told_by (amid to done) (attr_texts a ++ lines) ≡ told_by (amid to (done ++ a ∷ [])) lines
attr_heard to done a lines is =
    told_on (amid to done) (amid to (done ++ record { name = a.name; values = [] } ∷ [])) (codes "attr " ++ a.name) (map value_text a.values ++ lines)
    (attr_goes_on a.name)
    (heard_so (amid to done) (codes "attr " ++ a.name) (line.Attr a.name) (attr_said a.name is.named))
    ∙ values_heard to done a.name [] a.values lines is.values is.ascending

attrs_heard : (to : Lead) (done more : List ShownAttr) (lines : List (List ℕ)) → All IsSayableAttr more
    → told_by (amid to done) (flat_map attr_texts more ++ lines) ≡ told_by (amid to (done ++ more)) lines
attrs_heard to done [] lines all = ap (λ (some : List ShownAttr). told_by (amid to some) lines) (sym (append-nil done))
attrs_heard to done (a ∷ more) lines all =
    ap (λ (ls : List (List ℕ)). told_by (amid to done) (ls ++ lines)) (flat_map-cons attr_texts a more)
    ∙ ap (told_by (amid to done)) (append_assoc (attr_texts a) (flat_map attr_texts more) lines)
    ∙ attr_heard to done a (flat_map attr_texts more ++ lines) (All-head IsSayableAttr a more all)
    ∙ attrs_heard to (done ++ a ∷ []) more lines (All-tail IsSayableAttr a more all)
    ∙ ap (λ (some : List ShownAttr). told_by (amid to some) lines) (append_assoc done (a ∷ []) more)

-- ---- the first line, and the last

ends_there : (e : ShownEntry) → told_by (Amid e) (codes "end" ∷ []) ≡ Some (Shows e)
unfolding told_by is_last cut_at_mark
ends_there e = refl

lead_goes_on : (to : Lead) → is_last (lead_text to) ≡ false
unfolding is_last cut_at_mark
lead_goes_on lead.Object = refl
lead_goes_on (lead.Link target) = refl
lead_goes_on (lead.Child p) = refl

lead_heard : (to : Lead) → IsSayableLead to → heard_with Begun (lead_text to) ≡ entry_begun to
lead_heard lead.Object is = heard_so Begun (codes "object") line.Object object_said
lead_heard (lead.Link target) is =
    heard_so Begun (lead_text (lead.Link target)) (line.Link target) (link_said target is)
lead_heard (lead.Child p) is =
    let others : List ℕ = p.houses.others in
    let none : list_fault p.houses.master others ≡ None = (list_fault-none p.houses.master others).1 is.houses in
    heard_so Begun (lead_text (lead.Child p))
    (line.Child p.dir (record { 0 = p.houses.master }) (map (λ n. record { 0 = n }) others))
    (child_said p is)
    ∙ ap (λ (ns : List ℕ). child_unless (list_fault p.houses.master ns) p.dir (record { master = p.houses.master; others = ns })) (numbers_of_made others)
    ∙ ap (λ (o : Option _). child_unless o p.dir (record { master = p.houses.master; others = others })) none

-- an entry, by all its lines
pub entry_read_back : (e : ShownEntry) → IsSayable e → told_by Begun (entry_texts e) ≡ Some (Shows e)
entry_read_back e is =
    told_on Begun (entry_begun e.lead) (lead_text e.lead) (flat_map attr_texts e.attrs ++ codes "end" ∷ []) (lead_goes_on e.lead) (lead_heard e.lead is.lead)
    ∙ attrs_heard e.lead [] e.attrs (codes "end" ∷ []) is.attrs
    ∙ ends_there e

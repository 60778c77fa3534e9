-- A house that starts of an image.
use Rattle.std.proofs.Common.{◌≡◌, ℕ, ◌≤◌, Bool, true, false, cond, List, [], ◌∷◌, max, Option, Some, None, Ok, refl, sym}
use Rattle.std.proofs.Common.{ap, subst, ◌∙◌, arith}
use Rattle.std.specs.Prelude.{IfSome, map}
use Rattle.std.specs.Option.{option_map}
use Rattle.std.specs.FinMap.{FinMap, entries, find, from_entries, get, get-entries}
use Rattle.std.specs.BTreeMap.{is_at}
use Rattle.cds_stamps.specs.declared.numbers.DirId.{DirId}
use Rattle.purge_rule.specs.Latest.{greatest_of, latest_time}
use Rattle.purge_rule.proofs.Times.{latest_time-≤}
use Rattle.record_fields.specs.Decoding.{IsWhole}
use Rattle.cds_messages.specs.Dirs.{dir_cmp, dir_total, dir_exact}
use Rattle.cds_records.specs.Images.{image, either_image}
use Rattle.cds_messages.specs.Validity.{IsValidDir, IsValidImage}
use Rattle.cds_messages.specs.declared.image.Image.{Image}
use Rattle.cds_messages.specs.declared.image.ImageDir.{ImageDir}
use Rattle.cds_messages.specs.declared.image.ImageDir.TheVariants as kept
use Rattle.record_fields.proofs.Mapped.{entries_mapped}
use Rattle.cds_records.specs.RecordOctets.{image_octets}
use Rattle.cds_records.specs.RecordRanges.{FitsImage}
use Rattle.cds_records.proofs.WholeDecoding.{whole_decoded, image_in_either}
use Rattle.cds_records.proofs.WholeImages.{the_image_whole}
use Rattle.clearinghouse.specs.declared.house.Clearinghouse.{Clearinghouse}
use Rattle.house_directory.specs.declared.states.DirState.{DirState}
use Rattle.house_directory.specs.declared.states.DirState.TheVariants as state
use Rattle.clearinghouse.specs.HouseImages.{image_of, kept_of, house_after_restart, start_of_octets, started_from, started_of, start_of_image}
use Rattle.house_directory.specs.LawfulDirectories.{IsLawfulHeld}
use Rattle.clearinghouse.specs.LawfulHouses.{IsLawful}
use Rattle.house_directory.specs.Times.{latest_in_image, latest_in_kept}

-- ---- what it has

module _ {X Y : Type 0} (f : X → Y) (q : DirId) where
  find_mapped : (es : List (DirId × X)) → find dir_cmp q (map (λ e. (e.0, f e.1)) es) ≡ option_map f (find dir_cmp q es)
  find_mapped [] = refl
  find_mapped (e ∷ es) = by (is_at (dir_cmp q) e.0) (find_mapped es)
    where
      by : (b : Bool) → find dir_cmp q (map (λ e. (e.0, f e.1)) es) ≡ option_map f (find dir_cmp q es)
          → cond b (Some (f e.1)) (find dir_cmp q (map (λ e. (e.0, f e.1)) es)) ≡ option_map f (cond b (Some e.1) (find dir_cmp q es))
      by true rest = refl
      by false rest = rest

found_below : (f : ImageDir → ℕ) (q : DirId) (es : List (DirId × ImageDir)) (x : ImageDir) → find dir_cmp q es ≡ Some x → f x ≤ greatest_of (λ e. f e.1) es
found_below f q [] x is = absurd (cc)
found_below f q (e ∷ es) x is = by (is_at (dir_cmp q) e.0) (found_below f q es x) is
  where
    by : (b : Bool) → (find dir_cmp q es ≡ Some x → f x ≤ greatest_of (λ e. f e.1) es) → cond b (Some e.1) (find dir_cmp q es) ≡ Some x
        → f x ≤ max (f e.1) (greatest_of (λ e. f e.1) es)
    by true rest is = let same : e.1 ≡ x = cc in subst (λ y. f y ≤ max (f e.1) (greatest_of (λ e. f e.1) es)) same (omega arith)
    by false rest is = let w = rest is in omega (arith, w)

abbrev IsLawfulState : (me n : ℕ) → DirState → Type 0
IsLawfulState me n (state.Held h) = IsLawfulHeld me n h
IsLawfulState me n (state.Gone e) = Unit {0}

-- what a map of mapped values has at a directory
got_mapped : {X Y : Type 0} (f : X → Y) (m : FinMap dir_cmp X) (q : DirId)
    → get (from_entries {R = dir_cmp} (map (λ e. (e.0, f e.1)) (entries m))) q ≡ option_map f (get m q)
got_mapped f m q =
    get-entries (from_entries {R = dir_cmp} (map (λ e. (e.0, f e.1)) (entries m))) q
    ∙ ap (find dir_cmp q) (entries_mapped dir_total dir_exact f m)
    ∙ find_mapped f q (entries m) ∙ ap (option_map f) (sym (get-entries m q))

-- what the image of a clearinghouse keeps of a directory
pub got_kept : (c : Clearinghouse) (q : DirId) → get (image_of c).dirs q ≡ option_map kept_of (get c.dirs q)
got_kept c q = got_mapped kept_of c.dirs q

-- what the clearinghouse that starts of an image has of a directory
pub got_started : (i : Image) (q : DirId) → get (started_from i).dirs q ≡ option_map started_of (get i.dirs q)
got_started i q = got_mapped started_of i.dirs q

-- a house that starts is lawful
pub started_lawful : (i : Image) → IsValidImage i → IsLawful (started_from i)
started_lawful i valid dir h got = at (get i.dirs dir) refl
  where
    read : get (started_from i).dirs dir ≡ option_map started_of (get i.dirs dir)
    read = got_started i dir

    at : (o : Option ImageDir) → get i.dirs dir ≡ o → IsLawfulHeld i.house.0 (latest_in_image i) h
    at None is = absurd (let e : None ≡ Some (state.Held h) = sym (read ∙ ap (option_map started_of) is) ∙ got in cc)
    at (Some (kept.Gone k)) is = absurd (let e : Some (state.Gone k) ≡ Some (state.Held h) = sym (read ∙ ap (option_map started_of) is) ∙ got in cc)
    at (Some (kept.Held k ms r)) is =
        let e : Some (started_of (kept.Held k ms r)) ≡ Some (state.Held h) = sym (read ∙ ap (option_map started_of) is) ∙ got in
        let same : started_of (kept.Held k ms r) ≡ state.Held h = cc in
        let low = found_below latest_in_kept dir (entries i.dirs) (kept.Held k ms r) (sym (get-entries i.dirs dir) ∙ is) in
        let fine : IsValidDir (kept.Held k ms r) = subst (λ o. IfSome o IsValidDir) is (valid dir) in
        let le : latest_time r ≤ latest_in_image i = omega (arith, low) in
        let own : IsLawfulState i.house.0 (latest_in_image i) (started_of (kept.Held k ms r)) =
        record { valid = fine; replica = (latest_time-≤ (latest_in_image i) r).0 le; skulk = λ t e. absurd (cc) } in
        subst (IsLawfulState i.house.0 (latest_in_image i)) same own

-- ---- its own image

-- octets that are the whole of an image start its house
whole_starts : (i : Image) (octets : List ℕ) → IsWhole image i octets → start_of_octets octets ≡ Ok (started_from i)
whole_starts i octets whole = ap start_of_image (whole_decoded either_image i octets (image_in_either i octets whole))

-- the image of a lawful house is valid
pub image_valid : (c : Clearinghouse) → IsLawful c → IsValidImage (image_of c)
image_valid c lawful q = subst (λ o. IfSome o IsValidDir) (sym (got_kept c q)) (at (get c.dirs q) refl)
  where
    at : (o : Option DirState) → get c.dirs q ≡ o → IfSome (option_map kept_of o) IsValidDir
    at None is = tt
    at (Some (state.Gone e)) is = tt
    at (Some (state.Held h)) is = (lawful q h is).valid

-- the octets of the image of a lawful house start it again, if its numbers fit
pub image_starts : (c : Clearinghouse) → IsLawful c → FitsImage (image_of c) → start_of_octets (image_octets (image_of c)) ≡ Ok (house_after_restart c)
image_starts c lawful fits = whole_starts (image_of c) (image_octets (image_of c)) (the_image_whole (image_of c) (image_valid c lawful) fits)

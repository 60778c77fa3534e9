-- The definitions at single lines, by computing.
use Rattle.std.proofs.Common.{◌≡◌, [], ◌∷◌, map, replicate, refl, List, ℕ, true}
use Rattle.std.specs.Prelude.{Some, None, Option, codes}
use Rattle.std.specs.Fmt.{digits}
use Rattle.hex.specs.Hex.{decode_pairs}
use Rattle.tower_codec.specs.BindingReading.{cut_at_mark}
use Rattle.cell_script.specs.Words.{number_of, words_of}
use Rattle.cell_script.specs.WordForms.{check_count, take_words}
use Rattle.clerk_lines.specs.declared.line.ClerkWord.TheVariants.{Do, Hear, Down}
use Rattle.clerk_lines.specs.declared.hearing.Hearing.TheVariants.{Begun}
use Rattle.clerk_lines.specs.declared.hearing.Told.{Told}
use Rattle.clerk_lines.specs.declared.hearing.Told.TheVariants.{Passed, Absent, Shows}
use Rattle.clerk_lines.specs.declared.shown.Lead.TheVariants as lead
use Rattle.clerk_lines.specs.AnswerRows.{answer_said, said_by as answer_by}
use Rattle.clerk_lines.specs.ClerkTexts.{ask_text, say_text, show_text}
use Rattle.clerk_lines.specs.ClerkWords.{line_said, number_said, said_by}
use Rattle.clerk_lines.specs.Hearings.{is_last, told_by}
use Rattle.clerk_lines.specs.RootLists.{member_said, members_said, root_said}
use Rattle.clerk_lines.specs.ShownEntries.{with_value}

-- ---- lines of a clerk

do_is : line_said (codes "do 7 read low /.:/a A") ≡ Some (Do, 7, codes "read low /.:/a A")
unfolding line_said said_by number_said cut_at_mark number_of
do_is = refl

hear_is : line_said (codes "hear 2  end") ≡ Some (Hear, 2, codes " end")
unfolding line_said said_by number_said cut_at_mark number_of
hear_is = refl

down_is : line_said (codes "down 3") ≡ Some (Down, 3, [])
unfolding line_said said_by number_said cut_at_mark number_of
down_is = refl

no_lines : map line_said (codes "down 3 " ∷ codes "hear 2" ∷ codes "do 0 x" ∷ codes "done 1 x" ∷ []) ≡ replicate 4 None
unfolding line_said said_by number_said cut_at_mark number_of
no_lines = refl

ask_is : ask_text 1 7 255 (show_text true 2 (codes "lpr")) ≡ codes "ask 1 7 255 show high 2 lpr\n"
unfolding digits
ask_is = refl

say_is : say_text 7 (codes "ok 0") ≡ codes "say 7 ok 0\n"
unfolding digits
say_is = refl

-- ---- answers to `show`

abbrev tells : List (List ℕ) → Option Told
tells = told_by Begun

entry_is : tells (codes "object" ∷ codes "attr A" ∷ codes "value 01" ∷ codes "value 0100" ∷ codes "end" ∷ [])
    ≡ Some (Shows (record { lead = lead.Object; attrs = record { name = codes "A"; values = (1 ∷ []) ∷ (1 ∷ 0 ∷ []) ∷ [] } ∷ [] }))
unfolding told_by is_last cut_at_mark answer_said answer_by check_count take_words decode_pairs with_value
entry_is = refl

link_is : tells (codes "link /.:/a/b" ∷ codes "end" ∷ []) ≡ Some (Shows (record { lead = lead.Link (codes "a" ∷ codes "b" ∷ []); attrs = [] }))
unfolding told_by is_last cut_at_mark answer_said answer_by check_count take_words
link_is = refl

absent_is : tells (codes "refused NoSuchEntry" ∷ []) ≡ Some Absent
unfolding told_by is_last cut_at_mark
absent_is = refl

passed_are : map tells ((codes "refused NoReplica" ∷ []) ∷ (codes "end" ∷ []) ∷ (codes "object" ∷ codes "ok" ∷ []) ∷ (codes "object 1" ∷ codes "end" ∷ []) ∷ [])
    ≡ replicate 4 (Some Passed)
unfolding told_by is_last cut_at_mark answer_said answer_by check_count take_words
passed_are = refl

-- an answer without its last line
not_ended : tells (codes "object" ∷ []) ≡ None
unfolding told_by is_last cut_at_mark answer_said answer_by check_count take_words
not_ended = refl

-- ---- where the root directory is

root_is : root_said (words_of (codes "ok epoch 3 allupto none skulk none entries 2 members 1:1:r 2:1:m 5:3:s"))
    ≡ Some (record { epoch = record { 0 = 3 }; houses = record { master = 2; others = 1 ∷ 5 ∷ [] } })
unfolding root_said members_said member_said cut_at_mark number_of
root_is = refl

no_master : root_said (words_of (codes "ok epoch 3 allupto none skulk none entries 2 members 1:1:r")) ≡ None
unfolding root_said members_said member_said cut_at_mark number_of
no_master = refl

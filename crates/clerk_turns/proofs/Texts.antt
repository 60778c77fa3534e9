-- The text of lines that are said.
use Rattle.std.proofs.Common.{◌≡◌, ℕ, List, [], ◌∷◌, ◌++◌, map, refl, sym, ap, ◌∙◌, append_assoc, append-nil}
use Rattle.std.specs.Prelude.{codes, decimal}
use Rattle.std.specs.List.{flat_map}
use Rattle.std.proofs.lemmas.List.Concat.{flat_map-append}
use Rattle.cds_stamps.specs.declared.numbers.DirId.{DirId}
use Rattle.script_answers.specs.Texts.{import_end}
use Rattle.inquire_forms.specs.Inquired.{Inquired}
use Rattle.inquire_forms.specs.InquireTexts.{line_after, lines_after, listed_count, listed_lines}
use Rattle.clerk_lines.specs.ClerkTexts.{say_text}
use Rattle.clerk_turns.specs.Says.{front_said, list_said, unreached_line}

-- a line is said after its front
line_said : (command : ℕ) (line : List ℕ) → line_after (front_said command) line ≡ say_text command line
line_said command line =
    append_assoc (codes "say ") (decimal command ++ 32 ∷ []) (line ++ 10 ∷ [])
    ∙ ap (λ (t : List ℕ). codes "say " ++ t) (append_assoc (decimal command) (32 ∷ []) (line ++ 10 ∷ []))

-- and so are several
pub lines_said : (command : ℕ) (lines : List (List ℕ)) → lines_after (front_said command) lines ≡ flat_map (say_text command) lines
lines_said command [] = refl
lines_said command (line ∷ lines) =
    ap (λ (t : List ℕ). t ++ lines_after (front_said command) lines) (line_said command line)
    ∙ ap (λ (t : List ℕ). say_text command line ++ t) (lines_said command lines)

-- ---- texts of an answer

pub listed_said : (command : ℕ) (lines : List (List ℕ)) (front text : List ℕ) → front ≡ front_said command → text ≡ lines_after front lines
    → text ≡ flat_map (say_text command) lines
listed_said command lines front text begins is = is ∙ ap (λ (f : List ℕ). lines_after f lines) begins ∙ lines_said command lines

pub single_said : (command : ℕ) (said line text : List ℕ) → line ≡ said → text ≡ say_text command line → text ≡ flat_map (say_text command) (said ∷ [])
single_said command said line text same is = is ∙ ap (say_text command) same ∙ sym (append-nil (say_text command said))

-- the last line says how many there are
end_line : (n : ℕ) → codes "end " ++ decimal n ≡ import_end n
end_line n = ap (λ (digits : List ℕ). codes "end " ++ digits) (sym (append-nil (decimal n)))

pub list_is_said : (command : ℕ) (said : Inquired) (dirs : List DirId) (n : ℕ) (first second last : List ℕ)
    → first ≡ flat_map (say_text command) (listed_lines said) → second ≡ first ++ flat_map (say_text command) (map unreached_line dirs)
    → n ≡ listed_count said → last ≡ second ++ say_text command (codes "end " ++ decimal n) → last ≡ flat_map (say_text command) (list_said said dirs)
list_is_said command said dirs n first second last is-first is-second count is-last =
    let say : List (List ℕ) → List ℕ = flat_map (say_text command) in
    let ends : List (List ℕ) = import_end (listed_count said) ∷ [] in
    is-last
    ∙ ap (λ (t : List ℕ). t ++ say_text command (codes "end " ++ decimal n)) (is-second ∙ ap (λ (t : List ℕ). t ++ say (map unreached_line dirs)) is-first)
    ∙ ap (λ (t : List ℕ). (say (listed_lines said) ++ say (map unreached_line dirs)) ++ t)
    (ap (say_text command) (end_line n ∙ ap import_end count) ∙ sym (append-nil (say_text command (import_end (listed_count said)))))
    ∙ append_assoc (say (listed_lines said)) (say (map unreached_line dirs)) (say ends)
    ∙ ap (λ (t : List ℕ). say (listed_lines said) ++ t) (sym (flat_map-append (say_text command) (map unreached_line dirs) ends))
    ∙ sym (flat_map-append (say_text command) (listed_lines said) (map unreached_line dirs ++ ends))

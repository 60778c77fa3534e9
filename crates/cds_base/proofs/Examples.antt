-- Examples that compute, beside the definitions of specs/.
use Rattle.std.proofs.Common.{◌≡◌, [], ◌∷◌, refl, arith}
use Rattle.std.specs.Prelude.{None, Some, Ok, Err}
use Rattle.cds_base.specs.declared.scan.LineFault.TheVariants.{LineTooLong, NotAscii, NoLineEnd, TooManyLines}
use Rattle.cds_base.specs.Counts.{next_count, Rose}
use Rattle.cds_base.specs.LineFaults.{fault_at, IsLine, ShowsFault, ShowsAnswer}
use Rattle.cds_base.specs.Lines.{Answers}

-- ---- counts

count_begins : next_count 0 ≡ 1
count_begins = refl

count_stays : next_count 18446744073709551615 ≡ 18446744073709551615
count_stays = refl

one_failure : Rose 4 5
one_failure = omega arith

-- ---- faults

end_is_sound : fault_at 1 1 10 ≡ None
unfolding fault_at
end_is_sound = refl

longest_line_ends : fault_at 16777216 4097 10 ≡ None
unfolding fault_at
longest_line_ends = refl

space_is_sound : fault_at 1 4096 32 ≡ None
unfolding fault_at
space_is_sound = refl

one_too_long : fault_at 1 4097 32 ≡ Some (LineTooLong 1 4097)
unfolding fault_at
one_too_long = refl

bad_one_too_long : fault_at 1 4097 9 ≡ Some (LineTooLong 1 4097)
unfolding fault_at
bad_one_too_long = refl

tab : fault_at 2 3 9 ≡ Some (NotAscii 2 3)
unfolding fault_at
tab = refl

delete : fault_at 2 4096 127 ≡ Some (NotAscii 2 4096)
unfolding fault_at
delete = refl

one_line_more : fault_at 16777217 1 35 ≡ Some (TooManyLines 16777217 1)
unfolding fault_at
one_line_more = refl

one_empty_line_more : fault_at 16777217 1 10 ≡ Some (TooManyLines 16777217 1)
unfolding fault_at
one_empty_line_more = refl

bad_line_more : fault_at 16777217 1 9 ≡ Some (NotAscii 16777217 1)
unfolding fault_at
bad_line_more = refl

-- ---- lines

-- "ab" is a line
ab : IsLine 1 (97 ∷ 98 ∷ [])
unfolding fault_at
ab = ((λ e. absurd (omega arith), refl, (λ e. absurd (omega arith), refl, tt)), refl)

-- "a", a tab and "b" show a fault at the tab
a_tab_b : ShowsFault 7 (NotAscii 7 2) (97 ∷ 9 ∷ 98 ∷ [])
unfolding fault_at
a_tab_b = record {
  front = 97 ∷ [];
  octet = 9;
  rest = 98 ∷ [];
  split = refl;
  clean = (λ e. absurd (omega arith), refl, tt);
  shown = refl;
}

-- a line end alone shows an answer
empty_line : ShowsAnswer 1 (10 ∷ [])
empty_line clean = clean.0 refl

-- of "ab", a line end and "c", the first answer is the line "ab", and "c" is held
first_answer : Answers 1 (Some (97 ∷ 98 ∷ 10 ∷ 99 ∷ [])) (Some []) [] (99 ∷ []) (Ok (Some (1, 97 ∷ 98 ∷ [])))
first_answer = (refl, ab, record { read = 97 ∷ 98 ∷ 10 ∷ 99 ∷ []; taken = refl; grown = refl })

-- then the input ends within line 2, at its second place
second_answer : Answers 2 (Some []) (Some []) (99 ∷ []) (99 ∷ []) (Err (NoLineEnd 2 2))
unfolding fault_at
second_answer = (record { read = []; taken = refl; grown = refl }, (refl, (λ e. absurd (omega arith), refl, tt), omega arith, refl, refl))

-- no octet held and none left is the end
last_answer : Answers 3 (Some []) (Some []) [] [] (Ok None)
last_answer = (record { read = []; taken = refl; grown = refl }, refl, refl)

use Rattle.std.proofs.Common.{inl, inr, ◌≡◌, ◌≢◌, ◌*◌, ◌%◌, ◌<◌, ℕ, List, length, refl, sym, arith}
use Rattle.std.specs.Prelude.{◌⊎◌, None, Some, Result, Ok, Err}
use Rattle.std.specs.Option.{option_and_then}
use Rattle.std.specs.Result.{result_ok}
use Rattle.std.proofs.lemmas.Bool.Decides.{nat_tests}
use Rattle.hex.specs.declared.error.FromHexError.{FromHexError}
use Rattle.hex.specs.Hex.{decode_of}
use Rattle.hex.proofs.HexLemmas.{decode_of-odd, decode_of-ok}
use Rattle.attr_sets.specs.Values.{longest_value, value_fault}
use Rattle.attr_sets.specs.declared.value.ValueFault.TheVariants.{BadSize}
use Rattle.cell_script.specs.Words.{value_in, octets_value_of}
use Rattle.cell_script.proofs.word.value.Goals as goal

too_long : (octets : List ℕ) → longest_value < length octets → value_in octets ≡ None
too_long octets long = let bad : value_fault octets ≡ Some BadSize = grind (arith, nat_tests) in rw bad refl

long_word : (w : List ℕ) (r : Result (List ℕ) FromHexError) → decode_of w ≡ r → 2 * longest_value < length w → option_and_then value_in (result_ok r) ≡ None
long_word w (Ok octets) is long = let size : length w ≡ 2 * length octets = (decode_of-ok w octets is).2 in too_long octets (omega (arith, size, long))
long_word w (Err e) is long = refl

no_value : (w : List ℕ) → (length w % 2 ≡ 1) ⊎ ((length w % 2 ≢ 1) × (2 * longest_value < length w)) → None ≡ octets_value_of w
no_value w (inl odd) = rw (decode_of-odd w odd) refl
no_value w (inr long) = sym (long_word w (decode_of w) refl long.1)

pub returns-then-word-eq1 : goal.returns-then-word-eq1
returns-then-word-eq1 c = no_value c.args.word.now c.then-word-eq1.either

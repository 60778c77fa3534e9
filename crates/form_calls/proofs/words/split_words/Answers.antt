use Rattle.std.proofs.Common.{rules}
use Rattle.form_calls.proofs.WordLists.{not_all_words}
use Rattle.form_calls.proofs.words.split_words.Goals as goal

pub returns-in_err-text-clause-no_text : goal.returns-in_err-text-clause-no_text
returns-in_err-text-clause-no_text c is all = not_all_words _ _ _ _ _ c.words.invariant c.in-Some.ensures.some (c.in_err-text.ensures.no_text (search rules)) all

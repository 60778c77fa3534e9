-- What is said of an audit.
use Rattle.std.specs.Prelude.{ℕ, List, [], ◌∷◌, ◌++◌, codes}
use Rattle.std.specs.Fmt.{decimal}
use Rattle.hex.specs.Hex.{encode_lower}
use Rattle.cds_stamps.specs.declared.stamp.Stamp.{Stamp}
use Rattle.script_answers.specs.Texts.{stamp_text, stamp_or, rule_name, fault_text}
use Rattle.image_audit.specs.declared.fact.Fact.{Fact}
use Rattle.image_audit.specs.declared.fact.Fact.TheVariants as fact
use Rattle.image_audit.specs.declared.verdict.Verdict.{Verdict}
use Rattle.image_audit.specs.declared.verdict.Verdict.TheVariants as verdict
use Rattle.image_audit.specs.declared.pair.PairFault.{PairFault}

-- the word for a value, the name of its entry and its attribute, each before a space
abbrev pub place_text : (name attr : List ℕ) → List ℕ
place_text n a = codes "value " ++ (n ++ (32 ∷ (a ++ 32 ∷ [])))

-- the octets of a value, and the stamp of its mark
abbrev pub present_text : (value : List ℕ) → Stamp → List ℕ
present_text v s = encode_lower v ++ (32 ∷ stamp_text s)

-- a fact: of a birth its name and stamp, of a value its name, attribute, octets and stamp
abbrev pub fact_text : Fact → List ℕ
fact_text (fact.Birth n k c) = codes "birth " ++ (n ++ (32 ∷ stamp_text c))
fact_text (fact.Value n c a v s) = place_text n a ++ present_text v s

-- what is said of a directory, in front of the end of the line
abbrev pub verdict_said : (dir : ℕ) → Verdict → List ℕ
verdict_said dir (verdict.NoReplica image) = codes "refused NoReplica " ++ decimal image
verdict_said dir (verdict.Agree t) = codes "agree " ++ (decimal dir ++ (32 ∷ stamp_or (codes "none") t))
verdict_said dir (verdict.Differ image f) = codes "differ " ++ (decimal dir ++ (32 ∷ (decimal image ++ (32 ∷ fact_text f))))

-- its line
abbrev pub verdict_text : (dir : ℕ) → Verdict → List ℕ
verdict_text dir v = verdict_said dir v ++ 10 ∷ []

-- the line of the fault of one of two images
abbrev pub pair_fault_text : PairFault → List ℕ
pair_fault_text f = fault_text f.image (rule_name f.fault.rule) f.fault.place

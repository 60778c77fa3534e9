-- What a form that answers line by line by a dialogue makes of its input.
use Rattle.std.specs.Prelude.{[]}
use Rattle.cell_script.specs.Words.{words_of}
use Rattle.reply_buffer.specs.FaultTexts.{line_fault_text}
use Rattle.line_forms.specs.Demand.{LineRule}
use Rattle.line_forms.specs.Dialogues.{Dialogue, reply_of}

-- it replies to a line, says nothing at the end of the input, and has a line of a fault of octets
abbrev pub dialogue_rule : {S L : Type 0} → Dialogue S L → LineRule S
dialogue_rule d =
    record {
      response = λ number s line. reply_of d number s (d.says (words_of line));
      end_text = λ s. [];
      fault_text = line_fault_text;
    }

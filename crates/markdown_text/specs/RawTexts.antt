-- The names of the spans of a raw text.
use Rattle.markdown_events.specs.declared.event.Name.{Name}
use Rattle.markdown_events.specs.declared.event.Name.TheVariants.{CodeText, CodeTextData, CodeTextSequence, MathText, MathTextData, MathTextSequence}
use Rattle.markdown_text.specs.declared.raw_text.RawText.{RawText}
use Rattle.markdown_text.specs.declared.raw_text.RawText.TheVariants.{Code, Math}

-- the whole raw text
abbrev pub raw_text_name : RawText → Name
raw_text_name Code = CodeText
raw_text_name Math = MathText

-- a sequence at either end
abbrev pub raw_sequence_name : RawText → Name
raw_sequence_name Code = CodeTextSequence
raw_sequence_name Math = MathTextSequence

-- the data of one line between the sequences
abbrev pub raw_data_name : RawText → Name
raw_data_name Code = CodeTextData
raw_data_name Math = MathTextData

use Rattle.markdown_words.proofs.EventWords.{events-say}
use Rattle.markdown_words.proofs.laws.events_say_the_text.Goals as goal

pub returns : goal.returns
returns c = λ s f h. events-say s f h

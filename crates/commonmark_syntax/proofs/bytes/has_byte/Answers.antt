use Rattle.commonmark_syntax.proofs.Searches.{found_is}
use Rattle.commonmark_syntax.proofs.bytes.has_byte.Goals as goal

pub returns : goal.returns
returns c = found_is c.args.of c.args.text.now c.find_byte.result c.find_byte.ensures.most c.find_byte.ensures.before c.find_byte.ensures.at

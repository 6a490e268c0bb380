use Rattle.std.proofs.Common.{lit<}
use Rattle.std.specs.Prelude.{codes}
use Rattle.commonmark_syntax.proofs.HtmlTags.{none_at_end}
use Rattle.commonmark_syntax.proofs.html_tag.MissingEnds.new.Goals as goal

pub returns : goal.returns
returns c = λ text same. record {
  comment = none_at_end (codes "-->") text c.args.size same (lit< tt);
  instruction = none_at_end (codes "?>") text c.args.size same (lit< tt);
  declaration = none_at_end (codes ">") text c.args.size same (lit< tt);
  cdata = none_at_end (codes "]]>") text c.args.size same (lit< tt);
}

use Rattle.commonmark_syntax.proofs.Html.{before_basic, before_complete, none_holds}
use Rattle.commonmark_syntax.proofs.html_block.Kind.find.Goals as goal

pub returns-then-is_basic : goal.returns-then-is_basic
returns-then-is_basic c = (c.is_basic.ensures.yes c.if-is_basic.true, before_basic c.args.text.now (c.is_raw.ensures.no c.if-is_raw.false) (c.is_comment.ensures.no c.if-is_comment.false) (c.is_instruction.ensures.no c.if-is_instruction.false) (c.is_declaration.ensures.no c.if-is_declaration.false) (c.is_cdata.ensures.no c.if-is_cdata.false))

pub returns-then-is_complete : goal.returns-then-is_complete
returns-then-is_complete c = (c.is_complete.ensures.yes c.if-is_complete.true, before_complete c.args.text.now (c.is_raw.ensures.no c.if-is_raw.false) (c.is_comment.ensures.no c.if-is_comment.false) (c.is_instruction.ensures.no c.if-is_instruction.false) (c.is_declaration.ensures.no c.if-is_declaration.false) (c.is_cdata.ensures.no c.if-is_cdata.false) (c.is_basic.ensures.no c.if-is_basic.false))

pub returns-else-is_complete : goal.returns-else-is_complete
returns-else-is_complete c = none_holds c.args.text.now (c.is_raw.ensures.no c.if-is_raw.false) (c.is_comment.ensures.no c.if-is_comment.false) (c.is_instruction.ensures.no c.if-is_instruction.false) (c.is_declaration.ensures.no c.if-is_declaration.false) (c.is_cdata.ensures.no c.if-is_cdata.false) (c.is_basic.ensures.no c.if-is_basic.false) (c.is_complete.ensures.no c.if-is_complete.false)

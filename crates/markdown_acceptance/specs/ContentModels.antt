-- The content models of the code, as those of the grammar.
use Rattle.markdown_acceptance.specs.declared.content_model.ContentModel.{ContentModel}
use Rattle.markdown_acceptance.specs.declared.content_model.ContentModel.TheVariants as models
use Rattle.markdown_grammar.specs.Grammar as grammar

abbrev pub grammar_model : ContentModel → grammar.ContentModel
grammar_model models.AnyContent = grammar.any_content
grammar_model models.Autolink = grammar.autolink
grammar_model models.Media = grammar.media
grammar_model models.FootnoteCall = grammar.footnote_call
grammar_model models.Resource = grammar.resource
grammar_model models.Reference = grammar.reference
grammar_model models.Definition = grammar.definition
grammar_model models.CharacterReference = grammar.character_reference
grammar_model models.CodeFence = grammar.code_fence
grammar_model models.MathFence = grammar.math_fence
grammar_model models.Leaf = grammar.leaf
grammar_model models.ListOrdered = grammar.list_ordered
grammar_model models.ListItem = grammar.list_item
grammar_model models.NumberedItem = grammar.numbered_item
grammar_model models.MarkedItem = grammar.marked_item
grammar_model models.MarkedNumberedItem = grammar.marked_numbered_item
grammar_model models.TaskParagraph = grammar.task_paragraph
grammar_model models.MarkedParagraph = grammar.marked_paragraph
grammar_model models.FootnoteDefinition = grammar.footnote_definition
grammar_model models.HeadingAtx = grammar.heading_atx
grammar_model models.HeadingText = grammar.heading_text
grammar_model models.HeadingSetext = grammar.heading_setext
grammar_model models.CodeFenced = grammar.code_fenced
grammar_model models.MathFlow = grammar.math_flow
grammar_model models.CodeBuffer = grammar.code_buffer
grammar_model models.MathBuffer = grammar.math_buffer

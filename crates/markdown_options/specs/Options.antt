-- Sets of constructs: those of CommonMark, those of GFM, and all of them.
use Rattle.std.specs.Prelude.{true, false}
use Rattle.markdown_options.specs.declared.Constructs.{Constructs}
use Rattle.markdown_options.specs.declared.ParseOptions.{ParseOptions}

-- the constructs of CommonMark
abbrev pub commonmark : Constructs
commonmark = record {
  attention = true;
  autolink = true;
  block_quote = true;
  character_escape = true;
  character_reference = true;
  code_indented = true;
  code_fenced = true;
  code_text = true;
  definition = true;
  frontmatter = false;
  gfm_autolink_literal = false;
  gfm_footnote_definition = false;
  gfm_label_start_footnote = false;
  gfm_strikethrough = false;
  gfm_table = false;
  gfm_task_list_item = false;
  hard_break_escape = true;
  hard_break_trailing = true;
  heading_atx = true;
  heading_setext = true;
  html_flow = true;
  html_text = true;
  label_start_image = true;
  label_start_link = true;
  label_end = true;
  list_item = true;
  math_flow = false;
  math_text = false;
  thematic_break = true;
}

-- the constructs of GFM, which include those of CommonMark
abbrev pub gfm : Constructs
gfm = record commonmark {
  gfm_autolink_literal = true;
  gfm_footnote_definition = true;
  gfm_label_start_footnote = true;
  gfm_strikethrough = true;
  gfm_table = true;
  gfm_task_list_item = true;
}

-- all constructs: those of GFM, frontmatter and math
abbrev pub everything : Constructs
everything = record gfm {
  frontmatter = true;
  math_flow = true;
  math_text = true;
}

-- options with these constructs; where they include strikethrough and math, one tilde or one dollar is enough;
-- references need definitions
abbrev pub options : Constructs → ParseOptions
options constructs = record {
  constructs = constructs;
  gfm_strikethrough_single_tilde = true;
  math_text_single_dollar = true;
  undefined_references = false;
}

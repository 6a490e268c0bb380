-- A page as the code has it.
use Rattle.std.specs.Prelude.{string_bytes}
use Rattle.markdown_html.specs.declared.page.Page.{Page as PageHere}
use Rattle.markdown_html.specs.Page.{Page}

abbrev pub page_of : PageHere → Page
page_of page = record { text = string_bytes page.text; calls = page.calls; budget = page.budget }

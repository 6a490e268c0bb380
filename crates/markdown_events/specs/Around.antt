-- The surroundings of a span, transparent or significant, and which spans may begin there.
use Rattle.std.specs.Prelude.{Bool, true, false, not, ◌&&◌, ◌||◌}
use Rattle.markdown_events.specs.Forest.{is_delimiter_cell_value, is_delimiter_row}
use Rattle.markdown_events.specs.declared.around.Around.{Around}
use Rattle.markdown_events.specs.declared.role.ItemKind.TheVariants.{Content as content}
use Rattle.markdown_events.specs.declared.role.Content.TheVariants as contents
use Rattle.markdown_events.specs.declared.role.TransparentKind.TheVariants as transparents
use Rattle.markdown_events.specs.declared.role.Role.{Role}
use Rattle.markdown_events.specs.declared.role.Role.TheVariants.{Transparent as transparent, Significant as significant}

-- a role whose spans may not contain any span
abbrev pub is_sealed : Role → Bool
is_sealed (significant (content contents.LineEnding)) = true
is_sealed (transparent transparents.BlankLineEnding) = true
is_sealed (transparent transparents.SpaceOrTab) = true
is_sealed _ = false

-- nothing is around
abbrev pub in_the_open : Around
in_the_open = record { in_sealed = false; in_row = false; in_value = false }

-- a span of this role may begin here
abbrev pub may_begin : Around → Role → Bool
may_begin a role = (not a.in_sealed && not (a.in_row && is_delimiter_row role)) && not (a.in_value && is_delimiter_cell_value role)

-- the surroundings of the spans in a span of this role
abbrev pub under : Around → Role → Around
under a role = record { in_sealed = is_sealed role; in_row = a.in_row || is_delimiter_row role; in_value = a.in_value || is_delimiter_cell_value role }

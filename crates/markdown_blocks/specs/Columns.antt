-- The columns of the open table that the program keeps, as those of the steps.
use Rattle.markdown_blocks.specs.declared.table.Columns.{Columns as OpenColumns}
use Rattle.markdown_blocks.specs.declared.table.Rows.{Rows as OpenRows}
use Rattle.markdown_blocks.specs.declared.table.Rows.TheVariants as rows
use Rattle.markdown_steps.specs.Columns.{Columns, Rows, after, before, inside}

-- where the first delimiter row is
abbrev pub rows_of : OpenRows → Rows
rows_of rows.Before = before
rows_of rows.Inside = inside
rows_of rows.After = after

-- the columns of the table
abbrev pub columns_of : OpenColumns → Columns
columns_of c = record { rows = rows_of c.rows; kinds = c.kinds.items }

-- The alignments of the columns of the current table, from the events so far. Tables do not nest, so one record is enough.
use Rattle.std.specs.Prelude.{Bool, List, [], cond, ◌++◌, ◌∷◌}
use Rattle.markdown_steps.specs.ChildFacts.{ChildFacts}
use Rattle.markdown_events.specs.declared.infer.AlignKind.{AlignKind}
use Rattle.markdown_events.specs.declared.role.Role.{Role}
use Rattle.markdown_grammar.specs.Items.{is_table}
use Rattle.markdown_steps.specs.Siblings.{Marks, kind_by}
use Rattle.markdown_events.specs.declared.role.Role.TheVariants.{Significant as significant, Transparent as transparent}
use Rattle.markdown_events.specs.declared.role.TransparentKind.TheVariants as transparents

-- before the first delimiter row of the table, inside it, or after it
pub data Rows : Type 0 where
  before inside after : Rows

-- where the table's first delimiter row is, and the entries of its values so far
pub record Columns : Type 0 where
  pub rows : Rows
  pub kinds : List AlignKind

-- no row and no value so far
abbrev pub no_columns : Columns
no_columns = record { rows = before; kinds = [] }

-- the first row begins, if none was
abbrev pub row_begun : Columns → Columns
row_begun columns = elim columns.rows [ before ↦ record columns { rows = inside } | _ ↦ columns ]

-- the first row ends, if it is open
abbrev pub row_ended : Columns → Columns
row_ended columns = elim columns.rows [ inside ↦ record columns { rows = after } | _ ↦ columns ]

-- a value ends: it has an entry only in the first row
abbrev pub value_ended : AlignKind → Columns → Columns
value_ended kind columns = elim columns.rows [ inside ↦ record columns { kinds = columns.kinds ++ kind ∷ [] } | _ ↦ columns ]

-- at an enter; the flag says whether it is in a table
abbrev pub columns_entered : Bool → Role → Columns → Columns
columns_entered in_table (transparent transparents.DelimiterRow) columns = cond in_table (row_begun columns) columns
columns_entered in_table (significant what) columns = cond (is_table what) no_columns columns
columns_entered in_table role columns = columns

-- at an exit, from the marks of the children; after a table there are no columns
abbrev pub columns_left : Role → Marks → Columns → Columns
columns_left (significant what) inner columns = cond (is_table what) no_columns columns
columns_left (transparent transparents.DelimiterRow) inner columns = row_ended columns
columns_left (transparent transparents.DelimiterCellValue) inner columns = value_ended (kind_by inner) columns
columns_left role inner columns = columns

-- the facts that the node of a span depends on
abbrev pub child_facts : Marks → Columns → ChildFacts
child_facts m columns = record { loose_list = m.is_loose_list; loose_item = m.is_loose_item; align = columns.kinds }

-- The parts so far of a block of fenced code or math and of its first fence, and the labels of their nodes.
use Rattle.std.specs.Prelude.{List, None, Option, Some, option_map, string_bytes, ℕ}
use Rattle.markdown_blocks.specs.declared.code.CodeFenceParts.{CodeFenceParts}
use Rattle.markdown_blocks.specs.declared.code.CodeFencedParts.{CodeFencedParts}
use Rattle.markdown_blocks.specs.declared.math.MathFenceParts.{MathFenceParts}
use Rattle.markdown_blocks.specs.declared.math.MathFlowParts.{MathFlowParts}
use Rattle.markdown_parts.specs.PartsSoFar.{PartsSoFar, after_if, ending_text, with_parts}
use Rattle.markdown_events.specs.declared.role.Part.TheVariants as parts
use Rattle.markdown_grammar.specs.Grammar as models
use Rattle.markdown_nodes.specs.Tree as tree
use Rattle.markdown_nodes.specs.Tree.{Label as TreeLabel}
use Rattle.markdown_steps.specs.Summaries.{PartSummary, PartPath, into, itself, stood}

-- a first fence, and the parts in it
abbrev pub fence_of : {A : Type 0} → (A → PartPath → Option PartSummary) → Option A → PartPath → Option PartSummary
fence_of inside None way = None
fence_of inside (Some f) itself = Some stood
fence_of inside (Some f) (into p way) = inside f (into p way)

-- the parts of a first fence of code
abbrev pub in_code_fence : CodeFenceParts → PartPath → Option PartSummary
in_code_fence x (into parts.CodeFencedFenceInfo way) = ending_text x.info way
in_code_fence x (into parts.CodeFencedFenceMeta way) = ending_text x.meta way
in_code_fence x way = None

-- a first fence of code
abbrev pub code_fence : CodeFenceParts → PartsSoFar
code_fence x = with_parts models.code_fence (in_code_fence x)

-- the parts of a block of fenced code
abbrev pub in_code_fenced : CodeFencedParts → PartPath → Option PartSummary
in_code_fenced x (into parts.CodeFencedFence way) = fence_of in_code_fence x.fence way
in_code_fenced x way = None

-- a block of fenced code, which has another content model after its first fence
abbrev pub code_fenced : CodeFencedParts → PartsSoFar
code_fenced x = record (with_parts models.code_fenced (in_code_fenced x)) {
  current_model = after_if models.code_fenced models.code_buffer x.fence;
}

-- the label of a node of fenced code
abbrev pub code_label : Option CodeFenceParts → List ℕ → TreeLabel
code_label None value = tree.code value None None
code_label (Some x) value = tree.code value (option_map string_bytes x.info) (option_map string_bytes x.meta)

-- the part of a first fence of math
abbrev pub in_math_fence : MathFenceParts → PartPath → Option PartSummary
in_math_fence x (into parts.MathFlowFenceMeta way) = ending_text x.meta way
in_math_fence x way = None

-- a first fence of math
abbrev pub math_fence : MathFenceParts → PartsSoFar
math_fence x = with_parts models.math_fence (in_math_fence x)

-- the parts of a block of math
abbrev pub in_math_flow : MathFlowParts → PartPath → Option PartSummary
in_math_flow x (into parts.MathFlowFence way) = fence_of in_math_fence x.fence way
in_math_flow x way = None

-- a block of math, which has another content model after its first fence
abbrev pub math_flow : MathFlowParts → PartsSoFar
math_flow x = record (with_parts models.math_flow (in_math_flow x)) {
  current_model = after_if models.math_flow models.math_buffer x.fence;
}

-- the label of a node of math
abbrev pub math_label : Option MathFenceParts → List ℕ → TreeLabel
math_label None value = tree.math value None
math_label (Some x) value = tree.math value (option_map string_bytes x.meta)

use Rattle.std.proofs.Common.{sym, ap, ◌∙◌, true, false, nat_cmp, arith}
use Rattle.std.specs.BTreeSet.{contains}
use Rattle.std.proofs.Output.{has_written_of_eq}
use Rattle.std.specs.Fmt.{debug_escape}
use Rattle.markdown_kinds.specs.Quoted.{escaped}
use Rattle.markdown_kinds.proofs.Quoting.{escaped_plain}
use Rattle.markdown_kinds.proofs.quoted.write_escaped.Goals as goal

pub returns-then-is_unicode_escaped : goal.returns-then-is_unicode_escaped
returns-then-is_unicode_escaped g c = λ plain ok. has_written_of_eq _ _ _ _ _ (sym (escaped_plain (contains nat_cmp c.args.escapes.now) c.args.c true (λ e. omega arith) (λ e. omega arith) (λ e. omega arith) (λ e. omega arith) (λ e. omega arith) (λ e. omega arith) (λ low. sym c.if-is_unicode_escaped.true ∙ c.is_unicode_escaped.ensures.ascii low) (λ high. sym c.if-is_unicode_escaped.true ∙ c.is_unicode_escaped.ensures.other high))) ((rw c.in_radix.ensures at c.write.ensures.writes) plain ok)

pub returns-in-34 : goal.returns-in-34
unfolding debug_escape
returns-in-34 g c = λ plain ok. has_written_of_eq _ _ _ _ _ (sym (ap (escaped (contains nat_cmp c.args.escapes.now)) c.in-34.is)) (c.write_str.ensures.writes plain ok)

pub returns-in-0 : goal.returns-in-0
unfolding debug_escape
returns-in-0 g c = λ plain ok. has_written_of_eq _ _ _ _ _ (sym (ap (escaped (contains nat_cmp c.args.escapes.now)) c.in-0.is)) (c.write_str-in-0.ensures.writes plain ok)

pub returns-in-9 : goal.returns-in-9
unfolding debug_escape
returns-in-9 g c = λ plain ok. has_written_of_eq _ _ _ _ _ (sym (ap (escaped (contains nat_cmp c.args.escapes.now)) c.in-9.is)) (c.write_str-in-9.ensures.writes plain ok)

pub returns-in-10 : goal.returns-in-10
unfolding debug_escape
returns-in-10 g c = λ plain ok. has_written_of_eq _ _ _ _ _ (sym (ap (escaped (contains nat_cmp c.args.escapes.now)) c.in-10.is)) (c.write_str-in-10.ensures.writes plain ok)

pub returns-in-13 : goal.returns-in-13
unfolding debug_escape
returns-in-13 g c = λ plain ok. has_written_of_eq _ _ _ _ _ (sym (ap (escaped (contains nat_cmp c.args.escapes.now)) c.in-13.is)) (c.write_str-in-13.ensures.writes plain ok)

pub returns-in-92 : goal.returns-in-92
unfolding debug_escape
returns-in-92 g c = λ plain ok. has_written_of_eq _ _ _ _ _ (sym (ap (escaped (contains nat_cmp c.args.escapes.now)) c.in-92.is)) (c.write_str-in-92.ensures.writes plain ok)

pub returns-else-is_unicode_escaped : goal.returns-else-is_unicode_escaped
returns-else-is_unicode_escaped g c = λ plain ok. has_written_of_eq _ _ _ _ _ (sym (escaped_plain (contains nat_cmp c.args.escapes.now) c.args.c false (λ e. omega arith) (λ e. omega arith) (λ e. omega arith) (λ e. omega arith) (λ e. omega arith) (λ e. omega arith) (λ low. sym c.if-is_unicode_escaped.false ∙ c.is_unicode_escaped.ensures.ascii low) (λ high. sym c.if-is_unicode_escaped.false ∙ c.is_unicode_escaped.ensures.other high))) (c.write_char.ensures.writes plain ok)

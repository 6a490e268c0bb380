-- Indented code by computation: lines that begin it, where so many columns come before them, and lines that do not.
use Rattle.std.proofs.Common.{◌≡◌, true, false, refl}
use Rattle.std.specs.Prelude.{codes}
use Rattle.markdown_flow.specs.Lines.{begins_indented_code, indentation}

pub four_spaces : begins_indented_code 0 (codes "    a") ≡ true
unfolding indentation
four_spaces = refl

pub tab : begins_indented_code 0 (codes "\ta") ≡ true
unfolding indentation
tab = refl

pub spaces_before_a_tab : begins_indented_code 0 (codes "  \ta") ≡ true
unfolding indentation
spaces_before_a_tab = refl

pub tab_of_two_columns_and_spaces : begins_indented_code 2 (codes "\t  a") ≡ true
unfolding indentation
tab_of_two_columns_and_spaces = refl

pub three_spaces : begins_indented_code 0 (codes "   a") ≡ false
unfolding indentation
three_spaces = refl

pub blank_line : begins_indented_code 0 (codes "     \t") ≡ false
unfolding indentation
blank_line = refl

pub tab_of_two_columns : begins_indented_code 2 (codes "\ta") ≡ false
unfolding indentation
tab_of_two_columns = refl

pub no_white_space : begins_indented_code 0 (codes "a    ") ≡ false
unfolding indentation
no_white_space = refl

-- What is said of a filing opened, with all below: who computes it names this.
use Rattle.text.specs.Opened.{texts}
use Rattle.filing.specs.Opened.{filings}
use Rattle.filed.specs.Filed.{verdict_on_paper, is_wrong, compared, against_lines, against, checked}
use Rattle.filed.specs.Said.{against_read, checked_text, line_by, line_of, said}

unfoldable pub checks : Type 0
unfolding texts filings verdict_on_paper is_wrong compared against_lines against checked against_read checked_text line_by line_of said
checks = Unit

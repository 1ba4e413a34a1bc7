-- What the program prints opened, with all below: who computes what is printed names this.
use Rattle.text.specs.Opened.{texts}
use Rattle.printed.specs.Program.{row_lines, total_line, printed_from, printed}

unfoldable pub prints : Type 0
unfolding texts row_lines total_line printed_from printed
prints = Unit
